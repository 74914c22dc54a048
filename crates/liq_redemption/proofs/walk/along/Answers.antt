use Rattle.std.proofs.Common.{◌∷◌, ◌++◌, ℕ, List, length, ap, sym, ◌∙◌, arith, append-nil}
use Rattle.liq_types.specs.Ranked.{from_last, before_in}
use Rattle.liq_redemption.specs.declared.cut.Cut.{Cut}
use Rattle.liq_redemption.specs.Walk.{all_cuts, first_net_of, ahead_where}
use Rattle.liq_redemption.proofs.Ahead.{ahead_of, step_on, next_step, is_listed}
use Rattle.liq_redemption.proofs.Taking.{visits, cuts_step, first_step, cuts_done, nothing_wanted}
use Rattle.liq_redemption.proofs.walk.along.Goals as goal

pub before-next-requires : goal.before-next-requires
before-next-requires c = is_listed c.args.order.now.entries c.loop-next.next c.in-Some.account c.in-Some.is
    c.loop-next.invariant.next

pub returns-then-walk-eq0-clause-cuts : goal.returns-then-walk-eq0-clause-cuts
returns-then-walk-eq0-clause-cuts c =
    let walk = c.loop-next.walk in
    let ahead = visits c.args.price c.args.troves.now.sums c.args.troves.now.table.rows
    (ahead_of (from_last c.args.order.now.entries) c.loop-next.next) in
    sym (append-nil walk.cuts)
    ∙ ap (λ (l : List Cut). walk.cuts ++ l) (sym (nothing_wanted c.args.price walk.troves walk.wanted ahead
    c.if-walk-eq0.true)) ∙ c.loop-next.invariant.cuts

pub returns-then-not-branch-clause-cuts : goal.returns-then-not-branch-clause-cuts
returns-then-not-branch-clause-cuts c =
    let is = step_on c.args.order.now.entries c.loop-next.next c.in-Some.account c.requires.distinct c.in-Some.is
    c.loop-next.invariant.next in
    let ahead = visits c.args.price c.args.troves.now.sums c.args.troves.now.table.rows
    (ahead_of (from_last c.args.order.now.entries) (before_in c.args.order.now.entries c.in-Some.account)) in
    sym (cuts_done c.args.price c.pass.new.self c.in_ok-pass.field-0 ahead c.if-not-branch.true)
    ∙ cuts_step c.args.price c.args.troves.now.sums c.args.troves.now.table.rows c.in-Some.account _ _ is
    c.loop-next.walk c.pass.new.self c.in_ok-pass.field-0 (c.in_ok-pass.ensures.cuts ahead) _
    c.loop-next.invariant.cuts

pub returns-then-not-branch-clause-first : goal.returns-then-not-branch-clause-first
returns-then-not-branch-clause-first c nothing =
    let is = step_on c.args.order.now.entries c.loop-next.next c.in-Some.account c.requires.distinct c.in-Some.is
    c.loop-next.invariant.next in
    let ahead = visits c.args.price c.args.troves.now.sums c.args.troves.now.table.rows
    (ahead_of (from_last c.args.order.now.entries) (before_in c.args.order.now.entries c.in-Some.account)) in
    sym (ap (λ b. first_net_of c.pass.new.self (ahead_where b ahead)) c.if-not-branch.true)
    ∙ first_step c.args.price c.args.troves.now.sums c.args.troves.now.table.rows c.in-Some.account _ _ is
    c.loop-next.walk c.pass.new.self c.in_ok-pass.field-0 (c.in_ok-pass.ensures.first ahead) _
    c.loop-next.invariant.first

pub loop-next-smaller : goal.loop-next-smaller
loop-next-smaller c =
    let accounts = from_last c.args.order.now.entries in
    let is = step_on c.args.order.now.entries c.loop-next.next c.in-Some.account c.requires.distinct c.in-Some.is
    c.loop-next.invariant.next in
    let long = ap (λ (l : List ℕ). length l) is in
    let same = ap (λ o. length (ahead_of accounts o)) c.before-next.ensures in
    omega (arith, long, same)

pub loop-next-preserved : goal.loop-next-preserved
loop-next-preserved c =
    let entries = c.args.order.now.entries in
    let accounts = from_last entries in
    let next = ahead_of accounts c.before-next.result in
    let is = step_on entries c.loop-next.next c.in-Some.account c.requires.distinct c.in-Some.is
    c.loop-next.invariant.next ∙ ap (λ o. c.in-Some.account ∷ ahead_of accounts o) (sym c.before-next.ensures) in
    let on = c.in_ok-pass.field-0 in
    let ahead = visits c.args.price c.args.troves.now.sums c.args.troves.now.table.rows next in
    record {
      next = next_step entries c.in-Some.account c.before-next.result c.before-next.ensures;
      wanted = c.in_ok-pass.ensures.wanted ∙ c.loop-next.invariant.wanted;
      cuts =
          sym (ap (λ b. all_cuts c.args.price c.pass.new.self (ahead_where b ahead)) c.if-not-branch.false)
          ∙ cuts_step c.args.price c.args.troves.now.sums c.args.troves.now.table.rows c.in-Some.account
          (ahead_of accounts c.loop-next.next) next is c.loop-next.walk c.pass.new.self on
          (c.in_ok-pass.ensures.cuts ahead) _ c.loop-next.invariant.cuts;
      first =
          sym (ap (λ b. first_net_of c.pass.new.self (ahead_where b ahead)) c.if-not-branch.false)
          ∙ first_step c.args.price c.args.troves.now.sums c.args.troves.now.table.rows c.in-Some.account
          (ahead_of accounts c.loop-next.next) next is c.loop-next.walk c.pass.new.self on
          (c.in_ok-pass.ensures.first ahead) _ c.loop-next.invariant.first;
    }
