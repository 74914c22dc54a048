use Rattle.std.proofs.Common.{◌≡◌, ◌+◌, suc, length, None, ap, sym, ◌∙◌, subst, arith, rules}
use Rattle.std.proofs.lemmas.Int.{to_z-of_z}
use Rattle.liq_types.specs.Ranked.{IsTight, key_in, with_ranked}
use Rattle.liq_order.specs.Examples.{entry, rising}
use Rattle.liq_order.proofs.Rising.{rising_none, rising_absent, rising_more, rising_length, rising_hint}
use Rattle.liq_order.proofs.examples.thousand_example.Goals as goal
use mir.Syntax.{w128}
use mir.Val.{SFits}

pub loop-account-init : goal.loop-account-init
loop-account-init g c = record {
  list = c.requires.none ∙ rising_none;
  room = omega (arith, c.requires.room);
  steps = omega arith;
}

pub insert-requires-clause-absent : goal.insert-requires-clause-absent
insert-requires-clause-absent g c =
    ap (λ l. key_in l c.loop-account.account) c.loop-account.invariant.list ∙ rising_absent c.loop-account.account

pub loop-account-preserved : goal.loop-account-preserved
loop-account-preserved g c =
    let n = c.loop-account.account in
    let list = c.loop-account.order.entries in
    let is = c.loop-account.invariant.list in
    let fits : SFits w128 c.from.result = search rules in
    let put = simp to_z-of_z at c.insert.ensures.list in
    let few = simp to_z-of_z at c.insert.ensures.tight in
    let hint = rising_hint n list c.checked_sub.result is c.checked_sub.ensures in
    let steps = few (subst (λ k. IsTight list (k, n) c.checked_sub.result None) (sym c.from.ensures) hint) in
    let next : suc n ≡ n + 1 = omega arith in
    record {
      list = put ∙ ap (λ k. with_ranked list (k, n)) c.from.ensures ∙ ap (λ l. with_ranked l (entry n n)) is
          ∙ rising_more n ∙ ap (λ k. rising k) next;
      room = omega (arith, c.insert.ensures.room, c.loop-account.invariant.room);
      steps = omega (arith, steps, c.loop-account.invariant.steps);
    }

pub returns-clause-all : goal.returns-clause-all
returns-clause-all g c =
    ap (λ l. length l) c.loop-account.invariant.list
    ∙ rising_length c.loop-account.account
    ∙ omega (arith, c.loop-account-test.false, c.loop-account.auto.account-end)
