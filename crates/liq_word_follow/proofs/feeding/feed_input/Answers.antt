use Rattle.std.proofs.Common.{◌≡◌, ◌≤◌, length, Err, Result, refl, sym, subst, rules, arith, ◌∙◌}
use Rattle.liq_word_exit.specs.declared.halts.Halt.{Halt}
use Rattle.liq_word_exit.specs.declared.halts.Halt.TheVariants.{NoMemory}
use Rattle.liq_word_follow.proofs.Underway.{Came, begun, comes_to_end, comes_to_stop, goes_on, looks_further, none_read}
use Rattle.liq_word_follow.proofs.feeding.feed_input.Goals as goal

pub returns-in_err-piece-clause-fed : goal.returns-in_err-piece-clause-fed
returns-in_err-piece-clause-fed g c =
    let start = (g.S.Source.at c.args.input.now).left in
    let same : c.from_residual.result ≡ Err NoMemory = search rules in
    subst (λ (end : Result (Unit {0}) Halt). Came end start start c.args.follower.now) (sym same)
    (none_read start c.args.follower.now)

pub loop-room-init : goal.loop-room-init
loop-room-init g c = record {
  underway = begun (g.S.Source.at c.args.input.now).left c.args.follower.now c.requires.new;
  piece = c.in_ok-piece.ensures;
  count = refl;
}

pub returns-in_err-count-clause-fed : goal.returns-in_err-count-clause-fed
returns-in_err-count-clause-fed g c =
    let at = g.S.Source.at in
    let start = (at c.args.input.now).left in
    let u = c.loop-room.invariant.underway in
    let r = c.in_err-count.ensures.fed u.read u.fed u.goes in
    let few : length r.0 ≤ c.loop-room.room = search rules in
    let same : c.from_residual-in_err-count.result ≡ Err c.in_err-count.field-0.0 = search rules in
    subst (λ (end : Result (Unit {0}) Halt). Came end start (at c.feed_next.new.input).left c.feed_next.new.follower)
    (sym same)
    (comes_to_stop start (at c.loop-room.input).left c.loop-room.room c.loop-room.follower u r.0
    (at c.feed_next.new.input).left c.feed_next.new.follower r.1 c.in_err-count.field-0.0 few r.3)

pub returns-then-count-eq0-clause-fed : goal.returns-then-count-eq0-clause-fed
returns-then-count-eq0-clause-fed g c =
    let at = g.S.Source.at in
    let u = c.loop-room.invariant.underway in
    let r = c.in_ok-count.ensures.fed u.read u.fed u.goes in
    let few : length r.0 ≤ c.loop-room.room = search rules in
    comes_to_end (at c.args.input.now).left (at c.loop-room.input).left c.loop-room.room c.loop-room.follower u r.0
    (at c.feed_next.new.input).left c.feed_next.new.follower r.1 c.in_ok-count.count (search rules) few r.3

pub loop-room-preserved : goal.loop-room-preserved
loop-room-preserved g c =
    let at = g.S.Source.at in
    let u = c.loop-room.invariant.underway in
    let r = c.in_ok-count.ensures.fed u.read u.fed u.goes in
    let few : length r.0 ≤ c.loop-room.room = search rules in
    record {
      underway = goes_on (at c.args.input.now).left
          (at c.loop-room.input).left c.loop-room.room c.loop-room.follower u r.0
          (at c.feed_next.new.input).left c.feed_next.new.follower r.1 c.in_ok-count.count few r.3;
      piece = c.loop-room.invariant.piece;
      count = c.in_ok-count.ensures.source ∙ c.loop-room.invariant.count;
    }

pub returns-clause-fed : goal.returns-clause-fed
returns-clause-fed g c =
    let at = g.S.Source.at in
    let u = c.loop-room.invariant.underway in
    let r = c.look_further.ensures.further in
    looks_further (at c.args.input.now).left (at c.loop-room.input).left c.loop-room.room c.loop-room.follower u r.0
    (at c.look_further.new.input).left c.loop-room.follower r.1 c.look_further.result
    (omega (arith, c.loop-room-test.false)) r.2
