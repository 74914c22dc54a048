use Rattle.std.proofs.Common.{List, sym, subst, take}
use Rattle.liq_rewards.specs.Timed.{Timed}
use Rattle.liq_rewards.specs.Kept.{IsKeptOf}
use Rattle.liq_text_rewards.specs.Telling.{past_in}
use Rattle.liq_text_rewards.proofs.Following.{may_happen, next_past, order_next}
use Rattle.liq_text_rewards.proofs.followed.followed.Goals as goal

pub follow-requires-clause-lawful : goal.follow-requires-clause-lawful
follow-requires-clause-lawful c =
    let notes = c.args.notes.now in
    let i = c.loop-then.then-index in
    ∣ (
      past_in (take i notes),
      c.loop-then.invariant.kept,
      may_happen notes c.args.end c.requires i _ c.loop-then-test.true,
    ) ∣₁

pub loop-then-preserved : goal.loop-then-preserved
loop-then-preserved c =
    let notes = c.args.notes.now in
    let i = c.loop-then.then-index in
    let lt = c.loop-then-test.true in
    record {
      kept =
          subst (λ (past : List Timed). IsKeptOf c.follow.new.rewards past)
          (sym (next_past notes c.args.end c.requires i _ lt))
          (c.in_ok-follow.ensures.kept (past_in (take i notes)) c.loop-then.invariant.kept
          (may_happen notes c.args.end c.requires i _ lt));
      order = order_next notes i _ c.loop-then.rewards.minute c.follow.new.rewards.minute c.args.end lt
          c.loop-then.invariant.order c.in_ok-follow.ensures.minute;
    }
