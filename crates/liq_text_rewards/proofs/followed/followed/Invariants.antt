use Rattle.std.proofs.Common.{take, drop}
use Rattle.liq_rewards.specs.Kept.{IsKeptOf}
use Rattle.liq_text_rewards.specs.Telling.{past_in, NeverFall}
use Rattle.liq_text_rewards.proofs.followed.followed.Given as goal

abbrev pub invariant-loop-then : goal.invariant-loop-then
invariant-loop-then l = record {
  kept : IsKeptOf l.rewards (past_in (take l.then-index l.notes));
  order : NeverFall l.rewards.minute (drop l.then-index l.notes) l.end;
}
