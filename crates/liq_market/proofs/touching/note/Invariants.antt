use Rattle.std.proofs.Common.{◌≡◌, ◌+◌, ◌≤◌, ◌++◌, length, take}
use Rattle.std.specs.Vec.{vec_capacity, vec_len}
use Rattle.liq_rule_step.specs.Step.{accounts}
use Rattle.liq_market.specs.Touching.{others}
use Rattle.liq_market.proofs.touching.note.Given as goal

abbrev pub invariant-loop-change : goal.invariant-loop-change
invariant-loop-change l = record {
  all : l.all.items ≡ accounts l.call ++ others (accounts l.call) (take l.change-index l.changes);
  named : l.named ≡ length (accounts l.call);
  within : l.named ≤ vec_len l.all;
  few : vec_len l.all ≤ 2 + l.change-index;
  room : 2 + length l.changes ≤ vec_capacity l.all;
}
