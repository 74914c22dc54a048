use Rattle.std.proofs.Common.{◌≡◌, take}
use Rattle.std.specs.Prelude.{map}
use Rattle.liq_core.specs.Core.{state_of}
use Rattle.liq_rule_step.specs.Redemption.{cut_told}
use Rattle.liq_core.proofs.engine.Protocol.cut_changes.Given as goal

abbrev pub invariant-loop-cut : goal.invariant-loop-cut
invariant-loop-cut l = l.changes.items ≡ map (cut_told (state_of l.fn.self)) (take l.cut-index l.cuts)
