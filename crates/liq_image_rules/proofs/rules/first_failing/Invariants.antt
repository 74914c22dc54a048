use Rattle.std.proofs.Common.{◌≡◌, drop}
use Rattle.liq_types.specs.Soundness.{first_failing}
use Rattle.liq_image_rules.proofs.rules.first_failing.Given as goal

abbrev pub invariant-loop-number : goal.invariant-loop-number
invariant-loop-number l = first_failing (drop l.number-index l.rules) ≡ first_failing l.rules
