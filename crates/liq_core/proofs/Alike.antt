-- The states for which a protocol stands are alike.
use Rattle.std.proofs.Common.{sym, ◌∙◌}
use Rattle.liq_types.specs.State.{State}
use Rattle.liq_core.specs.Core.{Core, StandsFor}
use Rattle.liq_rule_step.proofs.AlikeReads.{Alike}

pub core_alike : (core : Core) (s t : State) → StandsFor core s → StandsFor core t → Alike s t
core_alike core s t first second = record {
  image = sym first.image ∙ second.image;
  records = sym first.records ∙ second.records;
  left = first.formed;
  right = second.formed;
}
