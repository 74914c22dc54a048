-- What stands for a state does so where the content is the same.
use Rattle.std.proofs.Common.{sym, ◌∙◌}
use Rattle.liq_types.specs.State.{State}
use Rattle.liq_core.specs.Core.{Core, StandsFor, SameContent}

pub stands_before : (old new : Core) (s : State) → SameContent old new → StandsFor new s → StandsFor old s
stands_before old new s same h = record {
  image = sym same.image ∙ h.image;
  records = sym same.records
      ∙ h.records;
  formed = h.formed;
}

pub stands_after : (old new : Core) (s : State) → SameContent old new → StandsFor old s → StandsFor new s
stands_after old new s same h = record {
  image = same.image ∙ h.image;
  records = same.records
      ∙ h.records;
  formed = h.formed;
}
