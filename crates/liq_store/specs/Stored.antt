-- A store as contracts see it.
use Rattle.std.specs.Prelude.{List, ℕ, Option}
use Rattle.liq_types.specs.declared.events.ListChange.{ListChange}
use Rattle.liq_core.specs.Core.{Core}
use Rattle.liq_disk_pair.specs.declared.side.Side.{Side}
use Rattle.liq_disk_pair.specs.Sides.{beside, on}

-- two disks, and the protocol whose state they keep
pub record Stored (D : Type 0) : Type 0 where
  pub left : D
  pub right : D
  -- the side of the disk on which the journal goes on
  pub side : Side
  -- where its records begin
  pub start : ℕ
  pub core : Core
  -- the sum of both counts of faults after the first call that met one
  pub stopped : Option ℕ
  -- what the calls did to the ordered list since the changes were last cleared, behind what the
  -- opening told
  pub changes : List ListChange

-- the disk on which the journal goes on
abbrev pub taken_disk : {D : Type 0} → Stored D → D
taken_disk store = on store.side store.left store.right

abbrev pub disk_beside : {D : Type 0} → Stored D → D
disk_beside store = beside store.side store.left store.right
