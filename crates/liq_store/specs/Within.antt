-- What a store keeps of its journal, beside what callers see.
use Rattle.std.specs.Prelude.{◌≡◌, ◌≤◌, ℕ, List, length, Option, None, IfSome}
use Rattle.liq_types.specs.declared.events.ListChange.{ListChange}
use Rattle.liq_outside.specs.At.{DiskAt}
use Rattle.liq_core.specs.Core.{Core}
use Rattle.liq_journal.specs.Bodies.{IsJournalOf}
use Rattle.liq_journal.specs.Crash.{is_odd}
use Rattle.liq_journal.specs.Settled.{IsSettled, JournalOn}
use Rattle.liq_journal.specs.Written.{Written}
use Rattle.liq_disk_pair.specs.declared.side.Side.{Side}
use Rattle.liq_disk_pair.specs.Sides.{has_odd, on}
use Rattle.liq_store.specs.Keeping.{IsInOrder}
use Rattle.liq_store.specs.Stored.{Stored}

-- a store as its fields are seen
abbrev pub stored : {D : Type 0} → Side → JournalOn D → D → Core → Option ℕ → List ListChange
    → Stored D
stored side taken beside core stopped changes =
    record {
      left = on side taken.disk beside;
      right = on side beside taken.disk;
      side = side;
      start = taken.start;
      core = core;
      stopped = stopped;
      changes = changes;
    }

-- the bytes are those of a journal of at least so many records
pub record HasRecords (generation start count : ℕ) (bytes : List ℕ) : Type 0 where
  pub written : Written
  pub journal : IsJournalOf generation start bytes written
  pub within : count ≤ length written.commands

-- The journal has the protocol's generation, and as many records as it counts; while the store is
-- not stopped no more, and a 0 behind them.
pub record IsWithin {D : Type 0} (at : D → DiskAt) (side : Side) (taken : JournalOn D) (beside : D)
    (core : Core) (stopped : Option ℕ) (changes : List ListChange) : Type 0 where
  pub order : IsInOrder at (stored side taken beside core stopped changes)
  pub generation_is : taken.generation ≡ core.image.generation
  pub parity_is : is_odd taken.generation ≡ has_odd side
  pub count_is : taken.count ≡ core.records
  pub told : IfSome (at taken.disk).seen (HasRecords taken.generation taken.start taken.count)
  pub settled :
      stopped ≡ None
      → IfSome (at taken.disk).seen (IsSettled taken.generation taken.start taken.count)
