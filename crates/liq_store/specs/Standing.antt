-- What one disk is found to be, and what is left of it.
use Rattle.std.specs.Prelude.{◌≡◌, ◌⊎◌, ℕ, List, [], ◌∷◌, Bool, true, Result, Ok, Err}
use Rattle.liq_outside.specs.Disk.{overwritten}
use Rattle.liq_types.specs.State.{State}
use Rattle.liq_core.specs.Core.{Core, StandsFor}
use Rattle.liq_journal.specs.Opened.{IsUnsettled, IsUnshut}
use Rattle.liq_journal.specs.Settled.{IsSettled, JournalOn}
use Rattle.liq_journal.specs.Written.{Absent, Open, Written, found_on, is_generation}
use Rattle.liq_disk_pair.specs.Pair.{Faulty, standing}
use Rattle.liq_disk_pair.specs.Replay.{outcome}
use Rattle.liq_disk_records.specs.Reading.{CountsFault}
use Rattle.liq_disk_records.specs.declared.answers.AcceptedFault.{AcceptedFault}
use Rattle.liq_disk_records.specs.declared.answers.AcceptedFault.TheVariants as fault
use Rattle.liq_store.specs.declared.standing.StandFault.{StandFault}
use Rattle.liq_store.specs.declared.standing.Stood.{Stood}
use Rattle.liq_store.specs.declared.standing.Stood.TheVariants.{Nothing, Holding}

-- the disk after it, whatever was found
abbrev pub disk_in : {D : Type 0} → Result (Stood D) (StandFault D) → D
disk_in (Ok (Nothing disk)) = disk
disk_in (Ok (Holding journal core)) = journal.disk
disk_in (Err fault) = fault.disk

-- no device call failed
abbrev pub IsFaultless : {D : Type 0} → Result (Stood D) (StandFault D) → Type 0
IsFaultless (Ok stood) = Unit {0}
IsFaultless (Err met) = met.why ≡ fault.DiskFault → ⊥

-- ---- what is found

abbrev pub IsWhyOn : Bool → List ℕ → AcceptedFault → Type 0
IsWhyOn odd held fault.DiskFault = Unit {0}
IsWhyOn odd held (fault.Damaged damage) = standing odd held ≡ Faulty damage
IsWhyOn odd held fault.NoMemory = Unit {0}

-- a journal of this generation, whose commands lead to a state for which the protocol stands
pub record IsHeldOn (odd : Bool) (held : List ℕ) (generation : ℕ) (core : Core) : Type 0 where
  pub written : Written
  pub found : found_on odd held ≡ Open written
  pub generation_is : written.generation ≡ generation
  pub state : State
  pub came : outcome written ≡ Ok state
  pub stands : StandsFor core state

abbrev pub IsFoundOn : {D : Type 0} → Bool → List ℕ → Result (Stood D) (StandFault D) → Type 0
IsFoundOn odd held (Ok (Nothing disk)) = found_on odd held ≡ Absent
IsFoundOn odd held (Ok (Holding journal core)) = IsHeldOn odd held journal.generation core
IsFoundOn odd held (Err met) = IsWhyOn odd held met.why

-- the commands of what is written lead to the protocol, or to the damage
abbrev pub FailsTo : Written → AcceptedFault → Type 0
FailsTo w fault.DiskFault = Unit {0}
FailsTo w (fault.Damaged damage) = outcome w ≡ Err damage
FailsTo w fault.NoMemory = Unit {0}

abbrev pub HoldsTo : {D : Type 0} → Written → Result (Stood D) (StandFault D) → Type 0
HoldsTo w (Ok (Nothing disk)) = ⊥
HoldsTo w (Ok (Holding journal core)) = (s : State) × (outcome w ≡ Ok s) × StandsFor core s
HoldsTo w (Err met) = FailsTo w met.why

-- ---- what is left

-- The bytes are as they were, or have a 0 at the one place that an opening shuts.
abbrev pub OnlyShuts : Bool → List ℕ → List ℕ → Type 0
OnlyShuts odd held bytes =
    (bytes ≡ held)
    ⊎ ((place : ℕ) × IsUnsettled odd held place × (bytes ≡ overwritten held place (0 ∷ [])))

-- a disk on which no gate other than 0 is at place 0, or whole records and a 0 behind them
abbrev pub IsLeftOn : {D : Type 0} → List ℕ → Result (Stood D) (StandFault D) → Type 0
IsLeftOn after (Ok (Nothing disk)) = IsUnshut after → ⊥
IsLeftOn after (Ok (Holding journal core)) =
    IsSettled journal.generation journal.start journal.count after
IsLeftOn after (Err met) = Unit {0}

-- the protocol has the journal's generation, and as many records
pub record HasCounts (generation count : ℕ) (core : Core) : Type 0 where
  pub generation_is : generation ≡ core.image.generation
  pub count_is : count ≡ core.records

abbrev pub IsCounted : {D : Type 0} → Bool → Stood D → Type 0
IsCounted odd (Nothing disk) = Unit {0}
IsCounted odd (Holding journal core) =
    (is_generation odd journal.generation ≡ true) × HasCounts journal.generation journal.count core

-- the same journal, all of whose records were made again
pub record Replayed {D : Type 0} (old new : JournalOn D) (core : Core) : Type 0 where
  pub same : new ≡ record old { disk = new.disk }
  pub count_is : core.records ≡ old.count
  pub generation_is : core.image.generation ≡ old.generation

abbrev pub Continues : {D : Type 0} → JournalOn D → Result (Stood D) (StandFault D) → Type 0
Continues old (Ok (Nothing disk)) = ⊥
Continues old (Ok (Holding journal core)) = Replayed old journal core
Continues old (Err met) = Unit {0}

-- the count of faults over a test of a disk: it rose exactly where a fault is the answer
abbrev pub CountsStand : {D : Type 0} → Result (Stood D) (StandFault D) → ℕ → ℕ → Type 0
CountsStand (Ok stood) before after = after ≡ before
CountsStand (Err met) before after = CountsFault met.why before after
