-- What the header of a disk is found to be, before its digest is tested and behind it.
use Rattle.std.specs.Prelude.{◌≡◌, ◌≤◌, ℕ, List, length, Bool, true, false, Option, Some, None, Ok, Err}
use Rattle.liq_types.specs.Image.{IsLimit}
use Rattle.liq_wire.specs.Fields.{first_place}
use Rattle.liq_disk_header.specs.declared.head.Head.{Head}
use Rattle.liq_journal.specs.Look.{look_on}
use Rattle.liq_journal.specs.declared.answers.Look.TheVariants.{Absent}
use Rattle.liq_journal.specs.declared.answers.LookFault.{LookFault}
use Rattle.liq_journal.specs.declared.answers.LookFault.TheVariants as fault
use Rattle.liq_disk_header.specs.Layout.{Layout, layout_on, layout_with, start_on}
use Rattle.liq_disk_header.specs.Header.{HasFields, is_absent, is_generation, place_tests}
use Rattle.liq_journal.specs.Written.{first_fault, header_tests}

-- an open header of this version, whose fields are right and whose checkpoint is there
pub record IsHeadOf (layout : Layout) (odd : Bool) (held : List ℕ) (head : Head) : Type 0 where
  pub gate : is_absent held ≡ false
  pub layout_is : layout_on held ≡ layout
  pub places : first_place (place_tests layout odd held) ≡ None
  pub long : start_on layout held ≤ length held
  pub fields : HasFields layout head held

-- a header, or none
abbrev pub MaybeHeadOf : Bool → List ℕ → Option Head → Type 0
MaybeHeadOf odd held None = look_on odd held ≡ Ok Absent
MaybeHeadOf odd held (Some head) = IsHeadOf (layout_with head.limit) odd held head

-- its fields are in their ranges, and the generation is one of this disk
abbrev pub AreInRange : Bool → Head → Type 0
AreInRange odd head =
    (head.size ≤ 68719476736) × (is_generation odd head.generation ≡ true) × IsLimit head.limit

-- such a header without any fault: the digest over it and its checkpoint is right too
pub record IsSoundHeadOf (odd : Bool) (held : List ℕ) (head : Head) : Type 0 where
  pub is_head : IsHeadOf (layout_with head.limit) odd held head
  pub no_fault : first_fault (header_tests (layout_with head.limit) odd held) ≡ None

-- a sound header, or none
abbrev pub MaybeSoundHeadOf : Bool → List ℕ → Option Head → Type 0
MaybeSoundHeadOf odd held None = look_on odd held ≡ Ok Absent
MaybeSoundHeadOf odd held (Some head) = IsSoundHeadOf odd held head

-- the damage of the header
abbrev pub IsDamageOf : Bool → List ℕ → LookFault → Type 0
IsDamageOf odd held fault.DiskFault = Unit {0}
IsDamageOf odd held (fault.Damaged damage) = look_on odd held ≡ Err (fault.Damaged damage)
