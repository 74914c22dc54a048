-- Whether standard output is one of the two files, by what the system answers.
use Rattle.std.specs.Prelude.{◌≡◌, ◌⊎◌, true, false, List, ◌∷◌, Option, Some, Ok, Err}
use Rattle.liq_disk_files.specs.Asked.{Asked, Behind, Named, Regular}
use Rattle.liq_disk_files.specs.Taking.{MayBe}
use Rattle.liq_disk_files.specs.declared.calls.Name.{Name}
use Rattle.liq_disk_files.specs.declared.calls.Name.TheVariants.{Left, Right}
use Rattle.liq_disk_files.specs.declared.calls.Refusal.{Refusal}
use Rattle.liq_disk_files.specs.declared.calls.Refusal.TheVariants.{Denied}
use Rattle.liq_disk_files.specs.declared.calls.Stream.TheVariants.{Output}
use Rattle.liq_disk_files.specs.declared.found.FileId.{FileId}
use Rattle.liq_disk_files.specs.declared.found.Found.{Found}

-- Standard output may be the file to which this name leads. Where the name may not be looked up, it
-- may be that wherever a regular file is behind it.
abbrev pub MayBeOutput : Name → List Asked → List Asked → Type 0
MayBeOutput name before calls =
    ((found : Found) × (output : Option FileId)
    × (calls ≡ Behind Output output ∷ Named name (Ok found) ∷ before) × MayBe output found.id)
    ⊎ (calls ≡ Regular Output true ∷ Named name (Err Denied) ∷ before)

-- it is not: the name leads to another file, or to none
abbrev pub IsNotOutput : Name → List Asked → List Asked → Type 0
IsNotOutput name before calls =
    ((found : Found) × (output : FileId)
    × (calls ≡ Behind Output (Some output) ∷ Named name (Ok found) ∷ before)
    × (output ≡ found.id → ⊥))
    ⊎ ((refusal : Refusal) × (refusal ≡ Denied → ⊥) × (calls ≡ Named name (Err refusal) ∷ before))
    ⊎ (calls ≡ Regular Output false ∷ Named name (Err Denied) ∷ before)

-- it may be one of the two files, the left one or else the right one
abbrev pub MayBeOne : List Asked → List Asked → Type 0
MayBeOne before calls = MayBeOutput Left before calls
    ⊎ ((between : List Asked) × IsNotOutput Left before between × MayBeOutput Right between calls)

-- it is neither
abbrev pub IsNeither : List Asked → List Asked → Type 0
IsNeither before calls =
    (between : List Asked) × IsNotOutput Left before between × IsNotOutput Right between calls
