-- Which files are taken, by what the system says of them.
use Rattle.std.specs.Prelude.{◌≡◌, ◌⊎◌, ℕ, List, Option, Some, None, Contains, bit_and}
use Rattle.liq_disk_files.specs.declared.found.FileId.{FileId}
use Rattle.liq_disk_files.specs.declared.found.Found.{Found}

-- the bits of a mode that say what stands there are those of a regular file
abbrev pub IsRegular : ℕ → Type 0
IsRegular mode = bit_and mode 0xf000 ≡ 0x8000

-- the bit by which others than the owner and the group may write is not there
abbrev pub IsClosedToOthers : ℕ → Type 0
IsClosedToOthers mode = bit_and mode 2 ≡ 0

-- the user is the file's owner, or root, which is the user 0
abbrev pub IsOnesOwn : ℕ → Found → Type 0
IsOnesOwn user file = (file.owner ≡ user) ⊎ (user ≡ 0)

-- a regular file of the user's own, which others may not write, and which stands for nothing else
abbrev pub MayBeTaken : ℕ → List FileId → Found → Type 0
MayBeTaken user taken file =
    IsRegular file.mode × (IsOnesOwn user file × (IsClosedToOthers file.mode
    × (Contains taken file.id → ⊥)))

-- a link of the user's own, or of root's
abbrev pub MayBeFollowed : ℕ → ℕ → Type 0
MayBeFollowed user owner = (owner ≡ user) ⊎ (owner ≡ 0)

-- a standard stream is this file, or the system has not said which file it is
abbrev pub MayBe : Option FileId → FileId → Type 0
MayBe (Some found) file = found ≡ file
MayBe None file = Unit {0}
