-- The bytes of a save, and what they are loaded as.
use Rattle.std.specs.Prelude.{◌≡◌, ℕ, ◌<◌, ◌^◌, List, [], ◌∷◌, ◌++◌, Some, None, Result, Ok, Err}
use Rattle.byteorder.specs.Endian.{big_bytes}
use Rattle.sha2.specs.Sha256.{sha256}
use Rattle.liq_types.specs.declared.image.Image.{Image}
use Rattle.liq_types.specs.Soundness.{first_unsound}
use Rattle.liq_checkpoint.specs.Spelling.{HasCheckpoint, spelling}
use Rattle.liq_market.specs.declared.load_fault.LoadFault.{LoadFault}
use Rattle.liq_market.specs.declared.load_fault.LoadFault.TheVariants.{Damaged, Unsound, NoMemory}
use Rattle.liq_market.specs.Content.{Content}

-- LIQSNAP1
abbrev pub name : List ℕ
name = 76 ∷ 73 ∷ 81 ∷ 83 ∷ 78 ∷ 65 ∷ 80 ∷ 49 ∷ []

-- the name, the count of the records, its high byte first, and a checkpoint
unfoldable pub told_with : ℕ → List ℕ → List ℕ
told_with records checkpoint = name ++ big_bytes 8 records ++ checkpoint

-- the SHA-256 of these bytes
unfoldable pub digest : List ℕ → List ℕ
digest told = sha256 told

-- these bytes, and their digest behind them
abbrev pub sealed : List ℕ → List ℕ
sealed told = told ++ digest told

-- the save of an image beside so many records
abbrev pub saved : Image → ℕ → List ℕ
saved i records = sealed (told_with records (spelling i))

-- bytes are the save of an image that has a checkpoint, beside records that fit their 8 bytes
pub record IsSave (bytes : List ℕ) (i : Image) (records : ℕ) : Type 0 where
  pub form : HasCheckpoint i
  pub count : records < 2 ^ 64
  pub spelled : bytes ≡ saved i records

-- ---- loading

-- Of the save of an image beside its records: the market of a sound one, else the first rule that
-- it breaks.
abbrev pub LoadsAs : Image → ℕ → Result Content LoadFault → Type 0
LoadsAs i records (Ok market) =
    (market.core.image ≡ i) × (market.core.records ≡ records) × (market.touched ≡ [])
    × (first_unsound i records ≡ None)
LoadsAs i records (Err Damaged) = ⊥
LoadsAs i records (Err (Unsound rule)) = first_unsound i records ≡ Some rule
LoadsAs i records (Err NoMemory) = Unit {0}

-- bytes are the save of an image that breaks this rule first
pub record IsUnsoundSave (bytes : List ℕ) (rule : ℕ) : Type 0 where
  pub image : Image
  pub records : ℕ
  pub save : IsSave bytes image records
  pub broken : first_unsound image records ≡ Some rule
