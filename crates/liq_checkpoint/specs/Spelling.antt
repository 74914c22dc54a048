-- How an image is spelled: a name, and then its numbers one after the other, each with its high
-- byte first.
use Rattle.std.specs.Prelude.{◌≡◌, ℕ, ◌<◌, ◌^◌, List, [], ◌∷◌, ◌++◌, length, map}
use Rattle.std.specs.List.{flat_map, AllByRecursion}
use Rattle.byteorder.specs.Endian.{big_bytes}
use Rattle.liq_types.specs.declared.figures.Wallet.{Wallet}
use Rattle.liq_types.specs.declared.figures.Client.{Client}
use Rattle.liq_types.specs.declared.figures.Trove.{Trove}
use Rattle.liq_types.specs.declared.figures.Deposit.{Deposit}
use Rattle.liq_types.specs.declared.image.Image.{Image}
use Rattle.liq_types.specs.Image.{IsLimit}
use Rattle.liq_types.specs.Tables.{EpochScale}
use Rattle.liq_types.specs.Soundness.{HasTables}
pub use Rattle.liq_disk_layout.specs.Names.{name}

-- ---- fields

-- how many bytes a field has, and its number
abbrev pub Field : Type 0
Field = ℕ × ℕ

unfoldable pub bytes_of : Field → List ℕ
bytes_of field = big_bytes field.0 field.1

abbrev pub spelled : List Field → List ℕ
spelled fields = flat_map bytes_of fields

-- each number has room in its bytes
abbrev pub Fit : List Field → Type 0
Fit fields = AllByRecursion (λ (field : Field). field.1 < 256 ^ field.0) fields

-- fields were put behind the old bytes, and each number had room
pub record Puts (old new : List ℕ) (fields : List Field) : Type 0 where
  pub items : new ≡ old ++ spelled fields
  pub fit : Fit fields

-- numbers of eight bytes each
abbrev pub eights : List ℕ → List Field
eights numbers = map (λ n. (8, n)) numbers

-- ---- rows

abbrev pub wallet : ℕ × Wallet → List Field
wallet row = (4, row.0) ∷ (8, row.1.coll) ∷ (8, row.1.lusd) ∷ []

abbrev pub trove : ℕ × Trove → List Field
trove row =
    (4, row.0)
    ∷ (8, row.1.coll) ∷ (8, row.1.debt) ∷ (8, row.1.stake)
    ∷ (16, row.1.mark_coll) ∷ (16, row.1.mark_debt)
    ∷ []

abbrev pub surplus : ℕ × ℕ → List Field
surplus row = (4, row.0) ∷ (8, row.1) ∷ []

abbrev pub finished : EpochScale × ℕ → List Field
finished row = (8, row.0.0) ∷ (8, row.0.1) ∷ (16, row.1) ∷ []

abbrev pub deposit : ℕ × Deposit → List Field
deposit row =
    (4, row.0)
    ∷ (8, row.1.amount)
    ∷ (16, row.1.p) ∷ (16, row.1.sum) ∷ (8, row.1.scale) ∷ (8, row.1.epoch)
    ∷ []

abbrev pub client : ℕ × Client → List Field
client row = (4, row.0) ∷ (8, row.1.last) ∷ (1, row.1.kept.kind) ∷ eights row.1.kept.values

-- a count, and so many rows
abbrev pub table : {R : Type 0} → (R → List Field) → List R → List Field
table row rows = (8, length rows) ∷ flat_map row rows

-- ---- an image

abbrev pub words : Image → List Field
words i =
    (8, i.price) ∷ (8, i.minute) ∷ (8, i.base) ∷ (8, i.fee_minute) ∷ (8, i.generation)
    ∷ (8, i.brought)
    ∷ (8, i.active_coll) ∷ (8, i.active_debt) ∷ (8, i.default_coll) ∷ (8, i.default_debt)
    ∷ (8, i.reserve) ∷ (8, i.surplus) ∷ (8, i.fee_coll) ∷ (8, i.fee_lusd)
    ∷ (16, i.sum_coll) ∷ (16, i.sum_debt) ∷ (8, i.stakes) ∷ (8, i.snap_stakes) ∷ (8, i.snap_coll)
    ∷ (16, i.p) ∷ (8, i.scale) ∷ (8, i.epoch) ∷ (16, i.sum) ∷ (8, i.total) ∷ (8, i.pool_coll)
    ∷ []

abbrev pub tables : Image → List Field
tables i =
    table wallet i.wallets ++ table trove i.troves ++ table surplus i.surplus_rows
    ++ table finished i.finished ++ table deposit i.deposits ++ table client i.clients

-- all fields behind the name
abbrev pub contents : Image → List Field
contents i = words i ++ tables i

unfoldable pub spelling : Image → List ℕ
spelling i = name i.limit ++ spelled (contents i)

-- What has a checkpoint: numbers that have room in their fields, tables in order, and a limit for
-- which a name stands.
pub record HasCheckpoint (i : Image) : Type 0 where
  pub numbers : Fit (contents i)
  pub tables : HasTables i
  pub limit : IsLimit i.limit
