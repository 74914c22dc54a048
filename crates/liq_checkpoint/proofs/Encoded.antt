-- What an image's bytes are, where its fields were put behind the name.
use Rattle.std.proofs.Common.{◌≡◌, ℕ, List, length, Ok, ap, ◌∙◌}
use Rattle.liq_types.specs.Image.{IsLimit}
use Rattle.liq_types.specs.declared.image.Image.{Image}
use Rattle.liq_types.specs.Length.{checkpoint_length}
use Rattle.liq_types.specs.Soundness.{HasTables}
use Rattle.liq_checkpoint.specs.Spelling.{Puts, contents, name, spelling}
use Rattle.liq_checkpoint.specs.Reading.{image_at}
use Rattle.liq_checkpoint.proofs.Images.{image_again}
use Rattle.liq_checkpoint.proofs.Lengths.{spelling_is_long}

module _ (i : Image) (bytes : List ℕ) where
  pub is_spelled : Puts (name i.limit) bytes (contents i) → bytes ≡ spelling i
  unfolding spelling
  is_spelled put = put.items

  pub is_long : HasTables i → Puts (name i.limit) bytes (contents i) → length bytes ≡ checkpoint_length i
  is_long tables put = ap length (is_spelled put) ∙ spelling_is_long i tables

  pub reads : HasTables i → Puts (name i.limit) bytes (contents i) → IsLimit i.limit
      → image_at (length bytes) bytes ≡ Ok i
  reads tables put limit =
      ap (image_at (length bytes)) (is_spelled put) ∙ image_again i tables put.fit limit (length bytes)
