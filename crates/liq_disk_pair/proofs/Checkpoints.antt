-- The checkpoints of the examples.
use Rattle.std.proofs.Common.{◌≡◌, ℕ, ◌<◌, ◌^◌, List, length, Ok, refl, sym, subst, arith}
use Rattle.std.specs.List.Sorted.{IsStrictlySortedBy}
use Rattle.liq_types.specs.Image.{IsLimit}
use Rattle.liq_types.specs.Soundness.{HasTables}
use Rattle.liq_types.proofs.Clients.{clients_alone}
use Rattle.liq_checkpoint.specs.Reading.{image_at}
use Rattle.liq_checkpoint.specs.Spelling.{Fit, HasCheckpoint, contents, spelling}
use Rattle.liq_checkpoint.proofs.Images.{is_read}
use Rattle.liq_disk_pair.specs.Examples.{rotated_with}

module _ (limit : ℕ) (is : IsLimit limit) (price : ℕ) (few : price < 2 ^ 64) where
  numbers : Fit (contents (rotated_with limit price))
  numbers = omega arith

  tables : HasTables (rotated_with limit price)
  unfolding IsStrictlySortedBy
  tables = clients_alone (rotated_with limit price) (rotated_with limit price).clients (tt, tt)
      (record { last = omega arith; kind = (omega arith, omega arith); values = refl }, tt)

  has : HasCheckpoint (rotated_with limit price)
  has = record { numbers = numbers; tables = tables; limit = is }

  pub rotated_read : (checkpoint : List ℕ) → checkpoint ≡ spelling (rotated_with limit price)
      → image_at (length checkpoint) checkpoint ≡ Ok (rotated_with limit price)
  rotated_read checkpoint same =
      subst (λ (l : List ℕ). image_at (length l) l ≡ Ok (rotated_with limit price)) (sym same)
      (is_read (rotated_with limit price) has (length (spelling (rotated_with limit price))))
