-- What a save is loaded as.
use Rattle.std.proofs.Common.{◌≡◌, ℕ, ◌<◌, ◌^◌, List, Option, Some, None, Result, Ok, Err, IfOk, refl, ap, ◌∙◌}
use Rattle.liq_types.specs.declared.image.Image.{Image}
use Rattle.liq_checkpoint.specs.Spelling.{HasCheckpoint, spelling}
use Rattle.liq_market.specs.Saving.{IsSave, sealed, told_with}

pub none_of : (o : Option ℕ) → ((rule : ℕ) → o ≡ Some rule → ⊥) → o ≡ None
none_of None never = refl
none_of (Some rule) never = absurd (never rule refl)

pub if_ok : {X E : Type 0} {P Q : X → Type 0} (r : Result X E) → ((x : X) → P x → Q x) → IfOk r P → IfOk r Q
if_ok (Ok x) so is = so x is
if_ok (Err e) so is = tt

-- an image that was read from the checkpoint of a save
module _ (bytes : List ℕ) (records : ℕ) (checkpoint : List ℕ) (image : Image) where
  pub save_is :
      HasCheckpoint image → records < 2 ^ 64 → bytes ≡ sealed (told_with records checkpoint)
      → checkpoint ≡ spelling image → IsSave bytes image records
  save_is form fits is read =
      record { form = form; count = fits; spelled = is ∙ ap (λ (l : List ℕ). sealed (told_with records l)) read }
