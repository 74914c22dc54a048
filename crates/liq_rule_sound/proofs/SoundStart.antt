-- The opening is sound, and so is a state that begins with a sound image.
use Rattle.std.proofs.Common.{◌≡◌, ℕ, inl, inr, List, [], ◌∷◌, None, ap, subst, sym}
use Rattle.std.specs.List.{AllByRecursion}
use Rattle.liq_types.specs.declared.image.Image.{Image}
use Rattle.liq_types.specs.Image.{IsLimit, opening_image_with}
use Rattle.liq_types.specs.Tables.{EpochScale}
use Rattle.liq_types.specs.Soundness.{IsSoundImage, first_unsound}
use Rattle.liq_types.specs.State.{opening_with, started}
use Rattle.liq_types.proofs.Clients.{clients_alone}
use Rattle.liq_types.specs.WellFormed.{AreFinished, IsBefore}
use Rattle.std.proofs.lemmas.Map.Made.{keys_of-map_values}
use Rattle.std.specs.List.Sorted.{IsStrictlySortedBy}
use Rattle.std.specs.Ordering.{nat_cmp}
use Rattle.liq_rule_sound.specs.SoundState.{IsSoundState}
use Rattle.liq_rule_sound.proofs.SoundPool.{FinishedStands}
use Rattle.liq_rule_sound.proofs.SoundTests.{finished_rows, stakes_added}
use Rattle.liq_rule_step.proofs.Started.{started_formed, started_image}
use Rattle.liq_types.specs.State.{started_trove, started_deposit}

before_rows : (now : EpochScale) (table : List (EpochScale × ℕ)) → AllByRecursion (FinishedStands now) table
    → AllByRecursion (λ (row : EpochScale × ℕ). IsBefore row.0 now) table
before_rows now [] h = tt
before_rows now (e ∷ es) h = (h.0.before, before_rows now es h.1)

pub finished_before : (i : Image) (records : ℕ) → IsSoundImage i records → AreFinished i
finished_before i records h = before_rows (i.epoch, i.scale) i.finished (finished_rows i records h)

pub started_with : (i : Image) (records : ℕ) → IsSoundImage i records
    → IsSoundState (record (started i) { records = records })
started_with i records h =
    record {
      formed = started_formed i (finished_before i records h);
      ordered = (
        h.tables.wallets,
        subst (λ (keys : List ℕ). IsStrictlySortedBy nat_cmp keys) (sym (keys_of-map_values started_trove i.troves))
            h.tables.troves,
        h.tables.surplus,
        subst (λ (keys : List ℕ). IsStrictlySortedBy nat_cmp keys) (sym (keys_of-map_values started_deposit i.deposits))
            h.tables.deposits,
        h.tables.clients,
      );
      sound = subst (λ (j : Image). IsSoundImage j records) (sym (started_image i (stakes_added i records h))) h;
      spread = tt;
    }

pub started_sound : (i : Image) → IsSoundImage i 0 → IsSoundState (started i)
started_sound i h = started_with i 0 h

-- the opening, under either limit
pub opening_image_sound : (limit : ℕ) → IsLimit limit → IsSoundImage (opening_image_with limit) 0
unfolding IsStrictlySortedBy
opening_image_sound limit known =
    record { rules = ruled known; tables = clients_alone (opening_image_with limit) [] tt tt }
  where
    ruled : IsLimit limit → first_unsound (opening_image_with limit) 0 ≡ None
    ruled (inl lesser) = ap (λ n. first_unsound (opening_image_with n) 0) lesser
    ruled (inr greater) = ap (λ n. first_unsound (opening_image_with n) 0) greater

pub opening_sound : (limit : ℕ) → IsLimit limit → IsSoundState (opening_with limit)
opening_sound limit known = started_sound (opening_image_with limit) (opening_image_sound limit known)
