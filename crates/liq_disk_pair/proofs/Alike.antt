-- A pair that stands for a state, or is kept for it, does so for each state that is the same.
use Rattle.std.proofs.Common.{inl, inr, ⊎_elim, List, ℕ, ◌+◌, Bool, ap, sym, ◌∙◌}
use Rattle.liq_types.specs.declared.requests.Command.{Command}
use Rattle.liq_types.specs.State.{State}
use Rattle.liq_types.specs.WellFormed.{IsWellFormed}
use Rattle.liq_rule_step.specs.Image.{IsSameState}
use Rattle.liq_types.specs.declared.image.Image.{Image}
use Rattle.liq_rule_step.proofs.AlikeReads.{Alike}
use Rattle.liq_rule_step.proofs.AlikeReplies.{after_alike, ruling_alike}
use Rattle.liq_checkpoint.specs.Spelling.{spelling}
use Rattle.liq_journal.specs.Written.{Written}
use Rattle.liq_disk_pair.specs.declared.side.Side.{Side}
use Rattle.liq_disk_pair.specs.Kept.{HoldsRecord, IsKept, IsKeptOn, IsRotationOf, IsSettledFor, StandsBesideRotation}
use Rattle.liq_disk_pair.specs.Pair.{StandFor}
use Rattle.liq_disk_pair.specs.Sides.{has_odd, on}
use Rattle.liq_disk_pair.specs.Unfinished.{HoldsUnfinished, IsUnfinishedRecord, IsUnfinishedRotation}

module _ {s t : State} (alike : Alike s t) where
  pub stand_alike : (l r : List ℕ) → StandFor l r s → StandFor l r t
  stand_alike l r stands = record {
    state = stands.state;
    is = stands.is;
    same = record { image = stands.same.image ∙ alike.image; records = stands.same.records ∙ alike.records };
    formed = alike.right;
  }

  pub settled_alike : (side : Side) (l r : List ℕ) → IsSettledFor side l r s → IsSettledFor side l r t
  settled_alike side l r settled = record {
    stands = stand_alike l r settled.stands;
    written = settled.written;
    open_on = settled.open_on;
    others = settled.others;
  }

  record_alike : (odd : Bool) (bytes : List ℕ) (w : Written) (c : Command) → HoldsRecord odd bytes w s c
      → HoldsRecord odd bytes w t c
  record_alike odd bytes w c holds = record {
    pending = holds.pending;
    allowed = sym (ruling_alike alike c)
        ∙ holds.allowed;
  }

  pub rotation_alike : (w : Written) (c : Command) → IsRotationOf s w c → IsRotationOf t w c
  rotation_alike w c rotation =
      let further = after_alike alike c in
      record {
        rotates = rotation.rotates;
        allowed = sym (ruling_alike alike c) ∙ rotation.allowed;
        generation_is = rotation.generation_is ∙ ap (λ (i : Image). i.generation + 1) alike.image;
        limit_is = rotation.limit_is;
        checkpoint_is = rotation.checkpoint_is ∙ ap spelling further.image;
        state = rotation.state;
        came = rotation.came;
        same = record {
          image = rotation.same.image ∙ further.image;
          records = rotation.same.records ∙ further.records;
        };
      }

  beside_alike : (side : Side) (l r : List ℕ) (w : Written) → StandsBesideRotation side l r w s
      → StandsBesideRotation side l r w t
  beside_alike side l r w stands = record {
    ended = stands.ended;
    command = stands.command;
    holds = record {
      written = stands.holds.written;
      stands = stands.holds.stands;
      none = stands.holds.none;
      rotation = rotation_alike stands.holds.written stands.command stands.holds.rotation;
      shut = stands.holds.shut;
    };
    later = stands.later;
  }

  kept_on_alike : (side : Side) (l r : List ℕ) → IsKeptOn side l r s → IsKeptOn side l r t
  kept_on_alike side l r kept = record {
    written = kept.written;
    found = kept.found;
    end = ⊎_elim (λ is. inl is) (λ more. inr (more.0, record_alike _ _ kept.written more.0 more.1)) kept.end;
    others = ⊎_elim
        (λ closed. inl closed)
        (λ more. inr (⊎_elim (λ older. inl older) (λ turning. inr (beside_alike side l r kept.written turning)) more))
        kept.others;
  }

  pub kept_alike : (l r : List ℕ) → IsKept l r s → IsKept l r t
  kept_alike l r kept = record {
    stands = stand_alike l r kept.stands;
    rests = ⊎_elim (λ taken. inl (taken.0, kept_on_alike taken.0 l r taken.1)) (λ none. inr none) kept.rests;
  }

  -- what they hold unfinished
  record_unfinished : (odd : Bool) (bytes : List ℕ) (c : Command) → IsUnfinishedRecord odd bytes s c
      → IsUnfinishedRecord odd bytes t c
  record_unfinished odd bytes c is = record {
    written = is.written;
    record_is = record_alike odd bytes is.written c is.record_is;
    unshut = is.unshut;
  }

  rotation_unfinished : (odd : Bool) (bytes : List ℕ) (c : Command) → IsUnfinishedRotation odd bytes s c
      → IsUnfinishedRotation odd bytes t c
  rotation_unfinished odd bytes c is = record {
    rotation = record {
      written = is.rotation.written;
      stands = is.rotation.stands;
      none = is.rotation.none;
      rotation = rotation_alike is.rotation.written c is.rotation.rotation;
      shut = is.rotation.shut;
    };
    unshut = is.unshut;
  }

  pub unfinished_alike : (l r : List ℕ) (c : Command) → HoldsUnfinished l r s c → HoldsUnfinished l r t c
  unfinished_alike l r c (side, inl is) = (side, inl (record_unfinished (has_odd side) (on side l r) c is))
  unfinished_alike l r c (side, inr is) = (side, inr (rotation_unfinished (has_odd side) (on side l r) c is))

pub settled_same : (side : Side) (l r : List ℕ) (s t : State) → IsSettledFor side l r s → IsSameState s t
    → IsWellFormed t → IsSettledFor side l r t
settled_same side l r s t settled same formed = settled_alike (record {
  image = same.image;
  records = same.records;
  left = settled.stands.formed;
  right = formed;
}) side l r settled
