-- The journal's limits, which a rotation that is accepted keeps.
use Rattle.std.proofs.Common.{◌≡◌, ◌+◌, ◌≤◌, ◌<◌, ℕ, [], ◌∷◌, Bool, true, false, nat_le, nat_lt, if◌then◌else◌, ap, subst, arith}
use Rattle.std.proofs.lemmas.Bool.Decides.{nat_tests}
use Rattle.std.specs.List.{AllByRecursion}
use Rattle.liq_types.specs.declared.amounts.TheConstants.{CHECKPOINT_BYTES_MOST, GENERATIONS_MOST, RECORDS_MOST}
use Rattle.liq_types.specs.declared.replies.Refusal.TheVariants.{AmountLimit, JournalFull}
use Rattle.liq_types.specs.declared.requests.Call.TheVariants.{Rotate}
use Rattle.liq_types.specs.declared.requests.Command.{Command}
use Rattle.liq_types.specs.Length.{checkpoint_length}
use Rattle.liq_types.specs.Rules.{Rule, where_above}
use Rattle.liq_types.specs.State.{State}
use Rattle.liq_rule_step.specs.Image.{image}
use Rattle.liq_rule_step.specs.Step.{Allowed, after, ruling}
use Rattle.liq_types.specs.Verbs.{is_rotate}
use Rattle.liq_rule_sound.proofs.SoundStep.{allowed_has}
use Rattle.liq_journal.specs.Written.{is_size}

-- there may be one generation more, and its checkpoint is no longer than the longest
pub record IsWithinLimits (s : State) (c : Command) : Type 0 where
  pub generation : s.generation + 1 ≤ GENERATIONS_MOST
  pub bytes : checkpoint_length (image (after s c)) ≤ CHECKPOINT_BYTES_MOST

at_most : (limit n : ℕ) → nat_lt limit n ≡ false → n ≤ limit
at_most limit n h = grind (arith, nat_tests, h)

pub rotation_fits : (s : State) (c : Command) → ruling s c ≡ Allowed → c.call ≡ Rotate → IsWithinLimits s c
rotation_fits s c allowed is =
    let length_is = checkpoint_length (image (after s c)) in
    let room = subst
    (λ (b : Bool). AllByRecursion (λ (rule : Rule). rule.0 ≡ false)
    (if b then where_above (s.generation + 1) GENERATIONS_MOST AmountLimit ∷ where_above length_is CHECKPOINT_BYTES_MOST
    AmountLimit ∷ []
    else (nat_le RECORDS_MOST s.records, JournalFull RECORDS_MOST) ∷ []))
    (ap is_rotate is) (allowed_has s c allowed).room in
    record {
      generation = at_most GENERATIONS_MOST (s.generation + 1) room.0;
      bytes = at_most CHECKPOINT_BYTES_MOST length_is room.1.0;
    }

-- so many bytes a later generation may have
pub size_fits : (generation size : ℕ) → 2 ≤ generation → 0 < size → size ≤ 68719476736 → is_size generation size ≡ true
size_fits generation size later some most = grind (arith, nat_tests)
