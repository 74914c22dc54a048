-- The steps of an opening, over bytes.
use Rattle.std.proofs.Common.{◌≡◌, inl, inr, ℕ, zero, suc, ◌<◌, List, [], ◌∷◌, length, Err, Bool, true, false, refl, sym, ◌∙◌, ap, subst, arith}
use Rattle.liq_types.specs.State.{State, opening}
use Rattle.liq_outside.specs.Disk.{overwritten}
use Rattle.liq_journal.specs.declared.damage.Damage.{Damage}
use Rattle.liq_journal.specs.Crash.{CreateLeaves, HasGate, IsClosed, SettleLeaves, Stands, beginning}
use Rattle.liq_journal.specs.Opened.{IsUnshut, OpenLeaves}
use Rattle.liq_journal.specs.Written.{Absent, Written, found_on}
use Rattle.liq_disk_pair.specs.declared.side.Side.TheVariants.{Left, Right}
use Rattle.liq_disk_pair.specs.Pair.{Faulty, Holding, Nothing, standing, state_on}
use Rattle.liq_disk_pair.proofs.FirstPlace.{absent_isnt_open, closed_absent, closed_where}
use Rattle.liq_disk_pair.proofs.Standings.{nothing, standing_absent, state_by, state_none, state_taken}
use Rattle.liq_disk_pair.proofs.Replaying.{outcome_none}

-- ---- damage

pub left_faulty : (l r : List ℕ) (damage : Damage) → standing true l ≡ Faulty damage → state_on l r ≡ Err (Left, damage)
left_faulty l r damage is = state_by l r (Faulty damage) (standing false r) is refl

pub right_faulty : (l r : List ℕ) (damage : Damage) → standing true l ≡ Nothing → standing false r ≡ Faulty damage
    → state_on l r ≡ Err (Right, damage)
right_faulty l r damage left is = state_by l r Nothing (Faulty damage) left is

pub right_faulty_beside : (l r : List ℕ) (generation : ℕ) (s : State) (damage : Damage)
    → standing true l ≡ Holding generation s → standing false r ≡ Faulty damage → state_on l r ≡ Err (Right, damage)
right_faulty_beside l r generation s damage left is = state_by l r (Holding generation s) (Faulty damage) left is

-- ---- none begun

-- a disk on which none is open stays so, once no other byte than 0 is at place 0
pub still_absent : (odd : Bool) (bytes : List ℕ) → (IsUnshut bytes → ⊥) → found_on odd bytes ≡ Absent
still_absent odd bytes shut = closed_absent odd bytes (closed_where bytes shut)

-- the first generation, created where none was open
pub created_state : (l r a b : List ℕ) → found_on true l ≡ Absent → found_on false r ≡ Absent
    → Stands true a (beginning 1 []) → found_on false b ≡ Absent → state_on a b ≡ state_on l r
created_state l r a b left right stands absent =
    state_taken Left a b (beginning 1 []) opening stands.found (outcome_none (beginning 1 []) refl refl)
    (nothing (standing_absent false b absent))
    ∙ sym (state_none l r left right)

-- What a creation leaves of a disk that was settled before it leaves of the disk before that.
pub created_from : (l m image : List ℕ) (w : Written) → found_on true l ≡ Absent → OpenLeaves true l m
    → (IsUnshut m → ⊥) → CreateLeaves true m w image → CreateLeaves true l w image
created_from l m image w absent opened shut (inl closed) = inl closed
created_from l m image w absent opened shut (inr (inr stands)) = inr (inr stands)
created_from l m image w absent (inl same) shut (inr (inl settled)) =
    inr (inl (subst (λ (x : List ℕ). SettleLeaves 0 x image) same settled))
created_from l m image w absent (inr (place, inl some, has)) shut (inr (inl settled)) =
    absurd (absent_isnt_open true l some.0 absent some.1)
created_from l m image w absent (inr (place, inr none, has)) shut (inr (inl settled)) =
    inl (by (closed_where m shut) settled)
  where
    long : (x : List ℕ) (byte : ℕ) → 0 < length (overwritten x 0 (byte ∷ []))
    long x byte = omega arith

    there : 0 < length m
    there = subst (λ (x : List ℕ). 0 < length x) (sym (has.1 ∙ ap (λ (n : ℕ). overwritten l n (has.0 ∷ [])) none.1))
        (long l has.0)

    by : IsClosed m → SettleLeaves 0 m image → IsClosed image
    by closed (inl same) = subst (λ (x : List ℕ). IsClosed x) (sym same) closed
    by closed (inr (unshut, byte)) = absurd (unshut (gate m there shut))
      where
        gate : (x : List ℕ) → 0 < length x → (IsUnshut x → ⊥) → HasGate 0 x
        gate [] long_x shut_x = absurd (omega arith)
        gate (zero ∷ x) long_x shut_x = record { there = long_x; shut = refl }
        gate (suc n ∷ x) long_x shut_x = absurd (shut_x (record { there = long_x; isnt = λ is. absurd (omega arith) }))
