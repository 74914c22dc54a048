-- What the status of a word that tells says.
use Rattle.std.proofs.Common.{◌≡◌, ◌≢◌, ◌<◌, ◌≤◌, ◌+◌, ℕ, zero, suc, List, [], ◌∷◌, length, Option, Ok, Err, Result, refl, sym, ap, subst, ◌∙◌, inl, inr, arith}
use Rattle.std.specs.Prelude.{◌⊎◌, Contains}
use Rattle.liq_types.specs.declared.requests.Command.{Command}
use Rattle.liq_types.specs.State.{State}
use Rattle.liq_text_audit.specs.Reviewed.{reviewed}
use Rattle.liq_text_audit.specs.declared.fault.ReviewFault.TheVariants as review
use Rattle.liq_outside.specs.At.{DiskAt}
use Rattle.liq_outside.proofs.Moments.{unmoved}
use Rattle.liq_store.specs.Causes.{Faults, counts_of}
use Rattle.liq_word_exit.specs.declared.halts.Halt.{Halt}
use Rattle.liq_word_exit.specs.declared.halts.Halt.TheVariants.{BadLine, ReadFault, WriteFault, DiskFault, Damaged, DamagedInput, NoMemory, Limit, Rotated}
use Rattle.liq_word_exit.specs.Causes.{DiskCause, DisksGoOn, ReadCause}
use Rattle.liq_word_exit.specs.Statuses.{status_of}
use Rattle.liq_word_exit.proofs.Causes.{unread_causes}
use Rattle.liq_word_state.specs.Audit.{IsAuditOf}
use Rattle.liq_word_follow.specs.declared.feeding.TheConstants.{FED_MOST}
use Rattle.liq_word_follow.specs.Followed.{FollowsTo}

-- ---- of a load

load_list : (n : ℕ) → Contains (0 ∷ 4 ∷ 7 ∷ []) n → (n ≡ 0) ⊎ ((n ≡ 4) ⊎ (n ≡ 7))
load_list n (zero, within, is) = inl (sym is)
load_list n (suc zero, within, is) = inr (inl (sym is))
load_list n (suc (suc zero), within, is) = inr (inr (sym is))
load_list n (suc (suc (suc k)), within, is) = absurd (omega (arith, within))

load_not : (n m : ℕ) → (n ≡ 0) ⊎ ((n ≡ 4) ⊎ (n ≡ 7)) → n ≡ m → m ≢ 0 → m ≢ 4 → m ≢ 7 → ⊥
load_not n m (inl is) same none four seven = none (sym same ∙ is)
load_not n m (inr (inl is)) same none four seven = four (sym same ∙ is)
load_not n m (inr (inr is)) same none four seven = seven (sym same ∙ is)

pub load_done : (n : ℕ) → Contains (0 ∷ 4 ∷ 7 ∷ []) n → n ≢ 4 → (n ≡ 0) ⊎ (n ≡ 7)
load_done n ends sink = by (load_list n ends) where
  by : (n ≡ 0) ⊎ ((n ≡ 4) ⊎ (n ≡ 7)) → (n ≡ 0) ⊎ (n ≡ 7)
  by (inl is) = inl is
  by (inr (inl is)) = absurd (sink is)
  by (inr (inr is)) = inr is

-- neither the source nor a disk is asked
pub source_unasked : (end : Result (Unit {0}) Halt) (n : ℕ) → Contains (0 ∷ 4 ∷ 7 ∷ []) (status_of end)
    → ReadCause end n n
source_unasked end n ends = unread_causes end n
    (λ is. load_not (status_of end) 3 (load_list (status_of end) ends) (ap status_of is) (λ e. omega (arith, e))
    (λ e. omega (arith, e)) (λ e. omega (arith, e)))

untouched_causes : (end : Result (Unit {0}) Halt) (n : Faults) → end ≢ Err DiskFault → DiskCause end n n
untouched_causes (Ok done) n other = refl
untouched_causes (Err (BadLine number)) n other = refl
untouched_causes (Err ReadFault) n other = refl
untouched_causes (Err WriteFault) n other = refl
untouched_causes (Err DiskFault) n other = absurd (other refl)
untouched_causes (Err (Damaged side number)) n other = refl
untouched_causes (Err NoMemory) n other = refl
untouched_causes (Err (Limit number)) n other = refl
untouched_causes (Err (Rotated generation)) n other = refl
untouched_causes (Err (DamagedInput number)) n other = refl

-- disks that nobody asks
pub same_go_on : {D : Type 0} (at : D → DiskAt) (left right : D) (end : Result (Unit {0}) Halt)
    → DiskCause end (counts_of at left right) (counts_of at left right) → DisksGoOn at left right end left right
same_go_on at left right end cause = record {
  count = cause;
  left_time = unmoved at left;
  right_time = unmoved at right;
  left_telling = (λ told. told, λ told. told);
  right_telling = (λ told. told, λ told. told);
}

pub disks_unasked : (end : Result (Unit {0}) Halt) (n : Faults) → Contains (0 ∷ 4 ∷ 7 ∷ []) (status_of end)
    → DiskCause end n n
disks_unasked end n ends = untouched_causes end n
    (λ is. load_not (status_of end) 5 (load_list (status_of end) ends) (ap status_of is) (λ e. omega (arith, e))
    (λ e. omega (arith, e)) (λ e. omega (arith, e)))

-- ---- of what is followed

-- no disk is asked
pub disks_unfollowed : (end : Result (Unit {0}) Halt) (read : List ℕ) (left : Option (List ℕ)) (text : List ℕ)
    → FollowsTo end read left text → (n : Faults) → DiskCause end n n
disks_unfollowed end read left text h n = untouched_causes end n
    (λ is. absurd (subst (λ (e : Result (Unit {0}) Halt). FollowsTo e read left text) is h).1)

-- no more is taken than is followed, and one byte more
pub taken_followed : (end : Result (Unit {0}) Halt) (read : List ℕ) (left : Option (List ℕ)) (text : List ℕ)
    → FollowsTo end read left text → length read ≤ FED_MOST + 1
taken_followed (Ok done) read left text h = let few = h.few in omega arith
taken_followed (Err WriteFault) read left text h = let few = h.few in omega arith
taken_followed (Err (Limit number)) read left text h = omega (arith, h.1)
taken_followed (Err (BadLine n)) read left text h = absurd h.1
taken_followed (Err ReadFault) read left text h = omega (arith, h.0)
taken_followed (Err DiskFault) read left text h = absurd h.1
taken_followed (Err (Damaged side number)) read left text h = absurd h.1
taken_followed (Err (DamagedInput number)) read left text h = omega (arith, h.0)
taken_followed (Err NoMemory) read left text h = omega (arith, h.0)
taken_followed (Err (Rotated generation)) read left text h = omega (arith, h.0)

-- ---- of a state

pub state_done : (n : ℕ) → Contains (0 ∷ 4 ∷ 5 ∷ 7 ∷ []) n → n ≢ 4 → n ≢ 5 → (n ≡ 0) ⊎ (n ≡ 7)
state_done n (zero, within, is) sink disk = inl (sym is)
state_done n (suc zero, within, is) sink disk = absurd (sink (sym is))
state_done n (suc (suc zero), within, is) sink disk = absurd (disk (sym is))
state_done n (suc (suc (suc zero)), within, is) sink disk = inr (sym is)
state_done n (suc (suc (suc (suc k))), within, is) sink disk = absurd (omega (arith, within))

-- ---- of an audit

-- of the first generation
pub audit_done : (s : State) (commands : List Command) (end : Result (Unit {0}) Halt) (text : List ℕ) → s.generation ≡ 1
    → IsAuditOf s commands end text → ((number : ℕ) → reviewed s.limit commands ≡ Err (review.Limit number) → ⊥)
    → status_of end ≢ 4 → status_of end ≢ 5 → (status_of end ≡ 0) ⊎ (status_of end ≡ 7)
audit_done s commands (Ok done) text first h within_limits sink disk = inl refl
audit_done s commands (Err (BadLine n)) text first h within_limits sink disk = absurd h
audit_done s commands (Err ReadFault) text first h within_limits sink disk = absurd h
audit_done s commands (Err WriteFault) text first h within_limits sink disk = absurd (sink refl)
audit_done s commands (Err DiskFault) text first h within_limits sink disk = absurd (disk refl)
audit_done s commands (Err (Damaged side number)) text first h within_limits sink disk = absurd h
audit_done s commands (Err NoMemory) text first h within_limits sink disk = inr refl
audit_done s commands (Err (Limit number)) text first h within_limits sink disk = absurd (within_limits number h.1)
audit_done s commands (Err (Rotated generation)) text first h within_limits sink disk =
    absurd (omega (arith, first, h.0))
audit_done s commands (Err (DamagedInput number)) text first h within_limits sink disk = absurd h

-- of a later one
pub rotated_done : (s : State) (commands : List Command) (end : Result (Unit {0}) Halt) (text : List ℕ)
    → 1 < s.generation → IsAuditOf s commands end text → status_of end ≢ 5 → (status_of end ≡ 9) ⊎ (status_of end ≡ 7)
rotated_done s commands (Ok done) text later h disk = absurd (omega (arith, later, h.0.0))
rotated_done s commands (Err (BadLine n)) text later h disk = absurd h
rotated_done s commands (Err ReadFault) text later h disk = absurd h
rotated_done s commands (Err WriteFault) text later h disk = absurd (omega (arith, later, h.0.0))
rotated_done s commands (Err DiskFault) text later h disk = absurd (disk refl)
rotated_done s commands (Err (Damaged side number)) text later h disk = absurd h
rotated_done s commands (Err NoMemory) text later h disk = inr refl
rotated_done s commands (Err (Limit number)) text later h disk = absurd (omega (arith, later, h.0.0))
rotated_done s commands (Err (Rotated generation)) text later h disk = inl refl
rotated_done s commands (Err (DamagedInput number)) text later h disk = absurd h
