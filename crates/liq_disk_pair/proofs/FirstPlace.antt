-- The gate at place 0: what it decides, and what any byte there leaves.
use Rattle.std.proofs.Common.{◌≡◌, ◌⊎◌, inl, inr, ⊎_elim, ℕ, zero, suc, ◌<◌, ◌≤◌, List, [], ◌∷◌, length, get_or, Ok, Bool, true, false, refl, sym, ◌∙◌, ap, subst, arith}
use Rattle.std.proofs.lemmas.Bool.Decides.{nat_tests}
use Rattle.liq_types.specs.declared.requests.Command.{Command}
use Rattle.liq_types.specs.State.{State}
use Rattle.liq_outside.specs.Disk.{overwritten}
use Rattle.liq_journal.specs.Crash.{IsClosed, HasGate, SettleLeaves, Stands}
use Rattle.liq_journal.specs.Opened.{IsUnshut, OpenLeaves}
use Rattle.liq_disk_header.specs.Layout.{least_header}
use Rattle.liq_journal.specs.Written.{Absent, Open, Written, end_of, found_on, is_generation, opened}
use Rattle.liq_journal.proofs.Heading.{absent_found, has_generation, is_open}
use Rattle.liq_disk_pair.specs.Kept.{HoldsRotation, IsFirst, IsOlder}
use Rattle.liq_disk_pair.specs.Pair.{standing}
use Rattle.liq_disk_pair.specs.Replay.{outcome}
use Rattle.liq_disk_pair.proofs.OneByte.{byte_there, written_again}
use Rattle.liq_disk_pair.proofs.Standings.{IsBehind, nothing, older, standing_absent, standing_open}

-- ---- the gate

pub gate_open_or_not : (bytes : List ℕ) → (get_or bytes 0 0 ≡ 1) ⊎ (get_or bytes 0 0 ≡ 1 → ⊥)
gate_open_or_not bytes = by (get_or bytes 0 0)
  where
    by : (n : ℕ) → (n ≡ 1) ⊎ (n ≡ 1 → ⊥)
    by zero = inr (λ is. absurd (omega arith))
    by (suc zero) = inl refl
    by (suc (suc n)) = inr (λ is. absurd (omega arith))

pub short_absent : (odd : Bool) (bytes : List ℕ) → length bytes < least_header → found_on odd bytes ≡ Absent
short_absent odd bytes short = absent_found odd bytes (grind (arith, nat_tests))

pub unopened_absent : (odd : Bool) (bytes : List ℕ) → (get_or bytes 0 0 ≡ 1 → ⊥) → found_on odd bytes ≡ Absent
unopened_absent odd bytes unopened = absent_found odd bytes (grind (arith, nat_tests))

pub closed_absent : (odd : Bool) (bytes : List ℕ) → IsClosed bytes → found_on odd bytes ≡ Absent
closed_absent odd bytes (inl short) = short_absent odd bytes short
closed_absent odd bytes (inr shut) = unopened_absent odd bytes (λ is. let no = sym shut.1 ∙ is in absurd (cc (no)))

pub absent_isnt_open : (odd : Bool) (bytes : List ℕ) (w : Written) → found_on odd bytes ≡ Absent
    → found_on odd bytes ≡ Open w → ⊥
absent_isnt_open odd bytes w absent found = let no = sym absent ∙ found in absurd (cc (no))

-- where no other byte than 0 is at place 0
pub closed_where : (bytes : List ℕ) → (IsUnshut bytes → ⊥) → IsClosed bytes
closed_where [] shut = inl (omega arith)
closed_where (zero ∷ bytes) shut = inr (omega arith, refl)
closed_where (suc n ∷ bytes) shut = absurd (shut (record { there = omega arith; isnt = λ is. absurd (omega arith) }))

-- an open disk has its gate
pub gate_is_open : (odd : Bool) (bytes : List ℕ) (w : Written) → found_on odd bytes ≡ Open w → get_or bytes 0 0 ≡ 1
gate_is_open odd bytes w found = let gate = (is_open odd bytes w found).headed.gate in grind (arith, nat_tests)

pub long_enough : (odd : Bool) (bytes : List ℕ) (w : Written) → found_on odd bytes ≡ Open w
    → least_header ≤ length bytes
long_enough odd bytes w found = let long = (is_open odd bytes w found).headed.long in omega arith

pub opened_already : (bytes : List ℕ) → get_or bytes 0 0 ≡ 1 → opened 0 bytes ≡ bytes
opened_already [] is = absurd (cc (is))
opened_already (byte ∷ bytes) is = ap (λ (b : ℕ). b ∷ bytes) (sym is)

pub open_opened : (odd : Bool) (bytes : List ℕ) (w : Written) → found_on odd bytes ≡ Open w → opened 0 bytes ≡ bytes
open_opened odd bytes w found = opened_already bytes (gate_is_open odd bytes w found)

-- ---- any byte there

pub opened_again : (byte : ℕ) (bytes : List ℕ) → opened 0 (overwritten bytes 0 (byte ∷ [])) ≡ opened 0 bytes
opened_again byte bytes = written_again 0 byte bytes (omega arith) 1

pub older_with : (odd : Bool) (bytes : List ℕ) (generation byte : ℕ) → IsOlder odd bytes generation
    → IsOlder odd (overwritten bytes 0 (byte ∷ [])) generation
older_with odd bytes generation byte is = record {
  written = is.written;
  stands = subst (λ (l : List ℕ). Stands odd l is.written) (sym (opened_again byte bytes)) is.stands;
  smaller = is.smaller;
  state = is.state;
  replays = is.replays;
}

pub first_with : (odd : Bool) (bytes : List ℕ) (byte : ℕ) → IsFirst odd bytes
    → IsFirst odd (overwritten bytes 0 (byte ∷ []))
first_with odd bytes byte is = record {
  written = is.written;
  stands = subst (λ (l : List ℕ). Stands odd l is.written) (sym (opened_again byte bytes)) is.stands;
  first = is.first;
  limit_is = is.limit_is;
  none = is.none;
}

-- one that opens no gate
pub rotation_with : (odd : Bool) (bytes : List ℕ) (s : State) (c : Command) (byte : ℕ) → HoldsRotation odd bytes s c
    → (byte ≡ 1 → ⊥)
    → HoldsRotation odd (overwritten bytes 0 (byte ∷ [])) s c
rotation_with odd bytes s c byte is unopened = record {
  written = is.written;
  stands = subst (λ (l : List ℕ). Stands odd l is.written) (sym (opened_again byte bytes)) is.stands;
  none = is.none;
  rotation = is.rotation;
  shut = λ gate. unopened (sym (byte_there 0 byte bytes (omega arith)) ∙ gate);
}

-- where no 0 is there
pub closed_with : (bytes : List ℕ) (byte : ℕ) → IsClosed bytes → (HasGate 0 bytes → ⊥)
    → IsClosed (overwritten bytes 0 (byte ∷ []))
closed_with [] byte closed unshut = inl (omega arith)
closed_with (first ∷ bytes) byte (inl short) unshut = inl short
closed_with (first ∷ bytes) byte (inr shut) unshut = absurd (unshut (record { there = shut.0; shut = shut.1 }))

-- a disk whose gate is shut stays closed, where no other byte may be written there
pub closed_settled : (held bytes : List ℕ) → (IsUnshut held → ⊥) → SettleLeaves 0 held bytes → IsClosed bytes
closed_settled held bytes shut (inl same) = subst (λ (l : List ℕ). IsClosed l) (sym same) (closed_where held shut)
closed_settled held bytes shut (inr (no_gate, has)) = subst (λ (l : List ℕ). IsClosed l) (sym has.1)
    (closed_with held has.0 (closed_where held shut) no_gate)

pub unshut_no_gate : (bytes : List ℕ) → IsUnshut bytes → HasGate 0 bytes → ⊥
unshut_no_gate bytes unshut gate = unshut.isnt gate.shut

-- ---- the disk beside

-- it is closed, or older
abbrev pub IsAside : Bool → List ℕ → ℕ → Type 0
IsAside odd bytes generation = IsClosed bytes ⊎ IsOlder odd bytes generation

pub is_behind : (odd : Bool) (bytes : List ℕ) (generation : ℕ) → IsAside odd bytes generation
    → IsBehind generation (standing odd bytes)
is_behind odd bytes generation (inl closed) = nothing (standing_absent odd bytes (closed_absent odd bytes closed))
is_behind odd bytes generation (inr is) = ⊎_elim
    (λ gate. older is.written.generation is.state is.smaller (standing_open odd bytes is.written is.state
    (ap (found_on odd) (sym (opened_already bytes gate)) ∙ is.stands.found) is.replays))
    (λ shut. nothing (standing_absent odd bytes (unopened_absent odd bytes shut)))
    (gate_open_or_not bytes)

-- an older one that is open has a 0 behind its records
older_ends : (odd : Bool) (bytes : List ℕ) (generation : ℕ) (w : Written) → IsOlder odd bytes generation
    → found_on odd bytes ≡ Open w → HasGate (end_of w) bytes
older_ends odd bytes generation w is found =
    let same : opened 0 bytes ≡ bytes = open_opened odd bytes w found in
    let both : Open is.written ≡ Open w = sym is.stands.found ∙ ap (found_on odd) same ∙ found in
    let written : is.written ≡ w = cc (both) in
    let stands : Stands odd bytes w = subst (λ (v : Written). Stands odd bytes v) written
    (subst (λ (l : List ℕ). Stands odd l is.written) same is.stands) in
    record { there = stands.ended.there; shut = stands.ended.is }

-- an opening leaves it so
pub aside_left : (odd : Bool) (held bytes : List ℕ) (generation : ℕ) → IsAside odd held generation
    → OpenLeaves odd held bytes → IsAside odd bytes generation
aside_left odd held bytes generation aside (inl same) = subst (λ (l : List ℕ). IsAside odd l generation)
    (sym same) aside
aside_left odd held bytes generation (inl closed) (inr (place, inl some, has)) =
    absurd (absent_isnt_open odd held some.0 (closed_absent odd held closed) some.1)
aside_left odd held bytes generation (inr is) (inr (place, inl some, has)) =
    absurd (some.3 (subst (λ (n : ℕ). HasGate n held) (sym some.2) (older_ends odd held generation some.0 is some.1)))
aside_left odd held bytes generation aside (inr (place, inr none, has)) =
    let is : bytes ≡ overwritten held 0 (has.0 ∷ []) = has.1 ∙ ap (λ (n : ℕ). overwritten held n (has.0 ∷ [])) none.1 in
    subst (λ (l : List ℕ). IsAside odd l generation) (sym is)
    (⊎_elim (λ closed. inl (closed_with held has.0 closed (unshut_no_gate held none.2)))
    (λ older_one. inr (older_with odd held generation has.0 older_one)) aside)

-- a creation on it that a stop cut short leaves it so, where nothing of it is seen
pub aside_settled : (odd : Bool) (held bytes : List ℕ) (generation : ℕ) → IsAside odd held generation
    → SettleLeaves 0 held bytes → IsAside odd bytes generation
aside_settled odd held bytes generation aside (inl same) =
    subst (λ (l : List ℕ). IsAside odd l generation) (sym same) aside
aside_settled odd held bytes generation aside (inr (unshut, has)) =
    subst (λ (l : List ℕ). IsAside odd l generation) (sym has.1) (⊎_elim
    (λ closed. inl (closed_with held has.0 closed unshut))
    (λ older_one. inr (older_with odd held generation has.0 older_one))
    aside)

-- one that holds a rotation is none
pub rotation_behind : (odd : Bool) (bytes : List ℕ) (generation : ℕ) (s : State) (c : Command)
    → HoldsRotation odd bytes s c → IsBehind generation (standing odd bytes)
rotation_behind odd bytes generation s c is = nothing (standing_absent odd bytes (unopened_absent odd bytes is.shut))

-- an undamaged open disk of a smaller generation, with a 0 behind its records
pub open_older : (odd : Bool) (bytes : List ℕ) (w : Written) (s : State) (generation : ℕ) → Stands odd bytes w
    → outcome w ≡ Ok s → w.generation < generation → IsOlder odd bytes generation
open_older odd bytes w s generation stands came less = record {
  written = w;
  stands = subst (λ (l : List ℕ). Stands odd l w) (sym (open_opened odd bytes w stands.found)) stands;
  smaller = less;
  state = s;
  replays = came;
}

-- ---- generation 1

-- the right disk has no generation 1
pub first_is_left : (bytes : List ℕ) → IsFirst false bytes → ⊥
first_is_left bytes is =
    let no : false ≡ true = sym (ap (is_generation false) is.first)
    ∙ has_generation false (opened 0 bytes) is.written is.stands.found in
    absurd (cc (no))
