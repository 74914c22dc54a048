-- Bytes that were taken from a source and are unread.
use Rattle.std.proofs.Common.{Result, Ok, Option, Some, ◌≡◌, ◌≢◌, ℕ, ◌+◌, ◌-◌, ◌<◌, ◌≤◌, List, [], ◌∷◌, ◌++◌, length, get_or, take, drop, suc, zero, refl, ap, sym, subst, ◌∙◌, arith, length-append}
use Rattle.std.specs.Prelude.{Contains}
use Rattle.std.specs.List.{slice_range}
use Rattle.std.proofs.lemmas.List.{drop-take, drop-drop, length-take}
use Rattle.liq_types.specs.declared.amounts.TheConstants.{LINE_BYTES}
use Rattle.liq_text_lines.specs.Lines.{IsWithinLine, IsWholeLine}
use Rattle.liq_outside.specs.declared.failed.Failed.{Failed}

pub contained_some : (xs : List ℕ) (x : ℕ) → Contains xs x → (first : ℕ) × (rest : List ℕ) × (xs ≡ first ∷ rest)
contained_some [] x h = absurd (omega (arith, h.1))
contained_some (y ∷ ys) x h = (y, ys, refl)

pub contained_rest : (y : ℕ) (ys : List ℕ) (x : ℕ) → Contains (y ∷ ys) x → y ≢ x → Contains ys x
contained_rest y ys x h apart = by h.0 h.1 h.2 where
  by : (k : ℕ) → k < length (y ∷ ys) → get_or (y ∷ ys) k x ≡ x → Contains ys x
  by zero lt e = absurd (apart e)
  by (suc k) lt e = (k, omega (arith, lt), e)

-- where a line end was taken, the next byte was
pub given : {In : Type 0} (old new : List ℕ) (result : Result (Option ℕ) Failed) (before after : In) → Contains old 10
    → ((byte : ℕ) (rest : List ℕ) → old ≡ byte ∷ rest → (result ≡ Ok (Some byte)) × (new ≡ rest) × (after ≡ before))
    → (byte : ℕ) × (result ≡ Ok (Some byte)) × (old ≡ byte ∷ new) × (after ≡ before)
given old new result before after has taken =
    let some = contained_some old 10 has in
    let t = taken some.0 some.1 some.2 in
    (some.0, t.0, some.2 ∙ ap (λ (r : List ℕ). some.0 ∷ r) (sym t.1), t.2)

-- what stands behind a front of a range
pub range_rest : (xs : List ℕ) (start n end : ℕ) → start + n ≤ end → drop n (slice_range xs start end)
    ≡ slice_range xs (start + n) end
range_rest xs start n end within =
    let rest : end - start ≡ n + (end - (start + n)) = omega (arith, within) in
    ap (λ (m : ℕ). drop n (take m (drop start xs))) rest ∙ drop-take n (end - (start + n)) (drop start xs)
    ∙ ap (λ (t : List ℕ). take (end - (start + n)) t) (drop-drop n start xs)

-- what stands behind a line that is passed
pub passed : (old chunk : List ℕ) (start size end : ℕ) → old ≡ slice_range chunk start end → start ≤ end
    → IsWholeLine size old → old ≡ take size old ++ 10 ∷ slice_range chunk (start + (size + 1)) end
passed old chunk start size end old_is ordered whole =
    let fits : start + (size + 1) ≤ end = omega (
      arith,
      ordered,
      ap length old_is,
      length-take (end - start) (drop start chunk),
      ap length whole.2,
      length-append (take size old) (10
          ∷ drop (size + 1) old),
      length-take size old,
    ) in
    whole.2 ∙ ap (λ (t : List ℕ). take size old ++ 10 ∷ t) (ap (λ (t : List ℕ). drop (size + 1) t) old_is
    ∙ range_rest chunk start (size + 1) end fits)

-- no line end stands before the first one
none_before : (front rest : List ℕ) (at : ℕ) → IsWithinLine (take at (front ++ 10 ∷ rest)) → length front < at → ⊥
none_before front rest zero within before = omega (arith, before)
none_before [] rest (suc at) within before = within.0 refl
none_before (byte ∷ front) rest (suc at) within before = none_before front rest at within.1 (omega (arith, before))

-- where the first line end stands too far behind, no line stands whole in front
pub none_whole : (bytes : List ℕ) (at size : ℕ) → IsWithinLine (take at bytes) → LINE_BYTES < at
    → IsWholeLine size bytes → ⊥
none_whole bytes at size within far whole =
    none_before (take size bytes) (drop (size + 1) bytes) at (subst (λ (t : List ℕ). IsWithinLine (take at t)) whole.2
    within) (omega (arith, far, whole.0, length-take size bytes))
