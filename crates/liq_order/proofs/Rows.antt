-- What is found among rows in ascending accounts, and what an edit of them does.
use Rattle.std.proofs.Common.{◌≡◌, ◌≢◌, ℕ, zero, suc, ◌+◌, ◌-◌, ◌<◌, ◌≤◌, cond, eqb, List, [], ◌∷◌, length, get_or, set, Some, None, Result, Ok, Err, IfOk, IfErr, refl, sym, ap, subst, arith}
use Rattle.std.specs.List.{insert}
use Rattle.std.specs.List.Sorted.{IsSearchInRange, IsBinarySearchResult, IsNonDecreasingBy}
use Rattle.std.specs.Ordering.{nat_cmp, ordering_index}
use Rattle.std.proofs.lemmas.Cmp.{ranked}
use Rattle.std.proofs.lemmas.List.Sorted.{IsNonDecreasingBy-from_default}
use Rattle.std.proofs.lemmas.List.Edits.{length-insert, get_or-insert_below, get_or-insert_at, get_or-insert_above}
use Rattle.std.proofs.lemmas.Bool.Decides.{nat_tests}
use Rattle.liq_order.specs.declared.places.NodeNo.{NodeNo}
use Rattle.liq_order.specs.Accounts.{Row, row_of, account_at, IsStrict, IsRowAt, IsGapFor}

abbrev pub nowhere : Row
nowhere = (0, record { 0 = 0 })

-- no row before an index has the account
abbrev NoneBefore : List Row → ℕ → ℕ → Type 0
NoneBefore l k i = (j : ℕ) → j < i → account_at l j ≢ k

tail_before : (x : Row) (l : List Row) (k i : ℕ) → NoneBefore (x ∷ l) k (suc i) → NoneBefore l k i
tail_before x l k i h j lt = h (suc j) (omega (arith, lt))

tail_at : (x : Row) (l : List Row) (k i : ℕ) → IsRowAt (x ∷ l) k (suc i) → IsRowAt l k i
tail_at x l k i h = record { in_range = omega (arith, h.in_range); has_account = h.has_account }

absent : (l : List Row) (k : ℕ) → NoneBefore l k (length l) → row_of l k ≡ None
absent [] k h = refl
absent (x ∷ l) k h = grind (arith, nat_tests, h 0 (omega arith), absent l k (tail_before x l k _ h))

present : (l : List Row) (k i : ℕ) → IsRowAt l k i → NoneBefore l k i → row_of l k ≡ Some (get_or l i nowhere).1
present [] k i at h = absurd (omega (arith, at.in_range))
present (x ∷ l) k zero at h = grind (arith, nat_tests, at.has_account)
present (x ∷ l) k (suc i) at h = grind (
  arith,
  nat_tests,
  h 0 (omega arith),
  present l k i (tail_at x l k i at)
      (tail_before x l k i h),
)

-- what is found after an edit
abbrev pub Puts : List Row → List Row → ℕ → NodeNo → Type 0
Puts old new k v = (q : ℕ) → row_of new q ≡ cond (eqb k q) (Some v) (row_of old q)

put_over : (l : List Row) (k : ℕ) (v : NodeNo) (i : ℕ) → IsRowAt l k i → NoneBefore l k i → Puts l (set l i (k, v)) k v
put_over [] k v i at h q = absurd (omega (arith, at.in_range))
put_over (x ∷ l) k v zero at h q = grind (arith, nat_tests, at.has_account)
put_over (x ∷ l) k v (suc i) at h q = grind (
  arith,
  nat_tests,
  h 0 (omega arith),
  put_over l k v i (tail_at x l k i at)
      (tail_before x l k i h) q,
)

put_more : (l : List Row) (k : ℕ) (v : NodeNo) (i : ℕ) → NoneBefore l k i → Puts l (insert l i (k, v)) k v
put_more l k v zero h q = refl
put_more [] k v (suc i) h q = refl
put_more (x ∷ l) k v (suc i) h q = grind (
  arith,
  nat_tests,
  h 0 (omega arith),
  put_more l k v i (tail_before x l k i h) q,
)

module _ (l : List Row) (strict : IsStrict l) (k : ℕ) where
  rise : IsNonDecreasingBy (λ row. ordering_index (nat_cmp row.0 k)) l
  rise = IsNonDecreasingBy-from_default (λ row. ordering_index (nat_cmp row.0 k)) l nowhere (λ i j le in_range.
      let keys_rise : account_at l i ≤ account_at l j =
      grind (arith, strict i j, λ (same : i ≡ j). ap (account_at l) same) in
      grind (arith, nat_tests))

  pub searched : (r : Result ℕ ℕ) → IsSearchInRange r (length l) → IsBinarySearchResult (λ row. nat_cmp row.0 k) l r
      → record { found : IfOk r (IsRowAt l k); absent : IfErr r (IsGapFor l k) }
  searched (Ok at) in_range equal =
      record { found = record { in_range = in_range; has_account = ranked _ k _ (sym (equal nowhere)) }; absent = tt }
  searched (Err at) in_range parted = record {
    found = tt;
    absent = record {
      in_range = in_range;
      smaller_before = λ j lt. ranked _ k _ (sym ((parted rise).0 j nowhere (omega arith) lt));
      greater_after = λ j le lt. ranked _ k _ (sym ((parted rise).1 j nowhere le lt));
    };
  }

module _ (l : List Row) (strict : IsStrict l) (k at : ℕ) (is_at : IsRowAt l k at) where
  none_before : NoneBefore l k at
  none_before j lt same = omega (arith, strict j at lt is_at.in_range, is_at.has_account)

  pub row_at : row_of l k ≡ Some (get_or l at nowhere).1
  row_at = present l k at is_at none_before

  pub over : (v : NodeNo) → Puts l (set l at (k, v)) k v
  over v = put_over l k v at is_at none_before

module _ (l : List Row) (k at : ℕ) (gap : IsGapFor l k at) where
  pub row_gap : row_of l k ≡ None
  row_gap = absent l k (λ j lt same. grind (arith, gap.smaller_before j, gap.greater_after j))

  pub more : (v : NodeNo) → Puts l (insert l at (k, v)) k v
  more v = put_more l k v at (λ j lt same. omega (arith, gap.smaller_before j lt))

  pub strict_insert : (v : NodeNo) → IsStrict l → IsStrict (insert l at (k, v))
  strict_insert v strict i j lt in_range =
      let new = insert l at (k, v) in
      let account = λ (row : Row). row.0 in
      let length_new = length-insert l at (k, v) gap.in_range in
      let below : (i : ℕ) → i < at → account_at new i ≡ account_at l i =
      λ i less. ap account (get_or-insert_below l at (k, v) nowhere i less gap.in_range) in
      let here : (i : ℕ) → i ≡ at → account_at new i ≡ k =
      λ i is. rw is (ap account (get_or-insert_at l at (k, v) nowhere gap.in_range)) in
      let above : (i : ℕ) → at < i → account_at new i ≡ account_at l (i - 1) = λ i less. subst (λ q. account_at new q
      ≡ account_at l (i - 1)) {x = i - 1 + 1} (omega arith) (ap account (get_or-insert_above l at (k, v) nowhere
      (i - 1) (omega arith) gap.in_range)) in
      grind (
        arith,
        below i,
        here i,
        above i,
        below j,
        here j,
        above j,
        strict i j,
        strict i (j - 1),
        strict (i - 1) (j - 1),
        gap.smaller_before i,
        gap.greater_after (j - 1),
      )
