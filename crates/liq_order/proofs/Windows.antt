-- Where a row can be among rows in ascending accounts.
use Rattle.std.proofs.Common.{◌≡◌, ℕ, zero, suc, ◌+◌, ◌-◌, ◌<◌, ◌≤◌, min, List, length, take, drop, Result, Ok, Err, IfOk, IfErr, sym, ap, ◌∙◌, arith, length-take, length-drop}
use Rattle.std.specs.List.Sorted.{IsSearchInRange, IsBinarySearchResult}
use Rattle.std.specs.Ordering.{nat_cmp}
use Rattle.std.proofs.lemmas.List.{get_or-take, get_or-drop}
use Rattle.liq_order.specs.Accounts.{Row, account_at, IsStrict, IsRowAt, IsGapFor}
use Rattle.liq_order.proofs.Rows.{nowhere, searched}

module _ (l : List Row) (strict : IsStrict l) where
  rising : (i j d : ℕ) → i + d ≡ j → j < length l → account_at l i + d ≤ account_at l j
  rising i j zero same lt =
      let here : account_at l i ≡ account_at l j = ap (account_at l) (omega (arith, same)) in
      omega (arith, here)
  rising i j (suc d) same lt =
      let less = rising i (j - 1) d (omega (arith, same)) (omega (arith, lt, same)) in
      omega (arith, less, strict (j - 1) j (omega (arith, same)) lt)

  -- an account is at least as far from the first one as its row is from the first row, and so from the last
  from_first : (i : ℕ) → i < length l → account_at l 0 + i ≤ account_at l i
  from_first i lt = rising 0 i i (omega arith) lt

  from_last : (i : ℕ) → i < length l → account_at l i + (length l - 1 - i) ≤ account_at l (length l - 1)
  from_last i lt = rising i (length l - 1) (length l - 1 - i) (omega (arith, lt)) (omega (arith, lt))

  -- an account above the last one is above all
  pub above_last : (k last : ℕ) → last ≡ account_at l (length l - 1) → last < k → (j : ℕ) → j < length l
      → account_at l j < k
  above_last k last is less j lt = omega (arith, from_last j lt, is, less)

  module _
      (k first last count low high : ℕ) (some : 0 < length l) (first_is : first ≡ account_at l 0) (last_is : last
      ≡ account_at l (length l - 1)) (behind_first : first ≤ k) (before_last : k ≤ last)
      (count_is : count ≡ length l) (low_is : low ≡ count - (last - k + 1)) (high_is : high
      ≡ min count (k - first + 1)) where
    pub window : record {
      ordered : low ≤ high;
      smaller : (j : ℕ) → j < low → account_at l j < k;
      greater : (j : ℕ)
          → high ≤ j → j < length l → k < account_at l j;
    }
    window = record {
      ordered = omega (
        arith,
        from_first (length l - 1) (omega (arith, some)),
        some,
        first_is,
        last_is,
        behind_first,
        before_last,
        count_is,
        low_is,
        high_is,
      );
      smaller = λ j lt. omega (
        arith,
        from_last j (omega (arith, lt, count_is, low_is)),
        last_is,
        lt,
        before_last,
        count_is,
        low_is,
      );
      greater = λ j le lt. omega (arith, from_first j lt, first_is, le, lt, behind_first, count_is, high_is);
    }

  -- what is found in a window is what is found among all
  module _
      (k low high : ℕ) (ordered : low ≤ high) (inside : high ≤ length l) (smaller : (j : ℕ) → j < low
      → account_at l j < k)
      (greater : (j : ℕ) → high ≤ j → j < length l → k < account_at l j) where
    abbrev part : List Row
    part = take (high - low) (drop low l)

    long : length part ≡ high - low
    long = omega (arith, length-take (high - low) (drop low l), length-drop low l, ordered, inside)

    within : (j : ℕ) → j < high - low → account_at part j ≡ account_at l (low + j)
    within j lt = ap (λ (r : Row). r.0) (get_or-take (high - low) (drop low l) j nowhere lt
        ∙ get_or-drop low l j nowhere)

    part_strict : IsStrict part
    part_strict i j less lt = omega (
      arith,
      within i (omega (arith, less, lt, long)),
      within j (omega (arith, lt, long)),
      strict (low + i) (low + j) (omega (arith, less)) (omega (
        arith,
        lt,
        long,
        inside,
      )),
    )

    pub searched_within : (r : Result ℕ ℕ) → IsSearchInRange r (length (take (high - low) (drop low l)))
        → IsBinarySearchResult (λ row. nat_cmp row.0 k) (take (high - low) (drop low l)) r
        → record { found : IfOk r (λ i. IsRowAt l k (low + i)); absent : IfErr r (λ i. IsGapFor l k (low + i)) }
    searched_within r in_range by_key = among r (searched part part_strict k r in_range by_key) where
      among : (r : Result ℕ ℕ) → record { found : IfOk r (IsRowAt part k); absent : IfErr r (IsGapFor part k) }
          → record { found : IfOk r (λ i. IsRowAt l k (low + i)); absent : IfErr r (λ i. IsGapFor l k (low + i)) }
      among (Ok i) h = record {
        found = record {
          in_range = omega (arith, h.found.in_range, long, inside);
          has_account = sym (within i (omega (arith, h.found.in_range, long))) ∙ h.found.has_account;
        };
        absent = tt;
      }
      among (Err i) h = record {
        found = tt;
        absent = record {
          in_range = omega (arith, h.absent.in_range, long, inside);
          smaller_before = λ j lt. before j lt h.absent.in_range (h.absent.smaller_before (j - low));
          greater_after = λ j le lt. behind j le lt (h.absent.greater_after (j - low));
        };
      } where
        place : (j : ℕ) → low ≤ j → j < high → account_at part (j - low) ≡ account_at l j
        place j le lt = within (j - low) (omega (arith, le, lt)) ∙ ap (account_at l) (omega (arith, le))

        before : (j : ℕ) → j < low + i → i ≤ length part → (j - low < i → account_at part (j - low) < k)
            → account_at l j < k
        before j lt few h = grind (arith, smaller j, place j, h, lt, few, long)

        behind : (j : ℕ) → low + i ≤ j → j < length l → (i ≤ j - low → j - low < length part
            → k < account_at part (j - low)) → k < account_at l j
        behind j le lt h = grind (arith, greater j, place j, h, le, lt, long)
