-- The accounts with an accepted change, in order.
use Rattle.std.proofs.Common.{◌≡◌, ℕ, zero, suc, ◌+◌, ◌<◌, ◌≤◌, Bool, true, false, cond, eqb, List, [], ◌∷◌, refl, sym, ap, ◌∙◌, arith}
use Rattle.std.specs.Prelude.{filter, fold, nat_lt, ◌==◌}
use Rattle.std.specs.List.{range_with_len}
use Rattle.std.specs.BTreeSet.{insert_key}
use Rattle.std.specs.Ordering.{nat_cmp, match_ordering}
use Rattle.std.specs.declared.cmp.Ordering.TheVariants.{Less, Equal, Greater}
use Rattle.std.proofs.lemmas.Bool.{eqb-true, eqb-false}
use Rattle.std.proofs.lemmas.Bool.Decides.{nat_tests}
use Rattle.liq_fees.specs.Happened.{Happened, Fee, changes_of}
use Rattle.liq_fees.specs.Kept.{change_by}
use Rattle.liq_text_staking.specs.Paid.{Fees}
use Rattle.liq_text_staking.specs.Asked.{shared}
use Rattle.liq_text_staking.specs.Staked.{stakers_below}

from : ℕ → ℕ → (ℕ → Bool) → List ℕ
from low n test = filter test (range_with_len low n)

-- ---- the same test, as far as it is tried

same_from : (n low : ℕ) (p q : ℕ → Bool) → ((k : ℕ) → low ≤ k → p k ≡ q k) → from low n p ≡ from low n q
unfolding from
same_from zero low p q h = refl
same_from (suc n) low p q h =
    let more = same_from n (low + 1) p q (λ k le. h k (omega (arith, le))) in
    ap (λ b. cond b (low ∷ from (low + 1) n p) (from (low + 1) n p)) (h low (omega arith))
    ∙ ap (λ (rest : List ℕ). cond (q low) (low ∷ rest) rest) more

-- ---- one more account

insert_first : (key : ℕ) (n low : ℕ) (p : ℕ → Bool) → key < low → insert_key nat_cmp (from low n p) key
    ≡ key ∷ from low n p
unfolding from
insert_first key zero low p lt = refl
insert_first key (suc n) low p lt = by (p low) (insert_first key n (low + 1) p (omega (arith, lt))) where
  less : nat_cmp key low ≡ Less
  less = grind (arith, nat_tests, lt)

  by : (b : Bool) → insert_key nat_cmp (from (low + 1) n p) key ≡ key ∷ from (low + 1) n p
      → insert_key nat_cmp (cond b (low ∷ from (low + 1) n p) (from (low + 1) n p)) key
      ≡ key ∷ cond b (low ∷ from (low + 1) n p) (from (low + 1) n p)
  by true rest = ap (λ o. match_ordering o (key ∷ low ∷ from (low + 1) n p) (low ∷ from (low + 1) n p) (low
      ∷ insert_key nat_cmp (from (low + 1) n p) key)) less
  by false rest = rest

-- the test that a key passes too
abbrev with_key : ℕ → (ℕ → Bool) → ℕ → Bool
with_key key p k = cond (key == k) true (p k)

-- a key in the place of the first number
module _ (key low : ℕ) (p : ℕ → Bool) (rest more : List ℕ) where
  here : (key ≡ low) → more ≡ rest → insert_key nat_cmp rest key ≡ key ∷ rest
      → insert_key nat_cmp (cond (p low) (low ∷ rest) rest) key ≡ cond (with_key key p low) (low ∷ more) more
  here same others first = by (p low) where
    found : (key == low) ≡ true
    found = grind (arith, nat_tests, same)

    equal : nat_cmp key low ≡ Equal
    equal = grind (arith, nat_tests, same)

    right : (b : Bool) → cond (cond (key == low) true b) (low ∷ more) more ≡ low ∷ rest
    right b = ap (λ t. cond (cond t true b) (low ∷ more) more) found ∙ ap (λ (ks : List ℕ). low ∷ ks) others

    by : (b : Bool) → insert_key nat_cmp (cond b (low ∷ rest) rest) key ≡ cond (cond (key == low) true b) (low
        ∷ more) more
    by true = ap (λ o. match_ordering o (key ∷ low ∷ rest) (low ∷ rest) (low ∷ insert_key nat_cmp rest key)) equal
        ∙ sym (right true)
    by false = first ∙ ap (λ k. k ∷ rest) same ∙ sym (right false)

  behind : low < key → insert_key nat_cmp rest key ≡ more
      → insert_key nat_cmp (cond (p low) (low ∷ rest) rest) key ≡ cond (with_key key p low) (low ∷ more) more
  behind less later = by (p low) where
    other : (key == low) ≡ false
    other = grind (arith, nat_tests, less)

    greater : nat_cmp key low ≡ Greater
    greater = grind (arith, nat_tests, less)

    by : (b : Bool) → insert_key nat_cmp (cond b (low ∷ rest) rest) key ≡ cond (cond (key == low) true b) (low
        ∷ more) more
    by true =
        ap (λ o. match_ordering o (key ∷ low ∷ rest) (low ∷ rest) (low ∷ insert_key nat_cmp rest key)) greater
        ∙ ap (λ (ks : List ℕ). low ∷ ks) later
        ∙ ap (λ t. cond (cond t true true) (low ∷ more) more) (sym other)
    by false = later ∙ ap (λ t. cond (cond t true false) (low ∷ more) more) (sym other)

other_later : (j k : ℕ) → j < k → (j == k) ≡ false
other_later j k h = grind (arith, nat_tests, h)

inserted : (key : ℕ) (n low : ℕ) (p : ℕ → Bool) → low ≤ key → key < low + n → insert_key nat_cmp (from low n p) key
    ≡ from low n (with_key key p)
unfolding from
inserted key zero low p le lt = absurd (omega (arith, le, lt))
inserted key (suc n) low p le lt = by (key == low) refl (λ less. inserted key n (low + 1) p (omega (arith, less))
    (omega (arith, lt))) where
      by : (found : Bool) → (key == low) ≡ found → (low < key → insert_key nat_cmp (from (low + 1) n p) key
          ≡ from (low + 1) n (with_key key p))
          → insert_key nat_cmp (cond (p low) (low ∷ from (low + 1) n p) (from (low + 1) n p)) key
          ≡ cond (with_key key p low) (low ∷ from (low + 1) n (with_key key p)) (from (low + 1) n (with_key key p))
      by true is later =
          let same = eqb-true key low is in
          here key low p (from (low + 1) n p) (from (low + 1) n (with_key key p)) same
          (same_from n (low + 1) (with_key key p) p (λ k high. ap (λ t. cond t true (p k)) (other_later key k (omega (
            arith,
            same,
            high,
          )))))
          (insert_first key n (low + 1) p (omega (arith, same)))
      by false is later =
          let not_same = eqb-false key low is in
          let less : low < key = omega (arith, le, not_same) in
          behind key low p (from (low + 1) n p) (from (low + 1) n (with_key key p)) less (later less)

-- ---- what happens

pub same_stakers : (n : ℕ) (past : List Happened) (fee : Fees) → stakers_below n (shared past fee)
    ≡ stakers_below n past
unfolding stakers_below
same_stakers n past fee = by (eqb (fee.0 + fee.1) 0) where
  by : (none : Bool) → stakers_below n (cond none past (Fee fee.0 fee.1 ∷ past)) ≡ stakers_below n past
  by true = refl
  by false = refl

pub all_same_stakers : (n : ℕ) (fees : List Fees) (past : List Happened) → stakers_below n (fold shared past fees)
    ≡ stakers_below n past
all_same_stakers n [] past = refl
all_same_stakers n (fee ∷ fees) past = all_same_stakers n fees (shared past fee) ∙ same_stakers n past fee

some : (n : ℕ) → true ≡ nat_lt 0 (n + 1)
some n = grind (arith, nat_tests)

counted : (same : Bool) (n : ℕ) → cond same true (nat_lt 0 n) ≡ nat_lt 0 (cond same (n + 1) n)
counted true n = some n
counted false n = refl

-- an account with a change has one more, the others have as many
counts : (account amount : ℕ) (out : Bool) (past : List Happened) (k : ℕ)
    → with_key account (λ k. nat_lt 0 (changes_of k past)) k ≡ nat_lt 0 (changes_of k (change_by account amount out
    ∷ past))
counts account amount true past k = counted (account == k) (changes_of k past)
counts account amount false past k = counted (account == k) (changes_of k past)

pub one_more_staker : (n account amount : ℕ) (out : Bool) (past : List Happened) → account < n
    → insert_key nat_cmp (stakers_below n past) account ≡ stakers_below n (change_by account amount out ∷ past)
unfolding stakers_below from
one_more_staker n account amount out past lt =
    inserted account n 0 (λ k. nat_lt 0 (changes_of k past)) (omega arith) (omega (arith, lt))
    ∙ same_from n 0 (with_key account (λ k. nat_lt 0 (changes_of k past)))
    (λ k. nat_lt 0 (changes_of k (change_by account amount out ∷ past))) (λ k le. counts account amount out past k)

none_from : (n low : ℕ) → from low n (λ k. nat_lt 0 0) ≡ []
unfolding from
none_from zero low = refl
none_from (suc n) low = none_from n (low + 1)

pub no_stakers : (n : ℕ) → stakers_below n [] ≡ []
unfolding stakers_below from
no_stakers n = none_from n 0
