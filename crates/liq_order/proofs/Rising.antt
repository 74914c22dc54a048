-- Tight hints: for a fifth account among four, and for accounts that come in rising order.
use Rattle.std.proofs.Common.{◌≡◌, ◌≢◌, ℕ, zero, suc, ◌<◌, ◌<ℤ◌, ◌≤◌, List, [], ◌∷◌, ◌++◌, length, reverse, pos, ◌-◌, SomeIff, refl, sym, ap, ◌∙◌, subst, Some, None, Option, arith, append-nil, length-append}
use Rattle.std.specs.Prelude.{unwrap_or}
use Rattle.std.specs.List.{AllByRecursion}
use Rattle.std.specs.Ordering.{int_cmp, nat_cmp, ordering_then, MatchOrdering}
use Rattle.std.specs.declared.cmp.Ordering.{Ordering}
use Rattle.std.specs.declared.cmp.Ordering.TheVariants.{Less, Equal, Greater}
use Rattle.std.proofs.lemmas.Cmp.{int_ranked}
use Rattle.std.proofs.lemmas.Int.{ints}
use Rattle.std.proofs.lemmas.List.{reverse-append}
use Rattle.liq_types.specs.Ranked.{Ranked, rank_order, with_ranked, key_in, first_of, account_of, IsTight}
use Rattle.liq_order.specs.Examples.{entry, four, rising}
use Rattle.liq_order.proofs.Chains.{all_both, all_as}
use Rattle.liq_order.proofs.Changed.{Before, placed}
use Rattle.liq_order.proofs.Found.{key_absent}

less_key : (k n : ℕ) → k < n → int_cmp (pos k) (pos n) ≡ Less
less_key k n less = by (int_cmp (pos k) (pos n)) (int_ranked (pos k) (pos n) (int_cmp (pos k) (pos n)) refl) where
  by : (o : Ordering) → MatchOrdering o (pos k <ℤ pos n) (pos k ≡ pos n) (pos n <ℤ pos k) → o ≡ Less
  by Less h = refl
  by Equal h = absurd (omega (arith, ints, h, less))
  by Greater h = absurd (omega (arith, ints, h, less))

less_entry : (k n : ℕ) → k < n → rank_order (entry k k) (entry n n) ≡ Less
less_entry k n less = ap (λ o. ordering_then o (nat_cmp k n)) (less_key k n less)

abbrev Below : ℕ → Ranked → Type 0
Below n e = (k : ℕ) × (k < n) × (e ≡ entry k k)

all_below : (n m : ℕ) → m ≤ n → AllByRecursion (Below n) (rising m)
unfolding rising
all_below n zero le = tt
all_below n (suc m) le = all_both (Below n) (rising m) (entry m m ∷ []) (all_below n m (omega (arith, le)))
    ((m, omega (arith, le), refl), tt)

pub rising_absent : (n : ℕ) → key_in (rising n) n ≡ None
rising_absent n = key_absent (rising n) n (all_as (Below n) (λ (e : Ranked). e.1 ≢ n) (rising n)
    (λ e b same. absurd (omega (arith, b.1, sym (ap (λ (f : Ranked). f.1) b.2) ∙ same))) (all_below n n (omega arith)))

pub rising_more : (n : ℕ) → with_ranked (rising n) (entry n n) ≡ rising (suc n)
unfolding rising
rising_more n =
    ap (λ l. with_ranked l (entry n n)) (append-nil' (rising n))
    ∙ placed (rising n) [] (entry n n) (all_as (Below n) (Before (entry n n)) (rising n)
    (λ e b. ap (λ f. rank_order f (entry n n)) b.2 ∙ less_entry b.0 n b.1) (all_below n n (omega arith))) tt where
      append-nil' : (l : List Ranked) → l ≡ l ++ []
      append-nil' l = sym (append-nil l)

pub rising_length : (n : ℕ) → length (rising n) ≡ n
unfolding rising
rising_length zero = refl
rising_length (suc n) = omega (arith, length-append (rising n) (entry n n ∷ []), rising_length n)

abbrev pub before_count : ℕ → Option ℕ
before_count zero = None
before_count (suc n) = Some n

last_rising : (n : ℕ) → first_of (reverse (rising (suc n))) ≡ Some (entry n n)
unfolding rising
last_rising n = ap (λ l. first_of l) (reverse-append (rising n) (entry n n ∷ []))

no_last : first_of (reverse (rising 0)) ≡ None
unfolding rising
no_last = refl

pub rising_tight : (n : ℕ) → IsTight (rising n) (entry n n) (before_count n) None
rising_tight n = record {
  before = rising n;
  after = [];
  whole = sym (append-nil (rising n));
  prev_is = prev n;
  next_is = refl;
  above_prev = above n;
  below_next = λ f h. absurd (none h);
} where
  none : {e : Ranked} → None ≡ Some e → ⊥
  none e = cc

  one : {e f : Ranked} → Some e ≡ Some f → e ≡ f
  one e = cc

  prev : (m : ℕ) → before_count m ≡ account_of (first_of (reverse (rising m)))
  prev zero = sym (ap (λ (o : Option Ranked). account_of o) no_last)
  prev (suc m) = sym (ap (λ (o : Option Ranked). account_of o) (last_rising m))

  above : (m : ℕ) (f : Ranked) → first_of (reverse (rising m)) ≡ Some f → rank_order f (entry m m) ≡ Less
  above zero f h = absurd (none (sym no_last ∙ h))
  above (suc m) f h = subst (λ (e : Ranked). rank_order e (entry (suc m) (suc m)) ≡ Less) (one (sym (last_rising m)
      ∙ h)) (less_entry m (suc m) (omega arith))

pub rising_none : [] ≡ rising 0
unfolding rising
rising_none = refl

pub four_tight : IsTight four (entry 25 9) (Some 2) (Some 3)
four_tight = record {
  before = entry 10 1 ∷ entry 20 2 ∷ [];
  after = entry 30 3 ∷ entry 40 4 ∷ [];
  whole = refl;
  prev_is = refl;
  next_is = refl;
  above_prev = λ f first. subst (λ (o : Option Ranked). rank_order (unwrap_or o (entry 0 0)) (entry 25 9)
      ≡ Less) first refl;
  below_next = λ f first. subst (λ (o : Option Ranked). rank_order (entry 25 9) (unwrap_or o (entry 0 0))
      ≡ Less) first refl;
}

hint_count : (n : ℕ) (o : Option ℕ) → SomeIff o (1 ≤ n) (n - 1) → o ≡ before_count n
hint_count zero None h = refl
hint_count zero (Some k) h = absurd (omega (arith, h.0))
hint_count (suc n) None h = absurd (h (omega arith))
hint_count (suc n) (Some k) h = ap (λ j. Some j) (omega (arith, h.1))

pub rising_hint : (n : ℕ) (list : List Ranked) (prev : Option ℕ) → list ≡ rising n → SomeIff prev (1 ≤ n) (n - 1)
    → IsTight list (entry n n) prev None
rising_hint n list prev is hint =
    subst (λ (o : Option ℕ). IsTight list (entry n n) o None) (sym (hint_count n prev hint))
    (subst (λ (l : List Ranked). IsTight l (entry n n) (before_count n) None) (sym is) (rising_tight n))
