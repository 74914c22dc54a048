-- Numbers added up over all accounts below a bound.
use Rattle.std.proofs.Common.{◌≡◌, ℕ, zero, suc, ◌+◌, ◌*◌, ◌<◌, ◌≤◌, false, List, [], ◌∷◌, Bool, true, false, cond, ◌-◌, refl, ap, sym, ◌∙◌, arith, inl, inr}
use Rattle.std.specs.Prelude.{◌==◌, sum_by, sum, map, fold}
use Rattle.std.specs.List.{AllByRecursion, range_with_len}
use Rattle.std.specs.Map.{keys_of}
use Rattle.std.specs.Ordering.{nat_cmp}
use Rattle.std.specs.declared.cmp.Ordering.TheVariants.{Less}
use Rattle.std.proofs.lemmas.Bool.{cases_lt}
use Rattle.std.proofs.lemmas.Bool.Decides.{nat_tests}
use Rattle.std.proofs.lemmas.List.Sums.{sum_by-cons}
use Rattle.std.proofs.lemmas.Map.Keys.{sorted_head, sorted_tail}
use Rattle.liq_types.specs.Tables.{Table}
use Rattle.liq_types.specs.WellFormed.{Ascends}
use Rattle.liq_types.specs.declared.events.PoolEvent.{PoolEvent}
use Rattle.liq_types.specs.declared.events.PoolEvent.TheVariants as event
use Rattle.liq_types.specs.PlainLedger.{Share, no_share, share_after, exact_share, total_of, den_of, AreOwnedBelow, over_accounts}

-- a sum over the n accounts from a on
from : ℕ → ℕ → (ℕ → ℕ) → ℕ
from a n f = sum_by f (range_with_len a n)

from-suc : (a n : ℕ) (f : ℕ → ℕ) → from a (suc n) f ≡ f a + from (a + 1) n f
unfolding from
from-suc a n f = sum_by-cons f a (range_with_len (a + 1) n)

from-none : (a : ℕ) (f : ℕ → ℕ) → from a zero f ≡ 0
unfolding from
from-none a f = refl

from-same : (a n : ℕ) (f g : ℕ → ℕ) → ((q : ℕ) → a ≤ q → q < a + n → f q ≡ g q) → from a n f ≡ from a n g
from-same a zero f g h = from-none a f ∙ sym (from-none a g)
from-same a (suc n) f g h =
    let here = h a (omega arith) (omega arith) in
    let more = from-same (a + 1) n f g (λ q low high. h q (omega arith) (omega arith)) in
    omega (arith, from-suc a n f, from-suc a n g, here, more)

from-plus : (a n : ℕ) (f g : ℕ → ℕ) → from a n (λ q. f q + g q) ≡ from a n f + from a n g
from-plus a zero f g = omega (arith, from-none a f, from-none a g, from-none a (λ q. f q + g q))
from-plus a (suc n) f g =
    let more = from-plus (a + 1) n f g in
    omega (arith, from-suc a n f, from-suc a n g, from-suc a n (λ q. f q + g q), more)

from-times : (a n : ℕ) (f : ℕ → ℕ) (c : ℕ) → from a n (λ q. f q * c) ≡ from a n f * c
from-times a zero f c =
    let none = ap (λ k. k * c) (from-none a f) in
    omega (arith, from-none a (λ q. f q * c), none)
from-times a (suc n) f c =
    let more = from-times (a + 1) n f c in
    let whole = ap (λ k. k * c) (from-suc a n f) in
    omega (arith, from-suc a n (λ q. f q * c), more, whole)

from-le : (a n : ℕ) (f g : ℕ → ℕ) → ((q : ℕ) → a ≤ q → q < a + n → f q ≤ g q) → from a n f ≤ from a n g
from-le a zero f g h = omega (arith, from-none a f, from-none a g)
from-le a (suc n) f g h =
    let here = h a (omega arith) (omega arith) in
    let more = from-le (a + 1) n f g (λ q low high. h q (omega arith) (omega arith)) in
    omega (arith, from-suc a n f, from-suc a n g, here, more)

from-term : (a n : ℕ) (f : ℕ → ℕ) (k : ℕ) → a ≤ k → k < a + n → f k ≤ from a n f
from-term a zero f k low high = absurd (omega arith)
from-term a (suc n) f k low high = elim (cases_lt a k) [
  | inl less ↦
      let more = from-term (a + 1) n f k (omega arith) (omega arith) in
      omega (arith, from-suc a n f, more)
  | inr same ↦
      let here : f k ≡ f a = ap f (omega arith) in
      omega (arith, from-suc a n f, here)
]

-- one term is another, and the rest as it was
from-one : (a n : ℕ) (f g : ℕ → ℕ) (k : ℕ) → a ≤ k → k < a + n → ((q : ℕ) → (k == q) ≡ false → g q ≡ f q)
    → from a n g + f k ≡ from a n f + g k
from-one a zero f g k low high h = absurd (omega arith)
from-one a (suc n) f g k low high h = elim (cases_lt a k) [
  | inl less ↦
      let more = from-one (a + 1) n f g k (omega arith) (omega arith) h in
      let other : (k == a) ≡ false = apart k a less in
      let here = h a other in
      omega (arith, from-suc a n f, from-suc a n g, more, here)
  | inr same ↦
      let here : f k ≡ f a = ap f (omega arith) in
      let there : g k ≡ g a = ap g (omega arith) in
      let rest = from-same (a + 1) n g f (λ q more under. h q (apart_up k q (omega arith))) in
      omega (arith, from-suc a n f, from-suc a n g, rest, here, there)
] where
  apart : (i j : ℕ) → j < i → (i == j) ≡ false
  apart i j l = grind (arith, nat_tests, l)

  apart_up : (i j : ℕ) → i < j → (i == j) ≡ false
  apart_up i j l = grind (arith, nat_tests, l)

-- ---- over all accounts

pub over-same : (n : ℕ) (f g : ℕ → ℕ) → ((q : ℕ) → q < n → f q ≡ g q) → over_accounts n f ≡ over_accounts n g
unfolding over_accounts from
over-same n f g h = from-same 0 n f g (λ q low high. h q (omega arith))

pub over-plus : (n : ℕ) (f g : ℕ → ℕ) → over_accounts n (λ q. f q + g q) ≡ over_accounts n f + over_accounts n g
unfolding over_accounts from
over-plus n f g = from-plus 0 n f g

pub over-times : (n : ℕ) (f : ℕ → ℕ) (c : ℕ) → over_accounts n (λ q. f q * c) ≡ over_accounts n f * c
unfolding over_accounts from
over-times n f c = from-times 0 n f c

pub over-le : (n : ℕ) (f g : ℕ → ℕ) → ((q : ℕ) → q < n → f q ≤ g q) → over_accounts n f ≤ over_accounts n g
unfolding over_accounts from
over-le n f g h = from-le 0 n f g (λ q low high. h q (omega arith))

pub over-term : (n : ℕ) (f : ℕ → ℕ) (k : ℕ) → k < n → f k ≤ over_accounts n f
unfolding over_accounts from
over-term n f k h = from-term 0 n f k (omega arith) (omega arith)

-- the number of one account changed
pub over-one : (n : ℕ) (f g : ℕ → ℕ) (k : ℕ) → k < n → ((q : ℕ) → (k == q) ≡ false → g q ≡ f q)
    → over_accounts n g + f k ≡ over_accounts n f + g k
unfolding over_accounts from
over-one n f g k low h = from-one 0 n f g k (omega arith) (omega arith) h

-- where each account has nothing, all have nothing
pub over-none : (n : ℕ) → over_accounts n (λ q. 0) ≡ 0
over-none n = let more = over-times n (λ q. 0) 0 in omega (arith, more)

-- ---- over the keys of a table

less_key : (a b : ℕ) → nat_cmp a b ≡ Less → a < b
less_key a b h = grind (arith, nat_tests, h)

module _ {X : Type 0} (f : ℕ → ℕ) where
  keys_from : (table : Table X) (a n : ℕ) → Ascends table → AllByRecursion (λ k. a ≤ k) (keys_of table)
      → AllByRecursion (λ k. k < a + n) (keys_of table) → sum (map f (keys_of table)) ≤ from a n f
  keys_from [] a n s low high = omega arith
  keys_from (e ∷ es) a zero s low high = absurd (omega (arith, low.0, high.0))
  keys_from (e ∷ es) a (suc n) s low high = elim (cases_lt a e.0) [
    | inl less ↦
        let more = keys_from (e ∷ es) (a + 1) n s (
          omega arith,
          above e.0 (a + 1) (keys_of es) (omega arith)
              (sorted_head nat_cmp e.0 (keys_of es) s),
        ) (within (keys_of (e ∷ es)) high) in
        omega (arith, from-suc a n f, more)
    | inr same ↦
        let more = keys_from es (a + 1) n (sorted_tail nat_cmp e.0 (keys_of es) s) (above e.0 (a + 1) (keys_of es)
        (omega (arith, low.0)) (sorted_head nat_cmp e.0 (keys_of es) s)) (within (keys_of es) high.1) in
        let here : f e.0 ≡ f a = ap f (omega (arith, low.0)) in
        let parts = sum_by-cons (λ (x : ℕ). x) (f e.0) (map f (keys_of es)) in
        omega (arith, from-suc a n f, more, here, parts)
  ] where
    within : (ks : List ℕ) → AllByRecursion (λ k. k < a + suc n) ks → AllByRecursion (λ k. k < a + 1 + n) ks
    within [] h = tt
    within (k ∷ ks) h = (omega (arith, h.0), within ks h.1)

    above : (b c : ℕ) (ks : List ℕ) → c ≤ b + 1 → AllByRecursion (λ y. nat_cmp b y ≡ Less) ks
        → AllByRecursion (λ k. c ≤ k) ks
    above b c [] l h = tt
    above b c (k ∷ ks) l h = (let less = less_key b k h.0 in omega arith, above b c ks l h.1)

  pub keys-within : (n : ℕ) (table : Table X) → Ascends table → AllByRecursion (λ k. k < n) (keys_of table)
      → sum (map f (keys_of table)) ≤ over_accounts n f
  unfolding over_accounts from
  keys-within n table s high = keys_from table 0 n s (all_low (keys_of table)) (all_high (keys_of table) high) where
    all_low : (ks : List ℕ) → AllByRecursion (λ k. 0 ≤ k) ks
    all_low [] = tt
    all_low (k ∷ ks) = (omega arith, all_low ks)

    all_high : (ks : List ℕ) → AllByRecursion (λ k. k < n) ks → AllByRecursion (λ k. k < 0 + n) ks
    all_high [] h = tt
    all_high (k ∷ ks) h = (omega (arith, h.0), all_high ks h.1)

-- ---- the accounts of a list of events

-- a bound above all of them
pub above_all : List PoolEvent → ℕ
above_all [] = 0
above_all (event.Own owner put_in out gain amount ∷ es) = owner + 1 + above_all es
above_all (event.Offset debt coll total rise ∷ es) = above_all es

pub owned_more : (n m : ℕ) → n ≤ m → (events : List PoolEvent) → AreOwnedBelow n events → AreOwnedBelow m events
owned_more n m h [] k = tt
owned_more n m h (event.Own owner put_in out gain amount ∷ es) k = (omega (arith, k.0), owned_more n m h es k.1)
owned_more n m h (event.Offset debt coll total rise ∷ es) k = (tt, owned_more n m h es k.1)

owned_below : (events : List PoolEvent) → AreOwnedBelow (above_all events) events
unfolding above_all
owned_below [] = tt
owned_below (event.Own owner put_in out gain amount ∷ es) =
    (omega arith, owned_more (above_all es) (owner + 1 + above_all es) (omega arith) es (owned_below es))
owned_below (event.Offset debt coll total rise ∷ es) = (tt, owned_below es)

-- a bound above all of them and one account more
pub above_with : ℕ → List PoolEvent → ℕ
above_with account events = above_all events + (account + 1)

pub owned_with : (account : ℕ) (events : List PoolEvent) → AreOwnedBelow (above_with account events) events
unfolding above_with
owned_with account events = owned_more (above_all events) (above_all events + (account + 1)) (omega arith) events
    (owned_below events)

pub under_with : (account : ℕ) (events : List PoolEvent) → account < above_with account events
unfolding above_with
under_with account events = omega arith

-- ---- the common denominator

dens_alike : (account : ℕ) (share : Share) (den : ℕ) → share.den ≡ den → (events : List PoolEvent)
    → (fold (share_after account) share events).den ≡ fold (λ d e. d * total_of e) den events
dens_alike account share den h [] = h
dens_alike account share den h (event.Own owner put_in out gain amount ∷ es) =
    dens_alike account (share_after account share (event.Own owner put_in out gain amount)) (den * 1) (either (owner
    == account) ∙ h ∙ one den) es where
      either : (b : Bool) → (cond b (record share { bal = share.bal + put_in * share.den - out * share.den }) share).den
          ≡ share.den
      either true = refl
      either false = refl

      one : (n : ℕ) → n ≡ n * 1
      one n = omega arith
dens_alike account share den h (event.Offset debt coll total rise ∷ es) =
    dens_alike account (share_after account share (event.Offset debt coll total rise)) (den * total)
    (ap (λ d. d * total) h) es

pub share_den : (account : ℕ) (events : List PoolEvent) → (exact_share account events).den ≡ den_of events
share_den account events = dens_alike account no_share 1 refl events
