-- The accounts of the list from its end on, one after the other, as they are written into places.
use Rattle.std.proofs.Common.{◌≡◌, ℕ, ℤ, zero, suc, ◌+◌, ◌≤◌, ◌<◌, true, false, cond, List, [], ◌∷◌, ◌++◌, length, map, take, drop, get_or, refl, sym, ap, ◌∙◌, subst, Some, None, Option, arith}
use Rattle.std.proofs.Math.Seq.{paste, take_all}
use Rattle.std.specs.Prelude.{◌==◌, fold, reverse, IsSome, is_some}
use Rattle.std.proofs.lemmas.Bool.{ne_eqb, eq-eqb}
use Rattle.std.proofs.lemmas.List.{drop-drop, length-map}
use Rattle.std.specs.declared.cmp.Ordering.{Ordering}
use Rattle.std.specs.declared.cmp.Ordering.TheVariants.{Less, Equal, Greater}
use Rattle.std.specs.Ordering.{match_ordering}
use Rattle.liq_types.specs.declared.figures.Trove.{Trove}
use Rattle.liq_types.specs.Tables.{Table}
use Rattle.liq_types.specs.Ranked.{Ranked, after_account, before_in, first_of, from_last, key_in, rank_order, with_ranked}
use Rattle.liq_order.specs.Listed.{AreDistinct, IsAbsent}
use Rattle.liq_order.proofs.Found.{absent_from_key, absent_reverse}
use Rattle.liq_order.specs.Order.{order_by, ranks}
use Rattle.liq_troves.specs.Rows.{key_by}
use Rattle.liq_redemption.proofs.Ahead.{distinct_turned}
use Rattle.liq_core.specs.Entries.{laid}

abbrev accounts : List Ranked → List ℕ
accounts list = map (λ (e : Ranked). e.1) list

-- ---- what stands at a place

module _ {X : Type 0} where
  the : {a b : X} → Some a ≡ Some b → a ≡ b
  the e = cc

  nothing : {a : X} → None ≡ Some a → ⊥
  nothing e = cc

  something : {a : X} → Some a ≡ None → ⊥
  something e = cc

  pub place_of : (xs : List X) (k : ℕ) (a d : X) → first_of (drop k xs) ≡ Some a → (k < length xs) × (get_or xs k d ≡ a)
  place_of [] zero a d is = absurd (nothing is)
  place_of [] (suc k) a d is = absurd (nothing is)
  place_of (x ∷ xs) zero a d is = (omega arith, the is)
  place_of (x ∷ xs) (suc k) a d is = let rest = place_of xs k a d is in let low = rest.0 in (omega (arith, low), rest.1)

  pub none_left : (xs : List X) (k : ℕ) → first_of (drop k xs) ≡ None → length xs ≤ k
  none_left [] k is = omega arith
  none_left (x ∷ xs) zero is = absurd (something is)
  none_left (x ∷ xs) (suc k) is = let rest = none_left xs k is in omega (arith, rest)

other : (list : List Ranked) (k b a : ℕ) → IsAbsent b list → first_of (drop k (accounts list)) ≡ Some a
    → (b == a) ≡ false
other [] zero b a h is = absurd (nothing is)
other [] (suc k) b a h is = absurd (nothing is)
other (e ∷ es) zero b a h is = subst (λ x. (b == x) ≡ false) (the is) (ne_eqb b e.1 (λ same. h.0 (sym same)))
other (e ∷ es) (suc k) b a h is = other es k b a h.1 is

behind : (list : List Ranked) (k a : ℕ) → AreDistinct list → first_of (drop k (accounts list)) ≡ Some a
    → after_account (accounts list) a ≡ first_of (drop (suc k) (accounts list))
behind [] zero a h is = absurd (nothing is)
behind [] (suc k) a h is = absurd (nothing is)
behind (e ∷ es) zero a h is = ap (λ b. cond b (first_of (accounts es)) (after_account (accounts es) a))
    (eq-eqb e.1 a (the is))
behind (e ∷ es) (suc k) a h is =
    ap (λ b. cond b (first_of (accounts es)) (after_account (accounts es) a)) (other es k e.1 a h.0 is)
    ∙ behind es k a h.1 is

-- ---- from the list's end on

-- behind the account at a place is the one at the next place
pub next_behind : (list : List Ranked) (k a : ℕ) → AreDistinct list → first_of (drop k (from_last list)) ≡ Some a
    → before_in list a ≡ first_of (drop (k + 1) (from_last list))
next_behind list k a h is =
    let more : suc k ≡ k + 1 = omega arith in
    subst (λ m. before_in list a ≡ first_of (drop m (from_last list))) more (behind (reverse list) k a
    (distinct_turned list h) is)

-- an account behind some is found in the whole list
pub in_all : (list : List Ranked) (passed at a : ℕ) (next : Option ℕ)
    → next ≡ first_of (drop at (drop passed (from_last list))) → next ≡ Some a
    → first_of (drop (passed + at) (from_last list)) ≡ Some a
in_all list passed at a next is some = ap first_of (sym (drop-drop at passed (from_last list))) ∙ sym is ∙ some

-- the account at a place is in the list
pub stands_in : (list : List Ranked) (k a : ℕ) → first_of (drop k (from_last list)) ≡ Some a → IsSome (key_in list a)
stands_in list k a is = by (key_in list a) refl where
  by : (o : Option ℤ) → key_in list a ≡ o → is_some o ≡ true
  by (Some key) e = refl
  by None e = absurd (both (sym (eq-eqb a a refl)
      ∙ other (reverse list) k a a (absent_reverse list a (absent_from_key list a e)) is)) where
        both : true ≡ false → ⊥
        both t = cc

-- ---- all of them written

-- all numbers are laid, where there are places for them
pub laid_all : (numbers places : List ℕ) (n : ℕ) → n ≡ length numbers → n ≤ length places → paste places 0 numbers n
    ≡ laid numbers places
laid_all numbers places n all few =
    let whole = take_all n numbers (omega (arith, all)) in
    let same = take_all (length places) numbers (omega (arith, all, few)) in
    let from : 0 + n ≡ length numbers = omega (arith, all) in
    ap (λ (l : List ℕ). l ++ drop (0 + n) places) (whole ∙ sym same)
    ∙ ap (λ m. take (length places) numbers ++ drop m places) from

-- ---- how many they are

one_more : (list : List Ranked) (e : Ranked) → length (with_ranked list e) ≡ suc (length list)
one_more [] e = refl
one_more (f ∷ fs) e = by (rank_order e f) (one_more fs e) where
  by : (o : Ordering) → length (with_ranked fs e) ≡ suc (length fs)
      → length (match_ordering o (e ∷ f ∷ fs) (e ∷ f ∷ fs) (f ∷ with_ranked fs e)) ≡ suc (suc (length fs))
  by Less h = refl
  by Equal h = refl
  by Greater h = ap suc h

all_more : (list entries : List Ranked) → length (fold with_ranked list entries) ≡ length list + length entries
all_more list [] = omega arith
all_more list (e ∷ es) =
    let rest = all_more (with_ranked list e) es in
    let one = one_more list e in
    omega (arith, rest, one)

pub length-order : (table : Table Trove) → length (order_by table) ≡ length table
length-order table =
    let all = all_more [] (ranks table) in
    let each = length-map {B = Ranked} table (λ (row : ℕ × Trove). (key_by row.1, row.0)) in
    omega (arith, all, each)
