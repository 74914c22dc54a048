-- Entries and rows that are sorted at once: what ascends, and what stays.
use Rattle.std.proofs.Common.{◌≡◌, ℕ, zero, suc, ◌+◌, ◌<◌, ◌≤◌, Bool, true, false, cond, eqb, List, [], ◌∷◌, length, map, get_or, refl, sym, ap, ◌∙◌, subst, Some, None, Option, inl, inr, ◌⊎◌, arith}
use Rattle.std.specs.List.{AllByRecursion, Contains, IsDistinct}
use Rattle.std.specs.List.Sorted.{IsPermutation, IsSorted, IsNonDecreasingBy}
use Rattle.std.specs.Ordering.{is_lt, ordering_reverse}
use Rattle.std.specs.declared.cmp.Ordering.TheVariants.{Less, Greater}
use Rattle.std.proofs.lemmas.Bool.{ne_eqb, eqb-false, eq-eqb}
use Rattle.std.proofs.lemmas.Bool.Decides.{nat_tests}
use Rattle.std.proofs.lemmas.List.Sorted.{IsPermutation-map, IsPermutation-sym, Contains-permutation}
use Rattle.std.proofs.lemmas.Map.Keys.{IsDistinct-IsPermutation, apart_from_distinct}
use Rattle.liq_types.specs.Ranked.{Ranked, rank_order, sorted, IsAscending}
use Rattle.liq_types.proofs.RankedLists.{rank_total, Behind, behind_more}
use Rattle.liq_order.specs.Chained.{rows_from}
use Rattle.liq_order.specs.Listed.{IsAbsent, AreDistinct}
use Rattle.liq_order.specs.Accounts.{Row, row_of, account_at, IsStrict}
use Rattle.liq_order.specs.declared.places.NodeNo.{NodeNo}
use Rattle.liq_order.proofs.Rows.{nowhere}
use Rattle.liq_order.proofs.Sorting.{AreApart, not_later, sorted_same, sorted_ascends}

-- ---- what is in a list

in_cases : {X : Type 0} (y : X) (ys : List X) (x : X) → Contains (y ∷ ys) x → (y ≡ x) ⊎ Contains ys x
in_cases y ys x (zero, less, is) = inl is
in_cases y ys x (suc k, less, is) = inr (k, omega (arith, less), is)

in_first : {X : Type 0} (x : X) (xs : List X) → Contains (x ∷ xs) x
in_first x xs = (0, omega arith, refl)

in_rest : {X : Type 0} (y : X) (ys : List X) (x : X) → Contains ys x → Contains (y ∷ ys) x
in_rest y ys x (k, less, is) = (suc k, omega (arith, less), is)

all_in : {X : Type 0} (P : X → Type 0) (ys : List X) (x : X) → AllByRecursion P ys → Contains ys x → P x
all_in P [] x h (k, less, is) = absurd (omega (arith, less))
all_in P (y ∷ ys) x h c = elim (in_cases y ys x c) [
  | inl same ↦ subst P same h.0
  | inr more ↦ all_in P ys x h.1 more
]

-- ---- ascending lists of the same entries are equal

not_less : (e : Ranked) → rank_order e e ≡ Less → ⊥
not_less e less = turned (sym less ∙ rank_total.antisymm e e ∙ ap ordering_reverse less) where
  turned : Less ≡ Greater → ⊥
  turned x = cc

abbrev Within : List Ranked → List Ranked → Type 0
Within xs ys = (x : Ranked) → Contains xs x → Contains ys x

heads : (e f : Ranked) (es fs : List Ranked) → IsAscending (e ∷ es) → IsAscending (f ∷ fs) → Within (e ∷ es) (f ∷ fs)
    → Within (f ∷ fs) (e ∷ es) → e ≡ f
heads e f es fs a b there back = elim (in_cases f fs e (there e (in_first e es))) [
  | inl same ↦ sym same
  | inr late ↦ elim (in_cases e es f (back f (in_first f fs))) [
    | inl same ↦ same
    | inr more ↦ absurd (not_less e (rank_total.trans e f e (all_in (λ g. rank_order e g ≡ Less) es f a.0 more)
        (all_in (λ g. rank_order f g ≡ Less) fs e b.0 late)))
  ]
]

tails : (e f : Ranked) (es fs : List Ranked) → e ≡ f → Behind e es → Within (e ∷ es) (f ∷ fs) → Within es fs
tails e f es fs same behind there x c = elim (in_cases f fs x (there x (in_rest e es x c))) [
  | inl is ↦ absurd (not_less x (subst (λ g. rank_order g x ≡ Less) (same ∙ is) (all_in (λ g. rank_order e g
      ≡ Less) es x behind c)))
  | inr more ↦ more
]

same_list : (xs ys : List Ranked) → IsAscending xs → IsAscending ys → Within xs ys → Within ys xs → xs ≡ ys
same_list [] [] a b there back = refl
same_list [] (y ∷ ys) a b there back = let c = back y (in_first y ys) in absurd (omega (arith, c.1))
same_list (x ∷ xs) [] a b there back = let c = there x (in_first x xs) in absurd (omega (arith, c.1))
same_list (e ∷ es) (f ∷ fs) a b there back =
    let head = heads e f es fs a b there back in
    ap (λ g. g ∷ es) head ∙ ap (λ l. f ∷ l) (same_list es fs a.1 b.1 (tails e f es fs head a.0 there)
    (tails f e fs es (sym head) b.0 back))

-- ---- distinct accounts

abbrev accounts : List Ranked → List ℕ
accounts list = map (λ (e : Ranked). e.1) list

absent_keys : (account : ℕ) (list : List Ranked) → IsAbsent account list
    → AllByRecursion (λ y. eqb account y ≡ false) (accounts list)
absent_keys account [] h = tt
absent_keys account (e ∷ es) h = (ne_eqb account e.1 (λ same. h.0 (sym same)), absent_keys account es h.1)

keys_absent : (account : ℕ) (list : List Ranked) → AllByRecursion (λ y. eqb account y ≡ false) (accounts list)
    → IsAbsent account list
keys_absent account [] h = tt
keys_absent account (e ∷ es) h = ((λ same. eqb-false account e.1 h.0 (sym same)), keys_absent account es h.1)

distinct_keys : (list : List Ranked) → AreDistinct list → IsDistinct eqb (accounts list)
unfolding IsDistinct
distinct_keys [] h = tt
distinct_keys (e ∷ es) h = (absent_keys e.1 es h.0, distinct_keys es h.1)

keys_distinct : (list : List Ranked) → IsDistinct eqb (accounts list) → AreDistinct list
unfolding IsDistinct
keys_distinct [] h = tt
keys_distinct (e ∷ es) h = (keys_absent e.1 es h.0, keys_distinct es h.1)

flips : (x y : ℕ) → eqb x y ≡ eqb y x
flips x y = grind (arith, nat_tests)

distinct_moved : (xs ys : List Ranked) → IsPermutation xs ys → AreDistinct xs → AreDistinct ys
distinct_moved xs ys p h =
    keys_distinct ys (IsDistinct-IsPermutation eqb flips (accounts xs) (accounts ys) (IsPermutation-map (λ (e : Ranked).
    e.1) xs ys p) (distinct_keys xs h))

ascends : (list : List Ranked) → IsSorted rank_order list → AreDistinct list → IsAscending list
ascends [] s h = tt
ascends (e ∷ []) s h = (tt, tt)
ascends (e ∷ f ∷ fs) s h =
    let next : (k : ℕ) → suc k + 1 ≡ suc (k + 1) = λ k. omega arith in
    let later : IsSorted rank_order (f ∷ fs) =
    λ k d low high. subst (λ q. is_lt (rank_order (get_or (e ∷ f ∷ fs) q d) (get_or (e ∷ f ∷ fs) (suc k) d))
    ≡ false) (next k) (s (suc k) d (omega arith) (omega (arith, high))) in
    let rest = ascends (f ∷ fs) later h.1 in
    let less = not_later f e (s 0 e (omega arith) (omega arith)) h.0.0 in
    ((less, behind_more e f fs less rest.0), rest)

apart_none : (list : List Ranked) → AreDistinct list → AreApart [] list
apart_none [] h = tt
apart_none (e ∷ es) h = (tt, h.0, apart_none es h.1)

pub record Sorted (xs ys : List Ranked) : Type 0 where
  pub ascending : IsAscending ys
  pub distinct : AreDistinct ys
  pub same : ys ≡ sorted xs

pub sorted_is : (xs ys : List Ranked) → AreDistinct xs → IsPermutation xs ys → IsSorted rank_order ys → Sorted xs ys
sorted_is xs ys h p s =
    let apart = distinct_moved xs ys p h in
    let up = ascends ys s apart in
    let own = sorted_same xs in
    record {
      ascending = up;
      distinct = apart;
      same = same_list ys (sorted xs) up (sorted_ascends xs (apart_none xs h))
          (λ x c. Contains-permutation xs (sorted xs) x own (Contains-permutation ys xs x
          (IsPermutation-sym xs ys p) c))
          (λ x c. Contains-permutation xs ys x p (Contains-permutation (sorted xs) xs x (IsPermutation-sym xs
          (sorted xs) own) c));
    }

-- ---- rows

abbrev keys : List Row → List ℕ
keys rows = map (λ (row : Row). row.0) rows

rows_from_keys : (i : ℕ) (es : List Ranked) → keys (rows_from i es) ≡ accounts es
rows_from_keys i [] = refl
rows_from_keys i (e ∷ es) = ap (λ l. e.1 ∷ l) (rows_from_keys (suc i) es)

key_at : (rows : List Row) (i : ℕ) → get_or (keys rows) i 0 ≡ account_at rows i
key_at [] i = refl
key_at (row ∷ rows) zero = refl
key_at (row ∷ rows) (suc i) = key_at rows i

keys_length : (rows : List Row) → length (keys rows) ≡ length rows
keys_length [] = refl
keys_length (row ∷ rows) = ap (λ k. suc k) (keys_length rows)

strict_rows : (rows : List Row) → IsDistinct eqb (keys rows) → IsNonDecreasingBy (λ (row : Row). row.0) rows
    → IsStrict rows
strict_rows rows h up i j less inside =
    let apart = apart_from_distinct eqb (keys rows) i j 0 h less (subst (λ k. j < k) (sym (keys_length rows)) inside) in
    let other = eqb-false (get_or (keys rows) i 0) (get_or (keys rows) j 0) apart in
    let rise : account_at rows i ≤ account_at rows j = up i j nowhere (omega (arith, less)) inside in
    grind (arith, key_at rows i, key_at rows j, rise, other)

row_in : (rows : List Row) (account : ℕ) (p : NodeNo) → row_of rows account ≡ Some p → Contains rows (account, p)
row_in [] account p h = absurd (none h) where
  none : None ≡ Some p → ⊥
  none e = cc
row_in (row ∷ rows) account p h = by (eqb row.0 account) refl h (row_in rows account p) where
  one : Some row.1 ≡ Some p → row.1 ≡ p
  one e = cc

  by : (b : Bool) → eqb row.0 account ≡ b → cond b (Some row.1) (row_of rows account) ≡ Some p
      → (row_of rows account ≡ Some p → Contains rows (account, p)) → Contains (row ∷ rows) (account, p)
  by true is g more = (0, omega arith, ap (λ k. (k, row.1)) (same is) ∙ ap (λ q. (account, q)) (one g)) where
    same : eqb row.0 account ≡ true → row.0 ≡ account
    same e = grind (arith, nat_tests)
  by false is g more = in_rest row rows (account, p) (more g)

in_row : (rows : List Row) (account : ℕ) (p : NodeNo) → IsDistinct eqb (keys rows) → Contains rows (account, p)
    → row_of rows account ≡ Some p
unfolding IsDistinct
in_row [] account p h (k, less, is) = absurd (omega (arith, less))
in_row (row ∷ rows) account p h c = elim (in_cases row rows (account, p) c) [
  | inl same ↦ ap (λ (r : Row). cond (eqb r.0 account) (Some r.1) (row_of rows account)) same
      ∙ ap (λ b. cond b (Some p) (row_of rows account)) (eq-eqb account account refl)
  | inr more ↦ ap (λ b. cond b (Some row.1) (row_of rows account)) (all_in (λ (r : Row). eqb row.0 r.0 ≡ false) rows
      (account, p) (each rows h.0) more) ∙ in_row rows account p h.1 more
] where
  each : (l : List Row) → AllByRecursion (λ y. eqb row.0 y ≡ false) (keys l)
      → AllByRecursion (λ (r : Row). eqb row.0 r.0 ≡ false) l
  each [] g = tt
  each (r ∷ rs) g = (g.0, each rs g.1)

rows_moved : (xs ys : List Row) → IsPermutation xs ys → IsDistinct eqb (keys xs) → IsDistinct eqb (keys ys)
    → (account : ℕ) → row_of ys account ≡ row_of xs account
rows_moved xs ys p hx hy account = by (row_of xs account) refl (row_of ys account) refl where
  by : (o : Option NodeNo) → row_of xs account ≡ o → (q : Option NodeNo) → row_of ys account ≡ q → q ≡ o
  by (Some n) is q other = sym other ∙ in_row ys account n hy (Contains-permutation xs ys (
    account,
    n,
  ) p (row_in xs account n is))
  by None is None other = refl
  by None is (Some n) other = sym (sym is ∙ in_row xs account n hx (Contains-permutation ys xs (
    account,
    n,
  ) (IsPermutation-sym xs ys p) (row_in ys account n other)))

pub record SortedRows (es : List Ranked) (rows : List Row) : Type 0 where
  pub strict : IsStrict rows
  pub told : (account : ℕ) → row_of rows account ≡ row_of (rows_from 0 es) account

pub sorted_rows_are : (es : List Ranked) (rows : List Row) → AreDistinct es → IsPermutation (rows_from 0 es) rows
    → IsNonDecreasingBy (λ (row : Row). row.0) rows → SortedRows es rows
sorted_rows_are es rows h p up =
    let before : IsDistinct eqb (keys (rows_from 0 es)) = subst (IsDistinct eqb) (sym (rows_from_keys 0 es))
    (distinct_keys es h) in
    let after = IsDistinct-IsPermutation eqb flips (keys (rows_from 0 es)) (keys rows)
    (IsPermutation-map (λ (row : Row). row.0) (rows_from 0 es) rows p) before in
    record { strict = strict_rows rows after up; told = rows_moved (rows_from 0 es) rows p before after }
