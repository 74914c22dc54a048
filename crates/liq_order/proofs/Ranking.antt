-- The ordered list of a table of troves, when a trove comes or leaves.
use Rattle.std.proofs.Common.{◌≡◌, ℕ, ℤ, Bool, true, false, cond, List, [], ◌∷◌, refl, ap, sym, subst, ◌∙◌, Some, None, Option}
use Rattle.std.specs.Prelude.{◌==◌, fold, not, find, option_map, IsSome}
use Rattle.std.specs.List.{AllByRecursion}
use Rattle.std.specs.declared.cmp.Ordering.{Ordering}
use Rattle.std.specs.declared.cmp.Ordering.TheVariants.{Less, Equal, Greater}
use Rattle.std.specs.Ordering.{nat_cmp, int_cmp, is_eq, is_gt, match_ordering, ordering_reverse}
use Rattle.std.proofs.lemmas.Bool.{eqb-false, eq-eqb, ne_eqb}
use Rattle.std.proofs.lemmas.Map.Lookups.{exact_unsigned, exact_signed, exact_pairs}
use Rattle.liq_types.specs.declared.figures.Trove.{Trove}
use Rattle.liq_types.specs.Tables.{Table, at, put, without}
use Rattle.liq_types.specs.WellFormed.{Ascends}
use Rattle.liq_types.specs.Ranked.{Ranked, rank_order, with_ranked, without_ranked, key_in}
use Rattle.liq_types.proofs.Lookups.{at-without_same}
use Rattle.liq_types.proofs.Places.{nat_cmp-eq}
use Rattle.liq_types.proofs.SameRows.{put-back, without-absent}
use Rattle.liq_troves.specs.Rows.{key_by}
use Rattle.liq_order.specs.Listed.{IsAbsent, AreDistinct}
use Rattle.liq_order.specs.Order.{ranks, order_by}
use Rattle.liq_types.proofs.RankedLists.{rank_total}
use Rattle.liq_order.proofs.Placed.{with_distinct}
use Rattle.liq_order.proofs.Sorting.{with_absent, with_apart, ranks_apart, AreApart}

-- ---- lists with one more entry

rank_exact : (e f : Ranked) → rank_order e f ≡ Equal → e ≡ f
rank_exact = exact_pairs int_cmp nat_cmp exact_signed exact_unsigned

-- two entries before the same list
abbrev Before : Ordering → Ranked → Ranked → List Ranked → List Ranked
Before o e f list = match_ordering o (e ∷ f ∷ list) (e ∷ f ∷ list) (f ∷ e ∷ list)

either_first : (e f : Ranked) (list : List Ranked) → Before (rank_order f e) f e list ≡ Before (rank_order e f) e f list
either_first e f list = ap (λ o. Before o f e list) (rank_total.antisymm f e) ∙ by (rank_order e f) refl where
  by : (o : Ordering) → rank_order e f ≡ o → Before (ordering_reverse o) f e list ≡ Before o e f list
  by Less is = refl
  by Equal is = ap (λ (g : Ranked). f ∷ g ∷ list) (rank_exact e f is)
      ∙ ap (λ (g : Ranked). g ∷ f ∷ list) (sym (rank_exact e f is))
  by Greater is = refl

first : (h : Ranked) (t : List Ranked) (f : Ranked) → is_gt (rank_order f h) ≡ false → with_ranked (h ∷ t) f ≡ f ∷ h ∷ t
first h t f n = by (rank_order f h) n where
  by : (o : Ordering) → is_gt o ≡ false → match_ordering o (f ∷ h ∷ t) (f ∷ h ∷ t) (h ∷ with_ranked t f) ≡ f ∷ h ∷ t
  by Less m = refl
  by Equal m = refl
  by Greater m = cc

later : (h : Ranked) (t : List Ranked) (f : Ranked) → is_gt (rank_order f h) ≡ true
    → with_ranked (h ∷ t) f ≡ h ∷ with_ranked t f
later h t f n = by (rank_order f h) n where
  by : (o : Ordering) → is_gt o ≡ true → match_ordering o (f ∷ h ∷ t) (f ∷ h ∷ t) (h ∷ with_ranked t f)
      ≡ h ∷ with_ranked t f
  by Less m = cc
  by Equal m = cc
  by Greater m = refl

greater : (o : Ordering) → is_gt o ≡ true → o ≡ Greater
greater Less h = cc
greater Equal h = cc
greater Greater h = refl

-- what comes after h comes after what does not
above : (e f h : Ranked) → is_gt (rank_order e h) ≡ false → is_gt (rank_order f h) ≡ true
    → is_gt (rank_order f e) ≡ true
above e f h low high = by (rank_order e h) refl low where
  less : rank_order h f ≡ Less
  less = rank_total.antisymm h f ∙ ap ordering_reverse (greater (rank_order f h) high)

  turned : rank_order e f ≡ Less → is_gt (rank_order f e) ≡ true
  turned l = ap is_gt (rank_total.antisymm f e ∙ ap ordering_reverse l)

  by : (o : Ordering) → rank_order e h ≡ o → is_gt o ≡ false → is_gt (rank_order f e) ≡ true
  by Less is n = turned (rank_total.trans e h f is less)
  by Equal is n = turned (rank_total.congr e h f is ∙ less)
  by Greater is n = cc

both_first : (e f h : Ranked) (t : List Ranked) → is_gt (rank_order f h) ≡ false → with_ranked (e ∷ h ∷ t) f
    ≡ Before (rank_order f e) f e (h ∷ t)
both_first e f h t n =
    ap (λ (list : List Ranked). match_ordering (rank_order f e) (f ∷ e ∷ h ∷ t) (f ∷ e ∷ h ∷ t) (e ∷ list))
    (first h t f n)

-- e comes before h, and f after it
one_first : (e f h : Ranked) (t : List Ranked) → is_gt (rank_order e h) ≡ false → is_gt (rank_order f h) ≡ true
    → with_ranked (with_ranked (h ∷ t) e) f ≡ with_ranked (with_ranked (h ∷ t) f) e
one_first e f h t low high =
    ap (λ (list : List Ranked). with_ranked list f) (first h t e low)
    ∙ later e (h ∷ t) f (above e f h low high)
    ∙ ap (λ (list : List Ranked). e ∷ list) (later h t f high)
    ∙ sym (first h (with_ranked t f) e low)
    ∙ sym (ap (λ (list : List Ranked). with_ranked list e) (later h t f high))

-- two entries may come in either order
swap : (list : List Ranked) (e f : Ranked) → with_ranked (with_ranked list e) f ≡ with_ranked (with_ranked list f) e
swap [] e f = either_first e f []
swap (h ∷ t) e f = by (is_gt (rank_order e h)) refl (is_gt (rank_order f h)) refl (swap t e f) where
  by : (b : Bool) → is_gt (rank_order e h) ≡ b → (c : Bool) → is_gt (rank_order f h) ≡ c
      → with_ranked (with_ranked t e) f ≡ with_ranked (with_ranked t f) e → with_ranked (with_ranked (h ∷ t) e) f
      ≡ with_ranked (with_ranked (h ∷ t) f) e
  by false p false q more =
      ap (λ (list : List Ranked). with_ranked list f) (first h t e p)
      ∙ both_first e f h t q
      ∙ either_first e f (h ∷ t)
      ∙ sym (both_first f e h t p)
      ∙ sym (ap (λ (list : List Ranked). with_ranked list e) (first h t f q))
  by false p true q more = one_first e f h t p q
  by true p false q more = sym (one_first f e h t q p)
  by true p true q more =
      ap (λ (list : List Ranked). with_ranked list f) (later h t e p)
      ∙ later h (with_ranked t e) f q
      ∙ ap (λ (list : List Ranked). h ∷ list) more
      ∙ sym (later h (with_ranked t f) e p)
      ∙ sym (ap (λ (list : List Ranked). with_ranked list e) (later h t f q))

move : (entries list : List Ranked) (e : Ranked) → fold with_ranked (with_ranked list e) entries
    ≡ with_ranked (fold with_ranked list entries) e
move [] list e = refl
move (x ∷ entries) list e =
    ap (λ (l : List Ranked). fold with_ranked l entries) (swap list e x) ∙ move entries (with_ranked list x) e

-- ---- a row more

put_absent : (table : Table Trove) (key : ℕ) (row : Trove) (list : List Ranked) → at table key ≡ None
    → fold with_ranked list (ranks (put table key row)) ≡ with_ranked (fold with_ranked list (ranks table))
    (key_by row, key)
put_absent [] key row list n = refl
put_absent (e ∷ es) key row list n = by (nat_cmp key e.0) n (λ later_list. put_absent es key row later_list) where
  by : (o : Ordering) → cond (is_eq o) (Some e.1) (at es key) ≡ None → ((later_list : List Ranked) → at es key ≡ None
      → fold with_ranked later_list (ranks (put es key row)) ≡ with_ranked (fold with_ranked later_list (ranks es))
      (key_by row, key))
      → fold with_ranked list (ranks (match_ordering o ((key, row) ∷ e ∷ es) ((e.0, row) ∷ es) (e ∷ put es key row)))
      ≡ with_ranked (fold with_ranked list (ranks (e ∷ es))) (key_by row, key)
  by Less m more = move (ranks (e ∷ es)) list (key_by row, key)
  by Equal m more = cc
  by Greater m more = more (with_ranked list (key_by e.1, e.0)) m

-- ---- a row less

-- no entry is the account's
abbrev Away : ℕ → List Ranked → Type 0
Away account list = AllByRecursion (λ (e : Ranked). (e.1 == account) ≡ false) list

with_away : (account : ℕ) (list : List Ranked) (e : Ranked) → (e.1 == account) ≡ false → Away account list
    → Away account (with_ranked list e)
with_away account [] e n h = (n, tt)
with_away account (f ∷ fs) e n h = by (rank_order e f) (with_away account fs e n h.1) where
  by : (o : Ordering) → Away account (with_ranked fs e)
      → Away account (match_ordering o (e ∷ f ∷ fs) (e ∷ f ∷ fs) (f ∷ with_ranked fs e))
  by Less more = (n, h)
  by Equal more = (n, h)
  by Greater more = (h.0, more)

not_key : (a b : ℕ) → is_eq (nat_cmp a b) ≡ false → (b == a) ≡ false
not_key a b h = ne_eqb b a (λ same. eqb-false a b (sym (nat_cmp-eq a b) ∙ h) (sym same))

all_away : (account : ℕ) (table : Table Trove) (list : List Ranked) → at table account ≡ None → Away account list
    → Away account (fold with_ranked list (ranks table))
all_away account [] list n h = h
all_away account (e ∷ es) list n h = by (is_eq (nat_cmp account e.0)) refl n (λ later_list.
    all_away account es later_list) where
      by : (b : Bool) → is_eq (nat_cmp account e.0) ≡ b → cond b (Some e.1) (at es account) ≡ None
          → ((later_list : List Ranked) → at es account ≡ None → Away account later_list
          → Away account (fold with_ranked later_list (ranks es)))
          → Away account (fold with_ranked (with_ranked list (key_by e.1, e.0)) (ranks es))
      by true is m more = cc
      by false is m more = more (with_ranked list (key_by e.1, e.0)) m (with_away account list (
        key_by e.1,
        e.0,
      ) (not_key account e.0 is) h)

filter_away : (account : ℕ) (list : List Ranked) → Away account list → without_ranked list account ≡ list
filter_away account [] h = refl
filter_away account (e ∷ es) h =
    ap (λ b. cond (not b) (e ∷ without_ranked es account) (without_ranked es account)) h.0
    ∙ ap (λ (list : List Ranked). e ∷ list) (filter_away account es h.1)

pub filter_here : (list : List Ranked) (e : Ranked) → without_ranked (with_ranked list e) e.1 ≡ without_ranked list e.1
filter_here list e = drop_here list where
  own : (e.1 == e.1) ≡ true
  own = eq-eqb e.1 e.1 refl

  dropped : (more : List Ranked) → without_ranked (e ∷ more) e.1 ≡ without_ranked more e.1
  dropped more = ap (λ b. cond (not b) (e ∷ without_ranked more e.1) (without_ranked more e.1)) own

  drop_here : (l : List Ranked) → without_ranked (with_ranked l e) e.1 ≡ without_ranked l e.1
  drop_here [] = dropped []
  drop_here (f ∷ fs) = by (rank_order e f) (drop_here fs) where
    by : (o : Ordering) → without_ranked (with_ranked fs e) e.1 ≡ without_ranked fs e.1
        → without_ranked (match_ordering o (e ∷ f ∷ fs) (e ∷ f ∷ fs) (f ∷ with_ranked fs e)) e.1
        ≡ without_ranked (f ∷ fs) e.1
    by Less more = dropped (f ∷ fs)
    by Equal more = dropped (f ∷ fs)
    by Greater more = ap (λ (l : List Ranked). cond (not (f.1 == e.1)) (f ∷ l) l) more

-- the ordered list without a trove is that of the table without it
pub left_order : (table : Table Trove) (account : ℕ) → Ascends table → order_by (without table account)
    ≡ without_ranked (order_by table) account
left_order table account s = by (at table account) refl where
  by : (o : Option Trove) → at table account ≡ o → order_by (without table account)
      ≡ without_ranked (order_by table) account
  by None is =
      ap (λ (t : Table Trove). order_by t) (without-absent table account s is)
      ∙ sym (filter_away account (order_by table) (all_away account table [] is tt))
  by (Some row) is =
      let left = without table account in
      let absent = at-without_same table account s in
      sym
      (ap (λ (t : Table Trove). without_ranked (order_by t) account) (put-back table account row s is)
      ∙ ap (λ (l : List Ranked). without_ranked l account) (put_absent left account row [] absent)
      ∙ filter_here (order_by left) (key_by row, account)
      ∙ filter_away account (order_by left) (all_away account left [] absent tt))

-- and with a trove put at its key, that of the table with it
pub put_list : (table : Table Trove) (account : ℕ) (row : Trove) → Ascends table
    → order_by (put (without table account) account row) ≡ with_ranked (without_ranked (order_by table) account)
    (key_by row, account)
put_list table account row s =
    put_absent (without table account) account row [] (at-without_same table account s)
    ∙ ap (λ (l : List Ranked). with_ranked l (key_by row, account)) (left_order table account s)

-- ---- whether an account is listed

abbrev is_key : Ranked → ℤ
is_key e = e.0

away_key : (account : ℕ) (list : List Ranked) → Away account list → key_in list account ≡ None
away_key account [] h = refl
away_key account (e ∷ es) h =
    ap (λ b. option_map is_key (cond b (Some e) (find (λ (f : Ranked). f.1 == account) es))) h.0
    ∙ away_key account es h.1

pub unlisted : (table : Table Trove) (account : ℕ) → at table account ≡ None → key_in (order_by table) account ≡ None
unlisted table account n = away_key account (order_by table) (all_away account table [] n tt)

found_here : (list : List Ranked) (e : Ranked) → IsSome (key_in (with_ranked list e) e.1)
found_here list e = here list where
  own : (e.1 == e.1) ≡ true
  own = eq-eqb e.1 e.1 refl

  first_found : (more : List Ranked) → IsSome (key_in (e ∷ more) e.1)
  first_found more = subst (λ b. IsSome (option_map is_key (cond b (Some e) (find (λ (f : Ranked). f.1 == e.1) more))))
      (sym own) refl

  here : (l : List Ranked) → IsSome (key_in (with_ranked l e) e.1)
  here [] = first_found []
  here (f ∷ fs) = by (rank_order e f) (here fs) where
    by : (o : Ordering) → IsSome (key_in (with_ranked fs e) e.1)
        → IsSome (key_in (match_ordering o (e ∷ f ∷ fs) (e ∷ f ∷ fs) (f ∷ with_ranked fs e)) e.1)
    by Less more = first_found (f ∷ fs)
    by Equal more = first_found (f ∷ fs)
    by Greater more = deeper (f.1 == e.1) where
      deeper : (b : Bool)
          → IsSome (option_map is_key (cond b (Some f) (find (λ (g : Ranked). g.1 == e.1) (with_ranked fs e))))
      deeper true = refl
      deeper false = more

pub listed : (table : Table Trove) (account : ℕ) (row : Trove) → Ascends table → at table account ≡ Some row
    → IsSome (key_in (order_by table) account)
listed table account row s h =
    let left = without table account in
    subst (λ (l : List Ranked). IsSome (key_in l account))
    (sym (ap (λ (t : Table Trove). order_by t) (put-back table account row s h)
    ∙ put_absent left account row [] (at-without_same table account s)))
    (found_here (order_by left) (key_by row, account))

pub listed_where : (table : Table Trove) (account : ℕ) → Ascends table → IsSome (at table account)
    → IsSome (key_in (order_by table) account)
listed_where table account s there = by (at table account) refl there where
  by : (o : Option Trove) → at table account ≡ o → IsSome o → IsSome (key_in (order_by table) account)
  by None is h = cc
  by (Some row) is h = listed table account row s is

-- the ordered list of a table with a row more
pub more_list : (table : Table Trove) (account : ℕ) (row : Trove) → at table account ≡ None
    → order_by (put table account row) ≡ with_ranked (order_by table) (key_by row, account)
more_list table account row n = put_absent table account row [] n

-- ---- each account once

ranks_none : (account : ℕ) (table : Table Trove) → at table account ≡ None → IsAbsent account (ranks table)
ranks_none account [] h = tt
ranks_none account (row ∷ rows) h = by (is_eq (nat_cmp account row.0)) refl h (ranks_none account rows) where
  by : (b : Bool) → is_eq (nat_cmp account row.0) ≡ b → cond b (Some row.1) (at rows account) ≡ None
      → (at rows account ≡ None → IsAbsent account (ranks rows)) → IsAbsent account (ranks (row ∷ rows))
  by true is k later = cc
  by false is k later = ((λ same. eqb-false account row.0 (sym (nat_cmp-eq account row.0) ∙ is) (sym same)), later k)

all_absent : (account : ℕ) (list entries : List Ranked) → IsAbsent account entries → IsAbsent account list
    → IsAbsent account (fold with_ranked list entries)
all_absent account list [] n h = h
all_absent account list (e ∷ es) n h = all_absent account (with_ranked list e) es n.1 (with_absent list e account n.0 h)

-- what has no trove is not in the list
pub order_absent : (table : Table Trove) (account : ℕ) → at table account ≡ None → IsAbsent account (order_by table)
order_absent table account h = all_absent account [] (ranks table) (ranks_none account table h) tt

all_distinct : (list entries : List Ranked) → AreApart list entries → AreDistinct list
    → AreDistinct (fold with_ranked list entries)
all_distinct list [] a h = h
all_distinct list (e ∷ es) a h = all_distinct (with_ranked list e) es (with_apart list e es a.1 a.2)
    (with_distinct list e a.0 h)

pub order_distinct : (table : Table Trove) → Ascends table → AreDistinct (order_by table)
order_distinct table h = all_distinct [] (ranks table) (ranks_apart table h) tt
