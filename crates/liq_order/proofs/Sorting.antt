-- Sorting by insertion: the same entries, ascending.
use Rattle.std.proofs.Common.{◌≡◌, false, List, [], ◌∷◌, ◌++◌, refl, sym, ap, ◌∙◌, subst, append-nil}
use Rattle.std.specs.Prelude.{◌≢◌, ℕ, fold}
use Rattle.std.specs.List.{AllByRecursion}
use Rattle.std.specs.List.Sorted.{IsPermutation}
use Rattle.std.specs.Ordering.{int_cmp, is_lt, match_ordering, ordering_then, ordering_reverse}
use Rattle.std.proofs.lemmas.Map.Lookups.{exact_unsigned}
use Rattle.std.specs.declared.cmp.Ordering.{Ordering}
use Rattle.std.specs.declared.cmp.Ordering.TheVariants.{Less, Equal, Greater}
use Rattle.std.proofs.lemmas.Cmp.{nat_cmp_total}
use Rattle.std.proofs.lemmas.List.Sorted.{IsPermutation-refl, IsPermutation-cons, IsPermutation-trans, IsPermutation-middle, IsPermutation-append}
use Rattle.std.specs.Ordering.{nat_cmp}
use Rattle.std.specs.Map.{keys_of}
use Rattle.std.specs.List.Sorted.{IsStrictlySortedBy}
use Rattle.liq_types.specs.declared.figures.Trove.{Trove}
use Rattle.liq_types.specs.Tables.{Table}
use Rattle.liq_types.specs.WellFormed.{Ascends}
use Rattle.liq_types.proofs.RankedLists.{rank_total, behind_more, with_behind}
use Rattle.liq_order.specs.Listed.{IsAbsent}
use Rattle.liq_order.specs.Order.{Ranked, rank_order, with_ranked, sorted, IsInOrder, IsAscending, ranks, order_by}

-- ---- the same entries

with_same : (list : List Ranked) (e : Ranked) → IsPermutation (e ∷ list) (with_ranked list e)
with_same [] e = IsPermutation-refl (e ∷ [])
with_same (f ∷ fs) e = by (rank_order e f) (with_same fs e) where
  by : (o : Ordering) → IsPermutation (e ∷ fs) (with_ranked fs e)
      → IsPermutation (e ∷ f ∷ fs) (match_ordering o (e ∷ f ∷ fs) (e ∷ f ∷ fs) (f ∷ with_ranked fs e))
  by Less h = IsPermutation-refl (e ∷ f ∷ fs)
  by Equal h = IsPermutation-refl (e ∷ f ∷ fs)
  by Greater h = IsPermutation-trans _ (f ∷ e ∷ fs) _ (IsPermutation-middle (e ∷ []) f fs) (IsPermutation-cons f _ _ h)

all_same : (list entries : List Ranked) → IsPermutation (list ++ entries) (fold with_ranked list entries)
all_same list [] = subst (IsPermutation (list ++ [])) (append-nil list) (IsPermutation-refl (list ++ []))
all_same list (e ∷ es) =
    IsPermutation-trans _ (e ∷ (list ++ es)) _ (IsPermutation-middle list e es)
    (IsPermutation-trans _ (with_ranked list e ++ es) _
    (IsPermutation-append (e ∷ list) (with_ranked list e) es es (with_same list e) (IsPermutation-refl es))
    (all_same (with_ranked list e) es))

pub sorted_same : (entries : List Ranked) → IsPermutation entries (sorted entries)
sorted_same entries = all_same [] entries

-- ---- ascending

-- all of a list stands at or after an entry
abbrev After : Ranked → List Ranked → Type 0
After e list = AllByRecursion (λ f. rank_order f e ≢ Less) list

-- what is not before f is not before e, where e is not after f
later : (e f g : Ranked) → rank_order e f ≢ Greater → rank_order g f ≢ Less → rank_order g e ≢ Less
later e f g early late less = by (rank_order e f) refl where
  by : (o : Ordering) → rank_order e f ≡ o → ⊥
  by Less is = late (rank_total.trans g e f less is)
  by Equal is =
      late (rank_total.antisymm g f ∙ ap ordering_reverse (sym (rank_total.congr e f g is))
      ∙ sym (rank_total.antisymm g e) ∙ less)
  by Greater is = early is

after_later : (e f : Ranked) (list : List Ranked) → rank_order e f ≢ Greater → After f list → After e list
after_later e f [] early h = tt
after_later e f (g ∷ gs) early h = (later e f g early h.0, after_later e f gs early h.1)

with_after : (f : Ranked) (list : List Ranked) (e : Ranked) → rank_order e f ≢ Less → After f list
    → After f (with_ranked list e)
with_after f [] e late h = (late, tt)
with_after f (g ∷ gs) e late h = by (rank_order e g) (with_after f gs e late h.1) where
  by : (o : Ordering) → After f (with_ranked gs e)
      → After f (match_ordering o (e ∷ g ∷ gs) (e ∷ g ∷ gs) (g ∷ with_ranked gs e))
  by Less more = (late, h)
  by Equal more = (late, h)
  by Greater more = (h.0, more)

not_less_itself : (o : Ordering) → o ≡ Greater → o ≢ Less
not_less_itself o g l = cc

reversed_less : (e f : Ranked) (o : Ordering) → rank_order e f ≡ o → o ≢ Greater → rank_order f e ≢ Less
reversed_less e f o is not_greater less = not_greater (sym is ∙ rank_total.antisymm e f ∙ ap ordering_reverse less)

with_ascending : (list : List Ranked) (e : Ranked) → IsInOrder list → IsInOrder (with_ranked list e)
with_ascending [] e h = (tt, tt)
with_ascending (f ∷ fs) e h = by (rank_order e f) refl (with_ascending fs e h.1) where
  front : (o : Ordering) → rank_order e f ≡ o → o ≢ Greater → IsInOrder (e ∷ f ∷ fs)
  front o is low = ((reversed_less e f o is low, after_later e f fs (subst (λ r. r ≢ Greater) (sym is) low) h.0), h)

  by : (o : Ordering) → rank_order e f ≡ o → IsInOrder (with_ranked fs e)
      → IsInOrder (match_ordering o (e ∷ f ∷ fs) (e ∷ f ∷ fs) (f ∷ with_ranked fs e))
  by Less is more = front Less is (λ g. cc)
  by Equal is more = front Equal is (λ g. cc)
  by Greater is more = (with_after f fs e (not_less_itself (rank_order e f) is) h.0, more)

all_ascending : (list entries : List Ranked) → IsInOrder list → IsInOrder (fold with_ranked list entries)
all_ascending list [] h = h
all_ascending list (e ∷ es) h = all_ascending (with_ranked list e) es (with_ascending list e h)

pub sorted_in_order : (entries : List Ranked) → IsInOrder (sorted entries)
sorted_in_order entries = all_ascending [] entries tt

-- ---- strictly, where no account stands twice

-- no two entries of the second list share an account, nor one with an entry of the first
abbrev pub AreApart : List Ranked → List Ranked → Type 0
AreApart list [] = Unit {0}
AreApart list (e ∷ es) = IsAbsent e.1 list × IsAbsent e.1 es × AreApart list es

pub with_absent : (list : List Ranked) (e : Ranked) (account : ℕ) → e.1 ≢ account → IsAbsent account list
    → IsAbsent account (with_ranked list e)
with_absent [] e account n h = (n, tt)
with_absent (f ∷ fs) e account n h = by (rank_order e f) (with_absent fs e account n h.1) where
  by : (o : Ordering) → IsAbsent account (with_ranked fs e)
      → IsAbsent account (match_ordering o (e ∷ f ∷ fs) (e ∷ f ∷ fs) (f ∷ with_ranked fs e))
  by Less more = (n, h)
  by Equal more = (n, h)
  by Greater more = (h.0, more)

pub with_apart : (list : List Ranked) (e : Ranked) (es : List Ranked) → IsAbsent e.1 es → AreApart list es
    → AreApart (with_ranked list e) es
with_apart list e [] n h = tt
with_apart list e (f ∷ fs) n h = (
  with_absent list e f.1 (λ same. n.0 (sym same)) h.0,
  h.1,
  with_apart list e fs n.1 h.2,
)

pub equal_accounts : (o p : Ordering) → ordering_then o p ≡ Equal → p ≡ Equal
equal_accounts Less p h = cc
equal_accounts Equal p h = h
equal_accounts Greater p h = cc

-- what is not before an entry of another account is behind it
pub not_later : (f e : Ranked) → is_lt (rank_order f e) ≡ false → f.1 ≢ e.1 → rank_order e f ≡ Less
not_later f e late other = by (rank_order f e) refl late where
  by : (o : Ordering) → rank_order f e ≡ o → is_lt o ≡ false → rank_order e f ≡ Less
  by Less is l = cc
  by Equal is l = absurd (other (exact_unsigned f.1 e.1 (equal_accounts (int_cmp f.0 e.0) (nat_cmp f.1 e.1) is)))
  by Greater is l = rank_total.antisymm e f ∙ ap ordering_reverse is

pub with_strict : (list : List Ranked) (e : Ranked) → IsAbsent e.1 list → IsAscending list
    → IsAscending (with_ranked list e)
with_strict [] e n h = (tt, tt)
with_strict (f ∷ fs) e n h = by (rank_order e f) refl (with_strict fs e n.1 h.1) where
  by : (o : Ordering) → rank_order e f ≡ o → IsAscending (with_ranked fs e)
      → IsAscending (match_ordering o (e ∷ f ∷ fs) (e ∷ f ∷ fs) (f ∷ with_ranked fs e))
  by Less is more = ((is, behind_more e f fs is h.0), h)
  by Equal is more = absurd (n.0 (sym (exact_unsigned e.1 f.1 (equal_accounts (int_cmp e.0 f.0) (nat_cmp e.1 f.1) is))))
  by Greater is more = (with_behind f fs e (rank_total.antisymm f e ∙ ap ordering_reverse is) h.0, more)

all_strict : (list entries : List Ranked) → AreApart list entries → IsAscending list
    → IsAscending (fold with_ranked list entries)
all_strict list [] a h = h
all_strict list (e ∷ es) a h = all_strict (with_ranked list e) es (with_apart list e es a.1 a.2)
    (with_strict list e a.0 h)

pub sorted_ascends : (entries : List Ranked) → AreApart [] entries → IsAscending (sorted entries)
sorted_ascends entries apart = all_strict [] entries apart tt

-- a table's keys, ranked
pub ranks_absent : (key : ℕ) (table : Table Trove) → AllByRecursion (λ y. nat_cmp key y ≡ Less) (keys_of table)
    → IsAbsent key (ranks table)
ranks_absent key [] h = tt
ranks_absent key (row ∷ rows) h = (
  λ same. clash (subst (λ y. nat_cmp key y ≡ Less) same h.0),
  ranks_absent key rows h.1,
) where
  clash : nat_cmp key key ≡ Less → ⊥
  clash less = turned (sym less ∙ nat_cmp_total.antisymm key key ∙ ap ordering_reverse less) where
    turned : Less ≡ Greater → ⊥
    turned x = cc

pub ranks_apart : (table : Table Trove) → Ascends table → AreApart [] (ranks table)
unfolding IsStrictlySortedBy
ranks_apart [] h = tt
ranks_apart (row ∷ rows) h = (tt, ranks_absent row.0 rows h.0, ranks_apart rows h.1)

pub order_ascends : (troves : Table Trove) → Ascends troves → IsAscending (order_by troves)
order_ascends troves h = sorted_ascends (ranks troves) (ranks_apart troves h)
