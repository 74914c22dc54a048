-- Ascending lists, one behind the other: what an entry makes of them that comes or leaves, and what stands beside it.
use Rattle.std.proofs.Common.{◌≡◌, Bool, true, false, cond, List, [], ◌∷◌, ◌++◌, refl, sym, ap, ◌∙◌, subst, Result, Ok, Err}
use Rattle.std.proofs.lemmas.List.{reverse-append}
use Rattle.std.proofs.lemmas.List.Elements.{filter-append, All-from_recursion, All-weaker, recursion_from_All}
use Rattle.std.proofs.lemmas.Map.Lookups.{CmpEqualImpliesEq, exact_unsigned, exact_signed, exact_pairs}
use Rattle.std.proofs.lemmas.Map.Views.{All-insert_key}
use Rattle.std.specs.Prelude.{not, reverse, filter, OnOk, OnErr}
use Rattle.std.specs.List.{AllByRecursion}
use Rattle.std.specs.Option.{option_or}
use Rattle.std.specs.Ordering.{int_cmp, nat_cmp, is_eq, is_lt, match_ordering, ordering_reverse}
use Rattle.std.specs.declared.cmp.Ordering.{Ordering}
use Rattle.std.specs.declared.cmp.Ordering.TheVariants.{Less, Equal, Greater}
use Rattle.liq_types.specs.Ranked.{Ranked, rank_order, IsAscending, first_of, before_entry, after_entry}
use Rattle.liq_types.proofs.RankedLists.{rank_total, Behind, behind_more, ascending_kept}
use Rattle.liq_list_chunks.specs.Entries.{with_entry, without_entry, entry_before, entry_after}

-- ---- the order of entries

pub exact_rank : CmpEqualImpliesEq rank_order
exact_rank = exact_pairs int_cmp nat_cmp exact_signed exact_unsigned

pub is_tied : (o : Ordering) → is_eq o ≡ true → o ≡ Equal
is_tied Less h = cc
is_tied Equal h = refl
is_tied Greater h = cc

pub same_entry : (e f : Ranked) → is_eq (rank_order e f) ≡ true → e ≡ f
same_entry e f h = exact_rank e f (is_tied (rank_order e f) h)

pub turned : (e f : Ranked) (o : Ordering) → rank_order f e ≡ o → rank_order e f ≡ ordering_reverse o
turned e f o h = rank_total.antisymm e f ∙ ap ordering_reverse h

pub is_less : (o : Ordering) → is_lt o ≡ true → o ≡ Less
is_less Less h = refl
is_less Equal h = cc
is_less Greater h = cc

-- all of a list come before an entry
abbrev pub Ahead : Ranked → List Ranked → Type 0
Ahead e list = AllByRecursion (λ (f : Ranked). rank_order f e ≡ Less) list

-- what stands before an entry of an ascending list comes before it
pub before_middle : (front : List Ranked) (f : Ranked) (back : List Ranked) → IsAscending (front ++ (f ∷ back))
    → Ahead f front
before_middle [] f back h = tt
before_middle (a ∷ front) f back h = (at front h.0, before_middle front f back h.1) where
  at : (xs : List Ranked) → Behind a (xs ++ (f ∷ back)) → rank_order a f ≡ Less
  at [] k = k.0
  at (x ∷ xs) k = at xs k.1

pub each : (P Q : Ranked → Type 0) → ((f : Ranked) → P f → Q f) → (list : List Ranked) → AllByRecursion P list
    → AllByRecursion Q list
each P Q so list h = recursion_from_All Q list (All-weaker P Q so list (All-from_recursion P list h))

-- ---- an entry comes in

pub all_entered : (P : Ranked → Type 0) (list : List Ranked) (e : Ranked) → AllByRecursion P list → P e
    → AllByRecursion P (with_entry list e)
all_entered P list e h is = recursion_from_All P (with_entry list e) (All-insert_key rank_order e P list
    (All-from_recursion P list h) is)

pub entered_ascending : (list : List Ranked) (e : Ranked) → IsAscending list → IsAscending (with_entry list e)
entered_ascending [] e h = (tt, tt)
entered_ascending (f ∷ fs) e h = by (rank_order e f) refl (entered_ascending fs e h.1) where
  by : (o : Ordering) → rank_order e f ≡ o → IsAscending (with_entry fs e)
      → IsAscending (match_ordering o (e ∷ f ∷ fs) (f ∷ fs) (f ∷ with_entry fs e))
  by Less is more = ((is, behind_more e f fs is h.0), h)
  by Equal is more = h
  by Greater is more = (all_entered (λ (g : Ranked). rank_order f g ≡ Less) fs e h.0 (turned f e Greater is), more)

-- also where an entry couldn't come
pub ascending_after : {X E : Type 0} (r : Result X E) (old new : List Ranked) (e : Ranked) → IsAscending old
    → OnOk r (new ≡ with_entry old e) → OnErr r (new ≡ old) → IsAscending new
ascending_after (Ok x) old new e h ok err = subst IsAscending (sym ok) (entered_ascending old e h)
ascending_after (Err x) old new e h ok err = subst IsAscending (sym err) h

pub entered_past : (xs ys : List Ranked) (e : Ranked) → Ahead e xs → with_entry (xs ++ ys) e ≡ xs ++ with_entry ys e
entered_past [] ys e h = refl
entered_past (x ∷ xs) ys e h =
    ap (λ o. match_ordering o (e ∷ x ∷ (xs ++ ys)) (x ∷ (xs ++ ys)) (x ∷ with_entry (xs ++ ys) e)) (turned e x Less h.0)
    ∙ ap (λ (l : List Ranked). x ∷ l) (entered_past xs ys e h.1)

pub entered_ahead : (xs ys : List Ranked) (e : Ranked) → Behind e ys → with_entry (xs ++ ys) e ≡ with_entry xs e ++ ys
entered_ahead [] [] e h = refl
entered_ahead [] (y ∷ ys) e h = ap (λ o. match_ordering o (e ∷ y ∷ ys) (y ∷ ys) (y ∷ with_entry ys e)) h.0
entered_ahead (x ∷ xs) ys e h = by (rank_order e x) (entered_ahead xs ys e h) where
  by : (o : Ordering) → with_entry (xs ++ ys) e ≡ with_entry xs e ++ ys
      → match_ordering o (e ∷ x ∷ (xs ++ ys)) (x ∷ (xs ++ ys)) (x ∷ with_entry (xs ++ ys) e)
      ≡ match_ordering o (e ∷ x ∷ xs) (x ∷ xs) (x ∷ with_entry xs e) ++ ys
  by Less more = refl
  by Equal more = refl
  by Greater more = ap (λ (l : List Ranked). x ∷ l) more

-- ---- an entry leaves

pub left_ascending : (list : List Ranked) (e : Ranked) → IsAscending list → IsAscending (without_entry list e)
left_ascending list e h = ascending_kept (λ (f : Ranked). not (is_eq (rank_order e f))) list h

pub left_before : (xs : List Ranked) (e : Ranked) → Ahead e xs → without_entry xs e ≡ xs
left_before [] e h = refl
left_before (f ∷ fs) e h =
    ap (λ o. cond (not (is_eq o)) (f ∷ without_entry fs e) (without_entry fs e)) (turned e f Less h.0)
    ∙ ap (λ (l : List Ranked). f ∷ l) (left_before fs e h.1)

pub left_behind : (back : List Ranked) (e : Ranked) → Behind e back → without_entry back e ≡ back
left_behind [] e h = refl
left_behind (b ∷ back) e h =
    ap (λ o. cond (not (is_eq o)) (b ∷ without_entry back e) (without_entry back e)) h.0
    ∙ ap (λ (l : List Ranked). b ∷ l) (left_behind back e h.1)

-- the first one leaves
pub left_first : (f : Ranked) (fs : List Ranked) (e : Ranked) → IsAscending (f ∷ fs) → is_eq (rank_order e f) ≡ true
    → without_entry (f ∷ fs) e ≡ fs
left_first f fs e h is =
    ap (λ b. cond (not b) (f ∷ without_entry fs e) (without_entry fs e)) is
    ∙ left_behind fs e (subst (λ (g : Ranked). Behind g fs) (sym (same_entry e f is)) h.0)

pub left_past : (xs ys : List Ranked) (e : Ranked) → Ahead e xs → without_entry (xs ++ ys) e ≡ xs ++ without_entry ys e
left_past xs ys e h =
    filter-append (λ (f : Ranked). not (is_eq (rank_order e f))) xs ys
    ∙ ap (λ (l : List Ranked). l ++ without_entry ys e) (left_before xs e h)

pub left_ahead : (xs ys : List Ranked) (e : Ranked) → Behind e ys → without_entry (xs ++ ys) e
    ≡ without_entry xs e ++ ys
left_ahead xs ys e h =
    filter-append (λ (f : Ranked). not (is_eq (rank_order e f))) xs ys
    ∙ ap (λ (l : List Ranked). without_entry xs e ++ l) (left_behind ys e h)

-- ---- what stands beside an entry

pub first_appended : (xs ys : List Ranked) → first_of (xs ++ ys) ≡ option_or (first_of xs) (first_of ys)
first_appended [] ys = refl
first_appended (x ∷ xs) ys = refl

pub last_appended : (xs ys : List Ranked) → first_of (reverse (xs ++ ys)) ≡ option_or (first_of (reverse ys))
    (first_of (reverse xs))
last_appended xs ys =
    ap (λ (l : List Ranked). first_of l) (reverse-append xs ys) ∙ first_appended (reverse ys) (reverse xs)

pub all_pass : (q : Ranked → Bool) (list : List Ranked) → AllByRecursion (λ f. q f ≡ true) list → filter q list ≡ list
all_pass q [] h = refl
all_pass q (g ∷ gs) h =
    ap (λ b. cond b (g ∷ filter q gs) (filter q gs)) h.0 ∙ ap (λ (l : List Ranked). g ∷ l) (all_pass q gs h.1)

none_pass : (q : Ranked → Bool) (list : List Ranked) → AllByRecursion (λ f. q f ≡ false) list → filter q list ≡ []
none_pass q [] h = refl
none_pass q (g ∷ gs) h = ap (λ b. cond b (g ∷ filter q gs) (filter q gs)) h.0 ∙ none_pass q gs h.1

pub whole_before : (xs : List Ranked) (e : Ranked) → Ahead e xs → before_entry xs e ≡ xs
whole_before xs e h =
    all_pass (λ (f : Ranked). is_lt (rank_order f e)) xs (each (λ (f : Ranked). rank_order f e
    ≡ Less) (λ (f : Ranked). is_lt (rank_order f e) ≡ true) (λ f k. ap is_lt k) xs h)

pub nothing_before : (ys : List Ranked) (e : Ranked) → Behind e ys → before_entry ys e ≡ []
nothing_before ys e h =
    none_pass (λ (f : Ranked). is_lt (rank_order f e)) ys (each (λ (f : Ranked). rank_order e f
    ≡ Less) (λ (f : Ranked). is_lt (rank_order f e) ≡ false) (λ f k. ap is_lt (turned f e Less k)) ys h)

pub whole_after : (ys : List Ranked) (e : Ranked) → Behind e ys → after_entry ys e ≡ ys
whole_after ys e h =
    all_pass (λ (f : Ranked). is_lt (rank_order e f)) ys (each (λ (f : Ranked). rank_order e f
    ≡ Less) (λ (f : Ranked). is_lt (rank_order e f) ≡ true) (λ f k. ap is_lt k) ys h)

pub nothing_after : (xs : List Ranked) (e : Ranked) → Ahead e xs → after_entry xs e ≡ []
nothing_after xs e h =
    none_pass (λ (f : Ranked). is_lt (rank_order e f)) xs (each (λ (f : Ranked). rank_order f e
    ≡ Less) (λ (f : Ranked). is_lt (rank_order e f) ≡ false) (λ f k. ap is_lt (turned e f Less k)) xs h)

pub before_past : (xs ys : List Ranked) (e : Ranked) → Ahead e xs → entry_before (xs ++ ys) e
    ≡ option_or (entry_before ys e) (first_of (reverse xs))
before_past xs ys e h =
    ap (λ (l : List Ranked). first_of (reverse l)) (filter-append (λ (f : Ranked). is_lt (rank_order f e)) xs ys
    ∙ ap (λ (l : List Ranked). l ++ before_entry ys e) (whole_before xs e h))
    ∙ last_appended xs (before_entry ys e)

pub before_ahead : (xs ys : List Ranked) (e : Ranked) → Behind e ys → entry_before (xs ++ ys) e ≡ entry_before xs e
before_ahead xs ys e h =
    ap (λ (l : List Ranked). first_of (reverse l)) (filter-append (λ (f : Ranked). is_lt (rank_order f e)) xs ys
    ∙ ap (λ (l : List Ranked). before_entry xs e ++ l) (nothing_before ys e h))
    ∙ last_appended (before_entry xs e) []

pub after_past : (xs ys : List Ranked) (e : Ranked) → Ahead e xs → entry_after (xs ++ ys) e ≡ entry_after ys e
after_past xs ys e h =
    ap (λ (l : List Ranked). first_of l) (filter-append (λ (f : Ranked). is_lt (rank_order e f)) xs ys
    ∙ ap (λ (l : List Ranked). l ++ after_entry ys e) (nothing_after xs e h))

pub after_ahead : (xs ys : List Ranked) (e : Ranked) → Behind e ys → entry_after (xs ++ ys) e
    ≡ option_or (entry_after xs e) (first_of ys)
after_ahead xs ys e h =
    ap (λ (l : List Ranked). first_of l) (filter-append (λ (f : Ranked). is_lt (rank_order e f)) xs ys
    ∙ ap (λ (l : List Ranked). after_entry xs e ++ l) (whole_after ys e h))
    ∙ first_appended (after_entry xs e) ys

-- ---- with an answer

pub on_ok : {T E : Type 0} {P Q : Type 0} (r : Result T E) → (P → Q) → OnOk r P → OnOk r Q
on_ok (Ok x) f h = f h
on_ok (Err x) f h = tt

pub on_err : {T E : Type 0} {P Q : Type 0} (r : Result T E) → (P → Q) → OnErr r P → OnErr r Q
on_err (Ok x) f h = tt
on_err (Err x) f h = f h
