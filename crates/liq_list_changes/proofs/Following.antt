-- Changes of a view, followed and followed again: whether an entry is in the list, and the words, are settled by each.
use Rattle.std.proofs.Common.{◌≡◌, ℕ, Bool, true, false, List, [], ◌∷◌, ◌++◌, refl, sym, ap, ◌∙◌, subst, inl, inr}
use Rattle.std.specs.Prelude.{◌==◌, not, ◌&&◌, ◌||◌, fold}
use Rattle.std.specs.Ordering.{is_eq}
use Rattle.std.proofs.lemmas.Bool.{eq-eqb}
use Rattle.liq_types.specs.declared.events.ListChange.{ListChange}
use Rattle.liq_types.specs.declared.events.ListChange.TheVariants.{Put, Gone, Words}
use Rattle.liq_types.specs.Ranked.{Ranked, rank_order, without_ranked, IsAscending}
use Rattle.liq_types.specs.Views.{View, followed, all_followed}
use Rattle.liq_types.proofs.RankedLists.{ascending_kept}
use Rattle.liq_list_index.specs.Followed.{listed, all_listed}
use Rattle.liq_list_index.specs.Rows.{is_in}
use Rattle.liq_list_index.proofs.Members.{with_is_in, without_is_in, with_ascending, same_list}
use Rattle.liq_list_index.proofs.Following.{list_of_views}
use Rattle.liq_list_changes.proofs.Settling.{Settles, given_again}

-- ---- the list ascends

out_of_rest : (list : List Ranked) (e : Ranked) → is_in (without_ranked list e.1) e ≡ false
out_of_rest list e =
    without_is_in list e.1 e ∙ ap (λ b. not b && is_in list e) (eq-eqb e.1 e.1 refl)

ascends : (list : List Ranked) (change : ListChange) → IsAscending list → IsAscending (listed list change)
ascends list (Put key account) h =
    with_ascending (without_ranked list account) (key, account) (out_of_rest list (key, account))
    (ascending_kept (λ (e : Ranked). not (e.1 == account)) list h)
ascends list (Gone account) h = ascending_kept (λ (e : Ranked). not (e.1 == account)) list h
ascends list (Words snap_stakes snap_coll sum_debt) h = h

pub all_ascend : (list : List Ranked) (changes : List ListChange) → IsAscending list
    → IsAscending (all_listed list changes)
all_ascend list [] h = h
all_ascend list (change ∷ more) h = all_ascend (listed list change) more (ascends list change h)

-- ---- an entry

is_in_after : Ranked → Bool → ListChange → Bool
is_in_after e there (Put key account) = is_eq (rank_order e (key, account)) || (not (e.1 == account) && there)
is_in_after e there (Gone account) = not (e.1 == account) && there
is_in_after e there (Words snap_stakes snap_coll sum_debt) = there

entry_settles : (e : Ranked) (change : ListChange) → Settles Bool (λ there. is_in_after e there change)
unfolding is_in_after
entry_settles e (Put key account) = by (is_eq (rank_order e (key, account))) (e.1 == account) where
  by : (a b : Bool) → Settles Bool (λ there. a || (not b && there))
  by true b = inr (true, λ there. refl)
  by false true = inr (false, λ there. refl)
  by false false = inl (λ there. refl)
entry_settles e (Gone account) = by (e.1 == account) where
  by : (b : Bool) → Settles Bool (λ there. not b && there)
  by true = inr (false, λ there. refl)
  by false = inl (λ there. refl)
entry_settles e (Words snap_stakes snap_coll sum_debt) = inl (λ there. refl)

one_is_in : (list : List Ranked) (change : ListChange) (e : Ranked) → is_in (listed list change) e
    ≡ is_in_after e (is_in list e) change
unfolding is_in_after
one_is_in list (Put key account) e =
    with_is_in (without_ranked list account) (key, account) e
    ∙ ap (λ b. is_eq (rank_order e (key, account)) || b) (without_is_in list account e)
one_is_in list (Gone account) e = without_is_in list account e
one_is_in list (Words snap_stakes snap_coll sum_debt) e = refl

all_is_in : (list : List Ranked) (changes : List ListChange) (e : Ranked) → is_in (all_listed list changes) e
    ≡ fold (is_in_after e) (is_in list e) changes
all_is_in list [] e = refl
all_is_in list (change ∷ more) e =
    all_is_in (listed list change) more e ∙ ap (λ b. fold (is_in_after e) b more) (one_is_in list change e)

list_again : (list : List Ranked) (first more : List ListChange) → IsAscending list
    → all_listed (all_listed list first) (first ++ more) ≡ all_listed list (first ++ more)
list_again list first more h =
    same_list (all_listed (all_listed list first) (first ++ more)) (all_listed list (first ++ more))
    (all_ascend (all_listed list first) (first ++ more) (all_ascend list first h)) (all_ascend list (first ++ more) h)
    (λ e.
    all_is_in (all_listed list first) (first ++ more) e
    ∙ ap (λ b. fold (is_in_after e) b (first ++ more)) (all_is_in list first e)
    ∙ given_again (is_in_after e) (entry_settles e) (is_in list e) first more
    ∙ sym (all_is_in list (first ++ more) e))

-- ---- the words

abbrev ThreeWords : Type 0
ThreeWords = ℕ × ℕ × ℕ

abbrev words_of : View → ThreeWords
words_of v = (v.snap_stakes, v.snap_coll, v.sum_debt)

words_after : ThreeWords → ListChange → ThreeWords
words_after words (Put key account) = words
words_after words (Gone account) = words
words_after words (Words snap_stakes snap_coll sum_debt) = (snap_stakes, snap_coll, sum_debt)

words_settle : (change : ListChange) → Settles ThreeWords (λ words. words_after words change)
unfolding words_after
words_settle (Put key account) = inl (λ words. refl)
words_settle (Gone account) = inl (λ words. refl)
words_settle (Words snap_stakes snap_coll sum_debt) = inr ((snap_stakes, snap_coll, sum_debt), λ words. refl)

one_words : (v : View) (change : ListChange) → words_of (followed v change) ≡ words_after (words_of v) change
unfolding words_after
one_words v (Put key account) = refl
one_words v (Gone account) = refl
one_words v (Words snap_stakes snap_coll sum_debt) = refl

all_words : (v : View) (changes : List ListChange) → words_of (all_followed v changes)
    ≡ fold words_after (words_of v) changes
all_words v [] = refl
all_words v (change ∷ more) =
    all_words (followed v change) more ∙ ap (λ (w : ThreeWords). fold words_after w more) (one_words v change)

words_again : (v : View) (first more : List ListChange) → words_of (all_followed (all_followed v first) (first ++ more))
    ≡ words_of (all_followed v (first ++ more))
words_again v first more =
    all_words (all_followed v first) (first ++ more)
    ∙ ap (λ (w : ThreeWords). fold words_after w (first ++ more)) (all_words v first)
    ∙ given_again words_after words_settle (words_of v) first more
    ∙ sym (all_words v (first ++ more))

-- ---- the view

abbrev with_words : List Ranked → ThreeWords → View
with_words list words = record { list = list; snap_stakes = words.0; snap_coll = words.1; sum_debt = words.2 }

entries_again : (v : View) (first more : List ListChange) → IsAscending v.list
    → (all_followed (all_followed v first) (first ++ more)).list ≡ (all_followed v (first ++ more)).list
entries_again v first more h =
    list_of_views (all_followed v first) (first ++ more)
    ∙ ap (λ (l : List Ranked). all_listed l (first ++ more)) (list_of_views v first)
    ∙ list_again v.list first more h
    ∙ sym (list_of_views v (first ++ more))

pub view_again : (v : View) (first more : List ListChange) → IsAscending v.list
    → all_followed (all_followed v first) (first ++ more) ≡ all_followed v (first ++ more)
view_again v first more h =
    ap (λ (l : List Ranked). with_words l (words_of (all_followed (all_followed v first) (first ++ more))))
    (entries_again v first more h)
    ∙ ap (λ (w : ThreeWords). with_words (all_followed v (first ++ more)).list w) (words_again v first more)

pub view_ascends : (v : View) (changes : List ListChange) → IsAscending v.list
    → IsAscending (all_followed v changes).list
view_ascends v changes h = subst IsAscending (sym (list_of_views v changes)) (all_ascend v.list changes h)
