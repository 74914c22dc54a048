-- What is in a ranked list, and that ascending lists of the same entries are equal.
use Rattle.std.proofs.lemmas.Cmp.{tied_itself}
use Rattle.std.proofs.Common.{◌≡◌, ℕ, Bool, true, false, cond, List, [], ◌∷◌, refl, sym, ap, ◌∙◌}
use Rattle.std.specs.Prelude.{◌==◌, not, ◌&&◌, ◌||◌}
use Rattle.std.specs.List.Sorted.{IsStrictlySortedBy}
use Rattle.std.specs.BTreeMap.{is_at}
use Rattle.std.specs.BTreeSet.{BTreeSet}
use Rattle.std.specs.Ordering.{is_eq, match_ordering, ordering_reverse}
use Rattle.std.specs.declared.cmp.Ordering.{Ordering}
use Rattle.std.specs.declared.cmp.Ordering.TheVariants.{Less, Equal, Greater}
use Rattle.std.proofs.lemmas.Map.Lookups.{btree_set_from_contains}
use Rattle.std.proofs.lemmas.Map.Views.{any-filter_same}
use Rattle.liq_types.specs.Ranked.{Ranked, rank_order, with_ranked, without_ranked, IsAscending}
use Rattle.liq_types.proofs.RankedLists.{rank_total, behind_more, with_behind}
use Rattle.liq_list_chunks.specs.Entries.{with_entry, without_entry}
use Rattle.liq_list_chunks.proofs.Lists.{exact_rank, same_entry}
use Rattle.liq_list_index.specs.Rows.{is_in}

-- ---- with one more, and without an account

or_swap : (a b c : Bool) → (a || (b || c)) ≡ (b || (a || c))
or_swap true true c = refl
or_swap true false c = refl
or_swap false true c = refl
or_swap false false c = refl

pub with_is_in : (list : List Ranked) (f e : Ranked) → is_in (with_ranked list f) e
    ≡ (is_eq (rank_order e f) || is_in list e)
with_is_in [] f e = refl
with_is_in (g ∷ gs) f e = by (rank_order f g) (with_is_in gs f e) where
  by : (o : Ordering) → is_in (with_ranked gs f) e ≡ (is_eq (rank_order e f) || is_in gs e)
      → is_in (match_ordering o (f ∷ g ∷ gs) (f ∷ g ∷ gs) (g ∷ with_ranked gs f)) e
      ≡ (is_eq (rank_order e f) || is_in (g ∷ gs) e)
  by Less more = refl
  by Equal more = refl
  by Greater more =
      ap (λ b. is_eq (rank_order e g) || b) more ∙ or_swap (is_eq (rank_order e g)) (is_eq (rank_order e f))
      (is_in gs e)

pub without_is_in : (list : List Ranked) (account : ℕ) (e : Ranked) → is_in (without_ranked list account) e
    ≡ (not (e.1 == account) && is_in list e)
without_is_in list account e =
    any-filter_same (is_at (rank_order e)) (λ (f : Ranked). not (f.1 == account)) (not (e.1 == account))
    (λ f same. ap (λ (g : Ranked). not (g.1 == account)) (sym (same_entry e f same))) list

-- ---- an entry comes in or leaves

pub swapped : (e f : Ranked) → is_eq (rank_order e f) ≡ is_eq (rank_order f e)
swapped e f = ap is_eq (rank_total.antisymm e f) ∙ by (rank_order f e) where
  by : (o : Ordering) → is_eq (ordering_reverse o) ≡ is_eq o
  by Less = refl
  by Equal = refl
  by Greater = refl

pub or_cond : (a b c : Bool) → a ≡ b → (a || c) ≡ cond b true c
or_cond true b c h = ap (λ d. cond d true c) h
or_cond false b c h = ap (λ d. cond d true c) h

pub entered_is_in : (list : List Ranked) (f e : Ranked) → is_in (with_entry list f) e
    ≡ cond (is_eq (rank_order f e)) true (is_in list e)
entered_is_in [] f e = or_cond (is_eq (rank_order e f)) (is_eq (rank_order f e)) false (swapped e f)
entered_is_in (g ∷ gs) f e = by (rank_order f g) refl (entered_is_in gs f e) where
  by : (o : Ordering) → rank_order f g ≡ o → is_in (with_entry gs f) e ≡ cond (is_eq (rank_order f e)) true (is_in gs e)
      → is_in (match_ordering o (f ∷ g ∷ gs) (g ∷ gs) (g ∷ with_entry gs f)) e ≡ cond (is_eq (rank_order f e)) true
      (is_in (g ∷ gs) e)
  by Less is more = or_cond (is_eq (rank_order e f)) (is_eq (rank_order f e)) (is_in (g ∷ gs) e) (swapped e f)
  by Equal is more =
      held (is_eq (rank_order f e)) refl where
        held : (b : Bool) → is_eq (rank_order f e) ≡ b → is_in (g ∷ gs) e ≡ cond b true (is_in (g ∷ gs) e)
        held false other_one = refl
        held true same =
            let it : f ≡ e = same_entry f e same in
            let other : f ≡ g = same_entry f g (ap is_eq is) in
            ap (λ o. is_eq o || is_in gs e) (ap (λ (x : Ranked). rank_order e x) (sym other ∙ it)
            ∙ tied_itself rank_total e)
  by Greater is more = ap (λ b. is_eq (rank_order e g) || b) more
      ∙ past (is_eq (rank_order e g)) (is_eq (rank_order f e)) (is_in gs e) where
        past : (a b c : Bool) → (a || cond b true c) ≡ cond b true (a || c)
        past true true c = refl
        past true false c = refl
        past false true c = refl
        past false false c = refl

pub left_is_in : (list : List Ranked) (f e : Ranked) → is_in (without_entry list f) e
    ≡ cond (is_eq (rank_order f e)) false (is_in list e)
left_is_in list f e =
    any-filter_same (is_at (rank_order e)) (λ (g : Ranked). not (is_eq (rank_order f g))) (not (is_eq (rank_order f e)))
    (λ g same. ap (λ (x : Ranked). not (is_eq (rank_order f x))) (sym (same_entry e g same))) list
    ∙ by (is_eq (rank_order f e)) where
      by : (b : Bool) → (not b && is_in list e) ≡ cond b false (is_in list e)
      by true = refl
      by false = refl

-- ---- ascending

head_out : (b c : Bool) → (b || c) ≡ false → b ≡ false
head_out true c h = h
head_out false c h = refl

tail_out : (b c : Bool) → (b || c) ≡ false → c ≡ false
tail_out true c h = cc
tail_out false c h = h

pub with_ascending : (list : List Ranked) (e : Ranked) → is_in list e ≡ false → IsAscending list
    → IsAscending (with_ranked list e)
with_ascending [] e n h = (tt, tt)
with_ascending (f ∷ fs) e n h =
    by (rank_order e f) refl (with_ascending fs e (tail_out (is_eq (rank_order e f)) (is_in fs e) n) h.1) where
      clash : rank_order e f ≡ Equal → ⊥
      clash is = let out = sym (ap is_eq is) ∙ head_out (is_eq (rank_order e f)) (is_in fs e) n in cc

      by : (o : Ordering) → rank_order e f ≡ o → IsAscending (with_ranked fs e)
          → IsAscending (match_ordering o (e ∷ f ∷ fs) (e ∷ f ∷ fs) (f ∷ with_ranked fs e))
      by Less is more = ((is, behind_more e f fs is h.0), h)
      by Equal is more = absurd (clash is)
      by Greater is more = (with_behind f fs e (rank_total.antisymm f e ∙ ap ordering_reverse is) h.0, more)

-- ---- the same entries

strict : (list : List Ranked) → IsAscending list → IsStrictlySortedBy rank_order list
unfolding IsStrictlySortedBy
strict [] h = tt
strict (e ∷ es) h = (h.0, strict es h.1)

pub same_list : (list more : List Ranked) → IsAscending list → IsAscending more
    → ((e : Ranked) → is_in list e ≡ is_in more e) → list ≡ more
same_list list more a b same =
    let one : BTreeSet Ranked = record { keys = list } in
    let other : BTreeSet Ranked = record { keys = more } in
    btree_set_from_contains rank_total one other (strict list a) (strict more b) same exact_rank
