-- The three parts of the entries make one list: what an entry makes of it that comes or leaves, and what stands beside
-- one.
use Rattle.std.proofs.Common.{Bool, true, false, Result, Ok, Err, subst, ◌≡◌, List, [], ◌∷◌, ◌++◌, refl, sym, ap, ◌∙◌, arith, Option}
use Rattle.std.proofs.lemmas.Cmp.{int_ranked}
use Rattle.std.proofs.lemmas.Int.{ints}
use Rattle.std.proofs.lemmas.List.{append_assoc}
use Rattle.std.proofs.lemmas.List.Elements.{All-append, All-from_recursion, recursion_from_All}
use Rattle.std.specs.Prelude.{OnOk, OnErr, ◌<ℤ◌, not, reverse}
use Rattle.std.specs.List.{AllByRecursion}
use Rattle.std.specs.Option.{option_or}
use Rattle.std.specs.Ordering.{MatchOrdering, nat_cmp, int_cmp, is_eq, ordering_then}
use Rattle.std.specs.declared.cmp.Ordering.{Ordering}
use Rattle.std.specs.declared.cmp.Ordering.TheVariants.{Less, Equal, Greater}
use Rattle.liq_types.specs.Ranked.{Ranked, rank_order, IsAscending, first_of}
use Rattle.liq_types.proofs.RankedLists.{Behind, all_kept}
use Rattle.liq_list_chunks.proofs.Lists.{Ahead, after_ahead, after_past, before_ahead, before_past, each, entered_ahead, entered_past, left_ahead, left_ascending, left_past}
use Rattle.liq_list_index.specs.EntrySets.{IsBelow, IsBetween, IsAbove, AreParted}
use Rattle.liq_list_chunks.specs.Entries.{with_entry, without_entry, entry_before, entry_after}

-- ---- by their keys

-- a lower key comes before
pub lower_key : (e f : Ranked) → e.0 <ℤ f.0 → rank_order e f ≡ Less
lower_key e f h = ap (λ o. ordering_then o (nat_cmp e.1 f.1)) (lower (int_cmp e.0 f.0)
    (int_ranked e.0 f.0 (int_cmp e.0 f.0) refl)) where
      lower : (o : Ordering) → MatchOrdering o (e.0 <ℤ f.0) (e.0 ≡ f.0) (f.0 <ℤ e.0) → o ≡ Less
      lower Less k = refl
      lower Equal k = absurd (omega (arith, ints, h, k))
      lower Greater k = absurd (omega (arith, ints, h, k))

pub ahead_of_between : (e : Ranked) (list : List Ranked) → IsBetween e → AllByRecursion IsBelow list → Ahead e list
ahead_of_between e list is h =
    each IsBelow (λ (f : Ranked). rank_order f e ≡ Less) (λ f k. lower_key f e (omega (arith, ints, is.0, k))) list h

pub behind_between : (e : Ranked) (list : List Ranked) → IsBetween e → AllByRecursion IsAbove list → Behind e list
behind_between e list is h =
    each IsAbove (λ (f : Ranked). rank_order e f ≡ Less) (λ f k. lower_key e f (omega (arith, ints, is.1, k))) list h

pub ahead_of_above : (e : Ranked) (list : List Ranked) → IsAbove e → AllByRecursion IsBelow list → Ahead e list
ahead_of_above e list is h =
    each IsBelow (λ (f : Ranked). rank_order f e ≡ Less) (λ f k. lower_key f e (omega (arith, ints, is, k))) list h

pub between_ahead : (e : Ranked) (list : List Ranked) → IsAbove e → AllByRecursion IsBetween list → Ahead e list
between_ahead e list is h =
    each IsBetween (λ (f : Ranked). rank_order f e ≡ Less) (λ f k. lower_key f e (omega (arith, ints, is, k.1))) list h

pub behind_below : (e : Ranked) (list : List Ranked) → IsBelow e → AllByRecursion IsAbove list → Behind e list
behind_below e list is h =
    each IsAbove (λ (f : Ranked). rank_order e f ≡ Less) (λ f k. lower_key e f (omega (arith, ints, is, k))) list h

pub between_behind : (e : Ranked) (list : List Ranked) → IsBelow e → AllByRecursion IsBetween list → Behind e list
between_behind e list is h =
    each IsBetween (λ (f : Ranked). rank_order e f ≡ Less) (λ f k. lower_key e f (omega (arith, ints, is, k.0))) list h

-- ---- one behind the other

pub all_appended : (P : Ranked → Type 0) (xs ys : List Ranked) → AllByRecursion P xs → AllByRecursion P ys
    → AllByRecursion P (xs ++ ys)
all_appended P xs ys h k = recursion_from_All P (xs ++ ys) (All-append P xs ys (All-from_recursion P xs h)
    (All-from_recursion P ys k))

-- each of the one comes before each of the other
abbrev Apart : List Ranked → List Ranked → Type 0
Apart xs ys = AllByRecursion (λ (x : Ranked). Behind x ys) xs

pub appended_ascend : (xs ys : List Ranked) → IsAscending xs → IsAscending ys → Apart xs ys → IsAscending (xs ++ ys)
appended_ascend [] ys h k apart = k
appended_ascend (x ∷ xs) ys h k apart =
    (all_appended (λ (f : Ranked). rank_order x f ≡ Less) xs ys h.0 apart.0, appended_ascend xs ys h.1 k apart.1)

both_behind : (e : Ranked) (shorts above : List Ranked) → IsBelow e → AllByRecursion IsBetween shorts
    → AllByRecursion IsAbove above → Behind e (shorts ++ above)
both_behind e shorts above is mid high =
    all_appended (λ (f : Ranked). rank_order e f ≡ Less) shorts above (between_behind e shorts is mid)
    (behind_below e above is high)

pub below_apart : (xs shorts above : List Ranked) → AllByRecursion IsBelow xs → AllByRecursion IsBetween shorts
    → AllByRecursion IsAbove above → Apart xs (shorts ++ above)
below_apart xs shorts above h mid high =
    each IsBelow (λ (x : Ranked). Behind x (shorts ++ above)) (λ x is. both_behind x shorts above is mid high) xs h

pub shorts_apart : (xs above : List Ranked) → AllByRecursion IsBetween xs → AllByRecursion IsAbove above
    → Apart xs above
shorts_apart xs above h high = each IsBetween (λ (x : Ranked). Behind x above)
    (λ x is. behind_between x above is high) xs h

-- ---- an entry comes in

-- ---- an entry leaves

pub all_left : (P : Ranked → Type 0) (list : List Ranked) (e : Ranked) → AllByRecursion P list
    → AllByRecursion P (without_entry list e)
all_left P list e h = all_kept P (λ (f : Ranked). not (is_eq (rank_order e f))) list h

-- ---- what stands beside an entry

-- ---- three parts

both_ahead : (e : Ranked) (below shorts : List Ranked) → IsAbove e → AllByRecursion IsBelow below
    → AllByRecursion IsBetween shorts → Ahead e (below ++ shorts)
both_ahead e below shorts is low mid =
    all_appended (λ (f : Ranked). rank_order f e ≡ Less) below shorts (ahead_of_above e below is low)
    (between_ahead e shorts is mid)

module _ (below shorts above : List Ranked) (p : AreParted below shorts above) where
  pub parts_ascend : IsAscending (below ++ (shorts ++ above))
  parts_ascend =
      appended_ascend below (shorts ++ above) p.below_ascend (appended_ascend shorts above p.shorts_ascend
      p.above_ascend (shorts_apart shorts above p.all_short p.all_above)) (below_apart below shorts above p.all_below
      p.all_short p.all_above)

  module _ (e : Ranked) where
    pub below_entered : IsBelow e → with_entry (below ++ (shorts ++ above)) e ≡ with_entry below e ++ (shorts ++ above)
    below_entered is = entered_ahead below (shorts ++ above) e (both_behind e shorts above is p.all_short p.all_above)

    pub shorts_entered : IsBetween e → with_entry (below ++ (shorts ++ above)) e
        ≡ below ++ (with_entry shorts e ++ above)
    shorts_entered is =
        entered_past below (shorts ++ above) e (ahead_of_between e below is p.all_below)
        ∙ ap (λ (l : List Ranked). below ++ l) (entered_ahead shorts above e (behind_between e above is p.all_above))

    pub above_entered : IsAbove e → with_entry (below ++ (shorts ++ above)) e ≡ below ++ (shorts ++ with_entry above e)
    above_entered is =
        entered_past below (shorts ++ above) e (ahead_of_above e below is p.all_below)
        ∙ ap (λ (l : List Ranked). below ++ l) (entered_past shorts above e (between_ahead e shorts is p.all_short))

    pub below_left : IsBelow e → without_entry (below ++ (shorts ++ above)) e ≡ without_entry below e
        ++ (shorts ++ above)
    below_left is = left_ahead below (shorts ++ above) e (both_behind e shorts above is p.all_short p.all_above)

    pub shorts_left : IsBetween e → without_entry (below ++ (shorts ++ above)) e ≡ below ++ (without_entry shorts e
        ++ above)
    shorts_left is =
        left_past below (shorts ++ above) e (ahead_of_between e below is p.all_below)
        ∙ ap (λ (l : List Ranked). below ++ l) (left_ahead shorts above e (behind_between e above is p.all_above))

    pub shorts_without : AreParted below (without_entry shorts e) above
    shorts_without =
        record {
          below_ascend = p.below_ascend;
          shorts_ascend = left_ascending shorts e p.shorts_ascend;
          above_ascend = p.above_ascend;
          all_below = p.all_below;
          all_short = all_left IsBetween shorts e p.all_short;
          all_above = p.all_above;
        }

    pub above_left : IsAbove e → without_entry (below ++ (shorts ++ above)) e
        ≡ below ++ (shorts ++ without_entry above e)
    above_left is =
        left_past below (shorts ++ above) e (ahead_of_above e below is p.all_below)
        ∙ ap (λ (l : List Ranked). below ++ l) (left_past shorts above e (between_ahead e shorts is p.all_short))

    pub below_before : IsBelow e → entry_before (below ++ (shorts ++ above)) e ≡ entry_before below e
    below_before is = before_ahead below (shorts ++ above) e (both_behind e shorts above is p.all_short p.all_above)

    pub shorts_before : IsBetween e → entry_before (below ++ (shorts ++ above)) e ≡ option_or (entry_before shorts e)
        (first_of (reverse below))
    shorts_before is =
        before_past below (shorts ++ above) e (ahead_of_between e below is p.all_below)
        ∙ ap (λ (o : Option Ranked). option_or o (first_of (reverse below))) (before_ahead shorts above e
        (behind_between e above is p.all_above))

    pub above_before : IsAbove e → entry_before (below ++ (shorts ++ above)) e ≡ option_or (entry_before above e)
        (first_of (reverse (below ++ shorts)))
    above_before is =
        ap (λ (l : List Ranked). entry_before l e) (sym (append_assoc below shorts above))
        ∙ before_past (below ++ shorts) above e (both_ahead e below shorts is p.all_below p.all_short)

    pub below_after : IsBelow e → entry_after (below ++ (shorts ++ above)) e ≡ option_or (entry_after below e)
        (first_of (shorts ++ above))
    below_after is = after_ahead below (shorts ++ above) e (both_behind e shorts above is p.all_short p.all_above)

    pub shorts_after : IsBetween e → entry_after (below ++ (shorts ++ above)) e ≡ option_or (entry_after shorts e)
        (first_of above)
    shorts_after is =
        after_past below (shorts ++ above) e (ahead_of_between e below is p.all_below)
        ∙ after_ahead shorts above e (behind_between e above is p.all_above)

    pub above_after : IsAbove e → entry_after (below ++ (shorts ++ above)) e ≡ entry_after above e
    above_after is =
        ap (λ (l : List Ranked). entry_after l e) (sym (append_assoc below shorts above))
        ∙ after_past (below ++ shorts) above e (both_ahead e below shorts is p.all_below p.all_short)

-- ---- as it was, or with a change

-- what holds of a list as it was and of what it may have become holds of what it is
pub either : (P : List Ranked → Type 0) {T E : Type 0} (r : Result T E) (old some new : List Ranked)
    → OnOk r (new ≡ some) → OnErr r (new ≡ old) → P old → P some → P new
either P (Ok x) old some new ok err p q = subst P (sym ok) q
either P (Err x) old some new ok err p q = subst P (sym err) p

pub either_way : (P : List Ranked → Type 0) (b : Bool) (old some new : List Ranked) → (b ≡ true → new ≡ some)
    → (b ≡ false → new ≡ old) → P old → P some → P new
either_way P true old some new done kept p q = subst P (sym (done refl)) q
either_way P false old some new done kept p q = subst P (sym (kept refl)) p
