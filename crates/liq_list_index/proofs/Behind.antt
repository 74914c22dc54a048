-- An entry that comes behind all others, and whose account is none of theirs.
use Rattle.std.proofs.Common.{◌≡◌, ℕ, ℤ, ◌<◌, ◌+◌, suc, cond, List, [], ◌∷◌, ◌++◌, length, get_or, take, drop, refl, sym, ap, ◌∙◌, subst, Some, Option}
use Rattle.std.specs.Prelude.{◌≢◌, not}
use Rattle.std.specs.List.{AllByRecursion}
use Rattle.std.specs.Ordering.{match_ordering}
use Rattle.std.specs.declared.cmp.Ordering.TheVariants.{Less}
use Rattle.std.proofs.lemmas.Bool.{ne_eqb}
use Rattle.std.proofs.lemmas.List.{append-nil, take_more}
use Rattle.std.proofs.Math.Seq.{split_at}
use Rattle.liq_types.specs.Ranked.{Ranked, rank_order, IsAscending, with_ranked, without_ranked}
use Rattle.liq_list_chunks.specs.Entries.{with_entry}
use Rattle.liq_list_chunks.proofs.Lists.{Ahead, before_middle, entered_ascending, entered_past, turned, all_entered}
use Rattle.liq_list_index.specs.EntrySets.{IsBelow, IsBetween, IsAbove, AreParted}
use Rattle.liq_list_index.specs.Rows.{StandOnce, Follows}
use Rattle.liq_list_index.proofs.Following.{Sent, put}
use Rattle.liq_list_index.proofs.Parts.{below_entered, shorts_entered, above_entered}

-- ---- in a list

pub last_entered : (list : List Ranked) (e : Ranked) → Ahead e list → with_entry list e ≡ list ++ e ∷ []
last_entered list e h =
    ap (λ (l : List Ranked). with_entry l e) (sym (append-nil list)) ∙ entered_past list [] e h

last_ranked : (list : List Ranked) (e : Ranked) → Ahead e list → with_ranked list e ≡ list ++ e ∷ []
last_ranked [] e h = refl
last_ranked (f ∷ fs) e h =
    ap (λ o. match_ordering o (e ∷ f ∷ fs) (e ∷ f ∷ fs) (f ∷ with_ranked fs e)) (turned e f Less h.0)
    ∙ ap (λ (l : List Ranked). f ∷ l) (last_ranked fs e h.1)

without_absent : (list : List Ranked) (account : ℕ) → AllByRecursion (λ (f : Ranked). f.1 ≢ account) list
    → without_ranked list account ≡ list
without_absent [] account h = refl
without_absent (f ∷ fs) account h =
    ap (λ b. cond (not b) (f ∷ without_ranked fs account) (without_ranked fs account)) (ne_eqb f.1 account h.0)
    ∙ ap (λ (l : List Ranked). f ∷ l) (without_absent fs account h.1)

others_before : (front : List Ranked) (e : Ranked) (back : List Ranked) → StandOnce (front ++ (e ∷ back))
    → AllByRecursion (λ (f : Ranked). f.1 ≢ e.1) front
others_before [] e back h = tt
others_before (f ∷ front) e back h = (at front h.0, others_before front e back h.1) where
  at : (xs : List Ranked) → AllByRecursion (λ (g : Ranked). g.1 ≢ f.1) (xs ++ (e ∷ back)) → f.1 ≢ e.1
  at [] k = λ same. k.0 (sym same)
  at (x ∷ xs) k = at xs k.1

-- ---- the next of a list

module _ (list : List Ranked) (i : ℕ) (h : i < length list) where
  abbrev next : Ranked → Ranked
  next d = get_or list i d

  parts : (d : Ranked) → list ≡ take i list ++ (next d ∷ drop (suc i) list)
  parts d = split_at list i d h

  pub next_ahead : (d : Ranked) → IsAscending list → Ahead (next d) (take i list)
  next_ahead d asc =
      before_middle (take i list) (next d) (drop (suc i) list) (subst IsAscending (parts d) asc)

  -- what stands up to it ascends
  pub next_ascends : (d : Ranked) → IsAscending list → IsAscending (take i list ++ next d ∷ [])
  next_ascends d asc = front (take i list) (next d) (drop (suc i) list) (subst IsAscending (parts d) asc) where
    kept : (P : Ranked → Type 0) (xs : List Ranked) (e : Ranked) (back : List Ranked)
        → AllByRecursion P (xs ++ (e ∷ back)) → AllByRecursion P (xs ++ e ∷ [])
    kept P [] e back k = (k.0, tt)
    kept P (x ∷ xs) e back k = (k.0, kept P xs e back k.1)

    front : (xs : List Ranked) (e : Ranked) (back : List Ranked) → IsAscending (xs ++ (e ∷ back))
        → IsAscending (xs ++ e ∷ [])
    front [] e back k = (tt, tt)
    front (x ∷ xs) e back k = (kept (λ (f : Ranked). rank_order x f ≡ Less) xs e back k.0, front xs e back k.1)

  -- its account stands where it does
  pub next_follows : (d : Ranked) (key other : ℕ → Option ℤ) → IsAscending list → StandOnce list
      → Sent key other (next d).1 (Some (next d).0) → Follows key (take i list) → Follows other (take (i + 1) list)
  next_follows d key other asc once sent f =
      let front = take i list in
      let e = next d in
      subst (Follows other) (ap (λ (l : List Ranked). with_ranked l e) (without_absent front e.1 (others_before front e
      (drop (suc i) list) (subst StandOnce (parts d) once)))
      ∙ last_ranked front e (next_ahead d asc) ∙ sym (take_more list i d h))
      (put key other front e.1 e.0 sent f)

-- ---- into its part

module _ (below shorts above : List Ranked) (p : AreParted below shorts above) (e : Ranked)
    (asc : IsAscending ((below ++ (shorts ++ above)) ++ e ∷ [])) where
  ahead : Ahead e (below ++ (shorts ++ above))
  ahead = before_middle (below ++ (shorts ++ above)) e [] asc

  entered : with_entry (below ++ (shorts ++ above)) e ≡ (below ++ (shorts ++ above)) ++ e ∷ []
  entered = last_entered (below ++ (shorts ++ above)) e ahead

  first_of_two : (xs ys : List Ranked) → Ahead e (xs ++ ys) → Ahead e xs
  first_of_two [] ys h = tt
  first_of_two (x ∷ xs) ys h = (h.0, first_of_two xs ys h.1)

  second_of_two : (xs ys : List Ranked) → Ahead e (xs ++ ys) → Ahead e ys
  second_of_two [] ys h = h
  second_of_two (x ∷ xs) ys h = second_of_two xs ys h.1

  pub below_added : (new : List Ranked) → IsBelow e → new ≡ with_entry below e
      → new ++ (shorts ++ above) ≡ (below ++ (shorts ++ above)) ++ e ∷ []
  below_added new is was =
      ap (λ (l : List Ranked). l ++ (shorts ++ above)) was ∙ sym (below_entered below shorts above p e is) ∙ entered

  pub below_parted : (new : List Ranked) → IsBelow e → new ≡ with_entry below e → AreParted new shorts above
  below_parted new is was = subst (λ (l : List Ranked). AreParted l shorts above) (sym was) (record {
    below_ascend = entered_ascending below e p.below_ascend;
    shorts_ascend = p.shorts_ascend;
    above_ascend = p.above_ascend;
    all_below = all_entered IsBelow below e p.all_below is;
    all_short = p.all_short;
    all_above = p.all_above;
  })

  short_entered : with_entry shorts e ≡ shorts ++ e ∷ []
  short_entered = last_entered shorts e (first_of_two shorts above (second_of_two below (shorts ++ above) ahead))

  pub short_added : (new : List Ranked) → IsBetween e → new ≡ shorts ++ e ∷ []
      → below ++ (new ++ above) ≡ (below ++ (shorts ++ above)) ++ e ∷ []
  short_added new is was =
      ap (λ (l : List Ranked). below ++ (l ++ above)) (was ∙ sym short_entered)
      ∙ sym (shorts_entered below shorts above p e is) ∙ entered

  pub short_parted : (new : List Ranked) → IsBetween e → new ≡ shorts ++ e ∷ [] → AreParted below new above
  short_parted new is was = subst (λ (l : List Ranked). AreParted below l above) (sym (was ∙ sym short_entered))
      (record {
        below_ascend = p.below_ascend;
        shorts_ascend = entered_ascending shorts e p.shorts_ascend;
        above_ascend = p.above_ascend;
        all_below = p.all_below;
        all_short = all_entered IsBetween shorts e p.all_short is;
        all_above = p.all_above;
      })

  pub above_added : (new : List Ranked) → IsAbove e → new ≡ with_entry above e
      → below ++ (shorts ++ new) ≡ (below ++ (shorts ++ above)) ++ e ∷ []
  above_added new is was =
      ap (λ (l : List Ranked). below ++ (shorts ++ l)) was ∙ sym (above_entered below shorts above p e is) ∙ entered

  pub above_parted : (new : List Ranked) → IsAbove e → new ≡ with_entry above e → AreParted below shorts new
  above_parted new is was = subst (λ (l : List Ranked). AreParted below shorts l) (sym was) (record {
    below_ascend = p.below_ascend;
    shorts_ascend = p.shorts_ascend;
    above_ascend = entered_ascending above e p.above_ascend;
    all_below = p.all_below;
    all_short = p.all_short;
    all_above = all_entered IsAbove above e p.all_above is;
  })
