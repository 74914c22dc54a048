-- The place of an entry in an ascending list, by number: what stands before it and behind it there, and what the list
-- is once the entry came in there or left.
use Rattle.std.proofs.Common.{◌≡◌, ℕ, ◌<◌, ◌≤◌, suc, zero, Bool, true, false, cond, List, [], ◌∷◌, ◌++◌, length, get_or, take, drop, refl, sym, ap, ◌∙◌, arith, ◌-◌, subst}
use Rattle.std.proofs.lemmas.List.{take-append-drop}
use Rattle.std.specs.Prelude.{not, insert, remove}
use Rattle.std.specs.Ordering.{is_eq, is_lt, match_ordering}
use Rattle.std.specs.declared.cmp.Ordering.{Ordering}
use Rattle.std.specs.declared.cmp.Ordering.TheVariants.{Less, Equal, Greater}
use Rattle.liq_types.specs.Ranked.{Ranked, rank_order, IsAscending}
use Rattle.liq_types.proofs.RankedLists.{rank_total, Behind, behind_more}
use Rattle.liq_list_chunks.specs.Chunks.{IsPlace}
use Rattle.liq_list_chunks.specs.Entries.{with_entry, without_entry}
use Rattle.liq_list_chunks.proofs.Lists.{Ahead, entered_ahead, entered_past, is_tied, left_ahead, left_before, left_first, is_less, same_entry, turned}

-- ---- halves of a list

pub first_half : (front back : List Ranked) → IsAscending (front ++ back) → IsAscending front
first_half [] back h = tt
first_half (a ∷ front) back h = (part front h.0, first_half front back h.1) where
  part : (xs : List Ranked) → Behind a (xs ++ back) → Behind a xs
  part [] k = tt
  part (x ∷ xs) k = (k.0, part xs k.1)

pub last_half : (front back : List Ranked) → IsAscending (front ++ back) → IsAscending back
last_half [] back h = h
last_half (a ∷ front) back h = last_half front back h.1

pub before_more : (front : List Ranked) (f e : Ranked) → is_lt (rank_order e f) ≡ false → Ahead f front → Ahead e front
before_more [] f e h k = tt
before_more (a ∷ front) f e h k = (by (rank_order e f) refl h, before_more front f e h k.1) where
  by : (o : Ordering) → rank_order e f ≡ o → is_lt o ≡ false → rank_order a e ≡ Less
  by Less is c = cc
  by Equal is c = ap (λ (g : Ranked). rank_order a g) (same_entry e f (ap is_eq is)) ∙ k.0
  by Greater is c = rank_total.trans a f e k.0 (turned f e Greater is)

take_before : (list : List Ranked) (p : ℕ) (e d : Ranked) → IsAscending list → p < length list
    → is_lt (rank_order (get_or list p d) e) ≡ true → Ahead e (take (suc p) list)
take_before [] p e d h k lt = absurd (omega arith)
take_before (f ∷ fs) zero e d h k lt = (is_less (rank_order f e) lt, tt)
take_before (f ∷ []) (suc p) e d h k lt = absurd (omega arith)
take_before (f ∷ g ∷ fs) (suc p) e d h k lt =
    let more : Ahead e (take (suc p) (g ∷ fs)) = take_before (g ∷ fs) p e d h.1 (omega arith) lt in
    (rank_total.trans f g e h.0.0 more.0, more)

-- the first of a list, if there is one, comes behind an entry
abbrev pub Leads : Ranked → List Ranked → Type 0
Leads e [] = Unit {0}
Leads e (b ∷ back) = rank_order e b ≡ Less

pub behind_from : (list : List Ranked) (e : Ranked) → Leads e list → IsAscending list → Behind e list
behind_from [] e lead h = tt
behind_from (b ∷ back) e lead h = (lead, behind_more e b back lead h.0)

leads_drop : (list : List Ranked) (at : ℕ) (e : Ranked) → ((d : Ranked) → at < length list
    → is_lt (rank_order (get_or list at d) e) ≡ false) → ((d : Ranked) → at < length list
    → is_eq (rank_order e (get_or list at d)) ≡ false) → Leads e (drop at list)
leads_drop [] zero e high other = tt
leads_drop [] (suc at) e high other = tt
leads_drop (b ∷ back) zero e high other = by (rank_order e b) refl (high e (omega arith)) (other e (omega arith)) where
  by : (o : Ordering) → rank_order e b ≡ o → is_lt (rank_order b e) ≡ false → is_eq o ≡ false → o ≡ Less
  by Less is x y = refl
  by Equal is x y = cc
  by Greater is x y = let clash : true ≡ false = sym (ap is_lt (turned b e Greater is)) ∙ x in cc
leads_drop (b ∷ back) (suc at) e high other =
    leads_drop back at e (λ d k. high d (omega arith)) (λ d k. other d (omega arith))

-- ---- at its place in a list

module _ (list : List Ranked) (e : Ranked) (at : ℕ) (ascending : IsAscending list) (place : IsPlace list e at) where
  pub halves : take at list ++ drop at list ≡ list
  halves = take-append-drop at list

  pub behind_ascending : IsAscending (drop at list)
  behind_ascending = last_half (take at list) (drop at list) (subst IsAscending (sym halves) ascending)

  -- those before the place come before the entry
  pub ahead : Ahead e (take at list)
  ahead = by at place.within place.low where
    by : (n : ℕ) → n ≤ length list → ((d : Ranked) → 0 < n → is_lt (rank_order (get_or list (n - 1) d) e) ≡ true)
        → Ahead e (take n list)
    by zero k low = tt
    by (suc p) k low =
        let q : suc p - 1 ≡ p = omega arith in
        take_before list p e e ascending (omega arith) (ap (λ n. is_lt (rank_order (get_or list n e) e)) (sym q)
        ∙ low e (omega arith))

  module _ (other : (d : Ranked) → at < length list → is_eq (rank_order e (get_or list at d)) ≡ false) where
    -- those from the place on come after an entry that isn't there
    pub behind : Behind e (drop at list)
    behind = behind_from (drop at list) e (leads_drop list at e place.high other) behind_ascending

    pub entered_at : insert list at e ≡ with_entry list e
    entered_at =
        sym (
        ap (λ (l : List Ranked). with_entry l e) (sym halves)
        ∙ entered_past (take at list) (drop at list) e ahead
        ∙ ap (λ (l : List Ranked). take at list ++ l) (entered_ahead [] (drop at list) e behind)
        )

    pub left_absent : list ≡ without_entry list e
    left_absent =
        sym (
        ap (λ (l : List Ranked). without_entry l e) (sym halves)
        ∙ left_ahead (take at list) (drop at list) e behind
        ∙ ap (λ (l : List Ranked). l ++ drop at list) (left_before (take at list) e ahead)
        ∙ halves
        )

  module _ (there : at < length list) (same : is_eq (rank_order e (get_or list at e)) ≡ true) where
    pub entered_there : list ≡ with_entry list e
    entered_there = sym (by list at ahead there same) where
      by : (l : List Ranked) (n : ℕ) → Ahead e (take n l) → n < length l → is_eq (rank_order e (get_or l n e)) ≡ true
          → with_entry l e ≡ l
      by [] n h k is = absurd (omega arith)
      by (f ∷ fs) zero h k is =
          ap (λ o. match_ordering o (e ∷ f ∷ fs) (f ∷ fs) (f ∷ with_entry fs e)) (is_tied (rank_order e f) is)
      by (f ∷ fs) (suc n) h k is =
          ap (λ o. match_ordering o (e ∷ f ∷ fs) (f ∷ fs) (f ∷ with_entry fs e)) (turned e f Less h.0)
          ∙ ap (λ (l : List Ranked). f ∷ l) (by fs n h.1 (omega arith) is)

    pub left_at : remove list at ≡ without_entry list e
    left_at = sym (by list at ascending ahead there same) where
      by : (l : List Ranked) (n : ℕ) → IsAscending l → Ahead e (take n l) → n < length l
          → is_eq (rank_order e (get_or l n e)) ≡ true → without_entry l e ≡ remove l n
      by [] n h b k is = absurd (omega arith)
      by (f ∷ fs) zero h b k is = left_first f fs e h is
      by (f ∷ fs) (suc n) h b k is =
          ap (λ o. cond (not (is_eq o)) (f ∷ without_entry fs e) (without_entry fs e)) (turned e f Less b.0)
          ∙ ap (λ (l : List Ranked). f ∷ l) (by fs n h.1 b.1 (omega arith) is)

-- what was the first of the rest comes first
pub first_back : (rest more : List Ranked) (x : Ranked) → (rest ≡ [] → ⊥) → x ≡ get_or rest 0 x → more ≡ remove rest 0
    → x ∷ more ≡ rest
first_back [] more x some is left_over = absurd (some refl)
first_back (r ∷ rs) more x some is left_over =
    ap (λ (y : Ranked). y ∷ more) is ∙ ap (λ (l : List Ranked). r ∷ l) left_over

-- ---- the place of an entry in a list that was seen twice

-- the entry's place, and whether the entry stands there
pub record IsSeen (list : List Ranked) (e : Ranked) (at : ℕ) (there : Bool) : Type 0 where
  pub place : IsPlace list e at
  pub within : there ≡ true → at < length list
  pub same : (d : Ranked) → at < length list → is_eq (rank_order e (get_or list at d)) ≡ there

pub is_seen : (list : List Ranked) (e : Ranked) (at : ℕ) (there : Bool) (once twice : List Ranked) → once ≡ list
    → twice ≡ list → IsPlace once e at → (there ≡ true → at < length twice)
    → ((d : Ranked) → at < length twice → is_eq (rank_order e (get_or twice at d)) ≡ there) → IsSeen list e at there
is_seen list e at there once twice once_is twice_is place within same = record {
  place = subst (λ (l : List Ranked). IsPlace l e at) once_is place;
  within = λ is. subst (λ (l : List Ranked). at < length l) twice_is (within is);
  same = subst (λ (l : List Ranked). (d : Ranked) → at < length l → is_eq (rank_order e (get_or l at d)) ≡ there)
      twice_is same;
}
