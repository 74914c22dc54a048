-- The entries next before and next after a place, in a chunk and in the chunks beside it.
use Rattle.std.proofs.Common.{◌≡◌, ℕ, ◌<◌, ◌≤◌, ◌+◌, ◌-◌, suc, zero, Bool, true, false, cond, List, [], ◌∷◌, ◌++◌, length, get_or, take, drop, refl, sym, ap, ◌∙◌, arith, subst, Some, None, Option}
use Rattle.std.proofs.lemmas.List.{append-nil, get_or-drop, length-drop, take_more, drop_more, reverse-append}
use Rattle.std.proofs.lemmas.List.Elements.{filter-append}
use Rattle.std.specs.Option.{option_or}
use Rattle.std.specs.Ordering.{is_eq, is_lt}
use Rattle.std.specs.declared.cmp.Ordering.{Ordering}
use Rattle.std.specs.declared.cmp.Ordering.TheVariants.{Less, Equal, Greater}
use Rattle.liq_types.specs.Ranked.{Ranked, rank_order, IsAscending, first_of, before_entry, after_entry}
use Rattle.liq_types.proofs.RankedLists.{rank_total, Behind}
use Rattle.liq_list_chunks.specs.Chunks.{joined, last_of, last_or, IsPlace}
use Rattle.liq_list_chunks.specs.Entries.{entry_before, entry_after}
use Rattle.liq_list_chunks.proofs.Lists.{is_tied, last_appended, nothing_after, same_entry, whole_after, whole_before}
use Rattle.liq_list_chunks.proofs.Standing.{ahead, behind, behind_ascending, halves}

-- ---- what comes before

not_before : (b e : Ranked) (list : List Ranked) → is_lt (rank_order b e) ≡ false → Behind b list
    → before_entry list e ≡ []
not_before b e [] n h = refl
not_before b e (x ∷ xs) n h = by (rank_order x e) refl (not_before b e xs n h.1) where
  by : (o : Ordering) → rank_order x e ≡ o → before_entry xs e ≡ []
      → cond (is_lt o) (x ∷ before_entry xs e) (before_entry xs e) ≡ []
  by Less is more = let clash : false ≡ true = sym n ∙ ap is_lt (rank_total.trans b x e h.0 is) in cc
  by Equal is more = more
  by Greater is more = more

none_from : (list : List Ranked) (e : Ranked) → IsAscending list → ((d : Ranked) → 0 < length list
    → is_lt (rank_order (get_or list 0 d) e) ≡ false) → before_entry list e ≡ []
none_from [] e h n = refl
none_from (b ∷ bs) e h n =
    let first : is_lt (rank_order b e) ≡ false = n e (omega arith) in
    ap (λ c. cond c (b ∷ before_entry bs e) (before_entry bs e)) first ∙ not_before b e bs first h.0

rest_before : (rest : List Ranked) (e : Ranked) (at : ℕ) → IsAscending rest → IsPlace rest e at
    → before_entry rest e ≡ take at rest
rest_before rest e at h place =
    ap (λ (l : List Ranked). before_entry l e) (sym (halves rest e at h place))
    ∙ filter-append (λ (f : Ranked). is_lt (rank_order f e)) (take at rest) (drop at rest)
    ∙ ap (λ (l : List Ranked). l ++ before_entry (drop at rest) e) (whole_before (take at rest) e
    (ahead rest e at h place))
    ∙ ap (λ (l : List Ranked). take at rest ++ l) (none_from (drop at rest) e (behind_ascending rest e at h place)
    first_not)
    ∙ append-nil (take at rest) where
      first_not : (d : Ranked) → 0 < length (drop at rest) → is_lt (rank_order (get_or (drop at rest) 0 d) e) ≡ false
      first_not d k =
          let here : at + 0 ≡ at = omega arith in
          ap (λ (x : Ranked). is_lt (rank_order x e)) (get_or-drop at rest 0 d ∙ ap (λ n. get_or rest n d) here)
          ∙ place.high d (omega (arith, length-drop at rest))

last_push : (xs : List Ranked) (x : Ranked) → last_of (xs ++ (x ∷ [])) ≡ Some x
last_push xs x = ap (λ (l : List Ranked). first_of l) (reverse-append xs (x ∷ []))

pub before_is_in : (f : Ranked) (rest : List Ranked) (e d : Ranked) (at : ℕ) → IsAscending (f ∷ rest)
    → IsPlace rest e at → 0 < at → Some (get_or rest (at - 1) d) ≡ entry_before (f ∷ rest) e
before_is_in f rest e d zero h place k = absurd (omega arith)
before_is_in f rest e d (suc p) h place k =
    sym (
    ap (λ (l : List Ranked). last_of (cond (is_lt (rank_order f e)) (f ∷ l) l)) (rest_before rest e (suc p) h.1 place
    ∙ ap (λ n. take n rest) next ∙ take_more rest p d (omega (arith, place.within)))
    ∙ by (is_lt (rank_order f e))
    ∙ ap (λ n. Some (get_or rest n d)) back
    ) where
      next : suc p ≡ p + 1
      next = omega arith

      back : p ≡ suc p - 1
      back = omega arith

      by : (b : Bool)
          → last_of (cond b (f ∷ (take p rest ++ (get_or rest p d ∷ []))) (take p rest ++ (get_or rest p d ∷ [])))
          ≡ Some (get_or rest p d)
      by true = last_push (f ∷ take p rest) (get_or rest p d)
      by false = last_push (take p rest) (get_or rest p d)

pub before_is_first : (f : Ranked) (rest : List Ranked) (e : Ranked) (at : ℕ) (b : Bool) → IsAscending (f ∷ rest)
    → IsPlace rest e at → at ≤ 0 → b ≡ is_lt (rank_order f e) → cond b (Some f) None ≡ entry_before (f ∷ rest) e
before_is_first f rest e (suc p) b h place k is = absurd (omega arith)
before_is_first f rest e zero b h place k is =
    ap (λ c. cond c (Some f) None) is
    ∙ sym (
    ap (λ (l : List Ranked). last_of (cond (is_lt (rank_order f e)) (f ∷ l) l)) (rest_before rest e zero h.1 place)
    ∙ by (is_lt (rank_order f e))
    ) where
      by : (c : Bool) → last_of (cond c (f ∷ []) []) ≡ cond c (Some f) None
      by true = refl
      by false = refl

-- ---- what comes after

module _ (f : Ranked) (rest : List Ranked) (e : Ranked) (at : ℕ) (ascending : IsAscending (f ∷ rest))
    (place : IsPlace rest e at)
    (past : is_lt (rank_order e f) ≡ false) where
  from_place : after_entry (f ∷ rest) e ≡ after_entry (drop at rest) e
  from_place =
      ap (λ b. cond b (f ∷ after_entry rest e) (after_entry rest e)) past
      ∙ ap (λ (l : List Ranked). after_entry l e) (sym (halves rest e at ascending.1 place))
      ∙ filter-append (λ (g : Ranked). is_lt (rank_order e g)) (take at rest) (drop at rest)
      ∙ ap (λ (l : List Ranked). l ++ after_entry (drop at rest) e) (nothing_after (take at rest) e
      (ahead rest e at ascending.1 place))

  pub after_absent : ((d : Ranked) → at < length rest → is_eq (rank_order e (get_or rest at d)) ≡ false)
      → first_of (drop at rest) ≡ entry_after (f ∷ rest) e
  after_absent other =
      sym (ap (λ (l : List Ranked). first_of l) (from_place
      ∙ whole_after (drop at rest) e (behind rest e at ascending.1 place other)))

  pub after_same : (d : Ranked) → at < length rest → is_eq (rank_order e (get_or rest at d)) ≡ true
      → first_of (drop (at + 1) rest) ≡ entry_after (f ∷ rest) e
  after_same d k is =
      let x = get_or rest at d in
      let tail = drop (at + 1) rest in
      let split : drop at rest ≡ x ∷ tail = drop_more rest at d k in
      let stands : IsAscending (x ∷ tail) = subst IsAscending split (behind_ascending rest e at ascending.1 place) in
      let after : Behind e tail = subst (λ (g : Ranked). Behind g tail) (sym (same_entry e x is)) stands.0 in
      sym (
      ap (λ (l : List Ranked). first_of l) (from_place ∙ ap (λ (l : List Ranked). after_entry l e) split
      ∙ ap (λ o. cond (is_lt o) (x ∷ after_entry tail e) (after_entry tail e)) (is_tied (rank_order e x) is)
      ∙ whole_after tail e after)
      )

pub after_is_first : (f : Ranked) (rest : List Ranked) (e : Ranked) → is_lt (rank_order e f) ≡ true
    → Some f ≡ entry_after (f ∷ rest) e
after_is_first f rest e is =
    sym (ap (λ b. first_of (cond b (f ∷ after_entry rest e) (after_entry rest e))) is)

-- ---- the chunks beside it

last_of_chunk : (f : Ranked) (rest : List Ranked) → last_of (f ∷ rest) ≡ Some (last_or f rest)
last_of_chunk f [] = refl
last_of_chunk f (x ∷ xs) =
    last_appended (f ∷ []) (x ∷ xs) ∙ ap (λ (o : Option Ranked). option_or o (last_of (f ∷ []))) (last_of_chunk x xs)

pub last_at : (f : Ranked) (rest : List Ranked) (n : ℕ) (d : Ranked) → length rest ≡ suc n
    → get_or rest n d ≡ last_or f rest
last_at f [] n d k = absurd (omega arith)
last_at f (x ∷ []) zero d k = refl
last_at f (x ∷ []) (suc n) d k = absurd (omega arith)
last_at f (x ∷ y ∷ ys) zero d k = absurd (omega arith)
last_at f (x ∷ y ∷ ys) (suc n) d k = last_at x (y ∷ ys) n d (omega arith)

pub last_joined : (fs : List Ranked) (rs : List (List Ranked)) (i : ℕ) (d : Ranked) → i < length fs
    → length fs ≡ length rs → last_of (joined (take (suc i) fs) (take (suc i) rs))
    ≡ Some (last_or (get_or fs i d) (get_or rs i []))
last_joined [] rs i d h k = absurd (omega arith)
last_joined (f ∷ fs) [] i d h k = absurd (omega arith)
last_joined (f ∷ fs) (r ∷ rs) zero d h k = ap (λ (l : List Ranked). last_of (f ∷ l)) (append-nil r) ∙ last_of_chunk f r
last_joined (f ∷ fs) (r ∷ rs) (suc i) d h k =
    last_appended (f ∷ r) (joined (take (suc i) fs) (take (suc i) rs))
    ∙ ap (λ (o : Option Ranked). option_or o (last_of (f ∷ r))) (last_joined fs rs i d (omega arith) (omega arith))

pub first_joined : (fs : List Ranked) (rs : List (List Ranked)) → length fs ≡ length rs
    → first_of (joined fs rs) ≡ first_of fs
first_joined [] rs k = refl
first_joined (f ∷ fs) [] k = absurd (omega arith)
first_joined (f ∷ fs) (r ∷ rs) k = refl
