-- The list around a chunk, and what an entry that comes into the chunk or leaves it makes of the list.
use Rattle.std.proofs.Common.{◌≡◌, ℕ, ◌<◌, ◌≤◌, ◌+◌, suc, zero, true, false, List, [], ◌∷◌, ◌++◌, length, length-append, get_or, set, take, drop, refl, sym, ap, ◌∙◌, arith, append_assoc, subst, Option}
use Rattle.std.proofs.lemmas.List.{get_or_default, set-get_or}
use Rattle.std.proofs.lemmas.List.Elements.{All-contains, All-from_recursion, Contains-append_left, Contains-append_right}
use Rattle.std.specs.Prelude.{insert, remove}
use Rattle.std.specs.List.{Contains}
use Rattle.std.specs.Option.{option_or}
use Rattle.std.specs.Ordering.{is_lt}
use Rattle.std.specs.declared.cmp.Ordering.TheVariants.{Less}
use Rattle.liq_types.specs.Ranked.{Ranked, rank_order, IsAscending, first_of}
use Rattle.liq_types.proofs.RankedLists.{Behind}
use Rattle.liq_list_chunks.specs.Chunks.{joined, last_of}
use Rattle.liq_list_chunks.specs.Entries.{with_entry, without_entry, entry_before, entry_after}
use Rattle.liq_list_chunks.proofs.Lists.{Ahead, after_ahead, after_past, before_ahead, before_past, entered_ahead, entered_past, left_ahead, left_past, is_less, turned, before_middle}
use Rattle.liq_list_chunks.proofs.Standing.{Leads, before_more, behind_from, first_half, last_half}

pub around : (fs : List Ranked) (rs : List (List Ranked)) (i : ℕ) (d : Ranked) → i < length fs → length fs ≡ length rs
    → joined fs rs ≡ joined (take i fs) (take i rs) ++ ((get_or fs i d ∷ get_or rs i []) ++ joined (drop (suc i) fs)
    (drop (suc i) rs))
around [] rs i d h k = absurd (omega arith)
around (f ∷ fs) [] i d h k = absurd (omega arith)
around (f ∷ fs) (r ∷ rs) zero d h k = refl
around (f ∷ fs) (r ∷ rs) (suc i) d h k =
    ap (λ (l : List Ranked). f ∷ (r ++ l)) (around fs rs i d (omega arith) (omega arith))
    ∙ ap (λ (l : List Ranked). f ∷ l) (sym (append_assoc r (joined (take i fs) (take i rs))
    ((get_or fs i d ∷ get_or rs i []) ++ joined (drop (suc i) fs) (drop (suc i) rs))))

-- each chunk has a first
pub no_more_than_entries : (fs : List Ranked) (rs : List (List Ranked)) → length fs ≡ length rs
    → length fs ≤ length (joined fs rs)
no_more_than_entries [] rs h = omega arith
no_more_than_entries (f ∷ fs) [] h = absurd (omega (arith, h))
no_more_than_entries (f ∷ fs) (r ∷ rs) h = omega (
  arith,
  length-append r (joined fs rs),
  no_more_than_entries fs rs (omega (arith, h)),
)

set_around : (fs : List Ranked) (rs : List (List Ranked)) (i : ℕ) (f : Ranked) (r : List Ranked) → i < length fs
    → length fs ≡ length rs → joined (set fs i f) (set rs i r) ≡ joined (take i fs) (take i rs)
    ++ ((f ∷ r) ++ joined (drop (suc i) fs) (drop (suc i) rs))
set_around [] rs i f r h k = absurd (omega arith)
set_around (g ∷ fs) [] i f r h k = absurd (omega arith)
set_around (g ∷ fs) (q ∷ rs) zero f r h k = refl
set_around (g ∷ fs) (q ∷ rs) (suc i) f r h k =
    ap (λ (l : List Ranked). g ∷ (q ++ l)) (set_around fs rs i f r (omega arith) (omega arith))
    ∙ ap (λ (l : List Ranked). g ∷ l) (sym (append_assoc q (joined (take i fs) (take i rs)) ((f ∷ r)
    ++ joined (drop (suc i) fs) (drop (suc i) rs))))

removed_around : (fs : List Ranked) (rs : List (List Ranked)) (i : ℕ) → i < length fs → length fs ≡ length rs
    → joined (remove fs i) (remove rs i) ≡ joined (take i fs) (take i rs) ++ joined (drop (suc i) fs) (drop (suc i) rs)
removed_around [] rs i h k = absurd (omega arith)
removed_around (g ∷ fs) [] i h k = absurd (omega arith)
removed_around (g ∷ fs) (q ∷ rs) zero h k = refl
removed_around (g ∷ fs) (q ∷ rs) (suc i) h k =
    ap (λ (l : List Ranked). g ∷ (q ++ l)) (removed_around fs rs i (omega arith) (omega arith))
    ∙ ap (λ (l : List Ranked). g ∷ l) (sym (append_assoc q (joined (take i fs) (take i rs)) (joined (drop (suc i) fs)
    (drop (suc i) rs))))

-- a chunk that is cut in two: the list is the same
pub cut : (fs : List Ranked) (rs : List (List Ranked)) (i : ℕ) (f : Ranked) (r q : List Ranked) → i < length fs
    → length fs ≡ length rs → get_or rs i [] ≡ r ++ (f ∷ q)
    → joined (insert fs (suc i) f) (set (insert rs (suc i) q) i r) ≡ joined fs rs
cut [] rs i f r q h k is = absurd (omega arith)
cut (g ∷ fs) [] i f r q h k is = absurd (omega arith)
cut (g ∷ fs) (p ∷ rs) zero f r q h k is =
    ap (λ (l : List Ranked). g ∷ l) (sym (append_assoc r (f ∷ q) (joined fs rs))
    ∙ ap (λ (l : List Ranked). l ++ joined fs rs) (sym is))
cut (g ∷ fs) (p ∷ rs) (suc i) f r q h k is =
    ap (λ (l : List Ranked). g ∷ (p ++ l)) (cut fs rs i f r q (omega arith) (omega arith) is)

-- two chunks that become one: the list is the same
pub together : (fs : List Ranked) (rs : List (List Ranked)) (i : ℕ) (d : Ranked) → suc i < length fs
    → length fs ≡ length rs
    → joined (remove fs (suc i)) (set (remove rs (suc i)) i (get_or rs i [] ++ (get_or fs (suc i) d
    ∷ get_or rs (suc i) []))) ≡ joined fs rs
together [] rs i d h k = absurd (omega arith)
together (f ∷ fs) [] i d h k = absurd (omega arith)
together (f ∷ []) (r ∷ rs) zero d h k = absurd (omega arith)
together (f ∷ g ∷ fs) (r ∷ []) zero d h k = absurd (omega arith)
together (f ∷ g ∷ fs) (r ∷ q ∷ rs) zero d h k = ap (λ (l : List Ranked). f ∷ l) (append_assoc r (g ∷ q) (joined fs rs))
together (f ∷ fs) (r ∷ rs) (suc i) d h k =
    ap (λ (l : List Ranked). f ∷ (r ++ l)) (together fs rs i d (omega arith) (omega arith))

before_chunk : (fs : List Ranked) (rs : List (List Ranked)) (i : ℕ) (d e : Ranked) (back : List Ranked)
    → ((d : Ranked) → 0 < i → is_lt (rank_order e (get_or fs i d)) ≡ false)
    → IsAscending (joined (take i fs) (take i rs) ++ ((get_or fs i d ∷ get_or rs i []) ++ back))
    → Ahead e (joined (take i fs) (take i rs))
before_chunk fs rs zero d e back low h = tt
before_chunk fs rs (suc i) d e back low h =
    let front = joined (take (suc i) fs) (take (suc i) rs) in
    before_more front (get_or fs (suc i) d) e (low d (omega arith)) (before_middle front (get_or fs (suc i) d)
    (get_or rs (suc i) [] ++ back) h)

leads_joined : (fs : List Ranked) (rs : List (List Ranked)) (j : ℕ) (e : Ranked) → length fs ≡ length rs
    → ((d : Ranked) → j < length fs → is_lt (rank_order e (get_or fs j d)) ≡ true)
    → Leads e (joined (drop j fs) (drop j rs))
leads_joined [] rs zero e k high = tt
leads_joined [] rs (suc j) e k high = tt
leads_joined (f ∷ fs) [] j e k high = absurd (omega arith)
leads_joined (f ∷ fs) (r ∷ rs) zero e k high = is_less (rank_order e f) (high e (omega arith))
leads_joined (f ∷ fs) (r ∷ rs) (suc j) e k high = leads_joined fs rs j e (omega arith) (λ d h. high d (omega arith))

module _ (fs : List Ranked) (rs : List (List Ranked)) (i : ℕ) (d : Ranked)
    (within : i < length fs) (lengths : length fs ≡ length rs) (ascending : IsAscending (joined fs rs)) where
  abbrev front_of : List Ranked
  front_of = joined (take i fs) (take i rs)

  abbrev chunk_at : List Ranked
  chunk_at = get_or fs i d ∷ get_or rs i []

  abbrev back_of : List Ranked
  back_of = joined (drop (suc i) fs) (drop (suc i) rs)

  parts : IsAscending (front_of ++ (chunk_at ++ back_of))
  parts = subst IsAscending (around fs rs i d within lengths) ascending

  pub chunk_ascending : IsAscending chunk_at
  chunk_ascending = first_half chunk_at back_of (last_half front_of (chunk_at ++ back_of) parts)

  -- nothing comes in and nothing leaves
  pub chunk_kept : (f : Ranked) (r : List Ranked) → f ∷ r ≡ chunk_at → joined (set fs i f) (set rs i r) ≡ joined fs rs
  chunk_kept f r is =
      set_around fs rs i f r within lengths
      ∙ ap (λ (l : List Ranked). front_of ++ (l ++ back_of)) is
      ∙ sym (around fs rs i d within lengths)

  -- an entry that belongs to the chunk
  module _ (e : Ranked) (low : (d : Ranked) → 0 < i → is_lt (rank_order e (get_or fs i d)) ≡ false)
      (high : (d : Ranked) → i + 1 < length fs → is_lt (rank_order e (get_or fs (i + 1) d)) ≡ true) where
    front_ahead : Ahead e front_of
    front_ahead = before_chunk fs rs i d e back_of low parts

    back_behind : Behind e back_of
    back_behind = behind_from back_of e (leads_joined fs rs (suc i) e lengths next) (last_half chunk_at back_of
        (last_half front_of (chunk_at ++ back_of) parts)) where
          next : (d : Ranked) → suc i < length fs → is_lt (rank_order e (get_or fs (suc i) d)) ≡ true
          next d h =
              let q : suc i ≡ i + 1 = omega arith in
              ap (λ n. is_lt (rank_order e (get_or fs n d))) q ∙ high d (omega arith)

    -- it comes into what the chunk is now
    entered_between : (chunk : List Ranked) → with_entry (front_of ++ (chunk ++ back_of)) e
        ≡ front_of ++ (with_entry chunk e ++ back_of)
    entered_between chunk =
        entered_past front_of (chunk ++ back_of) e front_ahead
        ∙ ap (λ (l : List Ranked). front_of ++ l) (entered_ahead chunk back_of e back_behind)

    pub chunk_entered : (f : Ranked) (r : List Ranked) → f ∷ r ≡ with_entry chunk_at e
        → joined (set fs i f) (set rs i r) ≡ with_entry (joined fs rs) e
    chunk_entered f r is =
        set_around fs rs i f r within lengths
        ∙ ap (λ (l : List Ranked). front_of ++ (l ++ back_of)) is
        ∙ sym (ap (λ (l : List Ranked). with_entry l e) (around fs rs i d within lengths) ∙ entered_between chunk_at)

    without : without_entry (joined fs rs) e ≡ front_of ++ (without_entry chunk_at e ++ back_of)
    without =
        ap (λ (l : List Ranked). without_entry l e) (around fs rs i d within lengths)
        ∙ left_past front_of (chunk_at ++ back_of) e front_ahead
        ∙ ap (λ (l : List Ranked). front_of ++ l) (left_ahead chunk_at back_of e back_behind)

    -- it leaves
    pub chunk_left : (f : Ranked) (r : List Ranked) → f ∷ r ≡ without_entry chunk_at e
        → joined (set fs i f) (set rs i r) ≡ without_entry (joined fs rs) e
    chunk_left f r is =
        set_around fs rs i f r within lengths
        ∙ ap (λ (l : List Ranked). front_of ++ (l ++ back_of)) is
        ∙ sym without

    -- it leaves as the last one
    pub chunk_gone : without_entry chunk_at e ≡ [] → joined (remove fs i) (remove rs i) ≡ without_entry (joined fs rs) e
    chunk_gone is =
        removed_around fs rs i within lengths
        ∙ sym (without ∙ ap (λ (l : List Ranked). front_of ++ (l ++ back_of)) is)

    -- what stands next to it in the chunk, or else at the ends of the chunks beside it
    pub chunk_before : entry_before (joined fs rs) e ≡ option_or (entry_before chunk_at e) (last_of front_of)
    chunk_before =
        ap (λ (l : List Ranked). entry_before l e) (around fs rs i d within lengths)
        ∙ before_past front_of (chunk_at ++ back_of) e front_ahead
        ∙ ap (λ (o : Option Ranked). option_or o (last_of front_of)) (before_ahead chunk_at back_of e back_behind)

    pub chunk_after : entry_after (joined fs rs) e ≡ option_or (entry_after chunk_at e) (first_of back_of)
    chunk_after =
        ap (λ (l : List Ranked). entry_after l e) (around fs rs i d within lengths)
        ∙ after_past front_of (chunk_at ++ back_of) e front_ahead
        ∙ after_ahead chunk_at back_of e back_behind

  -- what stands behind the first of the chunk
  pub chunk_has : (e : Ranked) → Contains (get_or rs i []) e → Contains (joined fs rs) e
  chunk_has e there =
      subst (λ (l : List Ranked). Contains l e) (sym (around fs rs i d within lengths))
      (Contains-append_right front_of (chunk_at ++ back_of) e (Contains-append_left chunk_at back_of e
      (Contains-append_right (get_or fs i d ∷ []) (get_or rs i []) e there)))

  -- one entry leaves and another comes in, both behind the first of the chunk
  module _ (from to : Ranked)
      (low : (d : Ranked) → 0 < i → is_lt (rank_order from (get_or fs i d)) ≡ false)
      (high : (d : Ranked) → i + 1 < length fs → is_lt (rank_order from (get_or fs (i + 1) d)) ≡ true)
      (there : Contains (get_or rs i []) from)
      (behind_first : is_lt (rank_order (get_or fs i d) to) ≡ true)
      (before_next : (d : Ranked) → i + 1 < length fs → is_lt (rank_order to (get_or fs (i + 1) d)) ≡ true) where
    pub chunk_shifted : (r : List Ranked) → r ≡ with_entry (without_entry (get_or rs i []) from) to
        → joined fs (set rs i r) ≡ with_entry (without_entry (joined fs rs) from) to
    chunk_shifted r is =
        let first = get_or fs i d in
        let rest = without_entry (get_or rs i []) from in
        let from_behind : rank_order first from ≡ Less = All-contains (λ (f : Ranked). rank_order first f
        ≡ Less) (get_or rs i []) from (All-from_recursion (λ (f : Ranked). rank_order first f
        ≡ Less) (get_or rs i []) chunk_ascending.0) there in
        let to_behind : rank_order first to ≡ Less = is_less (rank_order first to) behind_first in
        ap (λ (l : List Ranked). joined l (set rs i r)) (sym (set-get_or fs i d))
        ∙ set_around fs rs i first r within lengths
        ∙ ap (λ (l : List Ranked). front_of ++ ((first ∷ l) ++ back_of)) is
        ∙ ap (λ (l : List Ranked). front_of ++ (l ++ back_of)) (sym (entered_past (first ∷ []) rest to (to_behind, tt)))
        ∙ sym (entered_between to to_low before_next (first ∷ rest))
        ∙ ap (λ (l : List Ranked). with_entry (front_of ++ (l ++ back_of)) to)
        (sym (left_past (first ∷ []) (get_or rs i []) from (from_behind, tt)))
        ∙ ap (λ (l : List Ranked). with_entry l to) (sym (without from low high)) where
          to_low : (g : Ranked) → 0 < i → is_lt (rank_order to (get_or fs i g)) ≡ false
          to_low g k =
              ap (λ (f : Ranked). is_lt (rank_order to f)) (get_or_default fs i g d within)
              ∙ ap is_lt (turned to (get_or fs i d) Less (is_less (rank_order (get_or fs i d) to) behind_first))
