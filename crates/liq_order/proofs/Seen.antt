-- What is seen of linked nodes: entries and their neighbours, and the gaps between them.
use Rattle.std.proofs.Common.{◌≡◌, ◌≢◌, ℕ, ℤ, ◌+◌, ◌≤◌, true, false, cond, List, [], ◌∷◌, ◌++◌, map, length, reverse, refl, sym, ap, ◌∙◌, subst, Some, None, Option, IfSome, IfNone, IsSome, option_map, inl, inr, ◌⊎◌, arith, append_assoc, length-append, eq-eqb}
use Rattle.std.specs.Ordering.{is_lt}
use Rattle.std.specs.declared.cmp.Ordering.{Ordering}
use Rattle.std.specs.declared.cmp.Ordering.TheVariants.{Less, Equal, Greater}
use Rattle.std.proofs.lemmas.List.{reverse-append}
use Rattle.liq_types.specs.Ranked.{Ranked, rank_order, key_in, last_account, before_in, first_of, account_of, IsTight}
use Rattle.liq_order.specs.Listed.{IsAbsent, AreDistinct}
use Rattle.liq_order.specs.declared.places.Gap.{Gap}
use Rattle.liq_order.specs.declared.places.NodeNo.{NodeNo}
use Rattle.liq_order.specs.Nodes.{Memory, memory, Ring, at_place, entries, entry_of, entries_at, first_or, last_or, IsIn, Linked, node_of, Visits, IsBehind, gap_between, account_of_place, gap_behind}
use Rattle.liq_order.proofs.Chains.{last_append, ends_with, in_middle, linked_back}
use Rattle.liq_order.proofs.Changed.{entries_append, node_split, node_none, node_put}
use Rattle.liq_order.proofs.Found.{key_absent, key_front, absent_from_key, before_found, distinct_front, IsAt}
use Rattle.liq_order.proofs.Sorting.{not_later}

-- ---- going along

pub visits : (r : Ring) (front ps : List NodeNo) (b : Option NodeNo) → r.order ≡ front ++ ps
    → Linked (memory r.nodes) b ps None → Visits r (first_or None ps) b (entries_at (memory r.nodes) ps)
visits r front [] b w l = refl
visits r front (p ∷ ps) b w l = (
  p,
  refl,
  (subst (IsIn p) (sym w) (in_middle front ps p), refl, l.0),
  subst (λ s. Visits r s (Some p) (entries_at (memory r.nodes) ps)) (sym l.1) (visits r (front ++ p ∷ []) ps (Some p) (w
      ∙ sym (append_assoc front (p ∷ []) ps)) l.2),
)

-- ---- the node of an account

pub at_there : (r : Ring) (id : ℕ) (o : Option NodeNo) → o ≡ node_of (memory r.nodes) r.order id
    → IfSome o (λ p. IsIn p r.order × ((at_place r p).account ≡ id))
at_there r id None h = tt
at_there r id (Some p) h =
    let s = node_split (memory r.nodes) r.order id p (sym h) in
    (subst (IsIn p) (sym s.whole) (in_middle s.front s.back p), s.same)

pub at_none : (r : Ring) (id : ℕ) (o : Option NodeNo) → o ≡ node_of (memory r.nodes) r.order id
    → IfNone o (key_in (entries r) id ≡ None)
at_none r id (Some p) h = tt
at_none r id None h = key_absent (entries r) id (node_none (memory r.nodes) r.order id (sym h))

pub key_at : (r : Ring) (id : ℕ) (p : NodeNo) → Some p ≡ node_of (memory r.nodes) r.order id
    → key_in (entries r) id ≡ Some (at_place r p).key
key_at r id p h =
    let f = memory r.nodes in
    let s = node_split f r.order id p (sym h) in
    ap (λ l. key_in (entries_at f l) id) s.whole
    ∙ ap (λ l. key_in l id) (entries_append f s.front (p ∷ s.back))
    ∙ key_front id (entries_at f s.front) (entries_at f s.back) (entry_of (f p)) s.away (eq-eqb (f p).account id s.same)

-- an account that is in the list has a node
pub has_node : (r : Ring) (id : ℕ) → None ≡ node_of (memory r.nodes) r.order id → IsSome (key_in (entries r) id) → ⊥
has_node r id none some = nothing (at_none r id None none) some where
  nothing : {o : Option ℤ} → o ≡ None → IsSome o → ⊥
  nothing e s = cc

-- ---- the ends

last_none : (xs : List NodeNo) → last_or None xs ≡ None → xs ≡ []
last_none [] h = refl
last_none (x ∷ xs) h = absurd (some x xs h) where
  some : (y : NodeNo) (ys : List NodeNo) → last_or (Some y) ys ≡ None → ⊥
  some y [] e = cc
  some y (z ∷ zs) e = some z zs e

pub last_entry : (f : Memory) (xs : List NodeNo) → first_of (reverse (entries_at f xs))
    ≡ option_map (λ p. entry_of (f p)) (last_or None xs)
last_entry f xs = by (last_or None xs) refl where
  by : (o : Option NodeNo) → last_or None xs ≡ o → first_of (reverse (entries_at f xs))
      ≡ option_map (λ p. entry_of (f p)) o
  by None is = ap (λ l. first_of (reverse (entries_at f l))) (last_none xs is)
  by (Some p) is =
      let e = ends_with xs p is in
      ap (λ l. first_of (reverse (entries_at f l))) e.whole
      ∙ ap (λ l. first_of (reverse l)) (entries_append f e.front (p ∷ []))
      ∙ ap (λ l. first_of l) (reverse-append (entries_at f e.front) (entry_of (f p) ∷ []))

first_entry : (f : Memory) (xs : List NodeNo) → first_of (entries_at f xs) ≡ option_map (λ p. entry_of (f p))
    (first_or None xs)
first_entry f [] = refl
first_entry f (x ∷ xs) = refl

first_mapped : (l : List Ranked) → first_of (map (λ (e : Ranked). e.1) l) ≡ option_map (λ (e : Ranked). e.1)
    (first_of l)
first_mapped [] = refl
first_mapped (e ∷ es) = refl

account_mapped : (f : Memory) (o : Option NodeNo)
    → option_map (λ (e : Ranked). e.1) (option_map (λ p. entry_of (f p)) o) ≡ option_map (λ p. (f p).account) o
account_mapped f None = refl
account_mapped f (Some p) = refl

pub last_of : (f : Memory) (xs : List NodeNo) → last_account (entries_at f xs) ≡ option_map (λ p. (f p).account)
    (last_or None xs)
last_of f xs = first_mapped (reverse (entries_at f xs)) ∙ ap (λ o. option_map (λ (e : Ranked). e.1) o) (last_entry f xs)
    ∙ account_mapped f (last_or None xs)

-- the account before that of a node is that of its previous node
pub before_of : (r : Ring) (id : ℕ) (p : NodeNo) → Linked (memory r.nodes) None r.order None → AreDistinct (entries r)
    → Some p ≡ node_of (memory r.nodes) r.order id → before_in (entries r) id ≡ option_map (λ q. (at_place r q).account)
    (at_place r p).previous
before_of r id p linked distinct h =
    let f = memory r.nodes in
    let s = node_split f r.order id p (sym h) in
    let whole : entries r ≡ entries_at f s.front ++ entry_of (f p) ∷ entries_at f s.back =
    ap (λ l. entries_at f l) s.whole ∙ entries_append f s.front (p ∷ s.back) in
    let at : IsAt (entries r) id (length (entries_at f s.front)) = record {
      front = entries_at f s.front;
      entry = entry_of (f p);
      back = entries_at f s.back;
      whole = whole;
      place = refl;
      same =
          eq-eqb (f p).account id s.same;
      first = s.away;
    } in
    let previous = (linked_back f None s.front (p ∷ s.back) None (subst (λ l. Linked f None l None) s.whole linked)).0
    in
    before_found (entries r) id (length (entries_at f s.front)) at distinct
    ∙ last_of f s.front
    ∙ ap (λ o. option_map (λ q. (f q).account) o) (sym previous)

-- a node's previous place is in the list
pub previous_in : (r : Ring) (id : ℕ) (p q : NodeNo) → Linked (memory r.nodes) None r.order None
    → Some p ≡ node_of (memory r.nodes) r.order id → (at_place r p).previous ≡ Some q → IsIn q r.order
previous_in r id p q linked h is =
    let f = memory r.nodes in
    let s = node_split f r.order id p (sym h) in
    let previous = (linked_back f None s.front (p ∷ s.back) None (subst (λ l. Linked f None l None) s.whole linked)).0
    in
    let e = ends_with s.front q (sym previous ∙ is) in
    let line : r.order ≡ e.front ++ q ∷ (p ∷ s.back) = s.whole ∙ ap (λ l. l ++ p ∷ s.back) e.whole
    ∙ append_assoc e.front (q ∷ []) (p ∷ s.back) in
    subst (IsIn q) (sym line) (in_middle e.front (p ∷ s.back) q)

-- ---- gaps

pub before_all : (r : Ring) (e : Ranked) → IsBehind r e (gap_between [] r.order)
before_all r e = record { front = []; back = r.order; whole = refl; gap_is = refl; above = tt }

-- behind a place, at a split of the list
behind_split : (r : Ring) (e : Ranked) (front back : List NodeNo) (p : NodeNo)
    → Linked (memory r.nodes) None r.order None → r.order ≡ front ++ p ∷ back → rank_order (entry_of (at_place r p)) e
    ≡ Less → (c : IsBehind r e (record { previous = Some p; next = (at_place r p).next }))
    × (length c.front ≡ length front + 1)
behind_split r e front back p linked whole less =
    let f = memory r.nodes in
    let next = (linked_back f None front (p ∷ back) None (subst (λ l. Linked f None l None) whole linked)).1 in (
      record {
        front = front ++ p ∷ [];
        back = back;
        whole = whole ∙ sym (append_assoc front (p ∷ []) back);
        gap_is = ap (λ (n : Option NodeNo). record { previous = Some p; next = n }) next
            ∙ ap (λ (o : Option NodeNo). record { previous = o; next = first_or None back })
            (sym (last_append None front (p ∷ [])));
        above = less;
      },
      length-append front (p ∷ []),
    )

pub behind_place : (r : Ring) (e : Ranked) (id : ℕ) (p : NodeNo) → Linked (memory r.nodes) None r.order None
    → Some p ≡ node_of (memory r.nodes) r.order id → rank_order (entry_of (at_place r p)) e ≡ Less
    → IsBehind r e (record { previous = Some p; next = (at_place r p).next })
behind_place r e id p linked h less =
    let s = node_split (memory r.nodes) r.order id p (sym h) in
    (behind_split r e s.front s.back p linked s.whole less).0

-- where a gap's next place is p, the list goes on with it
pub record Goes (r : Ring) (e : Ranked) (gap : Gap) (b : IsBehind r e gap) (p : NodeNo) : Type 0 where
  pub rest : List NodeNo
  pub back_is : b.back ≡ p ∷ rest

pub goes : (r : Ring) (e : Ranked) (gap : Gap) (b : IsBehind r e gap) (p : NodeNo) → gap.next ≡ Some p
    → Goes r e gap b p
goes r e gap b p is = by b.back refl (sym (ap (λ (g : Gap). g.next) b.gap_is) ∙ is) where
  by : (l : List NodeNo) → b.back ≡ l → first_or None l ≡ Some p → Goes r e gap b p
  by [] same h = absurd (none h) where
    none : {q : NodeNo} → None ≡ Some q → ⊥
    none e = cc
  by (x ∷ xs) same h = record { rest = xs; back_is = same ∙ ap (λ q. q ∷ xs) (one h) } where
    one : {q s : NodeNo} → Some q ≡ Some s → q ≡ s
    one e = cc

pub next_in : (r : Ring) (e : Ranked) (gap : Gap) (p : NodeNo) → IsBehind r e gap → gap.next ≡ Some p → IsIn p r.order
next_in r e gap p b is =
    let g = goes r e gap b p is in
    subst (IsIn p) (sym (b.whole ∙ ap (λ l. b.front ++ l) g.back_is)) (in_middle b.front g.rest p)

pub turn_on : (r : Ring) (e : Ranked) (gap : Gap) (p : NodeNo) → Linked (memory r.nodes) None r.order None
    → gap.next ≡ Some p → rank_order (entry_of (at_place r p)) e ≡ Less → (b : IsBehind r e gap)
    → (c : IsBehind r e (record { previous = Some p; next = (at_place r p).next }))
    × (length c.front ≡ length b.front + 1)
turn_on r e gap p linked is less b =
    let g = goes r e gap b p is in
    behind_split r e b.front g.rest p linked (b.whole ∙ ap (λ l. b.front ++ l) g.back_is) less

-- an entry of another account comes before what it does not come after
account_in : (f : Memory) (xs : List NodeNo) (p : NodeNo) (account : ℕ) → IsAbsent account (entries_at f xs) → IsIn p xs
    → (f p).account ≢ account
account_in f [] p account h i = absurd i
account_in f (x ∷ xs) p account h (inl same) = subst (λ (q : NodeNo). (f q).account
    ≢ account) (whole x p same) h.0 where
      whole : (a b : NodeNo) → a.0 ≡ b.0 → a ≡ b
      whole a b e = ap (λ n. record { 0 = n }) e
account_in f (x ∷ xs) p account h (inr i) = account_in f xs p account h.1 i

pub stops : (r : Ring) (e : Ranked) (p : NodeNo) → key_in (entries r) e.1 ≡ None → IsIn p r.order
    → is_lt (rank_order (entry_of (at_place r p)) e) ≡ false → rank_order e (entry_of (at_place r p)) ≡ Less
stops r e p none i late =
    not_later (entry_of (at_place r p)) e late (account_in (memory r.nodes) r.order p e.1
    (absent_from_key (entries r) e.1 none) i)

pub is_less : (e f : Ranked) → is_lt (rank_order e f) ≡ true → rank_order e f ≡ Less
is_less e f h = by (rank_order e f) refl h where
  by : (o : Ordering) → rank_order e f ≡ o → is_lt o ≡ true → o ≡ Less
  by Less is h = refl
  by Equal is h = cc
  by Greater is h = cc

-- ---- the gap behind a place

abbrev ComesBefore : Ring → NodeNo → Ranked → Type 0
ComesBefore r p e = rank_order (entry_of (at_place r p)) e ≡ Less

pub past_on : (r : Ring) (p : NodeNo) (e : Ranked) (o : Option Gap) (Q : Gap → Type 0)
    → IfSome o (λ g. (g ≡ gap_behind r p) × ComesBefore r p e) → (ComesBefore r p e → Q (gap_behind r p)) → IfSome o Q
past_on r p e None Q h k = tt
past_on r p e (Some g) Q h k = subst Q (sym h.0) (k h.1)

pub past_not : (o : Option Gap) (A B : Type 0) → IfNone o A → (A → B) → IfNone o B
past_not None A B h k = k h
past_not (Some g) A B h k = tt

pub past_is : (r : Ring) (p : NodeNo) (e : Ranked) (o : Option Gap) → IfSome o (λ g. (g ≡ gap_behind r p)
    × ComesBefore r p e) → IfNone o (is_lt (rank_order (entry_of (at_place r p)) e) ≡ false) → ComesBefore r p e
    → o ≡ Some (gap_behind r p)
past_is r p e None h n less = absurd (clash (sym (ap is_lt less) ∙ n)) where
  clash : true ≡ false → ⊥
  clash e = cc
past_is r p e (Some g) h n less = ap (λ x. Some x) h.0

-- ---- tight hints

-- the last place of a front half is that of its account
pub record TightPlace (r : Ring) (front back : List NodeNo) (id : ℕ) : Type 0 where
  pub place : NodeNo
  pub found : node_of (memory r.nodes) r.order id ≡ Some place
  pub last_is : last_or None front ≡ Some place
  pub gap_is : gap_between front back ≡ record { previous = Some place; next = (at_place r place).next }

pub tight_place : (r : Ring) (front back : List NodeNo) (id : ℕ) → Linked (memory r.nodes) None r.order None
    → AreDistinct (entries r) → r.order ≡ front ++ back → Some id ≡ account_of_place r (last_or None front)
    → TightPlace r front back id
tight_place r front back id linked distinct whole is = by (last_or None front) refl is where
  f : Memory
  f = memory r.nodes

  none : {k : ℕ} → Some k ≡ None → ⊥
  none e = cc

  one : {k j : ℕ} → Some k ≡ Some j → j ≡ k
  one e = cc

  by : (o : Option NodeNo) → last_or None front ≡ o → Some id ≡ account_of_place r o → TightPlace r front back id
  by None last h = absurd (none h)
  by (Some p) last h =
      let e = ends_with front p last in
      let line : r.order ≡ e.front ++ p ∷ back = whole ∙ ap (λ l. l ++ back) e.whole
      ∙ append_assoc e.front (p ∷ []) back in
      let same : (memory r.nodes p).account ≡ id = one h in
      let apart = distinct_front (entries_at (memory r.nodes) e.front) (entries_at (memory r.nodes) back)
      (entry_of (memory r.nodes p)) (subst AreDistinct (ap (λ l. entries_at (memory r.nodes) l) line
      ∙ entries_append (memory r.nodes) e.front (p ∷ back)) distinct) in
      let next = (linked_back (memory r.nodes) None e.front (p ∷ back) None
      (subst (λ l. Linked (memory r.nodes) None l None) line linked)).1 in
      record {
        place = p;
        found = ap (λ l. node_of (memory r.nodes) l id) line ∙ node_put (memory r.nodes) e.front back p id apart
            ∙ ap (λ b. cond b (Some p) (node_of (memory r.nodes) (e.front ++ back) id))
            (eq-eqb (memory r.nodes p).account id same);
        last_is = last;
        gap_is = ap (λ (o : Option NodeNo). record { previous = o; next = first_or None back }) last
            ∙ ap (λ (n : Option NodeNo). record { previous = Some p; next = n }) (sym next);
      }

-- where nothing is before the gap, it is the first
pub first_tight : (r : Ring) (front back : List NodeNo) → r.order ≡ front ++ back
    → None ≡ account_of_place r (last_or None front) → gap_between [] r.order ≡ gap_between front back
first_tight r front back whole is = by (last_or None front) refl is where
  some : {k : ℕ} → None ≡ Some k → ⊥
  some e = cc

  by : (o : Option NodeNo) → last_or None front ≡ o → None ≡ account_of_place r o
      → gap_between [] r.order ≡ gap_between front back
  by (Some p) last h = absurd (some h)
  by None last h =
      let empty = last_none front last in
      ap (λ l. gap_between [] l) (whole ∙ ap (λ l. l ++ back) empty) ∙ ap (λ l. gap_between l back) (sym empty)

-- a tight hint, told of places
pub record TightGap (r : Ring) (e : Ranked) (prev next : Option ℕ) : Type 0 where
  pub front : List NodeNo
  pub back : List NodeNo
  pub whole : r.order ≡ front ++ back
  pub prev_is : prev ≡ account_of_place r (last_or None front)
  pub next_is : next ≡ account_of_place r (first_or None back)
  pub above : IfSome (last_or None front) (λ p. rank_order (entry_of (at_place r p)) e ≡ Less)
  pub ahead : IfSome (first_or None back) (λ p. rank_order e (entry_of (at_place r p)) ≡ Less)

record Halves (f : Memory) (order : List NodeNo) (xs ys : List Ranked) : Type 0 where
  front : List NodeNo
  back : List NodeNo
  whole : order ≡ front ++ back
  front_is : entries_at f front ≡ xs
  back_is : entries_at f back ≡ ys

halves : (f : Memory) (order : List NodeNo) (xs ys : List Ranked) → entries_at f order ≡ xs ++ ys → Halves f order xs ys
halves f order [] ys h = record { front = []; back = order; whole = refl; front_is = refl; back_is = h }
halves f [] (x ∷ xs) ys h = absurd (none h) where
  none : {z : Ranked} {zs : List Ranked} → [] ≡ z ∷ zs → ⊥
  none e = cc
halves f (p ∷ ps) (x ∷ xs) ys h =
    let rest = halves f ps xs ys (tail h) in
    record {
      front = p ∷ rest.front;
      back = rest.back;
      whole = ap (λ l. p ∷ l) rest.whole;
      front_is = ap (λ l. entry_of (f p) ∷ l) rest.front_is ∙ ap (λ k. k ∷ xs) (head h);
      back_is = rest.back_is;
    } where
      tail : {a b : Ranked} {ls ms : List Ranked} → a ∷ ls ≡ b ∷ ms → ls ≡ ms
      tail e = cc

      head : {a b : Ranked} {ls ms : List Ranked} → a ∷ ls ≡ b ∷ ms → a ≡ b
      head e = cc

if_some : (f : Memory) (o : Option NodeNo) (q : Option Ranked) (P : Ranked → Type 0)
    → q ≡ option_map (λ p. entry_of (f p)) o → ((g : Ranked) → q ≡ Some g → P g) → IfSome o (λ p. P (entry_of (f p)))
if_some f None q P is h = tt
if_some f (Some p) q P is h = h (entry_of (f p)) is

pub tight_gap : (r : Ring) (e : Ranked) (prev next : Option ℕ) → IsTight (entries r) e prev next
    → TightGap r e prev next
tight_gap r e prev next t =
    let f = memory r.nodes in
    let h = halves f r.order t.before t.after t.whole in
    let last : first_of (reverse t.before) ≡ option_map (λ p. entry_of (f p)) (last_or None h.front) =
    ap (λ l. first_of (reverse l)) (sym h.front_is) ∙ last_entry f h.front in
    let first : first_of t.after ≡ option_map (λ p. entry_of (f p)) (first_or None h.back) =
    ap (λ l. first_of l) (sym h.back_is) ∙ first_entry f h.back in
    record {
      front = h.front;
      back = h.back;
      whole = h.whole;
      prev_is = t.prev_is ∙ ap (λ o. account_of o) last ∙ account_mapped f (last_or None h.front);
      next_is = t.next_is ∙ ap (λ o. account_of o) first ∙ account_mapped f (first_or None h.back);
      above = if_some f (last_or None h.front) (first_of (reverse t.before)) (λ g. rank_order g e
          ≡ Less) last t.above_prev;
      ahead = if_some f (first_or None h.back) (first_of t.after) (λ g. rank_order e g ≡ Less) first t.below_next;
    }

-- ---- what is read of a node

-- ---- along the list

pub begins : (r : Ring) (e : Ranked) (gap : Gap) → gap ≡ gap_between [] r.order → (b : IsBehind r e gap)
    × (length b.front ≡ 0)
begins r e gap is = subst (λ (g : Gap). (b : IsBehind r e g) × (length b.front ≡ 0)) (sym is) (
  record {
    front = [];
    back = r.order;
    whole = refl;
    gap_is = refl;
    above = tt;
  },
  refl,
)

pub front_within : (r : Ring) (e : Ranked) (gap : Gap) (b : IsBehind r e gap) → length b.front ≤ length r.order
front_within r e gap b = omega (arith, ap (λ l. length l) b.whole, length-append b.front b.back)

pub ends_or_goes : (r : Ring) (e : Ranked) (gap : Gap) (b : IsBehind r e gap) → (gap.next ≡ None)
    ⊎ (length b.front + 1 ≤ length r.order)
ends_or_goes r e gap b = by b.back refl where
  by : (l : List NodeNo) → b.back ≡ l → (gap.next ≡ None) ⊎ (length b.front + 1 ≤ length r.order)
  by [] is = inl (ap (λ (g : Gap). g.next) b.gap_is ∙ ap (λ l. first_or None l) is)
  by (x ∷ xs) is = inr (omega (arith, ap (λ l. length l) b.whole, length-append b.front b.back, ap (λ l. length l) is))
