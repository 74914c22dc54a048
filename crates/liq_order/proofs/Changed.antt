-- A list of nodes with one more, and with one less.
use Rattle.std.proofs.Common.{◌≡◌, ◌≢◌, ℕ, zero, suc, ◌+◌, ◌<◌, ◌≤◌, Bool, true, false, cond, List, [], ◌∷◌, ◌++◌, length, get_or, refl, sym, ap, ◌∙◌, subst, Some, None, Option, IfSome, inl, inr, arith, append_assoc, append-nil, length-append, length-set}
use Rattle.std.specs.Prelude.{◌==◌, not}
use Rattle.std.specs.List.{AllByRecursion}
use Rattle.std.specs.Ordering.{match_ordering, ordering_reverse}
use Rattle.std.specs.declared.cmp.Ordering.TheVariants.{Less, Greater}
use Rattle.std.proofs.lemmas.Bool.{eqb-true, eqb-false, ne_eqb}
use Rattle.std.proofs.Common.{eq-eqb}
use Rattle.std.proofs.lemmas.List.{get_or-set_same, get_or-set_other}
use Rattle.std.proofs.lemmas.List.Elements.{filter-append}
use Rattle.liq_types.specs.Ranked.{Ranked, rank_order, with_ranked, without_ranked, IsAscending}
use Rattle.liq_order.specs.Listed.{IsAbsent, AreDistinct}
use Rattle.liq_order.specs.declared.places.Node.{Node}
use Rattle.liq_order.specs.declared.places.NodeNo.{NodeNo}
use Rattle.liq_order.specs.Nodes.{Memory, memory, nobody, entry_of, entries_at, first_or, last_or, end_or, IsOff, AreApart, AreWithin, Linked, node_of, with_next, with_previous, IsWithin, IsSettled, IsRing}
use Rattle.liq_order.proofs.Chains.{all_front, all_back, all_both, all_as, all_of, apart_front, apart_in, apart_out, first_append, last_append, first_within, last_within, linked_front, linked_back, joined, Alike, framed, next_at, previous_at, met, met_front, met_back, met_entry, met_off, next_read, previous_read}
use Rattle.liq_order.proofs.Found.{without_absent, distinct_kept, distinct_back}
use Rattle.liq_order.proofs.Placed.{with_distinct}
use Rattle.liq_order.proofs.Sorting.{with_strict}
use Rattle.liq_types.proofs.RankedLists.{rank_total, ascending_kept}

-- ---- entries and accounts along places

pub entries_append : (f : Memory) (xs ys : List NodeNo) → entries_at f (xs ++ ys) ≡ entries_at f xs ++ entries_at f ys
entries_append f [] ys = refl
entries_append f (x ∷ xs) ys = ap (λ l. entry_of (f x) ∷ l) (entries_append f xs ys)

abbrev pub SameEntry : Memory → Memory → NodeNo → Type 0
SameEntry f g q = entry_of (g q) ≡ entry_of (f q)

pub entries_same : (f g : Memory) (xs : List NodeNo) → AllByRecursion (SameEntry f g) xs
    → entries_at g xs ≡ entries_at f xs
entries_same f g [] s = refl
entries_same f g (x ∷ xs) s = ap (λ e. e ∷ entries_at g xs) s.0 ∙ ap (λ l. entry_of (f x) ∷ l) (entries_same f g xs s.1)

pub node_same : (f g : Memory) (xs : List NodeNo) (account : ℕ) → AllByRecursion (SameEntry f g) xs
    → node_of g xs account ≡ node_of f xs account
node_same f g [] account s = refl
node_same f g (x ∷ xs) account s =
    ap (λ (e : Ranked). cond (e.1 == account) (Some x) (node_of g xs account)) s.0
    ∙ ap (λ o. cond ((f x).account == account) (Some x) o) (node_same f g xs account s.1)

-- an account that is absent has no node
pub node_absent : (f : Memory) (xs : List NodeNo) (account : ℕ) → IsAbsent account (entries_at f xs)
    → node_of f xs account ≡ None
node_absent f [] account h = refl
node_absent f (x ∷ xs) account h =
    ap (λ b. cond b (Some x) (node_of f xs account)) (ne_eqb (f x).account account h.0) ∙ node_absent f xs account h.1

pub node_none : (f : Memory) (xs : List NodeNo) (account : ℕ) → node_of f xs account ≡ None
    → IsAbsent account (entries_at f xs)
node_none f [] account h = tt
node_none f (x ∷ xs) account h = by ((f x).account == account) refl h (node_none f xs account) where
  by : (b : Bool) → ((f x).account == account) ≡ b → cond b (Some x) (node_of f xs account) ≡ None
      → (node_of f xs account ≡ None → IsAbsent account (entries_at f xs)) → IsAbsent account (entries_at f (x ∷ xs))
  by true is h more = absurd (none h) where
    none : {q : NodeNo} → Some q ≡ None → ⊥
    none e = cc
  by false is h more = (eqb-false (f x).account account is, more h)

-- the places around that of an account's node
pub record Split (f : Memory) (xs : List NodeNo) (account : ℕ) (at : NodeNo) : Type 0 where
  pub front : List NodeNo
  pub back : List NodeNo
  pub whole : xs ≡ front ++ at ∷ back
  pub same : (f at).account ≡ account
  pub away : IsAbsent account (entries_at f front)

pub node_split : (f : Memory) (xs : List NodeNo) (account : ℕ) (at : NodeNo) → node_of f xs account ≡ Some at
    → Split f xs account at
node_split f [] account at h = absurd (none h) where
  none : {q : NodeNo} → None ≡ Some q → ⊥
  none e = cc
node_split f (x ∷ xs) account at h = by ((f x).account == account) refl h (node_split f xs account at) where
  one : {p q : NodeNo} → Some p ≡ Some q → p ≡ q
  one e = cc

  by : (b : Bool) → ((f x).account == account) ≡ b → cond b (Some x) (node_of f xs account) ≡ Some at
      → (node_of f xs account ≡ Some at → Split f xs account at) → Split f (x ∷ xs) account at
  by true is h more =
      let here : x ≡ at = one h in
      record {
        front = [];
        back = xs;
        whole = ap (λ p. p ∷ xs) here;
        same = subst (λ p. (f p).account ≡ account) here
            (eqb-true (f x).account account is);
        away = tt;
      }
  by false is h more =
      let rest = more h in
      record {
        front = x ∷ rest.front;
        back = rest.back;
        whole = ap (λ l. x ∷ l) rest.whole;
        same = rest.same;
        away = (eqb-false (f x).account account is, rest.away);
      }

-- one node more among those of other accounts
pub node_put : (f : Memory) (front back : List NodeNo) (at : NodeNo) (account : ℕ)
    → IsAbsent (f at).account (entries_at f front) → node_of f (front ++ at ∷ back) account ≡ cond ((f at).account
    == account) (Some at) (node_of f (front ++ back) account)
node_put f [] back at account h = refl
node_put f (x ∷ xs) back at account h = by ((f x).account == account) ((f at).account == account) refl refl
    (node_put f xs back at account h.1) where
      by : (s t : Bool) → ((f x).account == account) ≡ s → ((f at).account == account) ≡ t
          → node_of f (xs ++ at ∷ back) account ≡ cond t (Some at) (node_of f (xs ++ back) account)
          → cond s (Some x) (node_of f (xs ++ at ∷ back) account)
          ≡ cond t (Some at) (cond s (Some x) (node_of f (xs ++ back) account))
      by true true is it more =
          absurd (h.0 (eqb-true (f x).account account is ∙ sym (eqb-true (f at).account account it)))
      by true false is it more = refl
      by false t is it more = more

-- ---- where an entry belongs

turned : (e f : Ranked) → rank_order f e ≡ Less → rank_order e f ≡ Greater
turned e f less = rank_total.antisymm e f ∙ ap ordering_reverse less

abbrev pub Before : Ranked → Ranked → Type 0
Before e g = rank_order g e ≡ Less

pub below_all : (f : Memory) (xs ys : List NodeNo) (e : Ranked) → IsAscending (entries_at f (xs ++ ys))
    → IfSome (last_or None xs) (λ p. rank_order (entry_of (f p)) e ≡ Less) → AllByRecursion (Before e) (entries_at f xs)
below_all f [] ys e asc h = tt
below_all f (x ∷ []) ys e asc h = (h, tt)
below_all f (x ∷ y ∷ zs) ys e asc h =
    let more = below_all f (y ∷ zs) ys e asc.1 h in
    (rank_total.trans (entry_of (f x)) (entry_of (f y)) e asc.0.0 more.0, more)

abbrev pub FirstAfter : Ranked → List Ranked → Type 0
FirstAfter e [] = Unit {0}
FirstAfter e (b ∷ bs) = rank_order e b ≡ Less

pub placed : (fs bs : List Ranked) (e : Ranked) → AllByRecursion (Before e) fs → FirstAfter e bs
    → with_ranked (fs ++ bs) e ≡ fs ++ e ∷ bs
placed [] [] e h a = refl
placed [] (b ∷ bs) e h a = ap (λ o. match_ordering o (e ∷ b ∷ bs) (e ∷ b ∷ bs) (b ∷ with_ranked bs e)) a
placed (f ∷ fs) bs e h a =
    ap (λ o. match_ordering o (e ∷ f ∷ (fs ++ bs)) (e ∷ f ∷ (fs ++ bs)) (f ∷ with_ranked (fs ++ bs) e)) (turned e f h.0)
    ∙ ap (λ l. f ∷ l) (placed fs bs e h.1 a)

after_first : (f : Memory) (e : Ranked) (back : List NodeNo)
    → IfSome (first_or None back) (λ p. rank_order e (entry_of (f p)) ≡ Less) → FirstAfter e (entries_at f back)
after_first f e [] h = tt
after_first f e (x ∷ xs) h = h

pub put_entries : (f : Memory) (order front back : List NodeNo) (e : Ranked) → order ≡ front ++ back
    → IsAscending (entries_at f order) → IfSome (last_or None front) (λ p. rank_order (entry_of (f p)) e ≡ Less)
    → IfSome (first_or None back) (λ p. rank_order e (entry_of (f p)) ≡ Less)
    → entries_at f front ++ e ∷ entries_at f back ≡ with_ranked (entries_at f order) e
put_entries f order front back e whole asc above ahead =
    let here = subst (λ l. IsAscending (entries_at f l)) whole asc in
    sym
    (ap (λ l. with_ranked (entries_at f l) e) whole
    ∙ ap (λ l. with_ranked l e) (entries_append f front back)
    ∙ placed (entries_at f front) (entries_at f back) e (below_all f front back e here above)
    (after_first f e back ahead))

-- ---- a place that is taken

read_pushed : (xs : List Node) (x : Node) (i : ℕ) → i ≡ length xs → get_or (xs ++ x ∷ []) i nobody ≡ x
read_pushed [] x zero e = refl
read_pushed [] x (suc i) e = absurd (omega (arith, e))
read_pushed (y ∷ ys) x zero e = absurd (omega (arith, e))
read_pushed (y ∷ ys) x (suc i) e = read_pushed ys x i (omega (arith, e))

read_other : (xs : List Node) (x : Node) (i : ℕ) → i ≢ length xs → get_or (xs ++ x ∷ []) i nobody ≡ get_or xs i nobody
read_other [] x zero e = absurd (e refl)
read_other [] x (suc i) e = refl
read_other (y ∷ ys) x zero e = refl
read_other (y ∷ ys) x (suc i) e = read_other ys x i (λ same. e (omega (arith, same)))

pub record Taken (nodes : List Node) (order : List NodeNo) (node : Node) (at : NodeNo) (nodes' : List Node)
    (free' : List NodeNo) : Type 0 where
  pub here : memory nodes' at ≡ node
  pub other : (q : NodeNo) → q.0 ≢ at.0 → memory nodes' q ≡ memory nodes q
  pub apart : AreApart (order ++ free')
  pub off : IsOff at.0 (order ++ free')
  pub within : AreWithin (length nodes') (order ++ free')
  pub in_range : at.0 < length nodes'
  pub shared : length order + length free' + 1 ≡ length nodes'
  pub grown : (most : ℕ) → length order < most → length nodes ≤ most → length nodes' ≤ most

pub taken : (nodes : List Node) (order free : List NodeNo) (node : Node) (at : NodeNo) (nodes' : List Node)
    (free' : List NodeNo) → AreApart (order ++ free) → AreWithin (length nodes) (order ++ free)
    → length order + length free ≡ length nodes → IsSettled nodes free node at nodes' free'
    → Taken nodes order node at nodes' free'
taken nodes order free node at nodes' free' apart within shared (inl s) =
    let line : order ++ free ≡ (order ++ free') ++ at ∷ [] = ap (λ l. order ++ l) s.0
    ∙ sym (append_assoc order free' (at ∷ [])) in
    let far = apart_out (order ++ free') [] at (subst AreApart line apart) in
    let inside = subst (AreWithin (length nodes)) line within in
    let less : at.0 < length nodes = (all_back (λ (q : NodeNo). q.0 < length nodes) (order ++ free') (at ∷ []) inside).0
    in
    let long : length nodes' ≡ length nodes = ap (λ l. length l) s.1 ∙ length-set nodes at.0 node in
    let more : length free ≡ length free' + 1 = ap (λ l. length l) s.0 ∙ length-append free' (at ∷ []) in
    record {
      here = ap (λ l. get_or l at.0 nobody) s.1 ∙ get_or-set_same nodes at.0 node nobody less;
      other = λ q n. ap (λ l. get_or l q.0 nobody) s.1 ∙ get_or-set_other nodes at.0 q.0 node nobody n;
      apart = subst AreApart (append-nil (order ++ free')) far.0;
      off = far.1;
      within = subst (λ n. AreWithin n (order ++ free')) (sym long) (all_front (λ (q : NodeNo). q.0 < length nodes)
          (order ++ free') (at ∷ []) inside);
      in_range = subst (λ n. at.0 < n) (sym long) less;
      shared = omega (arith, shared, long, more);
      grown = λ most some used. subst (λ n. n ≤ most) (sym long) used;
    }
taken nodes order free node at nodes' free' apart within shared (inr s) =
    let long : length nodes' ≡ length nodes + 1 = ap (λ l. length l) s.3 ∙ length-append nodes (node ∷ []) in
    let none : length free ≡ 0 = ap (λ l. length l) s.0 in
    let none' : length free' ≡ 0 = ap (λ l. length l) s.1 in
    let same : free ≡ free' = s.0 ∙ sym s.1 in
    let inside = subst (λ l. AreWithin (length nodes) (order ++ l)) same within in
    record {
      here = ap (λ l. get_or l at.0 nobody) s.3 ∙ read_pushed nodes node at.0 s.2;
      other = λ q n. ap (λ l. get_or l q.0 nobody) s.3 ∙ read_other nodes node q.0 (λ e. n (e ∙ sym s.2));
      apart = subst (λ l. AreApart (order ++ l)) same apart;
      off = all_as (λ (q : NodeNo). q.0 < length nodes) (λ (q : NodeNo). q.0 ≢ at.0) (order ++ free') (λ q less is.
          absurd (omega (arith, less, is, s.2))) inside;
      within = all_as (λ (q : NodeNo). q.0 < length nodes) (λ (q : NodeNo). q.0 < length nodes') (order ++ free')
          (λ q less. omega (arith, less, long)) inside;
      in_range = omega (arith, s.2, long);
      shared = omega (arith, shared, long, none, none');
      grown = λ most some used. omega (arith, some, shared, none, long);
    }

-- ---- the ends after a change

first_met : (front : List NodeNo) (first a to : Option NodeNo) → first ≡ first_or a front
    → end_or (last_or None front) first to ≡ first_or to front
first_met [] first a to h = refl
first_met (x ∷ xs) first a to h = stays x xs ∙ h where
  stays : (y : NodeNo) (ys : List NodeNo) → end_or (last_or (Some y) ys) first to ≡ first
  stays y [] = refl
  stays y (z ∷ zs) = stays z zs

last_met : (back : List NodeNo) (last b fro : Option NodeNo) → last ≡ last_or b back
    → end_or (first_or None back) last fro ≡ last_or fro back
last_met [] last b fro h = refl
last_met (y ∷ ys) last b fro h = h

met_read : (nodes : List Node) (front back : List NodeNo) (to fro : Option NodeNo) (q : NodeNo)
    → IsWithin nodes (last_or None front) → IsWithin nodes (first_or None back)
    → memory (with_previous (with_next nodes (last_or None front) to) (first_or None back) fro) q
    ≡ met (memory nodes) front back to fro q
met_read nodes front back to fro q w v =
    let mid = with_next nodes (last_or None front) to in
    let long = next_length nodes (last_or None front) to in
    previous_read mid (first_or None back) fro q (still (first_or None back) long v) ∙ over (first_or None back) where
      next_length : (nodes : List Node) (from to : Option NodeNo) → length (with_next nodes from to) ≡ length nodes
      next_length nodes None to = refl
      next_length nodes (Some p) to = length-set nodes p.0 (record (memory nodes p) { next = to })

      still : {k : ℕ} → (at : Option NodeNo) → k ≡ length nodes → IsWithin nodes at
          → IfSome at (λ (p : NodeNo). p.0 < k)
      still None e h = tt
      still (Some p) e h = subst (λ n. p.0 < n) (sym e) h

      read : (p : NodeNo) → memory (with_next nodes (last_or None front) to) p
          ≡ next_at (memory nodes) (last_or None front) to p
      read p = next_read nodes (last_or None front) to p w

      over : (from : Option NodeNo) → previous_at (memory (with_next nodes (last_or None front) to)) from fro q
          ≡ previous_at (next_at (memory nodes) (last_or None front) to) from fro q
      over None = read q
      over (Some p) = ap (λ (n : Node). cond (q.0 == p.0) (record n { previous = fro }) n) (read q)

pub met_length : (nodes : List Node) (from to at fro : Option NodeNo)
    → length (with_previous (with_next nodes from to) at fro) ≡ length nodes
met_length nodes from to at fro = second (with_next nodes from to) at ∙ first_one from where
  second : (l : List Node) (at : Option NodeNo) → length (with_previous l at fro) ≡ length l
  second l None = refl
  second l (Some p) = length-set l p.0 (record (memory l p) { previous = fro })

  first_one : (from : Option NodeNo) → length (with_next nodes from to) ≡ length nodes
  first_one None = refl
  first_one (Some p) = length-set nodes p.0 (record (memory nodes p) { next = to })

-- ---- the whole ring

pub put_ring : (nodes : List Node) (order free : List NodeNo) (place : ℕ → Option NodeNo) (first last : Option NodeNo)
    → IsRing nodes order free place first last → (front back : List NodeNo) → order ≡ front ++ back → (node : Node)
    → node.previous ≡ last_or None front → node.next ≡ first_or None back
    → IsAbsent node.account (entries_at (memory nodes) order)
    → IfSome (last_or None front) (λ p. rank_order (entry_of (memory nodes p)) (entry_of node) ≡ Less)
    → IfSome (first_or None back) (λ p. rank_order (entry_of node) (entry_of (memory nodes p)) ≡ Less)
    → (at : NodeNo) (nodes' : List Node) (free' : List NodeNo) → Taken nodes order node at nodes' free'
    → (place' : ℕ → Option NodeNo) → ((a : ℕ) → place' a ≡ cond (node.account == a) (Some at) (place a))
    → (nodes'' : List Node) → nodes'' ≡ with_previous (with_next nodes' (last_or None front) (Some at))
    (first_or None back) (Some at) → (first' last' : Option NodeNo)
    → first' ≡ end_or (last_or None front) first (Some at) → last' ≡ end_or (first_or None back) last (Some at)
    → IsRing nodes'' (front ++ at ∷ back) free' place' first' last' × (entries_at (memory nodes'') (front ++ at ∷ back)
    ≡ with_ranked (entries_at (memory nodes) order) (entry_of node))
put_ring nodes order free place first last r front back whole node prev_is next_is absent above ahead at nodes' free' t
    place' told nodes'' written first' last' first_is last_is =
    let f = memory nodes in
    let f' = memory nodes' in
    let g = memory nodes'' in
    let m = met f' front back (Some at) (Some at) in
    let apart : AreApart ((front ++ back) ++ free') = subst (λ l. AreApart (l ++ free')) whole t.apart in
    let off : IsOff at.0 ((front ++ back) ++ free') = subst (λ l. IsOff at.0 (l ++ free')) whole t.off in
    let within : AreWithin (length nodes') ((front ++ back) ++ free') =
    subst (λ l. AreWithin (length nodes') (l ++ free')) whole t.within in
    let off_list : IsOff at.0 (front ++ back) = all_front (λ (q : NodeNo). q.0 ≢ at.0) (front ++ back) free' off in
    let off_free : IsOff at.0 free' = all_back (λ (q : NodeNo). q.0 ≢ at.0) (front ++ back) free' off in
    let off_front : IsOff at.0 front = all_front (λ (q : NodeNo). q.0 ≢ at.0) front back off_list in
    let off_back : IsOff at.0 back = all_back (λ (q : NodeNo). q.0 ≢ at.0) front back off_list in
    let in_list : AreWithin (length nodes') (front ++ back) = all_front (λ (q : NodeNo). q.0 < length nodes') (front
    ++ back) free' within in
    let in_free : AreWithin (length nodes') free' = all_back (λ (q : NodeNo). q.0 < length nodes') (front
    ++ back) free' within in
    let in_front : AreWithin (length nodes') front = all_front (λ (q : NodeNo). q.0 < length nodes') front back in_list
    in
    let in_back : AreWithin (length nodes') back = all_back (λ (q : NodeNo). q.0 < length nodes') front back in_list in
    let read : (q : NodeNo) → g q ≡ m q = λ q. ap (λ l. memory l q) written
    ∙ met_read nodes' front back (Some at) (Some at) q (last_within (length nodes') None front tt in_front)
    (first_within (length nodes') back in_back) in
    let linked : Linked f None (front ++ back) None = subst (λ l. Linked f None l None) whole r.linked in
    let alike : (xs : List NodeNo) → IsOff at.0 xs → AllByRecursion (Alike f f') xs =
    λ xs o. all_as (λ (q : NodeNo). q.0 ≢ at.0) (Alike f f') xs (λ q n. t.other q n) o in
    let distinct_places : AreApart (front ++ back) = apart_front (front ++ back) free' apart in
    let left = met_front f' front back (first_or None back) (Some at) (Some at) distinct_places (framed f f' None front
    (first_or None back) (alike front off_front) (linked_front f None front back None linked)) in
    let right = met_back f' front back (last_or None front) (Some at) (Some at) distinct_places
    (framed f f' (last_or None front) back None (alike back off_back) (linked_back f None front back None linked)) in
    let here : m at ≡ node = met_off f' front back (Some at) (Some at) at off_front off_back ∙ t.here in
    let all : Linked m None (front ++ at ∷ back) None = joined m None front (at ∷ back) None left
    (ap (λ (n : Node). n.previous) here ∙ prev_is, ap (λ (n : Node). n.next) here ∙ next_is, right) in
    let entry_off : (q : NodeNo) → q.0 ≢ at.0 → entry_of (g q) ≡ entry_of (f q) =
    λ q n. ap (λ (k : Node). entry_of k) (read q) ∙ met_entry f' front back (Some at) (Some at) q
    ∙ ap (λ (k : Node). entry_of k) (t.other q n) in
    let entry_here : entry_of (g at) ≡ entry_of node = ap (λ (k : Node). entry_of k) (read at ∙ here) in
    let same : (xs : List NodeNo) → IsOff at.0 xs → AllByRecursion (SameEntry f g) xs =
    λ xs o. all_as (λ (q : NodeNo). q.0 ≢ at.0) (SameEntry f g) xs entry_off o in
    let put = put_entries f order front back (entry_of node) whole r.ascending above ahead in
    let listed : entries_at g (front ++ at ∷ back) ≡ with_ranked (entries_at f order) (entry_of node) =
    entries_append g front (at ∷ back)
    ∙ ap (λ l. l ++ entries_at g (at ∷ back)) (entries_same f g front (same front off_front))
    ∙ ap (λ e. entries_at f front ++ e ∷ entries_at g back) entry_here
    ∙ ap (λ l. entries_at f front ++ entry_of node ∷ l) (entries_same f g back (same back off_back))
    ∙ put in
    let away : IsAbsent node.account (entries_at f (front ++ back)) =
    subst (λ l. IsAbsent node.account (entries_at f l)) whole absent in
    let away_front : IsAbsent node.account (entries_at f front) = all_front (λ (e : Ranked). e.1 ≢ node.account)
    (entries_at f front) (entries_at f back) (subst (IsAbsent node.account) (entries_append f front back) away) in
    let account_is : (g at).account ≡ node.account = ap (λ (e : Ranked). e.1) entry_here in
    let away_now : IsAbsent (g at).account (entries_at g front) = subst (λ l. IsAbsent (g at).account l)
    (sym (entries_same f g front (same front off_front))) (subst (λ a. IsAbsent a (entries_at f front))
    (sym account_is) away_front) in (
      record {
        linked = framed m g None (front ++ at ∷ back) None (all_of (Alike m g) (front ++ at ∷ back) read) all;
        first_is = first_is ∙ first_met front first (first_or None back) (Some at) (r.first_is
            ∙ ap (λ l. first_or None l) whole ∙ first_append None front back)
            ∙ sym (first_append None front (at ∷ back));
        last_is = last_is ∙ last_met back last (last_or None front) (Some at) (r.last_is
            ∙ ap (λ l. last_or None l) whole ∙ last_append None front back) ∙ sym (last_append None front (at ∷ back));
        apart = subst AreApart (sym (append_assoc front (at ∷ back) free')) (apart_in front (back ++ free') at
            (subst AreApart (append_assoc front back free') apart) off_front (all_both (λ (q : NodeNo). q.0
            ≢ at.0) back free' off_back off_free));
        within = subst (λ n. AreWithin n ((front ++ at ∷ back) ++ free')) (sym (ap (λ l. length l) written
            ∙ met_length nodes' (last_or None front) (Some at) (first_or None back) (Some at)))
            (all_both (λ (q : NodeNo). q.0 < length nodes') (front ++ at ∷ back) free' (all_both (λ (q : NodeNo). q.0
            < length nodes') front (at ∷ back) in_front (t.in_range, in_back)) in_free);
        shared = omega (
          arith,
          t.shared,
          ap (λ l. length l) whole,
          length-append front back,
          length-append front (at ∷ back),
          ap (λ l. length l) written,
          met_length nodes' (last_or None front) (Some at)
              (first_or None back) (Some at),
        );
        told = λ a. told a ∙ ap (λ o. cond (node.account == a) (Some at) o) (r.told a ∙ ap (λ l. node_of f l a) whole
            ∙ sym (node_same f g (front ++ back) a (same (front ++ back) off_list)))
            ∙ ap (λ k. cond (k == a) (Some at) (node_of g (front ++ back) a)) (sym account_is)
            ∙ sym (node_put g front back at a away_now);
        ascending = subst IsAscending (sym listed) (with_strict (entries_at f order) (entry_of node) absent
            r.ascending);
        distinct = subst AreDistinct (sym listed) (with_distinct (entries_at f order) (entry_of node) absent
            r.distinct);
      },
      listed,
    )

-- without an entry in the middle
without_middle : (front back : List Ranked) (e : Ranked) (account : ℕ) → IsAbsent account front → e.1 ≡ account
    → IsAbsent account back → without_ranked (front ++ e ∷ back) account ≡ front ++ back
without_middle front back e account f same b =
    let here : without_ranked (e ∷ back) account ≡ back =
    ap (λ t. cond (not t) (e ∷ without_ranked back account) (without_ranked back account)) (eq-eqb e.1 account same)
    ∙ without_absent back account b in
    filter-append (λ (d : Ranked). not (d.1 == account)) front (e ∷ back)
    ∙ ap (λ l. l ++ without_ranked (e ∷ back) account) (without_absent front account f)
    ∙ ap (λ l. front ++ l) here

pub out_ring : (nodes : List Node) (order free : List NodeNo) (place : ℕ → Option NodeNo) (first last : Option NodeNo)
    → IsRing nodes order free place first last → (account : ℕ) (at : NodeNo)
    → (s : Split (memory nodes) order account at) → (place' : ℕ → Option NodeNo)
    → ((a : ℕ) → place' a ≡ cond (account == a) None (place a)) → (nodes' : List Node)
    → nodes' ≡ with_previous (with_next nodes (last_or None s.front) (first_or None s.back)) (first_or None s.back)
    (last_or None s.front) → (first' last' : Option NodeNo)
    → first' ≡ end_or (last_or None s.front) first (first_or None s.back)
    → last' ≡ end_or (first_or None s.back) last (last_or None s.front)
    → IsRing nodes' (s.front ++ s.back) (free ++ at ∷ []) place' first' last'
    × (entries_at (memory nodes') (s.front ++ s.back) ≡ without_ranked (entries_at (memory nodes) order) account)
out_ring nodes order free place first last r account at s place' told nodes' written first' last' first_is last_is =
    let f = memory nodes in
    let g = memory nodes' in
    let front = s.front in
    let back = s.back in
    let to = first_or None back in
    let fro = last_or None front in
    let m = met f front back to fro in
    let line : order ++ free ≡ front ++ at ∷ (back ++ free) = ap (λ l. l ++ free) s.whole
    ∙ append_assoc front (at ∷ back) free in
    let far = apart_out front (back ++ free) at (subst AreApart line r.apart) in
    let inside : AreWithin (length nodes) (front ++ at ∷ (back ++ free)) =
    subst (AreWithin (length nodes)) line r.within in
    let in_front : AreWithin (length nodes) front = all_front (λ (q : NodeNo). q.0 < length nodes) front (at
    ∷ (back ++ free)) inside in
    let in_rest = all_back (λ (q : NodeNo). q.0 < length nodes) front (at ∷ (back ++ free)) inside in
    let in_back : AreWithin (length nodes) back = all_front (λ (q : NodeNo). q.0 < length nodes) back free in_rest.1 in
    let in_free : AreWithin (length nodes) free = all_back (λ (q : NodeNo). q.0 < length nodes) back free in_rest.1 in
    let apart : AreApart ((front ++ back) ++ free) = subst AreApart (sym (append_assoc front back free)) far.0 in
    let distinct_places : AreApart (front ++ back) = apart_front (front ++ back) free apart in
    let read : (q : NodeNo) → g q ≡ m q = λ q. ap (λ l. memory l q) written
    ∙ met_read nodes front back to fro q (last_within (length nodes) None front tt in_front)
    (first_within (length nodes) back in_back) in
    let linked : Linked f None (front ++ at ∷ back) None = subst (λ l. Linked f None l None) s.whole r.linked in
    let rest = linked_back f None front (at ∷ back) None linked in
    let left : Linked m None front to = met_front f front back (Some at) to fro distinct_places
    (linked_front f None front (at ∷ back) None linked) in
    let right : Linked m fro back None = met_back f front back (Some at) to fro distinct_places rest.2 in
    let all : Linked m None (front ++ back) None = joined m None front back None left right in
    let same : (xs : List NodeNo) → AllByRecursion (SameEntry f g) xs =
    λ xs. all_of (SameEntry f g) xs (λ q. ap (λ (k : Node). entry_of k) (read q) ∙ met_entry f front back to fro q) in
    let list_is : entries_at f order ≡ entries_at f front ++ entry_of (f at) ∷ entries_at f back =
    ap (λ l. entries_at f l) s.whole ∙ entries_append f front (at ∷ back) in
    let away_back : IsAbsent account (entries_at f back) = subst (λ a. IsAbsent a (entries_at f back)) s.same
    (distinct_back (entries_at f front) (entries_at f back) (entry_of (f at)) (subst AreDistinct list_is r.distinct))
    in
    let halves : entries_at f (front ++ back) ≡ entries_at f front ++ entries_at f back = entries_append f front back in
    let listed : entries_at g (front ++ back) ≡ without_ranked (entries_at f order) account =
    entries_same f g (front ++ back) (same (front ++ back)) ∙ halves
    ∙ sym (ap (λ l. without_ranked l account) list_is ∙ without_middle (entries_at f front) (entries_at f back)
    (entry_of (f at)) account s.away s.same away_back) in
    let other = λ (e : Ranked). not (e.1 == account) in (
      record {
        linked = framed m g None (front ++ back) None (all_of (Alike m g) (front ++ back) read) all;
        first_is = first_is ∙ first_met front first (Some at) to (r.first_is ∙ ap (λ l. first_or None l) s.whole
            ∙ first_append None front (at ∷ back)) ∙ sym (first_append None front back);
        last_is = last_is ∙ last_met back last (Some at) fro (r.last_is ∙ ap (λ l. last_or None l) s.whole
            ∙ last_append None front (at ∷ back)) ∙ sym (last_append None front back);
        apart = subst AreApart (append_assoc (front ++ back) free (at ∷ [])) (apart_in ((front ++ back) ++ free) [] at
            (subst AreApart (sym (append-nil ((front ++ back) ++ free))) apart) (all_both (λ (q : NodeNo). q.0
            ≢ at.0) (front ++ back) free (all_both (λ (q : NodeNo). q.0 ≢ at.0) front back far.1
            (all_front (λ (q : NodeNo). q.0 ≢ at.0) back free far.2)) (all_back (λ (q : NodeNo). q.0
            ≢ at.0) back free far.2)) tt);
        within = subst (λ n. AreWithin n ((front ++ back) ++ (free ++ at ∷ []))) (sym (ap (λ l. length l) written
            ∙ met_length nodes fro to to fro)) (all_both (λ (q : NodeNo). q.0 < length nodes) (front ++ back)
            (free ++ at ∷ []) (all_both (λ (q : NodeNo). q.0 < length nodes) front back in_front in_back)
            (all_both (λ (q : NodeNo). q.0 < length nodes) free (at ∷ []) in_free (in_rest.0, tt)));
        shared = omega (
          arith,
          r.shared,
          ap (λ l. length l) s.whole,
          length-append front back,
          length-append front (at ∷ back),
          length-append free (at ∷ []),
          ap (λ l. length l) written,
          met_length nodes fro to to fro,
        );
        told = λ a. told a ∙ ap (λ o. cond (account == a) None o) (r.told a) ∙ told_by a (account == a) refl
            ∙ sym (node_same f g (front ++ back) a (same (front ++ back)));
        ascending = subst IsAscending (sym listed) (ascending_kept other (entries_at f order) r.ascending);
        distinct = subst AreDistinct (sym listed) (distinct_kept other (entries_at f order) r.distinct);
      },
      listed,
    ) where
      told_by : (a : ℕ) (b : Bool) → (account == a) ≡ b → cond b None (node_of (memory nodes) order a)
          ≡ node_of (memory nodes) (s.front ++ s.back) a
      told_by a true is =
          sym (node_absent (memory nodes) (s.front ++ s.back) a
          (subst (λ k. IsAbsent k (entries_at (memory nodes) (s.front ++ s.back))) (eqb-true account a is) gone)) where
            list_is : entries_at (memory nodes) order ≡ entries_at (memory nodes) s.front ++ entry_of (memory nodes at)
                ∷ entries_at (memory nodes) s.back
            list_is =
                ap (λ l. entries_at (memory nodes) l) s.whole
                ∙ entries_append (memory nodes) s.front (at ∷ s.back)

            behind : IsAbsent account (entries_at (memory nodes) s.back)
            behind = subst (λ k. IsAbsent k (entries_at (memory nodes) s.back)) s.same
                (distinct_back (entries_at (memory nodes) s.front) (entries_at (memory nodes) s.back)
                (entry_of (memory nodes at)) (subst AreDistinct list_is r.distinct))

            gone : IsAbsent account (entries_at (memory nodes) (s.front ++ s.back))
            gone = subst (IsAbsent account) (sym (entries_append (memory nodes) s.front s.back))
                (all_both (λ (e : Ranked). e.1 ≢ account) (entries_at (memory nodes) s.front)
                (entries_at (memory nodes) s.back) s.away behind)
      told_by a false is =
          ap (λ l. node_of (memory nodes) l a) s.whole
          ∙ node_put (memory nodes) s.front s.back at a (subst (λ k. IsAbsent k (entries_at (memory nodes) s.front))
          (sym s.same) s.away)
          ∙ ap (λ k. cond (k == a) (Some at) (node_of (memory nodes) (s.front ++ s.back) a)) s.same
          ∙ ap (λ b. cond b (Some at) (node_of (memory nodes) (s.front ++ s.back) a)) is
