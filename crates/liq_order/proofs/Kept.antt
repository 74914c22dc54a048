-- How the nodes are kept by an entry that comes, and by one that goes.
use Rattle.std.proofs.Common.{◌≡◌, ℕ, ℤ, ◌+◌, ◌-◌, ◌<◌, ◌≤◌, cond, List, [], ◌∷◌, ◌++◌, length, sym, ap, ◌∙◌, subst, Some, None, Option, IfSome, inl, inr, arith, length-append, length-set}
use Rattle.std.specs.Prelude.{◌==◌}
use Rattle.std.specs.declared.cmp.Ordering.TheVariants.{Less}
use Rattle.liq_types.specs.Ranked.{Ranked, rank_order, key_in, with_ranked, without_ranked}
use Rattle.liq_order.specs.declared.linked.Nodes.TheInside.{Inside}
use Rattle.liq_order.specs.declared.places.Gap.{Gap}
use Rattle.liq_order.specs.declared.places.Node.{Node}
use Rattle.liq_order.specs.declared.places.NodeNo.{NodeNo}
use Rattle.liq_order.specs.Nodes.{Ring, memory, at_place, entries, entry_of, entries_at, along, visited, first_or, last_or, end_or, AreWithin, Linked, node_of, with_next, with_previous, IsWithin, IsSettled, IsRing, IsBehind, IsGap}
use Rattle.liq_order.proofs.Chains.{all_front, all_back, first_within, last_within, along_is, linked_back}
use Rattle.liq_order.proofs.Changed.{Taken, taken, put_ring, out_ring, node_split, met_length}
use Rattle.liq_order.proofs.Found.{absent_from_key}

-- the places in order are those that one comes to along the links
pub along_order : (nodes : List Node) (order free : List NodeNo) (place : ℕ
    → Option NodeNo) (first last : Option NodeNo) → IsRing nodes order free place first last
    → along (memory nodes) (length nodes) first ≡ order
along_order nodes order free place first last r =
    ap (λ s. along (memory nodes) (length nodes) s) r.first_is
    ∙ along_is (memory nodes) None order (length nodes) r.linked (omega (arith, r.shared))

-- what the vectors stand for
abbrev pub ring_of : Inside → Ring
ring_of i =
    let order = visited i.cells.nodes.items i.cells.first in
    record { nodes = i.cells.nodes.items; order = order; room = i.most - length order }

-- ---- an entry comes

pub record Put (v : Ring) (key : ℤ) (id : ℕ) (nodes : List Node) (free : List NodeNo) (place : ℕ
    → Option NodeNo) (first last : Option NodeNo) : Type 0 where
  pub ring : IsRing nodes (visited nodes first) free place first last
  pub listed : entries_at (memory nodes) (visited nodes first) ≡ with_ranked (entries v) (key, id)
  pub more : length (visited nodes first) ≡ length v.order + 1
  pub grown : (most : ℕ) → length v.order < most → length v.nodes ≤ most → length nodes ≤ most

abbrev pub node_for : ℤ → ℕ → Gap → Node
node_for key id gap = record { key = key; account = id; previous = gap.previous; next = gap.next }

pub settled : (v : Ring) (free : List NodeNo) (place : ℕ → Option NodeNo) (first last : Option NodeNo)
    → IsRing v.nodes v.order free place first last
    → (node : Node) (at : NodeNo) (nodes' : List Node) (free' : List NodeNo)
    → IsSettled v.nodes free node at nodes' free' → Taken v.nodes v.order node at nodes' free'
settled v free place first last r node at nodes' free' s =
    taken v.nodes v.order free node at nodes' free' r.apart r.within r.shared s

-- what is within stays so when a node comes
pub within_settled : (nodes : List Node) (free : List NodeNo) (node : Node) (at : NodeNo) (nodes' : List Node)
    (free' : List NodeNo) → IsSettled nodes free node at nodes' free' → (o : Option NodeNo) → IsWithin nodes o
    → IsWithin nodes' o
within_settled nodes free node at nodes' free' s None w = tt
within_settled nodes free node at nodes' free' (inl s) (Some p) w = subst (λ n. p.0 < n) (sym (ap (λ l. length l) s.1
    ∙ length-set nodes at.0 node)) w
within_settled nodes free node at nodes' free' (inr s) (Some p) w = omega (
  arith,
  w,
  ap (λ l. length l) s.3,
  length-append nodes (node ∷ []),
)

-- what is beside a gap is among the nodes
pub gap_within : (v : Ring) (free : List NodeNo) (place : ℕ → Option NodeNo) (first last : Option NodeNo)
    → IsRing v.nodes v.order free place first last → (e : Ranked) (gap : Gap) → IsBehind v e gap
    → IsWithin v.nodes gap.previous × IsWithin v.nodes gap.next
gap_within v free place first last r e gap b =
    let inside : AreWithin (length v.nodes) (b.front ++ b.back) = subst (AreWithin (length v.nodes)) b.whole
    (all_front (λ (q : NodeNo). q.0 < length v.nodes) v.order free r.within) in
    let front = all_front (λ (q : NodeNo). q.0 < length v.nodes) b.front b.back inside in
    let back = all_back (λ (q : NodeNo). q.0 < length v.nodes) b.front b.back inside in (
      subst (λ (g : Gap). IsWithin v.nodes g.previous) (sym b.gap_is) (last_within (length v.nodes) None b.front
          tt front),
      subst (λ (g : Gap). IsWithin v.nodes g.next) (sym b.gap_is) (first_within (length v.nodes) b.back back),
    )

pub put_whole : (v : Ring) (free : List NodeNo) (place : ℕ → Option NodeNo) (first last : Option NodeNo)
    → IsRing v.nodes v.order free place first last → (key : ℤ) (id : ℕ) (gap : Gap) → IsGap v (key, id) gap
    → key_in (entries v) id ≡ None → (at : NodeNo) (nodes' : List Node) (free' : List NodeNo)
    → IsSettled v.nodes free (node_for key id gap) at nodes' free' → (place' : ℕ → Option NodeNo)
    → ((a : ℕ) → place' a ≡ cond (id == a) (Some at) (place a)) → (nodes'' : List Node)
    → nodes'' ≡ with_previous (with_next nodes' gap.previous (Some at)) gap.next (Some at)
    → (first' last' : Option NodeNo) → first' ≡ end_or gap.previous first (Some at)
    → last' ≡ end_or gap.next last (Some at) → Put v key id nodes'' free' place' first' last'
put_whole v free place first last r key id gap g none at nodes' free' s place' told nodes'' written first' last'
    first_is last_is =
    let b = g.0 in
    let node = node_for key id gap in
    let t = settled v free place first last r node at nodes' free' s in
    let previous_is : gap.previous ≡ last_or None b.front = ap (λ (p : Gap). p.previous) b.gap_is in
    let next_is : gap.next ≡ first_or None b.back = ap (λ (p : Gap). p.next) b.gap_is in
    let all = put_ring v.nodes v.order free place first last r b.front b.back b.whole node previous_is next_is
    (absent_from_key (entries v) id none)
    (subst (λ o. IfSome o (λ p. rank_order (entry_of (at_place v p)) (key, id) ≡ Less)) previous_is b.above)
    (subst (λ o. IfSome o (λ p. rank_order (key, id) (entry_of (at_place v p)) ≡ Less)) next_is g.1)
    at nodes' free' t place' told nodes''
    (written ∙ ap (λ (p : Gap). with_previous (with_next nodes' p.previous (Some at)) p.next (Some at)) b.gap_is)
    first' last'
    (first_is ∙ ap (λ (p : Gap). end_or p.previous first (Some at)) b.gap_is)
    (last_is ∙ ap (λ (p : Gap). end_or p.next last (Some at)) b.gap_is) in
    let order = b.front ++ at ∷ b.back in
    let same : visited nodes'' first' ≡ order = along_order nodes'' order free' place' first' last' all.0 in
    record {
      ring = subst (λ l. IsRing nodes'' l free' place' first' last') (sym same) all.0;
      listed = ap (λ l. entries_at (memory nodes'') l) same ∙ all.1;
      more = omega (
        arith,
        ap (λ l. length l) same,
        length-append b.front (at ∷ b.back),
        ap (λ l. length l) b.whole,
        length-append b.front b.back,
      );
      grown = λ most some used. subst (λ n. n ≤ most) (sym (ap (λ l. length l) written
          ∙ met_length nodes' gap.previous (Some at) gap.next (Some at))) (t.grown most some used);
    }

-- ---- an entry goes

pub record Out (v : Ring) (id : ℕ) (nodes : List Node) (free : List NodeNo) (place : ℕ
    → Option NodeNo) (first last : Option NodeNo) : Type 0 where
  pub ring : IsRing nodes (visited nodes first) free place first last
  pub listed : entries_at (memory nodes) (visited nodes first) ≡ without_ranked (entries v) id
  pub less : length (visited nodes first) + 1 ≡ length v.order
  pub same : length nodes ≡ length v.nodes

pub out_within : (v : Ring) (free : List NodeNo) (place : ℕ → Option NodeNo) (first last : Option NodeNo)
    → IsRing v.nodes v.order free place first last → (id : ℕ) (at : NodeNo)
    → Some at ≡ node_of (memory v.nodes) v.order id → (previous next : Option NodeNo)
    → previous ≡ (at_place v at).previous → next ≡ (at_place v at).next → IsWithin v.nodes previous
    × IsWithin v.nodes next
out_within v free place first last r id at found previous next p n =
    let f = memory v.nodes in
    let s = node_split f v.order id at (sym found) in
    let linked = linked_back f None s.front (at ∷ s.back) None (subst (λ l. Linked f None l None) s.whole r.linked) in
    let inside : AreWithin (length v.nodes) (s.front ++ at ∷ s.back) = subst (AreWithin (length v.nodes)) s.whole
    (all_front (λ (q : NodeNo). q.0 < length v.nodes) v.order free r.within) in
    let front = all_front (λ (q : NodeNo). q.0 < length v.nodes) s.front (at ∷ s.back) inside in
    let back = all_back (λ (q : NodeNo). q.0 < length v.nodes) s.front (at ∷ s.back) inside in (
      subst (λ o. IsWithin v.nodes o) (sym (p ∙ linked.0)) (last_within (length v.nodes) None s.front tt front),
      subst (λ o. IsWithin v.nodes o) (sym (n ∙ linked.1)) (first_within (length v.nodes) s.back back.1),
    )

pub out_whole : (v : Ring) (free : List NodeNo) (place : ℕ → Option NodeNo) (first last : Option NodeNo)
    → IsRing v.nodes v.order free place first last → (id : ℕ) (at : NodeNo)
    → Some at ≡ node_of (memory v.nodes) v.order id → (previous next : Option NodeNo)
    → previous ≡ (at_place v at).previous → next ≡ (at_place v at).next → (free' : List NodeNo)
    → free' ≡ free ++ at ∷ [] → (place' : ℕ → Option NodeNo) → ((a : ℕ) → place' a ≡ cond (id == a) None (place a))
    → (nodes' : List Node) → nodes' ≡ with_previous (with_next v.nodes previous next) next previous
    → (first' last' : Option NodeNo) → first' ≡ end_or previous first next → last' ≡ end_or next last previous
    → Out v id nodes' free' place' first' last'
out_whole v free place first last r id at found previous next p n free' freed place' told nodes' written first' last'
    first_is last_is =
    let f = memory v.nodes in
    let s = node_split f v.order id at (sym found) in
    let linked = linked_back f None s.front (at ∷ s.back) None (subst (λ l. Linked f None l None) s.whole r.linked) in
    let previous_is : previous ≡ last_or None s.front = p ∙ linked.0 in
    let next_is : next ≡ first_or None s.back = n ∙ linked.1 in
    let all = out_ring v.nodes v.order free place first last r id at s place' told nodes'
    (written ∙ ap (λ o. with_previous (with_next v.nodes o next) next o) previous_is
    ∙ ap (λ o. with_previous (with_next v.nodes (last_or None s.front) o) o (last_or None s.front)) next_is)
    first' last'
    (first_is ∙ ap (λ o. end_or o first next) previous_is ∙ ap (λ o. end_or (last_or None s.front) first o) next_is)
    (last_is ∙ ap (λ o. end_or next last o) previous_is ∙ ap (λ o. end_or o last (last_or None s.front)) next_is) in
    let order = s.front ++ s.back in
    let here : IsRing nodes' order free' place' first' last' = subst (λ l. IsRing nodes' order l place' first' last')
    (sym freed) all.0 in
    let same : visited nodes' first' ≡ order = along_order nodes' order free' place' first' last' here in
    record {
      ring = subst (λ l. IsRing nodes' l free' place' first' last') (sym same) here;
      listed = ap (λ l. entries_at (memory nodes') l) same ∙ all.1;
      less = omega (
        arith,
        ap (λ l. length l) same,
        length-append s.front (at ∷ s.back),
        ap (λ l. length l) s.whole,
        length-append s.front s.back,
      );
      same = ap (λ l. length l) written ∙ met_length v.nodes previous next next previous;
    }
