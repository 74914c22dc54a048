-- Nodes that are linked to one another: what is at each place, and in which order one comes to them
-- from the first.
use Rattle.std.specs.List.{AllByRecursion}
use Rattle.std.specs.Prelude.{◌≡◌, ◌≢◌, ◌⊎◌, ℕ, zero, suc, pos, ◌+◌, ◌<◌, ◌≤◌, ◌^◌, ◌==◌, if◌then◌else◌, List, [], ◌∷◌, ◌++◌, map, length, slice_index_or, slice_set, Option, None, Some, IfSome, option_map}
use Rattle.std.specs.declared.cmp.Ordering.TheVariants.{Less}
use Rattle.liq_types.specs.Ranked.{Ranked, rank_order, IsAscending}
use Rattle.liq_order.specs.Listed.{AreDistinct}
use Rattle.liq_order.specs.declared.places.Gap.{Gap}
use Rattle.liq_order.specs.declared.places.Node.{Node}
use Rattle.liq_order.specs.declared.places.NodeNo.{NodeNo}

-- what is at each place
abbrev pub Memory : Type 0
Memory = NodeNo → Node

abbrev pub nobody : Node
nobody = record { key = pos 0; account = 0; previous = None; next = None }

abbrev pub memory : List Node → Memory
memory nodes = λ p. slice_index_or nodes p.0 nobody

abbrev pub entry_of : Node → Ranked
entry_of n = (n.key, n.account)

abbrev pub entries_at : Memory → List NodeNo → List Ranked
entries_at f places = map (λ p. entry_of (f p)) places

-- ---- places in their order

-- the places that one comes to from a start, so many at most
abbrev pub along : Memory → ℕ → Option NodeNo → List NodeNo
along f zero start = []
along f (suc n) None = []
along f (suc n) (Some p) = p ∷ along f n (f p).next

-- the places that one comes to from the first, in cells of so many nodes
abbrev pub visited : List Node → Option NodeNo → List NodeNo
visited nodes first = along (memory nodes) (length nodes) first

abbrev pub first_or : Option NodeNo → List NodeNo → Option NodeNo
first_or other [] = other
first_or other (p ∷ ps) = Some p

abbrev pub last_or : Option NodeNo → List NodeNo → Option NodeNo
last_or other [] = other
last_or other (p ∷ ps) = last_or (Some p) ps

abbrev pub IsIn : NodeNo → List NodeNo → Type 0
IsIn p [] = ⊥
IsIn p (q ∷ qs) = (q.0 ≡ p.0) ⊎ IsIn p qs

abbrev pub IsOff : ℕ → List NodeNo → Type 0
IsOff n places = AllByRecursion (λ (q : NodeNo). q.0 ≢ n) places

abbrev pub AreApart : List NodeNo → Type 0
AreApart [] = Unit {0}
AreApart (p ∷ ps) = IsOff p.0 ps × AreApart ps

abbrev pub AreWithin : ℕ → List NodeNo → Type 0
AreWithin n places = AllByRecursion (λ (q : NodeNo). q.0 < n) places

-- each node points to the place before it and to the place behind it
abbrev pub Linked : Memory → Option NodeNo → List NodeNo → Option NodeNo → Type 0
Linked f before [] after = Unit {0}
Linked f before (p ∷ ps) after =
    ((f p).previous ≡ before) × ((f p).next ≡ first_or after ps) × Linked f (Some p) ps after

-- the place of the first node of an account
abbrev pub node_of : Memory → List NodeNo → ℕ → Option NodeNo
node_of f [] account = None
node_of f (p ∷ ps) account = if (f p).account == account then Some p else node_of f ps account

-- ---- the nodes of a list

pub record Ring : Type 0 where
  pub nodes : List Node
  pub order : List NodeNo
  pub room : ℕ

abbrev pub at_place : Ring → NodeNo → Node
at_place r p = memory r.nodes p

abbrev pub entries : Ring → List Ranked
entries r = entries_at (memory r.nodes) r.order

-- a place of the list where an entry is, and the place before it
abbrev pub Holds : Ring → NodeNo → Ranked → Option NodeNo → Type 0
Holds r p e previous =
    IsIn p r.order × (entry_of (at_place r p) ≡ e) × ((at_place r p).previous ≡ previous)

-- Going along from a start one comes to just these entries, in their order. Each node's previous
-- place is the one that was visited before it.
abbrev pub Visits : Ring → Option NodeNo → Option NodeNo → List Ranked → Type 0
Visits r start previous [] = start ≡ None
Visits r start previous (e ∷ es) =
    (p : NodeNo) × (start ≡ Some p) × Holds r p e previous
    × Visits r (at_place r p).next (Some p) es

abbrev pub account_of_place : Ring → Option NodeNo → Option ℕ
account_of_place r at = option_map (λ p. (at_place r p).account) at

-- ---- where an entry is put

abbrev pub gap_between : List NodeNo → List NodeNo → Gap
gap_between front back = record { previous = last_or None front; next = first_or None back }

-- the gap behind a place
abbrev pub gap_behind : Ring → NodeNo → Gap
gap_behind r p = record { previous = Some p; next = (at_place r p).next }

-- an entry comes after all that is before a gap
pub record IsBehind (r : Ring) (e : Ranked) (gap : Gap) : Type 0 where
  pub front : List NodeNo
  pub back : List NodeNo
  pub whole : r.order ≡ front ++ back
  pub gap_is : gap ≡ gap_between front back
  pub above : IfSome gap.previous (λ p. rank_order (entry_of (at_place r p)) e ≡ Less)

abbrev pub IsAhead : Ring → Ranked → Gap → Type 0
IsAhead r e gap = IfSome gap.next (λ p. rank_order e (entry_of (at_place r p)) ≡ Less)

-- the gap further on is behind one place more
abbrev pub IsFurther : Ring → Ranked → Gap → Gap → Type 0
IsFurther r e gap further =
    (b : IsBehind r e gap) → (c : IsBehind r e further) × (length c.front ≡ length b.front + 1)

-- Where the entry comes after an account, the gap behind that account is found; and the one before
-- all where there is none.
abbrev pub FindsBehind : Ring → Ranked → Option ℕ → Option Gap → Type 0
FindsBehind r e account found =
    (front back : List NodeNo) → r.order ≡ front ++ back
    → account ≡ account_of_place r (last_or None front)
    → IfSome (last_or None front) (λ p. rank_order (entry_of (at_place r p)) e ≡ Less)
    → found ≡ Some (gap_between front back)

-- an entry belongs into a gap
abbrev pub IsGap : Ring → Ranked → Gap → Type 0
IsGap r e gap = IsBehind r e gap × IsAhead r e gap

-- ---- writes

abbrev pub with_next : List Node → Option NodeNo → Option NodeNo → List Node
with_next nodes None to = nodes
with_next nodes (Some p) to = slice_set nodes p.0 (record (memory nodes p) { next = to })

abbrev pub with_previous : List Node → Option NodeNo → Option NodeNo → List Node
with_previous nodes None to = nodes
with_previous nodes (Some p) to = slice_set nodes p.0 (record (memory nodes p) { previous = to })

-- where there is no place, the end of the list is pointed on
abbrev pub end_or : Option NodeNo → Option NodeNo → Option NodeNo → Option NodeNo
end_or None end to = to
end_or (Some p) end to = end

abbrev pub IsWithin : List Node → Option NodeNo → Type 0
IsWithin nodes at = IfSome at (λ (p : NodeNo). p.0 < length nodes)

-- ---- how the vectors keep the list

abbrev pub Places : Type 0
Places = List NodeNo

-- a place, or none
abbrev pub Spot : Type 0
Spot = Option NodeNo

pub record IsRing (nodes : List Node) (order free : Places) (place : ℕ → Spot) (first last : Spot) :
    Type 0 where
  pub linked : Linked (memory nodes) None order None
  pub first_is : first ≡ first_or None order
  pub last_is : last ≡ last_or None order
  pub apart : AreApart (order ++ free)
  pub within : AreWithin (length nodes) (order ++ free)
  pub shared : length order + length free ≡ length nodes
  pub told : (account : ℕ) → place account ≡ node_of (memory nodes) order account
  pub ascending : IsAscending (entries_at (memory nodes) order)
  pub distinct : AreDistinct (entries_at (memory nodes) order)

-- for how many entries there is room in all
pub record IsRoomy (most nodes nodes_room free_room rows_room listed : ℕ) : Type 0 where
  pub used : nodes ≤ most
  pub for_nodes : most ≤ nodes_room
  pub for_free : most ≤ free_room
  pub for_rows : most ≤ rows_room + listed
  pub few : most < 2 ^ 32

-- a node comes to the last of the free places
abbrev pub IsReused : List Node → List NodeNo → Node → NodeNo → List Node → List NodeNo → Type 0
IsReused nodes free node at nodes' free' =
    (free ≡ free' ++ at ∷ []) × (nodes' ≡ slice_set nodes at.0 node)

-- or behind all nodes, where no place is free
abbrev pub IsAdded : List Node → List NodeNo → Node → NodeNo → List Node → List NodeNo → Type 0
IsAdded nodes free node at nodes' free' =
    (free ≡ []) × (free' ≡ []) × (at.0 ≡ length nodes) × (nodes' ≡ nodes ++ node ∷ [])

abbrev pub IsSettled : List Node → List NodeNo → Node → NodeNo → List Node → List NodeNo → Type 0
IsSettled nodes free node at nodes' free' =
    IsReused nodes free node at nodes' free' ⊎ IsAdded nodes free node at nodes' free'
