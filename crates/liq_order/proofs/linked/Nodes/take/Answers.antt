use Rattle.std.proofs.Common.{◌≡◌, ◌<◌, ℕ, length, Option, Some, None, IsSome, refl, ap, sym, ◌∙◌, subst, arith}
use Rattle.liq_types.specs.Ranked.{key_in, without_ranked}
use Rattle.liq_order.specs.declared.linked.Nodes.TheInside.{Inside}
use Rattle.liq_order.specs.declared.places.NodeNo.{NodeNo}
use Rattle.liq_order.specs.Accounts.{place_of}
use Rattle.liq_order.specs.Nodes.{Ring, IsRing, IsWithin, memory, at_place, entries, node_of}
use Rattle.liq_order.proofs.Chains.{all_front, in_within}
use Rattle.liq_order.proofs.Kept.{Out, out_within, out_whole, ring_of}
use Rattle.liq_order.proofs.Seen.{at_there, has_node}
use Rattle.liq_order.proofs.linked.Nodes.take.Given as given
use Rattle.liq_order.proofs.linked.Nodes.take.Goals as goal

-- an account that is in the list has a place
placed : (v : Ring) (id : ℕ) → IsSome (key_in (entries v) id)
    → (o : Option NodeNo) → o ≡ node_of (memory v.nodes) v.order id → IsSome o
placed v id there None is = absurd (has_node v id is there)
placed v id there (Some p) is = refl

abbrev Kept : Inside → Type 0
Kept i =
    let v = ring_of i in
    IsRing v.nodes v.order i.cells.free.items (place_of i.accounts) i.cells.first i.cells.last

-- the place that goes
module _ (i : Inside) (r : Kept i) (id : ℕ) (at : NodeNo) (found : Some at ≡ place_of i.accounts id) where
  known : Some at ≡ node_of (memory i.cells.nodes.items) (ring_of i).order id
  known = found ∙ r.told id

  within : at.0 < length i.cells.nodes.items
  within =
      let n = length i.cells.nodes.items in
      let order = (ring_of i).order in
      let all = all_front (λ (q : NodeNo). q.0 < n) order i.cells.free.items r.within in
      in_within n at order all (at_there (ring_of i) id (Some at) known).0

  beside : let node = at_place (ring_of i) at in
      IsWithin i.cells.nodes.items node.previous × IsWithin i.cells.nodes.items node.next
  beside =
      let node = at_place (ring_of i) at in
      let cells = i.cells in
      out_within (ring_of i) cells.free.items (place_of i.accounts) cells.first cells.last r id at known
      node.previous node.next refl refl

pub take-at-requires : goal.take-at-requires
take-at-requires g c =
    let i = c.self.inside in
    let there = subst (λ (r : Ring). IsSome (key_in (entries r) c.args.id)) (sym c.self.view_is) c.requires.there in
    placed (ring_of i) c.args.id there (place_of i.accounts c.args.id) (c.self.invariant.0.told c.args.id)

pub unlink-requires-clause-there : goal.unlink-requires-clause-there
unlink-requires-clause-there g c =
    within c.self.inside c.self.invariant.0 c.args.id c.take-at.result c.take-at.ensures.place

pub unlink-requires-clause-before : goal.unlink-requires-clause-before
unlink-requires-clause-before g c =
    (beside c.self.inside c.self.invariant.0 c.args.id c.take-at.result c.take-at.ensures.place).0

pub unlink-requires-clause-behind : goal.unlink-requires-clause-behind
unlink-requires-clause-behind g c =
    (beside c.self.inside c.self.invariant.0 c.args.id c.take-at.result c.take-at.ensures.place).1

whole : (g : given.Over) (c : goal.After-unlink g) → let new = c.unlink.new.self in
    Out (ring_of c.self.inside) c.args.id new.nodes.items new.free.items (place_of c.take-at.new.self) new.first
    new.last
whole g c =
    let i = c.self.inside in
    let r = c.self.invariant.0 in
    let at = c.take-at.result in
    let node = at_place (ring_of i) at in
    let new = c.unlink.new.self in
    let un = c.unlink.ensures.unlinked in
    out_whole (ring_of i) i.cells.free.items (place_of i.accounts) i.cells.first i.cells.last r
    c.args.id at (known i r c.args.id at c.take-at.ensures.place) node.previous node.next refl refl
    new.free.items un.frees (place_of c.take-at.new.self) c.take-at.ensures.places
    new.nodes.items un.joins new.first new.last un.first_is un.last_is

pub invariant_of-self : goal.invariant_of-self
invariant_of-self g c =
    let w = whole g c in
    let roomy = c.self.invariant.1 in (
      w.ring,
      record {
        used = omega (arith, roomy.used, w.same);
        for_nodes = omega (arith, roomy.for_nodes, c.unlink.ensures.nodes_room);
        for_free = omega (arith, roomy.for_free, c.unlink.ensures.free_room);
        for_rows = omega (arith, roomy.for_rows, c.take-at.ensures.room, w.less);
        few = roomy.few;
      },
    )

pub returns-clause-list : goal.returns-clause-list
returns-clause-list g c = (whole g c).listed ∙ ap (λ (r : Ring). without_ranked (entries r) c.args.id) c.self.view_is

pub returns-clause-room : goal.returns-clause-room
returns-clause-room g c =
    let w = whole g c in
    let room = ap (λ (r : Ring). r.room) c.self.view_is in
    let shared = c.self.invariant.0.shared in
    let used = c.self.invariant.1.used in
    omega (arith, room, shared, used, w.less)
