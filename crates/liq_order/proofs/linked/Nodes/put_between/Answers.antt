use Rattle.std.proofs.Common.{◌≡◌, ◌<◌, length, None, ap, sym, ◌∙◌, subst, arith}
use Rattle.std.proofs.lemmas.Int.{to_z-of_z}
use Rattle.liq_types.specs.Ranked.{Ranked, key_in, with_ranked}
use Rattle.liq_order.specs.declared.places.NodeNo.{NodeNo}
use Rattle.liq_order.specs.Accounts.{place_of}
use Rattle.liq_order.specs.Nodes.{Ring, visited, memory, entries, IsGap}
use Rattle.liq_order.proofs.Chains.{all_back}
use Rattle.liq_order.proofs.Changed.{node_absent}
use Rattle.liq_order.proofs.Found.{absent_from_key}
use Rattle.liq_order.proofs.Kept.{Put, gap_within, node_for, put_whole, ring_of, settled}
use Rattle.liq_order.proofs.linked.Nodes.put_between.Given as given
use Rattle.liq_order.proofs.linked.Nodes.put_between.Goals as goal

pub link-at-requires-clause-within : goal.link-at-requires-clause-within
link-at-requires-clause-within g c =
    let cells = c.self.inside.cells in
    let nodes = cells.nodes.items in
    all_back (λ (q : NodeNo). q.0 < length nodes) (visited nodes cells.first) cells.free.items c.self.invariant.0.within

pub link-at-requires-clause-before : goal.link-at-requires-clause-before
link-at-requires-clause-before g c =
    let cells = c.self.inside.cells in
    let ring = ring_of c.self.inside in
    let e : Ranked = (c.args.key, c.args.id) in
    let gap = subst (λ (r : Ring). IsGap r e c.args.gap) (sym c.self.view_is) c.requires.gap in
    (gap_within ring cells.free.items _ cells.first cells.last c.self.invariant.0 e c.args.gap gap.0).0

pub link-at-requires-clause-behind : goal.link-at-requires-clause-behind
link-at-requires-clause-behind g c =
    let cells = c.self.inside.cells in
    let ring = ring_of c.self.inside in
    let e : Ranked = (c.args.key, c.args.id) in
    let gap = subst (λ (r : Ring). IsGap r e c.args.gap) (sym c.self.view_is) c.requires.gap in
    (gap_within ring cells.free.items _ cells.first cells.last c.self.invariant.0 e c.args.gap gap.0).1

pub put-requires-clause-node : goal.put-requires-clause-node
put-requires-clause-node g c =
    let i = c.self.inside in
    let free = i.cells.free.items in
    let node = node_for c.args.key c.args.id c.args.gap in
    let linked = simp (to_z-of_z, c.ranges.key) at c.link-at.ensures.linked in
    let t = settled (ring_of i) free (place_of i.accounts) i.cells.first i.cells.last c.self.invariant.0 node
    c.link-at.result linked.settled c.link-at.new.self.free.items linked.settles in
    let room = ap (λ (r : Ring). r.room) c.self.view_is in
    let roomy = c.self.invariant.1 in
    omega (arith, t.in_range, t.grown i.most (omega (arith, room, c.requires.room)) roomy.used, roomy.few)

pub put-requires-clause-absent : goal.put-requires-clause-absent
put-requires-clause-absent g c =
    let cells = c.self.inside.cells in
    let nodes = cells.nodes.items in
    let none = subst (λ (r : Ring). key_in (entries r) c.args.id ≡ None) (sym c.self.view_is) c.requires.absent in
    let away = absent_from_key _ c.args.id none in
    c.self.invariant.0.told c.args.id ∙ node_absent (memory nodes) (visited nodes cells.first) c.args.id away

whole : (g : given.Over) (c : goal.After-put g) → let new = c.link-at.new.self in
    Put (ring_of c.self.inside) c.args.key c.args.id new.nodes.items new.free.items (place_of c.put.new.self)
    new.first new.last
whole g c =
    let i = c.self.inside in
    let new = c.link-at.new.self in
    let e : Ranked = (c.args.key, c.args.id) in
    let gap = subst (λ (r : Ring). IsGap r e c.args.gap) (sym c.self.view_is) c.requires.gap in
    let none = subst (λ (r : Ring). key_in (entries r) c.args.id ≡ None) (sym c.self.view_is) c.requires.absent in
    let linked = simp (to_z-of_z, c.ranges.key) at c.link-at.ensures.linked in
    put_whole (ring_of i) i.cells.free.items (place_of i.accounts) i.cells.first i.cells.last c.self.invariant.0
    c.args.key c.args.id c.args.gap gap none
    c.link-at.result linked.settled new.free.items linked.settles
    (place_of c.put.new.self) c.put.ensures.places
    new.nodes.items linked.joins new.first new.last linked.first_is linked.last_is

pub invariant_of-self : goal.invariant_of-self
invariant_of-self g c =
    let w = whole g c in
    let room = ap (λ (r : Ring). r.room) c.self.view_is in
    let roomy = c.self.invariant.1 in (
      w.ring,
      record {
        used = w.grown c.self.inside.most (omega (arith, room, c.requires.room)) roomy.used;
        for_nodes = omega (arith, roomy.for_nodes, c.link-at.ensures.nodes_room);
        for_free = omega (arith, roomy.for_free, c.link-at.ensures.free_room);
        for_rows = omega (arith, roomy.for_rows, c.put.ensures.room, w.more);
        few = roomy.few;
      },
    )

pub returns-clause-list : goal.returns-clause-list
returns-clause-list g c =
    (whole g c).listed ∙ ap (λ (r : Ring). with_ranked (entries r) (c.args.key, c.args.id)) c.self.view_is

pub returns-clause-room : goal.returns-clause-room
returns-clause-room g c =
    let w = whole g c in
    let room = ap (λ (r : Ring). r.room) c.self.view_is in
    omega (arith, room, c.requires.room, w.more)
