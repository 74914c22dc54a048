use Rattle.std.proofs.Math.Arith.{sub_dec}
use Rattle.std.proofs.Common.{◌≡◌, ◌-◌, ◌<◌, suc, ◌∷◌, ◌++◌, [], List, Option, map, None, length, subst, sym, ap, ◌∙◌, arith, length-append}
use Rattle.liq_types.specs.declared.events.ListChange.{ListChange}
use Rattle.liq_order.specs.declared.places.Node.{Node}
use Rattle.liq_order.specs.declared.places.NodeNo.{NodeNo}
use Rattle.liq_order.specs.Nodes.{Visits, entry_of}
use Rattle.liq_core.specs.Entries.{put_entry}
use Rattle.liq_core.proofs.FromNothing.{Ahead, one_ahead, ahead_done}
use Rattle.liq_core.proofs.listing.told_along.Goals as goal

pub loop-next-init : goal.loop-next-init
loop-next-init g c =
    let ring = c.nodes-nodes.result.now in
    let entries = c.args.order.now.entries in
    let first = c.in-Ok.ensures.items ∙ ap (λ (l : List ListChange). l ++ c.args.words ∷ []) c.new-changes.ensures.items
    in
    record {
      previous = None;
      rest = entries;
      visits = subst (λ (s : Option NodeNo). Visits ring s None entries) (sym c.first-next.ensures)
          c.nodes-nodes.ensures.visits;
      whole = ap (λ (l : List ListChange). l ++ map put_entry entries) first;
    }

pub read-node-requires : goal.read-node-requires
read-node-requires g c = (one_ahead c.nodes-nodes.result.now c.loop-next.next c.in-Some.at c.loop-next.changes.items
    (c.args.words ∷ map put_entry c.args.order.now.entries) c.loop-next.invariant c.in-Some.is).inside

pub loop-next-preserved : goal.loop-next-preserved
loop-next-preserved g c =
    let ring = c.nodes-nodes.result.now in
    let told = c.loop-next.changes.items in
    let all = c.args.words ∷ map put_entry c.args.order.now.entries in
    let one = one_ahead ring c.loop-next.next c.in-Some.at told all c.loop-next.invariant c.in-Some.is in
    let node = c.read-node.result.now in
    let on = subst (λ (n : Node). Ahead ring n.next (told ++ put_entry (entry_of n) ∷ []) all)
    (sym c.read-node.ensures.node) one.on in
    let items = c.in-Ok-push.ensures.items ∙ ap (λ (x : ListChange). told ++ x ∷ []) c.told.ensures in
    subst (λ (l : List ListChange). Ahead ring node.next l all) (sym items) on

pub loop-next-smaller : goal.loop-next-smaller
loop-next-smaller g c =
    let told = c.loop-next.changes.items in
    let all = c.args.words ∷ map put_entry c.args.order.now.entries in
    let one = one_ahead c.nodes-nodes.result.now c.loop-next.next c.in-Some.at told all c.loop-next.invariant
    c.in-Some.is in
    let fits = one.fits in
    let grown = ap (λ (l : List ListChange). length l) c.in-Ok-push.ensures.items in
    let parts = length-append told (c.told.result ∷ []) in
    let longer : length c.push-in-Some.new.self.items ≡ suc (length told) = omega (arith, grown, parts) in
    subst (λ n. length all - n < length all - length told) (sym longer) (sub_dec (length all) (length told)
    (omega (arith, fits)))

pub returns : goal.returns
returns g c =
    ahead_done c.nodes-nodes.result.now c.loop-next.next c.loop-next.changes.items (c.args.words
    ∷ map put_entry c.args.order.now.entries) c.loop-next.invariant c.in_default-next.is
