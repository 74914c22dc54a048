use Rattle.std.proofs.Common.{◌≡◌, ◌+◌, length, Option, None, IfSome, Less, sym, subst}
use Rattle.liq_types.specs.Ranked.{rank_order}
use Rattle.liq_order.specs.declared.places.Gap.{Gap}
use Rattle.liq_order.specs.declared.places.NodeNo.{NodeNo}
use Rattle.liq_order.specs.Nodes.{Ring, memory, at_place, entry_of, Linked, IsBehind, IsAhead}
use Rattle.liq_order.proofs.Seen.{next_in, turn_on, stops, past_on, past_not}
use Rattle.liq_order.proofs.linked.Nodes.step.Goals as goal

pub past-requires : goal.past-requires
past-requires g c = next_in c.args.self.now c.args.entry c.args.gap c.in-Some.at c.requires.behind c.in-Some.is

pub returns-in-Some-clause-on : goal.returns-in-Some-clause-on
returns-in-Some-clause-on g c =
    let ring = c.args.self.now in
    let e = c.args.entry in
    let linked = subst (λ (r : Ring). Linked (memory r.nodes) None r.order None) c.self.view_is
    c.self.invariant.0.linked in
    past_on ring c.in-Some.at e c.past.result
    (λ (further : Gap). (b : IsBehind ring e c.args.gap) → (x : IsBehind ring e further)
    × (length x.front ≡ length b.front + 1))
    c.past.ensures.past (turn_on ring e c.args.gap c.in-Some.at linked c.in-Some.is)

pub returns-in-Some-clause-stop : goal.returns-in-Some-clause-stop
returns-in-Some-clause-stop g c =
    let ring = c.args.self.now in
    let e = c.args.entry in
    let at = c.in-Some.at in
    let here = next_in ring e c.args.gap at c.requires.behind c.in-Some.is in
    past_not c.past.result _ (IsAhead ring e c.args.gap) c.past.ensures.not (λ late.
    subst (λ (o : Option NodeNo). IfSome o (λ p. rank_order e (entry_of (at_place ring p)) ≡ Less)) (sym c.in-Some.is)
    (stops ring e at c.requires.absent here late))
