use Rattle.std.proofs.Common.{Some, is_lt, ap, sym, ◌∙◌}
use Rattle.liq_types.specs.Ranked.{rank_order}
use Rattle.liq_order.specs.declared.places.Node.{Node}
use Rattle.liq_order.specs.Nodes.{at_place, entry_of}
use Rattle.liq_order.proofs.Seen.{is_less}
use Rattle.liq_order.proofs.linked.Nodes.past.Goals as goal

pub returns-then-is_before-clause-past : goal.returns-then-is_before-clause-past
returns-then-is_before-clause-past g c =
    let here = at_place c.args.self.now c.args.at in (
      ap (λ (n : Node). record { previous = Some c.args.at; next = n.next }) c.read-node.ensures.node,
      is_less (entry_of here) c.args.entry (sym (c.if-is_before.ensures
          ∙ ap (λ (n : Node). is_lt (rank_order (entry_of n) c.args.entry)) c.read-node.ensures.node)),
    )

pub returns-else-is_before-clause-not : goal.returns-else-is_before-clause-not
returns-else-is_before-clause-not g c =
    sym (c.if-is_before.ensures ∙ ap (λ (n : Node). is_lt (rank_order (entry_of n) c.args.entry))
    c.read-node.ensures.node)
