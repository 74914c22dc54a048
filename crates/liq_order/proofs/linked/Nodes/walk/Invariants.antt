use Rattle.std.proofs.Common.{◌≡◌, ◌+◌, ◌-◌, length}
use Rattle.liq_order.specs.Nodes.{IsBehind}
use Rattle.liq_order.proofs.linked.Nodes.walk.Given as goal

-- each entry that was passed took one step
abbrev pub invariant-loop-further : goal.invariant-loop-further
invariant-loop-further g l = (b : IsBehind l.self l.entry l.gap) × (l.steps ≡ l.initial.steps + length b.front)

abbrev pub decreases-loop-further : goal.decreases-loop-further
decreases-loop-further g l = l.initial.steps + length l.self.order - l.steps
