use Rattle.std.proofs.Common.{◌≡◌, ◌+◌, ◌*◌, ◌≤◌}
use Rattle.liq_order.specs.Examples.{rising}
use Rattle.liq_order.proofs.examples.thousand_example.Given as goal

abbrev pub invariant-loop-account : goal.invariant-loop-account
invariant-loop-account g l = record {
  list : l.order.entries ≡ rising l.account;
  room : 1000 ≤ l.order.room + l.account;
  steps : l.steps ≤ l.initial.steps + 4 * l.account;
}
