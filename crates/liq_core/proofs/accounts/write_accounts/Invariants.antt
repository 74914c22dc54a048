use Rattle.std.proofs.Common.{◌≡◌, ◌≤◌, drop, length}
use Rattle.std.proofs.Math.Seq.{paste}
use Rattle.liq_types.specs.Ranked.{first_of, from_last}
use Rattle.liq_core.proofs.accounts.write_accounts.Given as goal

abbrev pub invariant-loop-at : goal.invariant-loop-at
invariant-loop-at l = record {
  next : l.next ≡ first_of (drop l.at (drop l.passed (from_last l.order.entries)));
  written : l.places ≡ paste l.fn.places 0 (drop l.passed (from_last l.order.entries)) l.at;
  few : l.at ≤ length (drop l.passed (from_last l.order.entries));
}
