use Rattle.std.proofs.Common.{◌≡◌, drop}
use Rattle.liq_types.specs.Ranked.{first_of, from_last}
use Rattle.liq_core.proofs.accounts.account_behind.Given as goal

abbrev pub invariant-loop : goal.invariant-loop
invariant-loop l = l.next ≡ first_of (drop l.counter (from_last l.order.entries))
