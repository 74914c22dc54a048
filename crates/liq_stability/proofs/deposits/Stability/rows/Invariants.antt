use Rattle.std.proofs.Common.{◌≡◌, take}
use Rattle.liq_stability.proofs.deposits.Stability.rows.Given as goal

abbrev pub invariant-loop-account : goal.invariant-loop-account
invariant-loop-account l = l.rows ≡ take l.account-index l.account-items
