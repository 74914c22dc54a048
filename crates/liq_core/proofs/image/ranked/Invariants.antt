use Rattle.std.proofs.Common.{◌≡◌, take}
use Rattle.liq_order.specs.Order.{ranks}
use Rattle.liq_core.proofs.image.ranked.Given as goal

abbrev pub invariant-loop-account : goal.invariant-loop-account
invariant-loop-account l = l.pairs.items ≡ ranks (take l.account-index l.troves)
