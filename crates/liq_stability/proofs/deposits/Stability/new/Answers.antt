use Rattle.std.proofs.Common.{sym, subst, [], List}
use Rattle.liq_types.specs.declared.figures.Deposit.{Deposit}
use Rattle.liq_types.specs.Tables.{Table}
use Rattle.liq_types.specs.declared.image.FinishedSum.{FinishedSum}
use Rattle.liq_stability.specs.Kept.{IsSoundPool, finished_rows}
use Rattle.liq_stability.specs.Words.{opening_pool}
use Rattle.liq_stability.proofs.Keeping.{opening_sound}
use Rattle.liq_stability.proofs.deposits.Stability.new.Goals as goal

pub invariant_of-result : goal.invariant_of-result
invariant_of-result c =
    subst (λ (t : Table Deposit). IsSoundPool opening_pool (finished_rows c.new.result.items) t) (sym c.new-2.ensures)
    (subst (λ (l : List FinishedSum). IsSoundPool opening_pool (finished_rows l) []) (sym c.new.ensures.items)
    opening_sound)
