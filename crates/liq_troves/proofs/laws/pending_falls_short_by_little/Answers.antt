use Rattle.std.proofs.Common.{sym, subst, drop}
use Rattle.liq_types.specs.State.{Redistribution, Mark, StakeSums}
use Rattle.liq_troves.specs.Rows.{pending}
use Rattle.liq_troves.specs.StakeSums.{exact_part, somethings, IsShortOf, sums_now, sums_at}
use Rattle.liq_troves.proofs.Parts.{pending_near_part}
use Rattle.liq_troves.proofs.laws.pending_falls_short_by_little.Goals as goal

pub returns-clause-coll : goal.returns-clause-coll
returns-clause-coll c s t n e h =
    let amount = λ (r : Redistribution). r.coll in
    subst (λ (m : Mark StakeSums). IsShortOf (pending t.stake (sums_now s).coll (sums_at s m).coll) t.stake
    (somethings amount (drop n s.redistributions)) (exact_part amount t.stake (drop n s.redistributions))) (sym e)
    (pending_near_part amount t.stake s.start.sum_coll n s.redistributions h)

pub returns-clause-debt : goal.returns-clause-debt
returns-clause-debt c s t n e h =
    let amount = λ (r : Redistribution). r.debt in
    subst (λ (m : Mark StakeSums). IsShortOf (pending t.stake (sums_now s).debt (sums_at s m).debt) t.stake
    (somethings amount (drop n s.redistributions)) (exact_part amount t.stake (drop n s.redistributions))) (sym e)
    (pending_near_part amount t.stake s.start.sum_debt n s.redistributions h)
