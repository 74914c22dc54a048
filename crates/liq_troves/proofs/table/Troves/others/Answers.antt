use Rattle.std.proofs.Common.{◌≡◌, ◌+◌, Some, sym, ap, arith, length}
use Rattle.liq_types.specs.declared.figures.Trove.{Trove}
use Rattle.liq_types.specs.Tables.{at, without}
use Rattle.liq_troves.specs.Rows.{stakes_in}
use Rattle.liq_troves.proofs.Kept.{sum_none, count_none, stakes_taken}
use Rattle.liq_troves.proofs.table.Troves.others.Goals as goal
use Rattle.liq_types.proofs.Lookups.{length-without}

there : (c : goal.In-Some) → at c.self.inside.table.rows c.args.account ≡ Some c.in-Some.trove.now
there c = sym c.in-Some.ensures.row

stakes : (c : goal.In-Some) → stakes_in (without c.self.inside.table.rows c.args.account) + c.in-Some.trove.now.stake
    ≡ c.self.inside.sums.stakes
stakes c = stakes_taken c.self.inside.table.rows c.self.inside.sums c.self.inside.count c.args.account
    c.in-Some.trove.now c.self.invariant (there c)

pub overflow_sub-result-in-Some : goal.overflow_sub-result-in-Some
overflow_sub-result-in-Some c = omega (arith, stakes c)

pub returns-in-Some-clause-count : goal.returns-in-Some-clause-count
returns-in-Some-clause-count c =
    let law = length-without c.self.inside.table.rows c.args.account c.in-Some.trove.now (there c) in
    let same = ap (λ v. length (without v.table.rows c.args.account)) c.self.view_is in
    omega (arith, law, same, c.self.invariant.counted)

pub returns-in-Some-clause-stakes : goal.returns-in-Some-clause-stakes
returns-in-Some-clause-stakes c =
    let same = ap (λ v. stakes_in (without v.table.rows c.args.account)) c.self.view_is in
    omega (arith, stakes c, same)

pub returns-in-None-clause-count : goal.returns-in-None-clause-count
returns-in-None-clause-count c =
    let law = count_none c.self.inside.table.rows c.args.account (sym c.in-None.ensures.row) in
    let same = ap (λ v. length (without v.table.rows c.args.account)) c.self.view_is in
    omega (arith, law, same, c.self.invariant.counted)

pub returns-in-None-clause-stakes : goal.returns-in-None-clause-stakes
returns-in-None-clause-stakes c =
    let law = sum_none (λ (t : Trove). t.stake) c.self.inside.table.rows c.args.account (sym c.in-None.ensures.row) in
    let same = ap (λ v. stakes_in (without v.table.rows c.args.account)) c.self.view_is in
    omega (arith, law, same, c.self.invariant.stakes)
