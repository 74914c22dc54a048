use Rattle.std.proofs.Common.{◌≡◌, ◌-◌, sym, ap, ◌∙◌, arith, length}
use Rattle.liq_types.specs.Tables.{Table, without}
use Rattle.liq_types.specs.declared.figures.Trove.{Trove}
use Rattle.liq_troves.specs.Rows.{stakes_in, beside}
use Rattle.liq_troves.proofs.Kept.{stakes_taken, without_kept}
use Rattle.liq_troves.proofs.table.Troves.remove.Goals as goal
use Rattle.liq_types.proofs.Lookups.{length-without}

pub overflow_sub-self-2 : goal.overflow_sub-self-2
overflow_sub-self-2 c =
    let there = sym c.take.ensures.row ∙ c.in-Some.is in
    omega (
      arith,
      stakes_taken c.self.inside.table.rows c.self.inside.sums c.self.inside.count c.args.account
          c.in-Some.trove c.self.invariant there,
    )

pub returns-clause-sums : goal.returns-clause-sums
returns-clause-sums c =
    let there = sym c.take.ensures.row ∙ c.in-Some.is in
    let left = stakes_taken c.self.inside.table.rows c.self.inside.sums c.self.inside.count c.args.account
    c.in-Some.trove c.self.invariant there in
    let stakes : c.self.inside.sums.stakes - c.in-Some.trove.stake
    ≡ stakes_in (without c.self.inside.table.rows c.args.account) = omega (arith, left) in
    ap (λ n. record c.self.inside.sums { stakes = n }) stakes
    ∙ ap (λ (t : Table Trove). beside c.self.inside.sums t) (sym c.take.ensures.rows)
    ∙ ap (λ v. beside v.sums c.take.new.self.rows) c.self.view_is

pub invariant_of-self : goal.invariant_of-self
invariant_of-self c =
    let there = sym c.take.ensures.row ∙ c.in-Some.is in
    let left = stakes_taken c.self.inside.table.rows c.self.inside.sums c.self.inside.count c.args.account
    c.in-Some.trove c.self.invariant there in
    let fewer = length-without c.self.inside.table.rows c.args.account c.in-Some.trove there in
    let stakes : c.self.inside.sums.stakes - c.in-Some.trove.stake
    ≡ stakes_in (without c.self.inside.table.rows c.args.account) = omega (arith, left) in
    let count : c.self.inside.count - 1 ≡ length (without c.self.inside.table.rows c.args.account) =
    omega (arith, fewer, c.self.invariant.counted) in
    rw (c.take.ensures.rows, count, stakes) (without_kept c.self.inside.table.rows c.self.inside.sums
    c.self.inside.count c.args.account c.self.invariant)
