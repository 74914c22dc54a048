use Rattle.std.proofs.Common.{◌≡◌, ℕ, ◌+◌, sym, ap, ◌∙◌, subst, arith}
use Rattle.liq_types.specs.declared.figures.Trove.{Trove}
use Rattle.liq_types.specs.Tables.{Table, put}
use Rattle.liq_troves.specs.declared.sums.Sums.{Sums}
use Rattle.liq_troves.specs.Kept.{AreKept}
use Rattle.liq_troves.specs.Rows.{stakes_in, beside, set_in}
use Rattle.liq_troves.proofs.Kept.{IsSetBeside, set_beside, written_row}
use Rattle.liq_troves.proofs.table.Troves.set.Goals as goal
use Rattle.liq_troves.proofs.table.Troves.set.Goals.{After-write}

-- the row that is set, beside the others
set_row_beside : (c : After-write) → IsSetBeside c.args.self.now.table.rows c.args.self.now.sums
    c.args.account c.args.coll c.args.debt c.others-count.result.0 c.others-count.result.1
set_row_beside c =
    set_beside c.args.self.now.table.rows c.args.self.now.sums c.self.inside.count c.args.account c.args.coll
    c.args.debt c.others-count.result.0 c.others-count.result.1
    (subst (λ v. AreKept v.table.rows v.sums c.self.inside.count) c.self.view_is c.self.invariant) c.requires.some
    c.requires.limit c.others-count.ensures.count c.others-count.ensures.stakes

stakes : (c : After-write) → c.others-count.result.1 + c.row_for-row.result.stake
    ≡ stakes_in (set_in c.args.self.now.sums c.args.self.now.table.rows c.args.account c.args.coll c.args.debt)
stakes c =
    let row = ap (λ (t : Trove). t.stake) c.row_for-row.ensures.row in
    let b = set_row_beside c in
    omega (arith, b.stakes_are, row)

pub overflow_add-self : goal.overflow_add-self
overflow_add-self c =
    let b = set_row_beside (goal.at.overflow_add-self c).After-write in
    record { fits = omega (arith, b.count_fits) }

pub overflow_add-self-2 : goal.overflow_add-self-2
overflow_add-self-2 c =
    let b = set_row_beside (goal.at.overflow_add-self-2 c).After-write in
    let row = ap (λ (t : Trove). t.stake) c.row_for-row.ensures.row in
    record { fits = omega (arith, b.stakes_fit, row) }

rows : (c : goal.After-self-2-1) → c.write.new.self.rows ≡ set_in c.args.self.now.sums c.args.self.now.table.rows
    c.args.account c.args.coll c.args.debt
rows c =
    c.write.ensures.rows
    ∙ written_row c.self.inside.table.rows c.args.account c.row_for-row.result c.row_for-row.ensures.stake
    ∙ ap (λ v. put v.table.rows c.args.account c.row_for-row.result) c.self.view_is
    ∙ ap (λ t. put c.args.self.now.table.rows c.args.account t) c.row_for-row.ensures.row

sums : (c : goal.After-self-2-1) → c.others-count.result.1 + c.row_for-row.result.stake
    ≡ stakes_in (set_in c.args.self.now.sums c.args.self.now.table.rows c.args.account c.args.coll c.args.debt)
    → record c.self.inside.sums { stakes = c.others-count.result.1 + c.row_for-row.result.stake }
    ≡ beside c.args.self.now.sums (set_in c.args.self.now.sums c.args.self.now.table.rows c.args.account c.args.coll
    c.args.debt)
sums c stakes_are =
    ap (λ v. record v.sums { stakes = c.others-count.result.1 + c.row_for-row.result.stake }) c.self.view_is
    ∙ ap (λ (n : ℕ). record c.args.self.now.sums { stakes = n }) stakes_are

pub returns-clause-sums : goal.returns-clause-sums
returns-clause-sums c =
    sums c (stakes (goal.at.returns-clause-sums c).After-write)
    ∙ ap (λ (t : Table Trove). beside c.args.self.now.sums t) (sym (rows c))

pub invariant_of-self : goal.invariant_of-self
invariant_of-self c =
    let at = (goal.at.invariant_of-self c).After-write in
    let b = set_row_beside at in
    let set = set_in c.args.self.now.sums c.args.self.now.table.rows c.args.account c.args.coll c.args.debt in
    let before = record c.self.inside.sums { stakes = c.others-count.result.1 + c.row_for-row.result.stake } in
    subst (λ (t : Table Trove). AreKept t before (c.others-count.result.0 + 1)) (sym (rows c))
    (subst (λ (s : Sums). AreKept set s (c.others-count.result.0 + 1)) (sym (sums c (stakes at)))
    (subst (λ (n : ℕ). AreKept set (beside c.args.self.now.sums set) n) (sym b.count_is) b.kept))
