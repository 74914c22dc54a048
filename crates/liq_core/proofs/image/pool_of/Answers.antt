use Rattle.std.proofs.Common.{◌≡◌, map, ap, sym, subst, ◌∙◌}
use Rattle.std.proofs.lemmas.Result.{IfOk-weaker}
use Rattle.liq_types.specs.declared.figures.Deposit.{Deposit}
use Rattle.liq_types.specs.ImageRows.{finished_row}
use Rattle.liq_types.specs.Tables.{Table, rows}
use Rattle.liq_tables.specs.Rows.{is_used_deposit}
use Rattle.liq_stability.specs.Kept.{IsSoundPool}
use Rattle.liq_core.specs.Parts.{words_by}
use Rattle.liq_core.proofs.Beginning.{deposits_again}
use Rattle.liq_core.proofs.image.pool_of.Goals as goal

pub from_parts-requires : goal.from_parts-requires
from_parts-requires c =
    let i = c.args.image.now in
    subst (λ (t : Table Deposit). IsSoundPool (words_by i) (map finished_row c.in_ok-finished.finished.items) t)
    (sym c.in_ok-deposits.ensures)
    (subst (λ f. IsSoundPool (words_by i) f i.deposits) (sym c.in_ok-finished.ensures) c.requires.pool)

pub returns-clause-deposits : goal.returns-clause-deposits
returns-clause-deposits c =
    IfOk-weaker c.from_parts.result (λ pool. pool.deposits.rows ≡ rows is_used_deposit c.in_ok-deposits.deposits.items)
    (λ pool. pool.deposits.rows ≡ c.args.image.now.deposits)
    (λ pool e. e ∙ ap (rows is_used_deposit) c.in_ok-deposits.ensures
    ∙ deposits_again c.args.image.now c.requires.tables) c.from_parts.ensures.deposits
