use Rattle.std.proofs.Common.{◌≡◌, ap, ◌∙◌}
use Rattle.std.proofs.lemmas.Result.{IfOk-weaker}
use Rattle.liq_types.specs.Tables.{rows}
use Rattle.liq_tables.specs.Rows.{is_used_amount}
use Rattle.liq_core.proofs.Beginning.{surplus_again}
use Rattle.liq_core.proofs.image.surplus_of.Goals as goal

pub returns : goal.returns
returns c =
    IfOk-weaker c.from_rows.result (λ made. made.rows ≡ rows is_used_amount c.in_ok-rows.rows.items) (λ made. made.rows
    ≡ c.args.image.now.surplus_rows)
    (λ made e. e ∙ ap (rows is_used_amount) c.in_ok-rows.ensures ∙ surplus_again c.args.image.now c.requires)
    c.from_rows.ensures
