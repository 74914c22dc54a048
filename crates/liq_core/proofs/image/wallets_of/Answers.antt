use Rattle.std.proofs.Common.{◌≡◌, ap, ◌∙◌}
use Rattle.std.proofs.lemmas.Result.{IfOk-weaker}
use Rattle.liq_types.specs.State.{is_used_wallet}
use Rattle.liq_types.specs.Tables.{rows}
use Rattle.liq_core.proofs.Beginning.{wallets_again}
use Rattle.liq_core.proofs.image.wallets_of.Goals as goal

pub returns : goal.returns
returns c =
    IfOk-weaker c.from_rows.result (λ made. made.rows ≡ rows is_used_wallet c.in_ok-rows.rows.items) (λ made. made.rows
    ≡ c.args.image.now.wallets)
    (λ made e. e ∙ ap (rows is_used_wallet) c.in_ok-rows.ensures ∙ wallets_again c.args.image.now c.requires)
    c.from_rows.ensures
