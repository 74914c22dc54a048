use Rattle.std.proofs.Common.{◌≡◌, ap, ◌∙◌}
use Rattle.std.proofs.lemmas.Result.{IfOk-weaker}
use Rattle.liq_types.specs.State.{is_used_client}
use Rattle.liq_types.specs.Tables.{rows}
use Rattle.liq_core.proofs.Beginning.{clients_used}
use Rattle.liq_core.proofs.image.clients_of.Goals as goal

pub returns : goal.returns
returns c =
    IfOk-weaker c.from_entries.result (λ made. made.rows ≡ rows is_used_client c.deref.result.now) (λ made. made.rows
    ≡ c.args.image.now.clients)
    (λ made e. e ∙ ap (rows is_used_client) (c.deref.ensures.value ∙ c.in_ok-rows.ensures)
    ∙ clients_used c.args.image.now c.requires) c.from_entries.ensures
