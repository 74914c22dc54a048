use Rattle.std.proofs.Common.{◌≡◌, ap, sym, ◌∙◌, subst}
use Rattle.std.proofs.lemmas.Result.{IfOk-weaker}
use Rattle.liq_types.specs.declared.figures.Client.{Client}
use Rattle.liq_types.specs.State.{is_used_client}
use Rattle.liq_types.specs.Tables.{Table, put, rows}
use Rattle.liq_types.specs.WellFormed.{Ascends}
use Rattle.liq_tables.specs.WithRoom.{written}
use Rattle.liq_core.specs.Core.{Core}
use Rattle.liq_core.specs.Sound.{core_of}
use Rattle.liq_core.proofs.Beginning.{clients_used}
use Rattle.liq_core.proofs.Noting.{kept_rows}
use Rattle.liq_core.proofs.engine.Protocol.clients_after.Goals as goal

pub from_entries-requires : goal.from_entries-requires
from_entries-requires c = subst (λ (t : Table Client). Ascends t) (sym (c.deref.ensures.value ∙ c.in_ok-rows.ensures))
    c.self.invariant.image.tables.clients

pub returns : goal.returns
returns c =
    let p = c.self.inside in
    let client = c.args.client in
    let row = c.args.row in
    let again = ap (rows is_used_client) (c.deref.ensures.value ∙ c.in_ok-rows.ensures)
    ∙ clients_used (core_of p).image c.self.invariant.image.tables in
    let before = c.reserve.ensures.rows ∙ c.in_ok-clients.ensures ∙ again in
    let made =
    c.write.ensures.rows
    ∙ ap (λ (t : Table Client). written is_used_client t client row) before
    ∙ kept_rows p.clients.rows client row c.requires
    ∙ ap (λ (core : Core). put core.image.clients client row) c.self.view_is
    in
    IfOk-weaker c.client_rows.result (λ found. found ≡ c.write.new.self.rows) (λ found. found
    ≡ put c.args.self.now.image.clients client row) (λ found e. e ∙ made) c.client_rows.ensures
