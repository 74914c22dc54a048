use Rattle.std.proofs.Common.{List, ap, ◌∙◌, map}
use Rattle.std.specs.Map.{keys_of}
use Rattle.liq_types.specs.Tables.{Table}
use Rattle.liq_audit.specs.declared.rows.EngineRow.{EngineRow}
use Rattle.liq_audit.specs.Auditable.{accounts_of, row_of}
use Rattle.liq_text_audit.specs.Engine.{paid_row}
use Rattle.std.proofs.Common.{ℕ}
use Rattle.liq_text_audit.proofs.Gains.{paid_keys, rows_are}
use Rattle.liq_text_audit.proofs.reviewer.audited.Goals as goal

pub audit-requires-clause-accounts : goal.audit-requires-clause-accounts
audit-requires-clause-accounts c =
    ap accounts_of c.deref.ensures.value ∙ c.in_ok-engine.ensures.accounts
    ∙ ap (λ (t : Table ℕ). keys_of t) c.in_ok-paid.ensures ∙ paid_keys c.args.events.now

pub returns-clause-rows : goal.returns-clause-rows
returns-clause-rows c s h =
    let told = c.args.events.now in
    c.in_ok-audit.ensures.rows
    ∙ ap (λ (rows : List EngineRow). map (row_of told) rows) (c.deref.ensures.value ∙ c.in_ok-engine.ensures.rows s h
    ∙ ap (λ (t : Table ℕ). map (paid_row s) t) c.in_ok-paid.ensures ∙ rows_are s told)
