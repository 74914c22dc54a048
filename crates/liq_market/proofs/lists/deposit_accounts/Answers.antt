use Rattle.std.proofs.Common.{rules, ℕ, Ok, refl, sym, ap, ◌∙◌}
use Rattle.std.specs.Map.{keys_of}
use Rattle.std.proofs.lemmas.Iterator.{YieldsList-from_slice, YieldsList-from_map, items_from_collect}
use Rattle.std.proofs.lemmas.Simd.{map-map}
use Rattle.liq_types.specs.declared.figures.Deposit.{Deposit}
use Rattle.liq_types.specs.ImageRows.{deposit_row}
use Rattle.liq_types.specs.Tables.{Table}
use Rattle.liq_market.proofs.lists.deposit_accounts.Goals as goal

pub returns : goal.returns
returns c =
    items_from_collect {E = Unit {0}} (Ok c.in_ok-collect.field-0) c.in_ok-collect.ensures.ran
    (YieldsList-from_map _ (λ row. (deposit_row row).0) (YieldsList-from_slice c.rows.result.now cc) refl
    (λ x r q k. search rules))
    ∙ sym (map-map (λ (e : ℕ × Deposit). e.0) deposit_row c.rows.result.now)
    ∙ ap (λ (t : Table Deposit). keys_of t) c.rows.ensures
