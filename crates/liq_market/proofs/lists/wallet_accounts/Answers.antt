use Rattle.std.proofs.Common.{rules, ℕ, Ok, refl, sym, ap, ◌∙◌}
use Rattle.std.specs.Map.{keys_of}
use Rattle.std.proofs.lemmas.Iterator.{YieldsList-from_slice, YieldsList-from_map, items_from_collect}
use Rattle.std.proofs.lemmas.Simd.{map-map}
use Rattle.liq_types.specs.declared.figures.Wallet.{Wallet}
use Rattle.liq_types.specs.ImageRows.{wallet_row}
use Rattle.liq_types.specs.Tables.{Table}
use Rattle.liq_market.proofs.lists.wallet_accounts.Goals as goal

pub returns : goal.returns
returns c =
    items_from_collect {E = Unit {0}} (Ok c.in_ok-collect.field-0) c.in_ok-collect.ensures.ran
    (YieldsList-from_map _ (λ row. (wallet_row row).0) (YieldsList-from_slice c.rows.result.now cc) refl
    (λ x r q k. search rules))
    ∙ sym (map-map (λ (e : ℕ × Wallet). e.0) wallet_row c.rows.result.now)
    ∙ ap (λ (t : Table Wallet). keys_of t) c.rows.ensures
