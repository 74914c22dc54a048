use Rattle.std.proofs.Common.{rules, tests, ◌∙◌, ap}
use Rattle.std.proofs.lemmas.Iterator.{YieldsList-from_slice}
use Rattle.std.proofs.lemmas.Iterator.Search.{all_from_yields_List}
use Rattle.std.specs.Prelude.{nat_lt}
use Rattle.liq_types.specs.declared.amounts.TheConstants.{ACCOUNTS}
use Rattle.liq_types.specs.declared.image.WalletRow.{WalletRow}
use Rattle.liq_types.specs.ImageRows.{wallet_row}
use Rattle.liq_types.specs.Soundness.{has_keys_in_range}
use Rattle.liq_image_rows.proofs.Rows.{all-part}
use Rattle.liq_image_rows.proofs.accounts.are_wallets_in_range.Goals as goal

pub returns : goal.returns
returns c =
    all_from_yields_List (λ (row : WalletRow). nat_lt row.account ACCOUNTS) _ _ _ c.all.ensures.ran
    (YieldsList-from_slice c.rows.result.now cc) (λ x b q k. search (rules, tests))
    ∙ all-part wallet_row (λ e. e.0) (λ k. nat_lt k ACCOUNTS) c.rows.result.now
    ∙ ap (λ t. has_keys_in_range t) c.rows.ensures
