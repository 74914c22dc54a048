-- The lists of accounts that a market tells.
use Rattle.std.specs.Prelude.{ℕ, List}
use Rattle.std.specs.Map.{keys_of}
use Rattle.liq_types.specs.Ranked.{from_last}
use Rattle.liq_market.specs.declared.lists.AccountList.{AccountList}
use Rattle.liq_market.specs.declared.lists.AccountList.TheVariants.{Troves, Deposits}
use Rattle.liq_market.specs.declared.lists.AccountList.TheVariants.{Wallets, Touched}
use Rattle.liq_market.specs.Content.{Content}

abbrev pub accounts_in : AccountList → Content → List ℕ
accounts_in Troves market = from_last market.core.list
accounts_in Deposits market = keys_of market.core.image.deposits
accounts_in Wallets market = keys_of market.core.image.wallets
accounts_in Touched market = market.touched
