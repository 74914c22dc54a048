-- What holds of the market of every sound state.
use Rattle.std.specs.Prelude.{◌≤◌}
use Rattle.liq_types.specs.declared.amounts.TheConstants.{ONE, PRICE_MOST}
use Rattle.liq_types.specs.declared.figures.Market.{Market}

pub record IsMarket (m : Market) : Type 0 where
  pub price : m.price ≤ PRICE_MOST
  pub base : m.base ≤ ONE
  pub past_fee : m.fee_minute ≤ m.minute
