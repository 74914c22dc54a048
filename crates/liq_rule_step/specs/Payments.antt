-- Price and time, and payments: collateral that comes in and goes out, and LUSD that is sent.
use Rattle.std.specs.Prelude.{ℕ, ◌+◌, ◌-◌, ◌||◌, nat_lt, [], ◌∷◌}
use Rattle.liq_types.specs.declared.amounts.TheConstants.{PRICE_LEAST, PRICE_MOST, MINUTE_MOST}
use Rattle.liq_types.specs.declared.replies.Refusal.TheVariants.{PriceRange, AmountLimit, ShortCollateral, ShortTokens}
use Rattle.liq_types.specs.Payments.{credited, charged}
use Rattle.liq_types.specs.Rules.{where_short, where_above}
use Rattle.liq_types.specs.State.{State, wallet_of}
use Rattle.liq_types.specs.Totals.{limit_of, market_of}
use Rattle.liq_rule_step.specs.Row.{Row, not_zero}

abbrev pub price_row : State → ℕ → Row
price_row s price =
    record {
      rules = (nat_lt price PRICE_LEAST || nat_lt PRICE_MOST price, PriceRange price) ∷ [];
      effect = record s { price = price };
      values = [];
      events = [];
      changes = [];
    }

abbrev pub advance_row : State → ℕ → Row
advance_row s minutes =
    let minute = s.minute + minutes in
    record {
      rules = not_zero minutes ∷ where_above minute MINUTE_MOST AmountLimit ∷ [];
      effect = record s { minute = minute };
      values = minute ∷ [];
      events = [];
      changes = [];
    }

abbrev pub fund_row : State → ℕ → ℕ → Row
fund_row s account coll =
    let brought = s.brought + coll in
    record {
      rules = not_zero coll ∷ where_above brought (limit_of (market_of s)) AmountLimit ∷ [];
      effect = record (credited s account coll 0) { brought = brought };
      values = [];
      events = [];
      changes = [];
    }

abbrev pub take_row : State → ℕ → ℕ → Row
take_row s account coll =
    record {
      rules = not_zero coll ∷ where_short coll (wallet_of s account).coll ShortCollateral ∷ [];
      effect = record (charged s account coll 0) { brought = s.brought - coll };
      values = [];
      events = [];
      changes = [];
    }

abbrev pub send_row : State → ℕ → ℕ → ℕ → Row
send_row s from to lusd =
    record {
      rules = not_zero lusd ∷ where_short lusd (wallet_of s from).lusd ShortTokens ∷ [];
      effect = credited (charged s from 0 lusd) to 0 lusd;
      values = [];
      events = [];
      changes = [];
    }
