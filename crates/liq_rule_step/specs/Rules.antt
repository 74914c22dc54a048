-- The rules: the row of each verb, and what is read off it.
use Rattle.std.specs.Prelude.{ℕ, List, ◌++◌, take, replicate}
use Rattle.liq_types.specs.declared.events.ListChange.{ListChange}
use Rattle.liq_types.specs.declared.events.PoolEvent.{PoolEvent}
use Rattle.liq_types.specs.declared.replies.Done.{Done}
use Rattle.liq_types.specs.declared.requests.Call.{Call}
use Rattle.liq_types.specs.declared.requests.Call.TheVariants.{Price, Advance, Fund, Take, Send, Open, Adjust, Close, Provide, Withdraw, GainToTrove, Liquidate, LiquidateLowest, Redeem, Claim, Rotate}
use Rattle.liq_types.specs.Rules.{Rule}
use Rattle.liq_types.specs.State.{State}
use Rattle.liq_rule_step.specs.Borrowing.{open_row, adjust_row, close_row}
use Rattle.liq_rule_step.specs.Liquidation.{liquidate_row, liquidate_lowest_row, claim_row}
use Rattle.liq_rule_step.specs.Payments.{price_row, advance_row, fund_row, take_row, send_row}
use Rattle.liq_rule_step.specs.Pool.{provide_row, withdraw_row, gain_to_trove_row}
use Rattle.liq_rule_step.specs.Redemption.{redeem_row}
use Rattle.liq_rule_step.specs.Rotation.{rotate_row}
use Rattle.liq_rule_step.specs.Row.{Row}
use Rattle.liq_rule_step.specs.Verbs.{kind}

-- a hint is no part of what a verb means
abbrev pub row : State → Call → Row
row s (Price price) = price_row s price
row s (Advance minutes) = advance_row s minutes
row s (Fund account coll) = fund_row s account coll
row s (Take account coll) = take_row s account coll
row s (Send from to lusd) = send_row s from to lusd
row s (Open account coll borrow bound hint) = open_row s account coll borrow bound
row s (Adjust account coll_in coll_out borrow repay bound hint) =
    adjust_row s account (record {
      coll_in = coll_in;
      coll_out = coll_out;
      borrow = borrow;
      repay = repay;
    }) bound
row s (Close account) = close_row s account
row s (Provide account lusd) = provide_row s account lusd
row s (Withdraw account lusd) = withdraw_row s account lusd
row s (GainToTrove account hint) = gain_to_trove_row s account
row s (Liquidate liquidator account) = liquidate_row s liquidator account
row s (LiquidateLowest liquidator count) = liquidate_lowest_row s liquidator count
row s (Redeem account lusd bound hint) = redeem_row s account lusd bound
row s (Claim account) = claim_row s account
row s Rotate = rotate_row s

abbrev pub rules : State → Call → List Rule
rules s call = (row s call).rules

abbrev pub effect : State → Call → State
effect s call = (row s call).effect

abbrev pub values : State → Call → List ℕ
values s call = (row s call).values

abbrev pub call_events : State → Call → List PoolEvent
call_events s call = (row s call).events

abbrev pub call_changes : State → Call → List ListChange
call_changes s call = (row s call).changes

-- ---- the reply

-- six values, those that are not used 0
abbrev pub six : List ℕ → List ℕ
six used = take 6 (used ++ replicate 6 0)

abbrev pub done_of : State → Call → Done
done_of s call = record { kind = kind call; values = six (values s call) }
