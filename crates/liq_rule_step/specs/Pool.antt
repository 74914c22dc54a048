-- The Stability Pool's depositors: LUSD is provided and withdrawn, and a gain moves into the
-- owner's trove.
use Rattle.std.specs.Prelude.{ℕ, nat_lt, is_none, min, Option, Some, None, List, [], ◌∷◌, if◌then◌else◌}
use Rattle.liq_types.specs.declared.amounts.TheConstants.{MCR}
use Rattle.liq_types.specs.declared.events.PoolEvent.TheVariants.{Own}
use Rattle.liq_types.specs.declared.replies.Refusal.TheVariants.{ShortTokens, NoDeposit, TroveUnder}
use Rattle.liq_types.specs.Payments.{credited, charged}
use Rattle.liq_types.specs.Rules.{Rule, where_below, where_short}
use Rattle.liq_types.specs.State.{State, wallet_of}
use Rattle.liq_types.specs.Tables.{at}
use Rattle.liq_types.specs.Totals.{worth, asked, market_of, or_nothing}
use Rattle.liq_troves.specs.Own.{set_trove}
use Rattle.liq_troves.specs.StakeSums.{entire_of}
use Rattle.liq_order.specs.Order.{last_trove}
use Rattle.liq_stability.specs.Own.{owned, amount_after}
use Rattle.liq_stability.specs.Position.{balance_of, gain_of}
use Rattle.liq_borrow.specs.Borrowing.{gaining_terms, gain_rules}
use Rattle.liq_rule_step.specs.ListChanges.{stands}
use Rattle.liq_rule_step.specs.Row.{Row, not_zero}

abbrev pub no_deposit : State → ℕ → Rule
no_deposit s account = (is_none (at s.deposits account), NoDeposit account)

-- the trove is below the least ratio
abbrev pub trove_under : State → Option ℕ → List Rule
trove_under s None = []
trove_under s (Some account) =
    let own = or_nothing (entire_of s account) in
    where_below (worth own.0 s.price) (asked MCR own.1) (TroveUnder account) ∷ []

abbrev pub provide_row : State → ℕ → ℕ → Row
provide_row s account lusd =
    let gain = gain_of s account in
    let amount = amount_after s account lusd 0 in
    record {
      rules = not_zero lusd ∷ where_short lusd (wallet_of s account).lusd ShortTokens ∷ [];
      effect = credited (charged (owned s account lusd 0) account 0 lusd) account gain 0;
      values = amount ∷ gain ∷ [];
      events = Own account lusd 0 gain amount ∷ [];
      changes = [];
    }

-- no more is paid out than the balance
abbrev pub withdraw_row : State → ℕ → ℕ → Row
withdraw_row s account lusd =
    let gain = gain_of s account in
    let out = min lusd (balance_of s account) in
    record {
      rules = no_deposit s account ∷ (if nat_lt 0 lusd then trove_under s (last_trove s) else []);
      effect = credited (owned s account 0 out) account gain out;
      values = out ∷ gain ∷ [];
      events = Own account 0 out gain (amount_after s account 0 out) ∷ [];
      changes = [];
    }

abbrev pub gain_to_trove_row : State → ℕ → Row
gain_to_trove_row s account =
    let m = market_of s in
    let entire = entire_of s account in
    let gain = gain_of s account in
    let plan = gaining_terms m (or_nothing entire) gain in
    let next = set_trove (owned s account 0 0) account plan.coll plan.debt in
    record {
      rules = no_deposit s account ∷ gain_rules m entire account gain;
      effect = next;
      values = gain ∷ plan.coll ∷ [];
      events = Own account 0 0 gain (amount_after s account 0 0) ∷ [];
      changes = stands next account ∷ [];
    }
