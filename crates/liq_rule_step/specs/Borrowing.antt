-- Borrowing: a trove is opened, adjusted and closed by its owner.
use Rattle.std.specs.Prelude.{ℕ, ◌+◌, ◌-◌, is_some, [], ◌∷◌}
use Rattle.liq_types.specs.declared.amounts.TheConstants.{RESERVE}
use Rattle.liq_types.specs.declared.events.ListChange.TheVariants.{Gone}
use Rattle.liq_types.specs.Payments.{credited, charged}
use Rattle.liq_types.specs.State.{State, wallet_of}
use Rattle.liq_types.specs.Tables.{at}
use Rattle.liq_types.specs.Totals.{market_of, or_nothing}
use Rattle.liq_troves.specs.Own.{lifted, placed, set_trove}
use Rattle.liq_troves.specs.StakeSums.{entire_of}
use Rattle.liq_borrow.specs.declared.change.Change.{Change}
use Rattle.liq_borrow.specs.declared.change.Plan.{Plan}
use Rattle.liq_borrow.specs.Borrowing.{opening_terms, adjusting_terms, closing_terms, open_rules, adjust_rules, close_rules}
use Rattle.liq_rule_step.specs.ListChanges.{stands}
use Rattle.liq_rule_step.specs.Row.{Row}

-- the fee goes to the fee pool, and the base rate is the planned one
abbrev pub with_fee : State → Plan → State
with_fee s plan =
    record s {
      base = plan.rate.base;
      fee_minute = plan.rate.minute;
      fee_lusd = s.fee_lusd + plan.fee;
    }

-- ---- open

abbrev pub opened : State → ℕ → ℕ → Plan → State
opened s account borrow plan =
    let lent = credited (charged (with_fee s plan) account plan.coll 0) account 0 borrow in
    placed (record lent { reserve = lent.reserve + RESERVE }) account plan.coll plan.debt

abbrev pub open_row : State → ℕ → ℕ → ℕ → ℕ → Row
open_row s account coll borrow bound =
    let m = market_of s in
    let plan = opening_terms m coll borrow in
    let next = opened s account borrow plan in
    record {
      rules = open_rules m (wallet_of s account) (is_some (at s.troves account)) account coll
          borrow bound;
      effect = next;
      values = plan.debt ∷ plan.fee ∷ [];
      events = [];
      changes = stands next account ∷ [];
    }

-- ---- adjust

abbrev pub adjusted : State → ℕ → Change → Plan → State
adjusted s account change plan =
    let moved = credited (charged (with_fee s plan) account change.coll_in change.repay) account
    change.coll_out change.borrow in
    set_trove moved account plan.coll plan.debt

abbrev pub adjust_row : State → ℕ → Change → ℕ → Row
adjust_row s account change bound =
    let m = market_of s in
    let entire = entire_of s account in
    let plan = adjusting_terms m (or_nothing entire) change in
    let next = adjusted s account change plan in
    record {
      rules = adjust_rules m (wallet_of s account) entire account change bound;
      effect = next;
      values = plan.coll ∷ plan.debt ∷ plan.fee ∷ [];
      events = [];
      changes = stands next account ∷ [];
    }

-- ---- close

-- what is owed beside the reserve is repaid, and the reserve is burned
abbrev pub closed : State → ℕ → ℕ → ℕ → State
closed s account repaid coll =
    let settled = credited (charged s account 0 repaid) account coll 0 in
    lifted (record settled { reserve = settled.reserve - RESERVE }) account

abbrev pub close_row : State → ℕ → Row
close_row s account =
    let entire = entire_of s account in
    let terms = closing_terms (or_nothing entire) in
    record {
      rules = close_rules (market_of s) (wallet_of s account) entire account;
      effect = closed s account terms.0 terms.1;
      values = terms.0 ∷ terms.1 ∷ [];
      events = [];
      changes = Gone account ∷ [];
    }
