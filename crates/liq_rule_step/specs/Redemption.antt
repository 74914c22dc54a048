-- Redemption: LUSD is given back for the collateral of the last troves of the order.
use Rattle.std.specs.Prelude.{ℕ, ◌-◌, [], ◌∷◌, map, if◌then◌else◌}
use Rattle.liq_types.specs.declared.events.ListChange.{ListChange}
use Rattle.liq_types.specs.declared.events.ListChange.TheVariants.{Put, Gone}
use Rattle.liq_types.specs.State.{State, wallet_of}
use Rattle.liq_types.specs.Totals.{market_of, or_nothing}
use Rattle.liq_troves.specs.Rows.{key_by, set_row}
use Rattle.liq_troves.specs.StakeSums.{entire_of, sums_words}
use Rattle.liq_redemption.specs.declared.cut.Cut.{Cut}
use Rattle.liq_redemption.specs.Redemption.{visited, redeeming_terms, redeem_rules, redeemed_by}
use Rattle.liq_rule_step.specs.ListChanges.{stands}
use Rattle.liq_rule_step.specs.Row.{Row}

-- each cut trove is told as it stands after the whole redemption
abbrev pub redeem_row : State → ℕ → ℕ → ℕ → Row
redeem_row s account lusd bound =
    let m = market_of s in
    let visits = visited s in
    let terms = redeeming_terms m visits lusd in
    let next = redeemed_by s account terms in
    record {
      rules = redeem_rules m (wallet_of s account) visits lusd bound;
      effect = next;
      values = terms.redeemed ∷ terms.drawn ∷ terms.fee ∷ terms.rate.base ∷ [];
      events = [];
      changes = map (λ (cut : Cut). stands next cut.account) terms.cuts;
    }

-- what becomes of a trove that is cut, as others follow it
abbrev pub cut_told : State → Cut → ListChange
cut_told s cut =
    let own = or_nothing (entire_of s cut.account) in
    if cut.full
    then Gone cut.account
    else Put (key_by (set_row (sums_words s) (own.0 - cut.draw) (own.1 - cut.lot))) cut.account
