-- Redemption: the troves that are visited, the cut of each, and what is refused.
use Rattle.std.specs.Prelude.{ℕ, ◌+◌, ◌-◌, ◌==◌, Bool, not, nat_lt, nat_le, min, List, [], ◌∷◌, ◌++◌, filter, filter_map, fold, sum_by, Option, Some, None, Result, option_map, unwrap_or, if◌then◌else◌}
use Rattle.liq_num.specs.Quotient.{floor_of}
use Rattle.liq_num.specs.declared.ratio.TheConstants.{GWEI_PER_ETH}
use Rattle.liq_types.specs.declared.amounts.TheConstants.{MCR, RESERVE, MIN_NET, FLOOR_RATE, BOOTSTRAP}
use Rattle.liq_types.specs.declared.figures.Market.{Market}
use Rattle.liq_types.specs.declared.figures.Trove.{Trove}
use Rattle.liq_types.specs.declared.figures.Wallet.{Wallet}
use Rattle.liq_types.specs.declared.replies.Refusal.{Refusal}
use Rattle.liq_types.specs.declared.replies.Refusal.TheVariants.{AmountZero, ShortTokens, Bootstrap, SystemUnder, NothingRedeemed, FeeEatsAll}
use Rattle.liq_types.specs.Payments.{credited, charged, surplus_added}
use Rattle.liq_types.specs.Rules.{Rule, first_refusal, outcome, where_below, where_short}
use Rattle.liq_types.specs.Ranked.{Ranked, first_of, from_last}
use Rattle.liq_types.specs.State.{State}
use Rattle.liq_types.specs.Tables.{Table}
use Rattle.liq_types.specs.Totals.{worth, asked, is_below_percent, market_of, trove_count}
use Rattle.liq_rate.specs.Bound.{fee_bound, fee_over}
use Rattle.liq_rate.specs.declared.rate.Rate.{Rate}
use Rattle.liq_rate.specs.Rate.{risen, redeem_fee, rate_left, rate_at}
use Rattle.liq_troves.specs.Own.{lifted, set_trove}
use Rattle.liq_troves.specs.declared.sums.Sums.{Sums}
use Rattle.liq_troves.specs.Rows.{entire_in}
use Rattle.liq_troves.specs.StakeSums.{entire_of, sums_words, trove_rows}
use Rattle.liq_order.specs.Order.{trove_order}
use Rattle.liq_redemption.specs.declared.cut.Cut.{Cut}
use Rattle.liq_redemption.specs.declared.planning.RedeemPlan.{RedeemPlan}
use Rattle.liq_redemption.specs.declared.visit.Visit.{Visit as TroveVisit}

-- ---- the visited troves

-- a trove on the way of a redemption, with its entire amounts
abbrev pub Visit : Type 0
Visit = TroveVisit

-- the account's trove, if it has one
abbrev pub visit : Sums → Table Trove → ℕ → Option Visit
visit sums troves account =
    option_map (λ (own : ℕ × ℕ). record { account = account; coll = own.0; debt = own.1 })
    (entire_in sums troves account)

-- a trove below the least ratio is left to liquidation
abbrev pub is_visited : ℕ → Visit → Bool
is_visited price v = not (is_below_percent v.coll v.debt price MCR)

abbrev pub where_visited : ℕ → Option Visit → Option Visit
where_visited price None = None
where_visited price (Some v) = if is_visited price v then Some v else None

-- the account's trove, if it has one that is visited
abbrev pub visit_at : ℕ → Sums → Table Trove → ℕ → Option Visit
visit_at price sums troves account = where_visited price (visit sums troves account)

-- the visited troves, from the list's end to its front
abbrev pub visited_by : ℕ → Sums → Table Trove → List Ranked → List Visit
visited_by price sums troves order = filter (is_visited price) (filter_map (visit sums troves)
    (from_last order))

-- ---- the cuts

-- debt beside the reserve
abbrev pub net_debt : Visit → ℕ
net_debt v = v.debt - RESERVE

abbrev pub lot_of : Visit → ℕ → ℕ
lot_of v wanted = min wanted (net_debt v)

abbrev pub draw_of : ℕ → ℕ → ℕ
draw_of price lot = floor_of lot GWEI_PER_ETH price

abbrev pub cut_of : ℕ → Visit → ℕ → Cut
cut_of price v wanted =
    let lot = lot_of v wanted in
    record { account = v.account; lot = lot; draw = draw_of price lot; full = lot == net_debt v }

-- The protocol keeps a trove, and a trove that is left keeps the least debt.
abbrev pub stops_before : Visit → Cut → ℕ → Bool
stops_before v cut troves =
    if cut.full then nat_le troves 1 else nat_lt (net_debt v - cut.lot) MIN_NET

-- a trove that is closed is one less
abbrev pub troves_after : Cut → ℕ → ℕ
troves_after cut troves = if cut.full then troves - 1 else troves

-- the cuts along the visited troves, with so many troves in the protocol and so much still wanted
abbrev pub cuts : ℕ → ℕ → ℕ → List Visit → List Cut
cuts price troves wanted [] = []
cuts price troves wanted (v ∷ vs) =
    let cut = cut_of price v wanted in
    let later = cuts price (troves_after cut troves) (wanted - cut.lot) vs in
    if wanted == 0 then [] else
    if stops_before v cut troves then [] else
    cut ∷ later

-- ---- what comes together

abbrev pub redeemed : List Cut → ℕ
redeemed cuts = sum_by (λ (cut : Cut). cut.lot) cuts

abbrev pub drawn : List Cut → ℕ
drawn cuts = sum_by (λ (cut : Cut). cut.draw) cuts

-- the base rate after the redemption of so much
abbrev pub rate_redeemed : Market → ℕ → Rate
rate_redeemed m amount = rate_at m (risen (rate_left m) amount m.total_debt)

-- ---- what is planned

abbrev pub RedeemTerms : Type 0
RedeemTerms = RedeemPlan

-- what comes of these cuts: what they come to, the fee in gwei and the base rate
abbrev pub terms_of : Market → List Cut → RedeemTerms
terms_of m cuts =
    let rate = rate_redeemed m (redeemed cuts) in
    record {
      cuts = cuts;
      redeemed = redeemed cuts;
      drawn = drawn cuts;
      fee = redeem_fee rate.base
          (drawn cuts);
      rate = rate;
    }

-- the cuts along these visits, and what comes of them
abbrev pub redeeming_terms : Market → List Visit → ℕ → RedeemTerms
redeeming_terms m visits amount = terms_of m (cuts m.price m.troves amount visits)

abbrev pub first_net : List Visit → ℕ
first_net visits = unwrap_or (option_map net_debt (first_of visits)) 0

-- what is tested before any trove is visited
abbrev pub asking_rules : Market → Wallet → ℕ → ℕ → List Rule
asking_rules m wallet amount bound =
    (amount == 0, AmountZero)
    ∷ fee_bound bound FLOOR_RATE
    ∷ where_below m.minute BOOTSTRAP Bootstrap
    ∷ where_below (worth m.total_coll m.price) (asked MCR m.total_debt) SystemUnder
    ∷ where_short amount wallet.lusd ShortTokens
    ∷ []

-- what is tested of the terms, with the net debt of the first trove that was visited
abbrev pub taking_rules : RedeemTerms → ℕ → ℕ → ℕ → List Rule
taking_rules terms net amount bound =
    (terms.redeemed == 0, NothingRedeemed amount net)
    ∷ (nat_le terms.drawn terms.fee, FeeEatsAll terms.fee terms.drawn)
    ∷ fee_over terms.fee terms.drawn bound
    ∷ []

abbrev pub redeem_rules : Market → Wallet → List Visit → ℕ → ℕ → List Rule
redeem_rules m wallet visits amount bound =
    asking_rules m wallet amount bound ++ taking_rules (redeeming_terms m visits amount)
    (first_net visits) amount bound

abbrev pub redeem_plan : Market → Wallet → List Visit → ℕ → ℕ → Result RedeemTerms Refusal
redeem_plan m wallet visits amount bound =
    outcome (first_refusal (redeem_rules m wallet visits amount bound))
    (redeeming_terms m visits amount)

-- ---- in a state

abbrev pub visited : State → List Visit
visited s = visited_by s.price (sums_words s) (trove_rows s) (trove_order s)

abbrev pub terms_in : State → ℕ → RedeemTerms
terms_in s amount = redeeming_terms (market_of s) (visited s) amount

abbrev pub cuts_in : State → ℕ → List Cut
cuts_in s amount = cuts s.price (trove_count s) amount (visited s)

-- ---- what it does

-- the reserve of a closed trove is burned, and its owner may claim what is left
abbrev pub closed_by : State → Cut → ℕ × ℕ → State
closed_by s cut own =
    let left = lifted s cut.account in
    surplus_added (record left { reserve = left.reserve - RESERVE }) cut.account (own.0 - cut.draw)

abbrev pub cut_entire : State → Cut → Option (ℕ × ℕ) → State
cut_entire s cut None = s
cut_entire s cut (Some own) =
    if cut.full then closed_by s cut own else set_trove s cut.account (own.0 - cut.draw)
    (own.1 - cut.lot)

abbrev pub cut_down : State → Cut → State
cut_down s cut = cut_entire s cut (entire_of s cut.account)

-- The redeemer's LUSD is burned. Of the collateral that is drawn the fee pool gets the fee.
abbrev pub redeemed_by : State → ℕ → RedeemTerms → State
redeemed_by s account terms =
    let cut = fold cut_down s terms.cuts in
    let given = credited (charged cut account 0 terms.redeemed) account (terms.drawn - terms.fee) 0
    in
    record given {
      base = terms.rate.base;
      fee_minute = terms.rate.minute;
      fee_coll = s.fee_coll
          + terms.fee;
    }
