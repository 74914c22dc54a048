-- The lowest troves: single liquidations of the last trove of the order, each by the mode of its
-- moment.
use Rattle.std.specs.Prelude.{◌≡◌, ℕ, zero, suc, true, Option, Some, None, Result, Ok, Err, List, [], ◌∷◌}
use Rattle.liq_types.specs.declared.figures.Market.{Market}
use Rattle.liq_types.specs.declared.figures.Trove.{Trove}
use Rattle.liq_types.specs.declared.replies.Refusal.{Refusal}
use Rattle.liq_types.specs.Rules.{Rule, first_refusal, outcome, last_trove_stays}
use Rattle.liq_types.specs.State.{State}
use Rattle.liq_types.specs.Tables.{Table}
use Rattle.liq_types.specs.Totals.{market_of}
use Rattle.liq_troves.specs.declared.sums.Sums.{Sums}
use Rattle.liq_troves.specs.StakeSums.{sums_words, trove_rows}
use Rattle.liq_order.specs.Order.{Ranked, trove_order, last_trove}
use Rattle.liq_stability.specs.declared.words.PoolWords.{PoolWords}
use Rattle.liq_stability.specs.Words.{pool_words}
use Rattle.liq_liquidation.specs.declared.one.One.{One}
use Rattle.liq_liquidation.specs.declared.one.Victim.{Victim}
use Rattle.liq_liquidation.specs.One.{one, struck}

-- the victim that comes of one liquidation, if any
abbrev pub victim_by : ℕ → Result One Refusal → Option Victim
victim_by account (Ok done) = Some (record { account = account; one = done })
victim_by account (Err refusal) = None

abbrev pub victim_at : State → Option ℕ → Option Victim
victim_at s None = None
victim_at s (Some account) = victim_by account (one s account)

-- the last trove, where it may be liquidated
abbrev pub next_victim : State → Option Victim
next_victim s = victim_at s (last_trove s)

-- the lowest troves: so many at most, up to the first that may not be liquidated
abbrev pub lowest : State → ℕ → List Victim
lowest s zero = []
lowest s (suc more) = elim (next_victim s) [ None ↦ [] | Some v ↦ v ∷ lowest (struck s v) more ]

-- ---- what is planned

-- the rule that a liquidation is refused by
abbrev pub refusal_of : Result One Refusal → List Rule
refusal_of (Ok one) = []
refusal_of (Err refusal) = (true, refusal) ∷ []

-- the trove that is liquidated first
abbrev pub first_of_lowest : State → Option ℕ → List Rule
first_of_lowest s None = []
first_of_lowest s (Some account) = refusal_of (one s account)

abbrev pub lowest_rules : State → List Rule
lowest_rules s = last_trove_stays (market_of s) ∷ first_of_lowest s (last_trove s)

-- the victims in order, or why there is not even one
abbrev pub lowest_plan : State → ℕ → Result (List Victim) Refusal
lowest_plan s count = outcome (first_refusal (lowest_rules s)) (lowest s count)

-- ---- what a plan is told of a state

-- these are the parts of one state
pub record AreParts (s : State) (m : Market) (sums : Sums) (troves : Table Trove)
    (order : List Ranked) (words : PoolWords) : Type 0 where
  pub market : m ≡ market_of s
  pub sums_are : sums ≡ sums_words s
  pub troves_are : troves ≡ trove_rows s
  pub order_is : order ≡ trove_order s
  pub words_are : words ≡ pool_words s
