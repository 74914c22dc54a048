-- What planned commands do: the calls of which an effect is, and the rows that it wants.
use Rattle.std.specs.Prelude.{◌≡◌, ◌⊎◌, ℕ, List, [], ◌∷◌, filter, length, map}
use Rattle.liq_types.specs.declared.hints.HintWords.{HintWords}
use Rattle.liq_types.specs.declared.requests.Call.{Call}
use Rattle.liq_types.specs.declared.requests.Call.TheVariants as calls
use Rattle.liq_types.specs.State.{State}
use Rattle.liq_types.specs.Totals.{market_of, or_nothing}
use Rattle.liq_troves.specs.StakeSums.{entire_of}
use Rattle.liq_stability.specs.Position.{gain_of}
use Rattle.liq_borrow.specs.Borrowing.{opening_terms, adjusting_terms, closing_terms, gaining_terms}
use Rattle.liq_liquidation.specs.declared.one.Victim.{Victim}
use Rattle.liq_liquidation.specs.Lowest.{lowest, victim_by}
use Rattle.liq_liquidation.specs.One.{one}
use Rattle.liq_redemption.specs.declared.cut.Cut.{Cut}
use Rattle.liq_redemption.specs.Redemption.{redeeming_terms, visited}
use Rattle.liq_rule_step.specs.Liquidation.{listed}
use Rattle.liq_rule_step.specs.Verbs.{no_hint}
use Rattle.liq_core.specs.Core.{Room}
use Rattle.liq_core.specs.declared.effects.Effect.{Effect}
use Rattle.liq_core.specs.declared.effects.Effect.TheVariants as effects
use Rattle.liq_core.specs.declared.effects.Move.{Move}
use Rattle.liq_core.specs.declared.effects.Move.TheVariants as moves
use Rattle.liq_core.specs.declared.effects.Victims.{Victims}
use Rattle.liq_core.specs.declared.effects.Victims.TheVariants as victims

-- ---- the calls of an effect

-- some call makes this move in the state and `Is` holds of it; what the move plans is what the
-- state has
abbrev pub IsMadeBy : State → Move → (Call → Type 0) → Type 0
IsMadeBy s (moves.Price price) Is = Is (calls.Price price)
IsMadeBy s (moves.Advance minutes) Is = Is (calls.Advance minutes)
IsMadeBy s (moves.Fund account coll) Is = Is (calls.Fund account coll)
IsMadeBy s (moves.Take account coll) Is = Is (calls.Take account coll)
IsMadeBy s (moves.Send from to lusd) Is = Is (calls.Send from to lusd)
IsMadeBy s (moves.Open account borrow plan words) Is =
    (bound : ℕ) × Is (calls.Open account plan.coll borrow bound words)
    × (plan ≡ opening_terms (market_of s) plan.coll borrow)
IsMadeBy s (moves.Adjust account change plan words) Is =
    (bound : ℕ)
    × Is (calls.Adjust account change.coll_in change.coll_out change.borrow change.repay bound
    words)
    × (plan ≡ adjusting_terms (market_of s) (or_nothing (entire_of s account)) change)
IsMadeBy s (moves.Close account repaid coll) Is = Is (calls.Close account)
    × ((repaid, coll) ≡ closing_terms (or_nothing (entire_of s account)))
IsMadeBy s (moves.Provide account lusd) Is = Is (calls.Provide account lusd)
IsMadeBy s (moves.Withdraw account lusd) Is = Is (calls.Withdraw account lusd)
IsMadeBy s (moves.GainToTrove account plan words) Is = Is (calls.GainToTrove account words)
    × (plan ≡ gaining_terms (market_of s) (or_nothing (entire_of s account)) (gain_of s account))
IsMadeBy s (moves.Redeem account plan words) Is =
    (lusd : ℕ) × (bound : ℕ) × Is (calls.Redeem account lusd bound words)
    × (plan ≡ redeeming_terms (market_of s) (visited s) lusd)
IsMadeBy s (moves.Claim account) Is = Is (calls.Claim account)

-- the call makes this move in the state
abbrev pub IsMove : State → Call → Move → Type 0
IsMove s call moved = IsMadeBy s moved (λ made. call ≡ made)

-- the troves that are liquidated, in order
abbrev pub victims_in : Victims → List Victim
victims_in (victims.One victim) = victim
victims_in (victims.Many victims) = victims.items

-- the call of this liquidator liquidates just these troves in the state
abbrev pub IsStruck : State → Call → ℕ → List Victim → Type 0
IsStruck s call liquidator struck =
    ((account : ℕ) × (call ≡ calls.Liquidate liquidator account)
    × (struck ≡ listed (victim_by account (one s account))))
    ⊎ ((count : ℕ) × (call ≡ calls.LiquidateLowest liquidator count) × (struck ≡ lowest s count))

-- the call has this effect in the state
abbrev pub IsEffect : State → Call → Effect → Type 0
IsEffect s call (effects.Move moved) = IsMove s call moved
IsEffect s call (effects.Liquidate liquidator struck) =
    IsStruck s call liquidator (victims_in struck)
IsEffect s call effects.Rotate = call ≡ calls.Rotate

-- the hint words of a move
abbrev pub words_in : Move → HintWords
words_in (moves.Open account borrow plan words) = words
words_in (moves.Adjust account change plan words) = words
words_in (moves.GainToTrove account plan words) = words
words_in (moves.Redeem account plan words) = words
words_in _ = no_hint

-- ---- room

-- the troves that a redemption closes, by their accounts
abbrev pub closed : List Cut → List ℕ
closed cuts = map (λ (cut : Cut). cut.account) (filter (λ (cut : Cut). cut.full) cuts)

abbrev pub no_room : Room
no_room = record {
  wallets = [];
  troves = [];
  surplus = [];
  deposits = [];
  clients = [];
  list = 0;
  finished = 0;
}

abbrev pub room_to_pay : ℕ → Room
room_to_pay account = record no_room { wallets = account ∷ [] }

-- room for what a move writes
abbrev pub room_to_move : Move → Room
room_to_move (moves.Price price) = no_room
room_to_move (moves.Advance minutes) = no_room
room_to_move (moves.Fund account coll) = room_to_pay account
room_to_move (moves.Take account coll) = room_to_pay account
room_to_move (moves.Send from to lusd) = record no_room { wallets = from ∷ to ∷ [] }
room_to_move (moves.Open account borrow plan words) =
    record (room_to_pay account) { troves = account ∷ []; list = 1 }
room_to_move (moves.Adjust account change plan words) = room_to_pay account
room_to_move (moves.Close account repaid coll) = room_to_pay account
room_to_move (moves.Provide account lusd) =
    record (room_to_pay account) { deposits = account ∷ [] }
room_to_move (moves.Withdraw account lusd) = room_to_pay account
room_to_move (moves.GainToTrove account plan words) = room_to_pay account
room_to_move (moves.Redeem account plan words) =
    record (room_to_pay account) { surplus = closed plan.cuts }
room_to_move (moves.Claim account) = room_to_pay account

-- room for what liquidations write: for each trove also a sum of the Stability Pool that it may
-- finish. Its owner may come to claim something
abbrev pub room_to_strike : ℕ → List Victim → Room
room_to_strike liquidator struck =
    record (room_to_pay liquidator) {
      surplus = map (λ (v : Victim). v.account) struck;
      finished = length struck;
    }

-- room for what a command writes beside its client's row
abbrev pub room_of : Effect → Room
room_of (effects.Move moved) = room_to_move moved
room_of (effects.Liquidate liquidator struck) = room_to_strike liquidator (victims_in struck)
room_of effects.Rotate = no_room
