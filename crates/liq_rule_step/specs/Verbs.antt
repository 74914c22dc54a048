-- The verbs: their places in the list, the accounts that they name, and whether they plan a list.
use Rattle.std.specs.Prelude.{ℕ, Bool, true, false, List, [], ◌∷◌, None}
use Rattle.liq_types.specs.declared.hints.HintWords.{HintWords}
use Rattle.liq_types.specs.declared.requests.Call.{Call}
use Rattle.liq_types.specs.declared.requests.Call.TheVariants.{Price, Advance, Fund, Take, Send, Open, Adjust, Close}
use Rattle.liq_types.specs.declared.requests.Call.TheVariants.{Provide, Withdraw, GainToTrove, Liquidate}
use Rattle.liq_types.specs.declared.requests.Call.TheVariants.{LiquidateLowest, Redeem, Claim, Rotate}
use Rattle.liq_types.specs.declared.requests.Command.{Command}

-- ---- the list of verbs

-- the verb's place
abbrev pub kind : Call → ℕ
kind (Price price) = 1
kind (Advance minutes) = 2
kind (Fund account coll) = 3
kind (Take account coll) = 4
kind (Send from to lusd) = 5
kind (Open account coll borrow bound hint) = 6
kind (Adjust account coll_in coll_out borrow repay bound hint) = 7
kind (Close account) = 8
kind (Provide account lusd) = 9
kind (Withdraw account lusd) = 10
kind (GainToTrove account hint) = 11
kind (Liquidate liquidator account) = 12
kind (LiquidateLowest liquidator count) = 13
kind (Redeem account lusd bound hint) = 14
kind (Claim account) = 15
kind Rotate = 16

-- the accounts of a call, in the order of its words
abbrev pub accounts : Call → List ℕ
accounts (Price price) = []
accounts (Advance minutes) = []
accounts (Fund account coll) = account ∷ []
accounts (Take account coll) = account ∷ []
accounts (Send from to lusd) = from ∷ to ∷ []
accounts (Open account coll borrow bound hint) = account ∷ []
accounts (Adjust account coll_in coll_out borrow repay bound hint) = account ∷ []
accounts (Close account) = account ∷ []
accounts (Provide account lusd) = account ∷ []
accounts (Withdraw account lusd) = account ∷ []
accounts (GainToTrove account hint) = account ∷ []
accounts (Liquidate liquidator account) = liquidator ∷ account ∷ []
accounts (LiquidateLowest liquidator count) = liquidator ∷ []
accounts (Redeem account lusd bound hint) = account ∷ []
accounts (Claim account) = account ∷ []
accounts Rotate = []

-- whether more than a bounded number of troves may be planned for, as a list
abbrev pub plans_list : Call → Bool
plans_list (LiquidateLowest liquidator count) = true
plans_list (Redeem account lusd bound hint) = true
plans_list _ = false

-- ---- hints

abbrev pub no_hint : HintWords
no_hint = record { prev = None; next = None }

abbrev pub unhinted_call : Call → Call
unhinted_call (Open account coll borrow bound hint) = Open account coll borrow bound no_hint
unhinted_call (Adjust account coll_in coll_out borrow repay bound hint) =
    Adjust account coll_in coll_out borrow repay bound no_hint
unhinted_call (GainToTrove account hint) = GainToTrove account no_hint
unhinted_call (Redeem account lusd bound hint) = Redeem account lusd bound no_hint
unhinted_call call = call

-- the same command without its hint
abbrev pub unhinted : Command → Command
unhinted c = record c { call = unhinted_call c.call }
