-- The generated load: calls that a seed determines.
use Rattle.std.specs.Prelude.{ℕ, zero, suc, ◌+◌, ◌-◌, ◌*◌, ◌/◌, ◌%◌, ◌^◌, ◌==◌, List, [], ◌∷◌, ◌++◌, get_or, map, None, if◌then◌else◌}
use Rattle.std.specs.List.{range_with_len}
use Rattle.liq_types.specs.declared.hints.HintWords.{HintWords}
use Rattle.liq_types.specs.declared.requests.Call.{Call}
use Rattle.liq_types.specs.declared.requests.Call.TheVariants.{Price, Advance, Fund, Send, Open, Adjust, Close, Provide, Withdraw, GainToTrove, Liquidate, LiquidateLowest, Redeem, Claim, Rotate}
use Rattle.liq_types.specs.declared.amounts.TheConstants.{ONE}

abbrev pub no_hint : HintWords
no_hint = record { prev = None; next = None }

-- ---- numbers that are drawn

-- the state behind one more draw
abbrev pub after_draw : ℕ → ℕ
after_draw x = (x * 6364136223846793005 + 1442695040888963407) % 2 ^ 64

-- the number that a state shows: its 31 upper bits
abbrev pub shown : ℕ → ℕ
shown x = x / 2 ^ 33

-- the state behind a call, which takes three draws
abbrev pub after_call : ℕ → ℕ
after_call x = after_draw (after_draw (after_draw x))

-- ---- calls

-- the accounts with a trove and a deposit at the start
abbrev pub OWNERS : ℕ
OWNERS = 50

-- how many calls come before those that are drawn
abbrev pub PREAMBLE : ℕ
PREAMBLE = 150

-- who liquidates
abbrev pub LIQUIDATOR : ℕ
LIQUIDATOR = 1000

-- the call of the preamble that has so many before it: each owner brings collateral in, opens a
-- trove and provides
abbrev pub opening_call : ℕ → Call
opening_call before =
    let account = 1 + before / 3 in
    if before % 3 == 0 then Fund account 1000000000000 else
    if before % 3 == 1 then Open account 100000000000 20000000000 ONE no_hint else
    Provide account 10000000000

-- the calls before those that are drawn, from one of them on
abbrev pub preamble_from : ℕ → List Call
preamble_from before = map opening_call (range_with_len before (PREAMBLE - before))

-- the calls of the sixteen kinds, by an account and a number
abbrev pub calls_by : ℕ → ℕ → List Call
calls_by a v =
    Price (300000000 + v % 900000000)
    ∷ Advance (1 + v % 600)
    ∷ Open a 100000000000 (2000000000 + v) ONE no_hint
    ∷ Adjust a 0 0 v 0 ONE no_hint
    ∷ Adjust a 0 0 0 v 0 no_hint
    ∷ Adjust a v 0 0 0 0 no_hint
    ∷ Adjust a 0 v 0 0 0 no_hint
    ∷ Close a
    ∷ Provide a (1 + v)
    ∷ Withdraw a v
    ∷ GainToTrove a no_hint
    ∷ Liquidate LIQUIDATOR a
    ∷ LiquidateLowest LIQUIDATOR (1 + v % 64)
    ∷ Redeem a (1 + v) ONE no_hint
    ∷ Claim a
    ∷ Send a (1 + v % OWNERS) (1 + v)
    ∷ []

-- the call of a kind from 0 to 15
abbrev pub call_of : ℕ → ℕ → ℕ → Call
call_of kind a v = get_or (calls_by a v) kind Rotate

-- kind, account and number are drawn in this order
abbrev pub drawn_call : ℕ → Call
drawn_call x =
    let kind = after_draw x in
    let account = after_draw kind in
    let number = after_draw account in
    call_of (shown kind % 16) (1 + shown account % OWNERS) (shown number)

-- so many calls that are drawn from a state on
abbrev pub drawn : ℕ → ℕ → List Call
drawn x zero = []
drawn x (suc more) = drawn_call x ∷ drawn (after_call x) more

-- what is still to come behind so many calls of the preamble
abbrev pub to_come : ℕ → ℕ → ℕ → List Call
to_come x before left = preamble_from before ++ drawn x left

-- all calls of a seed: the preamble, and then so many that are drawn
abbrev pub generated : ℕ → ℕ → List Call
generated seed count = to_come seed 0 count
