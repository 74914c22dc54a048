-- The fees that a journal's commands paid.
use Rattle.std.specs.Prelude.{ℕ, ◌==◌, List, [], ◌∷◌, get_or, sum_by, if◌then◌else◌}
use Rattle.liq_types.specs.declared.replies.Done.{Done}
use Rattle.liq_types.specs.declared.requests.Command.{Command}
use Rattle.liq_types.specs.State.{State}
use Rattle.liq_rule_step.specs.Rules.{done_of}
use Rattle.liq_rule_step.specs.Step.{after}

-- a fee: collateral (gwei) and LUSD (micro-LUSD)
abbrev pub Fees : Type 0
Fees = ℕ × ℕ

-- A reply's kind is its verb's place: opening a trove (6) and changing it (7) pay LUSD, redeeming
-- (14) pays collateral. The reply has it as its second or third value.
abbrev pub fee_of : Done → Fees
fee_of done =
    if done.kind == 6 then (0, get_or done.values 1 0)
    else if done.kind == 7 then (0, get_or done.values 2 0)
    else if done.kind == 14 then (get_or done.values 2 0, 0)
    else (0, 0)

-- the fee of each of a list of commands, each allowed after those before it
abbrev pub fees_along : State → List Command → List Fees
fees_along s [] = []
fees_along s (c ∷ cs) = fee_of (done_of s c.call) ∷ fees_along (after s c) cs

-- what all these fees come to
abbrev pub coll_in : List Fees → ℕ
coll_in fees = sum_by (λ (fee : Fees). fee.0) fees

abbrev pub lusd_in : List Fees → ℕ
lusd_in fees = sum_by (λ (fee : Fees). fee.1) fees
