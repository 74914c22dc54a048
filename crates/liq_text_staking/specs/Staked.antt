-- The text that answers stakers: a reply for each line, what each account has, and what stayed
-- unshared.
use Rattle.std.specs.Prelude.{ℕ, nat_lt, List, [], ◌∷◌, ◌++◌, length, map, filter, codes, decimal}
use Rattle.std.specs.List.{flat_map, range_with_len}
use Rattle.liq_types.specs.declared.amounts.TheConstants.{ACCOUNTS}
use Rattle.liq_types.specs.declared.requests.Command.{Command}
use Rattle.liq_types.specs.State.{opening_with}
use Rattle.liq_text.specs.Writing.{words_line}
use Rattle.liq_fees.specs.Happened.{Happened, of_coll, of_lusd, changes_of, unshared_of}
use Rattle.liq_fees.specs.Kept.{row_of}
use Rattle.liq_fees.specs.declared.gains.StakeRow.{StakeRow}
use Rattle.liq_fees.specs.declared.lines.StakeLine.{StakeLine}
use Rattle.liq_text_staking.specs.Paid.{Fees, fees_along}
use Rattle.liq_text_staking.specs.Asked.{Asked, answered_all, shared_up_to}

-- the accounts below n with an accepted change, ascending
unfoldable pub stakers_below : ℕ → List Happened → List ℕ
stakers_below n past = filter (λ account. nat_lt 0 (changes_of account past)) (range_with_len 0 n)

abbrev pub stakers : List Happened → List ℕ
stakers past = stakers_below ACCOUNTS past

abbrev pub row_words : StakeRow → List (List ℕ)
row_words row = map decimal (row.account ∷ row.stake ∷ row.coll ∷ row.lusd ∷ row.allow ∷ [])

abbrev pub unshared_words : List Happened → List (List ℕ)
unshared_words past = codes "unshared" ∷ map decimal (unshared_of of_coll past
    ∷ unshared_of of_lusd past ∷ [])

abbrev pub row_line : List Happened → ℕ → List ℕ
row_line past account = words_line (row_words (row_of account past))

abbrev pub reply_lines : List (List ℕ) → List ℕ
reply_lines replies = flat_map (λ reply. reply ++ 10 ∷ []) replies

-- what is told at the end, once the fees of all records are shared
abbrev pub told : List (List ℕ) → List Happened → List ℕ
told replies past = reply_lines replies ++ flat_map (row_line past) (stakers past)
    ++ words_line (unshared_words past)

abbrev pub told_of : List Fees → Asked → List ℕ
told_of fees a = told a.replies (shared_up_to fees a.past a.least (length fees))

-- the text for these commands of a journal, from the opening under its limit on, and these lines
abbrev pub staked_text : ℕ → List Command → List StakeLine → List ℕ
staked_text limit commands lines =
    let fees = fees_along (opening_with limit) commands in told_of fees (answered_all fees lines)
