-- A line of a staker, read word by word.
use Rattle.std.specs.Prelude.{ℕ, List, [], ◌∷◌, Option, Some, None, Bool, true, false, codes, if◌then◌else◌}
use Rattle.std.specs.Str.{bytes_eq}
use Rattle.liq_text.specs.Reading.{◌>>=◌, number_of, account_of}
use Rattle.liq_fees.specs.declared.lines.StakeLine.{StakeLine}

-- whether an amount is taken out
unfoldable pub out_of : List ℕ → Option Bool
out_of word =
    if bytes_eq word (codes "stake") then Some false
    else if bytes_eq word (codes "unstake") then Some true
    else None

-- what the words ask for
unfoldable pub line_by : Option ℕ → Option ℕ → Option Bool → Option ℕ → Option StakeLine
line_by at account out amount =
    at >>= λ at. account >>= λ account. out >>= λ out. amount >>= λ amount.
    Some (record { at = at; account = account; amount = amount; out = out })

unfoldable pub line_of : List (List ℕ) → Option StakeLine
line_of (at ∷ account ∷ verb ∷ amount ∷ []) =
    line_by (number_of at) (account_of account) (out_of verb) (number_of amount)
line_of _ = None
