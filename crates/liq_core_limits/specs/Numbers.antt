-- Which command acts by its number, beside its client's row.
use Rattle.std.specs.Prelude.{ℕ, ◌+◌, ◌==◌, ◌&&◌, Bool, not, min, Option, None, Some, Result, Ok, Err, if◌then◌else◌}
use Rattle.liq_types.specs.declared.amounts.TheConstants.{NUMBER_MOST}
use Rattle.liq_types.specs.declared.figures.Client.{Client}
use Rattle.liq_types.specs.declared.replies.Done.{Done}
use Rattle.liq_types.specs.declared.replies.Refusal.{Refusal}
use Rattle.liq_types.specs.declared.replies.Refusal.TheVariants.{OutOfTurn}

-- a command that comes again: it has the last number that was accepted of its client
abbrev pub comes_again : Client → ℕ → Bool
comes_again row number = number == row.last && not (number == 0)

-- The reply that was kept of it; nothing, where the number is the client's next one. Any other
-- number is out of turn, and told beside the next one, as it is printed.
abbrev pub kept_by : Client → ℕ → Result (Option Done) Refusal
kept_by row number =
    if comes_again row number
    then Ok (Some row.kept)
    else if number == row.last + 1
    then Ok None
    else Err (OutOfTurn (min (row.last + 1) NUMBER_MOST))
