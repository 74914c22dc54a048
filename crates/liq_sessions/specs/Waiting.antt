-- Requests that wait, apart from their commands.
use Rattle.std.specs.Prelude.{ℕ, suc, List, [], ◌∷◌}
use Rattle.liq_types.specs.declared.requests.Command.{Command}
use Rattle.liq_types.specs.declared.requests.Request.{Request}
use Rattle.liq_types.specs.declared.requests.Request.TheVariants as request
use Rattle.liq_sessions.specs.declared.waiting.Waiting.{Waiting}
use Rattle.liq_sessions.specs.declared.waiting.Waiting.TheVariants.{Ask, NextCommand}

-- how many of them are commands
abbrev pub commands_among : List Waiting → ℕ
commands_among [] = 0
commands_among (Ask query ∷ later) = commands_among later
commands_among (NextCommand ∷ later) = suc (commands_among later)

-- the requests, whose commands are these
abbrev pub joined : List Waiting → List Command → List Request
joined [] commands = []
joined (Ask query ∷ later) commands = request.Ask query ∷ joined later commands
joined (NextCommand ∷ later) [] = []
joined (NextCommand ∷ later) (command ∷ commands) = request.Do command ∷ joined later commands
