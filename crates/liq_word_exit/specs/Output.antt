-- What is written.
use Rattle.std.specs.Prelude.{ℕ, List, [], ◌∷◌, ◌++◌, codes}
use Rattle.std.specs.List.{flat_map}
use Rattle.liq_types.specs.declared.requests.Request.{Request}
use Rattle.liq_types.specs.State.{State}
use Rattle.liq_rule_step.specs.Step.{run}
use Rattle.liq_text.specs.Replies.{reply_line}
use Rattle.liq_word_exit.specs.declared.halts.Halt.{Halt}
use Rattle.liq_word_exit.specs.Statuses.{ending}

-- the replies to a list of requests from a state on, each on a line
abbrev pub lines : State → List Request → List ℕ
lines start requests = flat_map reply_line (run start requests).1

-- the last line of a word that stops
abbrev pub last : Halt → List ℕ
last halt = (ending halt).1

-- what is written where the words are not understood
abbrev pub usage : List ℕ
usage = codes "usage: liq run, serve, state, audit or gen SEED COUNT" ++ 10 ∷ []
