-- The review of a list of commands: the audit of what they do to the Stability Pool from the
-- opening under a limit on, as a text.
use Rattle.std.specs.Prelude.{ℕ, List, Result, Ok, Err, Option, Some, None}
use Rattle.liq_types.specs.declared.events.PoolEvent.{PoolEvent}
use Rattle.liq_types.specs.declared.requests.Command.{Command}
use Rattle.liq_types.specs.State.{State, opening_with}
use Rattle.liq_rule_step.specs.Events.{events}
use Rattle.liq_journal.specs.declared.damage.Damage.{Damage}
use Rattle.liq_journal.specs.declared.damage.What.{What}
use Rattle.liq_journal.specs.declared.damage.What.TheVariants.{Replay}
use Rattle.liq_disk_pair.specs.Replay.{replay}
use Rattle.liq_text_audit.specs.declared.fault.ReviewFault.{ReviewFault}
use Rattle.liq_text_audit.specs.declared.fault.ReviewFault.TheVariants.{Refused, Limit}
use Rattle.liq_text_audit.specs.Engine.{rows_of}
use Rattle.liq_text_audit.specs.Limits.{number_above}
use Rattle.liq_text_audit.specs.Shown.{shown}

abbrev pub replay_code : What → ℕ
replay_code (Replay code) = code
replay_code _ = 0

-- the replay stops at a command: its number, and the refusal's code, or 0 for a repetition
abbrev pub stopped : Damage → ReviewFault
stopped damage = Refused damage.index (replay_code damage.what)

abbrev pub unless_above : Option ℕ → List ℕ → Result (List ℕ) ReviewFault
unless_above (Some number) text = Err (Limit number)
unless_above None text = Ok text

-- what a replay that comes to this is shown as, with these events
abbrev pub review_of : List PoolEvent → Result State Damage → Result (List ℕ) ReviewFault
review_of told (Err damage) = Err (stopped damage)
review_of told (Ok s) = unless_above (number_above told) (shown (rows_of s told))

abbrev pub reviewed : ℕ → List Command → Result (List ℕ) ReviewFault
reviewed limit commands =
    let start = opening_with limit in review_of (events start commands) (replay 1 start commands)
