-- What a whole header and a whole record are found to be, and what becomes of a record's command.
use Rattle.std.specs.Prelude.{◌≡◌, ◌⊎◌, ℕ, List, Option, Some, None, Result, Ok, Err, take, true}
use Rattle.liq_types.specs.declared.replies.NoMemory.{NoMemory}
use Rattle.liq_types.specs.declared.requests.Command.{Command}
use Rattle.liq_types.specs.State.{State}
use Rattle.liq_core.specs.Core.{Core, StandsFor}
use Rattle.liq_rule_step.specs.Step.{Allowed, after, ruling}
use Rattle.liq_wire.specs.Fields.{command_of}
use Rattle.liq_journal.specs.declared.damage.What.{What}
use Rattle.liq_disk_header.specs.Layout.{generation_on, layout_on}
use Rattle.liq_journal.specs.Written.{command_from, first_fault, header_tests}
use Rattle.liq_follower.specs.declared.header.Judged.{Judged}
use Rattle.liq_follower.specs.declared.header.Judged.TheVariants.{Damaged, Right, Turned}
use Rattle.liq_follower.specs.declared.phase.Phase.{Phase}
use Rattle.liq_follower.specs.declared.phase.Phase.TheVariants as phase
use Rattle.liq_disk_replay.specs.Making.{MayWantMemory}
use Rattle.liq_follower.specs.Fed.{IsNoRecord, IsRecordOf, is_turned}

-- no test of the header fails; or one does, and it isn't turned
abbrev pub IsJudged : List ℕ → Judged → Type 0
IsJudged bytes Right = (first_fault (header_tests (layout_on bytes) true bytes) ≡ None)
    × (generation_on bytes ≡ 1)
IsJudged bytes (Turned generation) = (is_turned bytes ≡ true) × (generation_on bytes ≡ generation)
IsJudged bytes Damaged =
    (is_turned bytes ≡ true → ⊥) × (first_fault (header_tests (layout_on bytes) true bytes)
    ≡ None → ⊥)

-- where in the journal a follower is behind such a header
abbrev pub phase_of : Judged → Phase
phase_of Right = phase.Gate
phase_of (Turned generation) = phase.Rotated generation
phase_of Damaged = phase.Damaged 0

-- what the body of a record spells, whatever its digest: a command that is no rotation, or none
abbrev pub IsSpelled : List ℕ → Option Command → Type 0
IsSpelled raw (Some command) = (place : ℕ) → command_from place (command_of (take 96 raw))
    ≡ Ok command
IsSpelled raw None = (place : ℕ) → (what : What) × (command_from place (command_of (take 96 raw))
    ≡ Err what)

-- a record that is tested: its command, or none
abbrev pub IsTested : ℕ → List ℕ → Option Command → Type 0
IsTested index raw (Some command) = IsRecordOf index raw command
IsTested index raw None = IsNoRecord index raw

-- the record of this number has a fault, or its command is not allowed
abbrev pub IsUnfit : State → ℕ → List ℕ → Type 0
IsUnfit s index raw = IsNoRecord index raw ⊎ ((c : Command) × IsRecordOf index raw c
    × (ruling s c ≡ Allowed → ⊥))

-- What becomes of a whole record of this number, in a state that stands before it. Its step is
-- made, and the gate of the next one comes. Or it is damaged, or its step finds no memory.
abbrev pub IsTaken : State → ℕ → List ℕ → Core → Result Phase NoMemory → Type 0
IsTaken s index raw core (Ok phase.Gate) =
    (c : Command) × IsRecordOf index raw c × (ruling s c ≡ Allowed) × StandsFor core (after s c)
IsTaken s index raw core (Ok (phase.Damaged at)) =
    (at ≡ index) × IsUnfit s index raw × StandsFor core s
IsTaken s index raw core (Ok _) = ⊥
IsTaken s index raw core (Err none) = (c : Command) × IsRecordOf index raw c × MayWantMemory s c
    × StandsFor core s
