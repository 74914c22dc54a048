-- What a call of a store answers.
use Rattle.std.specs.Prelude.{◌≡◌, ℕ, ◌≤◌}
use Rattle.liq_types.specs.declared.requests.Request.{Request}
use Rattle.liq_types.specs.declared.replies.Answer.{Answer}
use Rattle.liq_types.specs.declared.replies.Answer.TheVariants as answer
use Rattle.liq_types.specs.State.{State}
use Rattle.liq_core.specs.Core.{Core, StandsFor}
use Rattle.liq_rule_step.specs.Step.{step}
use Rattle.liq_journal.specs.declared.answers.LookFault.TheVariants as look
use Rattle.liq_journal.specs.Bodies.{IsBodyFault, body_at}
use Rattle.liq_disk_records.specs.declared.answers.AcceptedFault.{AcceptedFault}
use Rattle.liq_disk_records.specs.declared.answers.AcceptedFault.TheVariants as accepted
use Rattle.liq_rule_step.specs.Memory.{IsAccepted, TakesMemory}
use Rattle.liq_store.specs.Stored.{Stored}

-- A request in this state, and the protocol after it, of a store that was not stopped: the step's
-- reply; or no memory, where it may be asked for; or a disk's fault, where an accepted command was
-- to be written. Without a reply there was no step.
abbrev pub Answers : State → Request → Answer → Core → Type 0
Answers s request (answer.Reply reply) core = StandsFor core (step s request).0
    × ((step s request).1 ≡ reply)
Answers s request answer.NoMemory core = StandsFor core s × TakesMemory s request
Answers s request answer.DiskFault core = StandsFor core s × IsAccepted s request
Answers s request _ core = ⊥

-- the same of a store before a call and after it, in each state for which it stands
abbrev pub AnswersByStep : {D : Type 0} → Stored D → Request → Answer → Stored D → Type 0
AnswersByStep old request answer new =
    (s : State) → StandsFor old.core s → Answers s request answer new.core

-- A record that was read is no record: its number is among those of the accepted commands, and its
-- bytes, where the journal has it, have another digest than the one behind them, or are no command.
abbrev pub IsUnreadable : (generation start count : ℕ) → AcceptedFault → Type 0
IsUnreadable generation start count accepted.DiskFault = Unit {0}
IsUnreadable generation start count (accepted.Damaged damage) =
    (1 ≤ damage.index)
    × (damage.index ≤ count)
    × IsBodyFault generation damage.index (body_at start damage.index) (look.Damaged damage)
IsUnreadable generation start count accepted.NoMemory = Unit {0}
