-- How writing a text of the disks ends, before the last line.
use Rattle.std.specs.Prelude.{ℕ, ◌≡◌, ◌<◌, List, Option, Result, Ok, Err}
use Rattle.std.specs.Prelude.{All, count_by, length}
use Rattle.liq_types.specs.declared.requests.Command.{Command}
use Rattle.liq_types.specs.State.{State, opening_with}
use Rattle.liq_audit.specs.Auditable.{EnclosesShare}
use Rattle.liq_rule_step.specs.Events.{events}
use Rattle.liq_text_audit.specs.Engine.{rows_of}
use Rattle.liq_text_audit.specs.Reviewed.{reviewed}
use Rattle.liq_text_audit.specs.Shown.{is_within}
use Rattle.liq_text_lines.specs.Writing.{Writes, WritesPart}
use Rattle.liq_text_audit.specs.declared.fault.ReviewFault.{ReviewFault}
use Rattle.liq_text_audit.specs.declared.fault.ReviewFault.TheVariants as review
use Rattle.liq_word_exit.specs.declared.halts.Halt.TheVariants.{WriteFault, DiskFault, NoMemory, Limit, Rotated}
use Rattle.liq_word_state.specs.declared.answers.Asked.{Asked}
use Rattle.liq_word_state.specs.Answers.{asked_text}
use Rattle.liq_word_state.specs.Leads.{LeadTo}
use Rattle.liq_word_exit.specs.Statuses.{End}

-- The text was written, or the sink met a fault within it. Or nothing was: a limit is passed, there
-- was no memory, or a disk met a fault.
abbrev pub WritesText :
    Result (List ℕ) ReviewFault → End → Option (List ℕ) → Option (List ℕ)
    → Type 0
WritesText told (Ok done) before now = (text : List ℕ) × (told ≡ Ok text) × Writes before text now
WritesText told (Err WriteFault) before now = (text : List ℕ) × (told ≡ Ok text)
    × WritesPart before text now
WritesText told (Err (Limit number)) before now = (told ≡ Err (review.Limit number))
    × (now ≡ before)
WritesText told (Err NoMemory) before now = now ≡ before
WritesText told (Err DiskFault) before now = now ≡ before
WritesText told (Err _) before now = ⊥

-- each row of a review from the opening under this limit encloses the exact share of its account,
-- and what the protocol gives that is within its row
abbrev pub AuditAlong : ℕ → State → List Command → Type 0
AuditAlong limit s commands =
    let made = events (opening_with limit) commands in
    let rows = rows_of s made in
    All (EnclosesShare made) rows × (count_by is_within rows ≡ length rows)

-- so it is of a review that was told
abbrev pub AuditHolds : End → State → List Command → Type 0
AuditHolds (Ok done) s commands = AuditAlong s.limit s commands
AuditHolds (Err halt) s commands = Unit {0}

-- The audit of a state to which these commands lead is their review, or the state is of a later
-- generation than the first, and nothing was written. Where a disk met a fault, or there was no
-- memory, nothing shows which it is.
abbrev pub WritesAudit :
    State → List Command → End → Option (List ℕ) → Option (List ℕ) → Type 0
WritesAudit s commands (Err (Rotated generation)) before now =
    (now ≡ before) × (1 < s.generation) × (generation ≡ s.generation)
WritesAudit s commands (Err NoMemory) before now = now ≡ before
WritesAudit s commands (Err DiskFault) before now = now ≡ before
WritesAudit s commands end before now =
    WritesText (reviewed s.limit commands) end before now × LeadTo commands s
    × AuditHolds end s commands

-- Lines are answered beside the commands that lead to a state, or the state is of a later
-- generation than the first, and nothing was written. Where a disk met a fault, or there was no
-- memory, nothing shows which it is.
abbrev pub WritesAnswers :
    State → List Command → Asked → End → Option (List ℕ) → Option (List ℕ)
    → Type 0
WritesAnswers s commands asked (Err (Rotated generation)) before now =
    (now ≡ before) × (1 < s.generation) × (generation ≡ s.generation)
WritesAnswers s commands asked (Err NoMemory) before now = now ≡ before
WritesAnswers s commands asked (Err DiskFault) before now = now ≡ before
WritesAnswers s commands asked end before now =
    WritesText (Ok (asked_text asked s.limit commands)) end before now × LeadTo commands s
