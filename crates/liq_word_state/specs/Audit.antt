-- What the word `audit` tells.
use Rattle.std.specs.Prelude.{ℕ, ◌≡◌, ◌<◌, List, Ok, Err, All, count_by, length}
use Rattle.liq_types.specs.declared.requests.Command.{Command}
use Rattle.liq_types.specs.State.{State, opening_with}
use Rattle.liq_audit.specs.Auditable.{EnclosesShare}
use Rattle.liq_rule_step.specs.Events.{events}
use Rattle.liq_text_audit.specs.Engine.{rows_of}
use Rattle.liq_text_audit.specs.Reviewed.{reviewed}
use Rattle.liq_text_audit.specs.Shown.{is_within}
use Rattle.liq_text_audit.specs.declared.fault.ReviewFault.TheVariants as review
use Rattle.liq_word_exit.specs.declared.halts.Halt.TheVariants.{DiskFault, Limit, NoMemory, Rotated, WriteFault}
use Rattle.liq_word_exit.specs.Statuses.{End}
use Rattle.liq_word_state.specs.Leads.{LeadTo}

-- An audit of the commands that lead to this state of the first generation, from the opening under
-- its limit, ends so, and its text is that of the review. At its end each row encloses the exact
-- share of its account, and what the protocol gives that is within its row. Or the review passes
-- the limit by this number. Of a later generation's state there is none.
abbrev pub IsAuditOf : State → List Command → End → List ℕ → Type 0
IsAuditOf s all (Ok done) text =
    let made = events (opening_with s.limit) all in let rows = rows_of s made in
    LeadTo all s × (reviewed s.limit all ≡ Ok text) × All (EnclosesShare made) rows
    × (count_by is_within rows ≡ length rows)
IsAuditOf s all (Err WriteFault) text = LeadTo all s × (reviewed s.limit all ≡ Ok text)
IsAuditOf s all (Err (Limit n)) text = LeadTo all s × (reviewed s.limit all ≡ Err (review.Limit n))
IsAuditOf s all (Err (Rotated later)) text = (1 < s.generation) × (later ≡ s.generation)
-- a disk met a fault, or there was no memory
IsAuditOf s all (Err DiskFault) text = Unit {0}
IsAuditOf s all (Err NoMemory) text = Unit {0}
-- it reads no lines, and the disks are not damaged
IsAuditOf s all (Err _) text = ⊥
