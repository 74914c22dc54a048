-- Which text a word tells of two disks, and how it ends.
use Rattle.std.specs.Prelude.{ℕ, ◌≡◌, ◌≢◌, ◌⊎◌, List, [], ◌∷◌, Contains, Option, Ok, Err}
use Rattle.liq_types.specs.declared.requests.Command.{Command}
use Rattle.liq_types.specs.State.{State}
use Rattle.liq_rule_sound.specs.SoundState.{IsSoundState}
use Rattle.liq_word_exit.specs.declared.halts.Halt.TheVariants.{BadLine, Damaged, DiskFault, Limit}
use Rattle.liq_word_exit.specs.declared.halts.Halt.TheVariants.{NoMemory, ReadFault, Rotated}
use Rattle.liq_word_exit.specs.Statuses.{End, status_of}
use Rattle.liq_word_exit.specs.Telling.{TellsAll}
use Rattle.liq_word_state.specs.declared.telling.Text.{Text}
use Rattle.liq_word_state.specs.declared.telling.Text.TheVariants as which
use Rattle.liq_word_state.specs.Answers.{IsAnswerOf, AreFew, asked_text}
use Rattle.liq_word_state.specs.Audit.{IsAuditOf}
use Rattle.liq_word_state.specs.Report.{reported}
use Rattle.liq_word_state.specs.State.{standing}
use Rattle.liq_word_state.specs.Writing.{WritesAudit, WritesAnswers, WritesText}

-- what is written of a state and of the commands that lead to it, before the last line
abbrev pub WritesTold :
    Text → State → List Command → End → Option (List ℕ) → Option (List ℕ)
    → Type 0
WritesTold which.State s commands end before now = WritesText (Ok (standing s)) end before now
WritesTold which.Report s commands end before now = WritesText (Ok (reported s)) end before now
WritesTold which.Audit s commands end before now = WritesAudit s commands end before now
WritesTold (which.Answers asked) s commands end before now =
    WritesAnswers s commands asked end before now

-- the word has come to one of its ends, and the text is told, or the last line says why not
abbrev pub EndsTelling :
    Text → State → List Command → End → Type 0 → Option (List ℕ)
    → Option (List ℕ) → Type 0
EndsTelling which.State s commands end fault before now =
    Contains (0 ∷ 4 ∷ 5 ∷ 7 ∷ []) (status_of end) × TellsAll (standing s) end fault before now
EndsTelling which.Report s commands end fault before now =
    Contains (0 ∷ 4 ∷ 5 ∷ 7 ∷ []) (status_of end) × TellsAll (reported s) end fault before now
EndsTelling which.Audit s commands end fault before now =
    (text : List ℕ) × IsAuditOf s commands end text × TellsAll text end fault before now
EndsTelling (which.Answers asked) s commands end fault before now =
    IsAnswerOf s commands end × TellsAll (asked_text asked s.limit commands) end fault before now

-- it came to no state: a disk met a fault or is damaged, or there was no memory
abbrev pub FindsNone : End → Type 0
FindsNone (Err DiskFault) = Unit {0}
FindsNone (Err (Damaged side number)) = Unit {0}
FindsNone (Err NoMemory) = Unit {0}
FindsNone _ = ⊥

-- Whatever the disks tell, the text is written of some sound state, as the rules reach them, and of
-- some commands; or nothing is.
abbrev pub WritesSome : Text → End → Option (List ℕ) → Option (List ℕ) → Type 0
WritesSome what end before now =
    ((s : State) × (commands : List Command) × IsSoundState s
    × WritesTold what s commands end before now)
    ⊎ (FindsNone end × (now ≡ before))

-- So it is once the last line is written, where the word stopped.
abbrev pub EndsSome : Text → End → Type 0 → Option (List ℕ) → Option (List ℕ) → Type 0
EndsSome what end fault before now =
    ((s : State) × (commands : List Command) × IsSoundState s
    × EndsTelling what s commands end fault before now)
    ⊎ (FindsNone end × TellsAll [] end fault before now)

-- It ends for nothing that comes in; and what stands is told whatever the limits and the journal's
-- generation are.
pub record MayEnd (what : Text) (end : End) : Type 0 where
  pub no_source : end ≢ Err ReadFault
  pub no_line : (number : ℕ) → end ≢ Err (BadLine number)
  pub no_limit :
      (what ≡ which.State) ⊎ (what ≡ which.Report)
      → (number : ℕ) → (end ≢ Err (Limit number)) × (end ≢ Err (Rotated number))

-- there are no more lines than can be answered
abbrev pub HasFewLines : Text → Type 0
HasFewLines (which.Answers asked) = AreFew asked
HasFewLines _ = Unit {0}
