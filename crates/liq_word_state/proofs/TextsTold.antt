-- What was told, by the end of the word.
use Rattle.std.proofs.Common.{◌≡◌, ◌≢◌, ℕ, List, [], ◌∷◌, Option, Ok, Err, Result, refl, subst, lit<}
use Rattle.std.specs.Prelude.{Contains, IfErr, OnOk}
use Rattle.liq_types.specs.declared.requests.Command.{Command}
use Rattle.liq_types.specs.State.{State}
use Rattle.liq_text_lines.specs.Writing.{Writes, WritesPart}
use Rattle.liq_text_audit.specs.Reviewed.{reviewed}
use Rattle.liq_text_audit.specs.declared.fault.ReviewFault.{ReviewFault}
use Rattle.liq_word_exit.specs.declared.halts.Halt.{Halt}
use Rattle.liq_word_exit.specs.declared.halts.Halt.TheVariants.{BadLine, ReadFault, WriteFault, DiskFault, Damaged, DamagedInput, NoMemory, Limit, Rotated}
use Rattle.liq_word_exit.specs.Statuses.{status_of}
use Rattle.liq_word_exit.specs.Telling.{TellsAll}
use Rattle.liq_word_exit.specs.Unsaid.{WritesAll}
use Rattle.liq_word_state.specs.declared.telling.Text.{Text}
use Rattle.liq_word_state.specs.declared.telling.Text.TheVariants as which
use Rattle.liq_word_state.specs.declared.answers.Asked.{Asked}
use Rattle.liq_word_state.specs.Answers.{IsAnswerOf, asked_text}
use Rattle.liq_word_state.specs.Audit.{IsAuditOf}
use Rattle.liq_word_state.specs.Leads.{LeadTo}
use Rattle.liq_word_state.specs.Report.{reported}
use Rattle.liq_word_state.specs.State.{standing}
use Rattle.liq_word_state.specs.Told.{EndsTelling, MayEnd, WritesTold}
use Rattle.liq_word_state.specs.Writing.{AuditHolds, WritesAudit, WritesAnswers, WritesText}

pub text_written : (told : Result (List ℕ) ReviewFault) (text : List ℕ) (end : Result (Unit {0}) Halt)
    (before now : Option (List ℕ)) → told ≡ Ok text → OnOk end (Writes before text now)
    → IfErr end (λ halt. (halt ≡ WriteFault) × WritesPart before text now) → WritesText told end before now
text_written told text (Ok done) before now is ok err = (text, is, ok)
text_written told text (Err (BadLine n)) before now is ok err = absurd (cc (err.0))
text_written told text (Err ReadFault) before now is ok err = absurd (cc (err.0))
text_written told text (Err WriteFault) before now is ok err = (text, is, err.1)
text_written told text (Err DiskFault) before now is ok err = absurd (cc (err.0))
text_written told text (Err (Damaged side number)) before now is ok err = absurd (cc (err.0))
text_written told text (Err NoMemory) before now is ok err = absurd (cc (err.0))
text_written told text (Err (Limit number)) before now is ok err = absurd (cc (err.0))
text_written told text (Err (Rotated generation)) before now is ok err = absurd (cc (err.0))
text_written told text (Err (DamagedInput number)) before now is ok err = absurd (cc (err.0))

-- ---- of a state, or its report

state_told : (text : List ℕ) (end : Result (Unit {0}) Halt) (before now : Option (List ℕ))
    → WritesText (Ok text) end before now → Contains (0 ∷ 4 ∷ 5 ∷ 7 ∷ []) (status_of end)
    × WritesAll text end before now
state_told text (Ok done) before now h =
    let same : h.0 ≡ text = cc (h.1) in
    ((0, lit< tt, refl), subst (λ (t : List ℕ). Writes before t now) same h.2)
state_told text (Err (BadLine n)) before now h = absurd h
state_told text (Err ReadFault) before now h = absurd h
state_told text (Err WriteFault) before now h =
    let same : h.0 ≡ text = cc (h.1) in
    ((1, lit< tt, refl), subst (λ (t : List ℕ). WritesPart before t now) same h.2)
state_told text (Err DiskFault) before now h = ((2, lit< tt, refl), h)
state_told text (Err (Damaged side number)) before now h = absurd h
state_told text (Err NoMemory) before now h = ((3, lit< tt, refl), h)
state_told text (Err (Limit number)) before now h = absurd (cc (h.0))
state_told text (Err (Rotated generation)) before now h = absurd h
state_told text (Err (DamagedInput number)) before now h = absurd h

-- ---- of an audit

audit_told : (s : State) (commands : List Command) (end : Result (Unit {0}) Halt) (before now : Option (List ℕ))
    → WritesAudit s commands end before now
    → (text : List ℕ) × IsAuditOf s commands end text × WritesAll text end before now
audit_told s commands (Ok done) before now h = (h.0.0, (h.1, h.0.1, h.2.0, h.2.1), h.0.2)
audit_told s commands (Err (BadLine n)) before now h = absurd h.0
audit_told s commands (Err ReadFault) before now h = absurd h.0
audit_told s commands (Err WriteFault) before now h = (h.0.0, (h.1, h.0.1), h.0.2)
audit_told s commands (Err DiskFault) before now h = ([], tt, h)
audit_told s commands (Err (Damaged side number)) before now h = absurd h.0
audit_told s commands (Err NoMemory) before now h = ([], tt, h)
audit_told s commands (Err (Limit number)) before now h = ([], (h.1, h.0.0), h.0.1)
audit_told s commands (Err (Rotated generation)) before now h = ([], (h.1, h.2), h.0)
audit_told s commands (Err (DamagedInput number)) before now h = absurd h.0

-- the review of a state of the first generation is its audit
pub audit_reviewed : (s : State) (commands : List Command) (end : Result (Unit {0}) Halt) (before now : Option (List ℕ))
    → LeadTo commands s → WritesText (reviewed s.limit commands) end before now → AuditHolds end s commands
    → WritesAudit s commands end before now
audit_reviewed s commands (Ok done) before now leads wrote holds = (wrote, leads, holds)
audit_reviewed s commands (Err (BadLine n)) before now leads wrote holds = absurd wrote
audit_reviewed s commands (Err ReadFault) before now leads wrote holds = absurd wrote
audit_reviewed s commands (Err WriteFault) before now leads wrote holds = (wrote, leads, tt)
audit_reviewed s commands (Err DiskFault) before now leads wrote holds = wrote
audit_reviewed s commands (Err (Damaged side number)) before now leads wrote holds = absurd wrote
audit_reviewed s commands (Err NoMemory) before now leads wrote holds = wrote
audit_reviewed s commands (Err (Limit number)) before now leads wrote holds = (wrote, leads, tt)
audit_reviewed s commands (Err (Rotated generation)) before now leads wrote holds = absurd wrote
audit_reviewed s commands (Err (DamagedInput number)) before now leads wrote holds = absurd wrote

-- ---- of lines that are answered

answers_told : (s : State) (commands : List Command) (asked : Asked) (end : Result (Unit {0}) Halt)
    (before now : Option (List ℕ)) → WritesAnswers s commands asked end before now
    → IsAnswerOf s commands end × WritesAll (asked_text asked s.limit commands) end before now
answers_told s commands asked (Ok done) before now h =
    let same : h.0.0 ≡ asked_text asked s.limit commands = cc (h.0.1) in
    (h.1, subst (λ (t : List ℕ). Writes before t now) same h.0.2)
answers_told s commands asked (Err WriteFault) before now h =
    let same : h.0.0 ≡ asked_text asked s.limit commands = cc (h.0.1) in
    (h.1, subst (λ (t : List ℕ). WritesPart before t now) same h.0.2)
answers_told s commands asked (Err DiskFault) before now h = (tt, h)
answers_told s commands asked (Err NoMemory) before now h = (tt, h)
answers_told s commands asked (Err (Limit number)) before now h = absurd (cc (h.0.0))
answers_told s commands asked (Err (Rotated generation)) before now h = ((h.1, h.2), h.0)
answers_told s commands asked (Err _) before now h = absurd h.0

-- a text for a state of the first generation
pub answers_written : (s : State) (commands : List Command) (asked : Asked) (end : Result (Unit {0}) Halt)
    (before now : Option (List ℕ)) → LeadTo commands s
    → WritesText (Ok (asked_text asked s.limit commands)) end before now → WritesAnswers s commands asked end before now
answers_written s commands asked (Ok done) before now leads wrote = (wrote, leads)
answers_written s commands asked (Err WriteFault) before now leads wrote = (wrote, leads)
answers_written s commands asked (Err DiskFault) before now leads wrote = wrote
answers_written s commands asked (Err NoMemory) before now leads wrote = wrote
answers_written s commands asked (Err (Limit number)) before now leads wrote = (wrote, leads)
answers_written s commands asked (Err _) before now leads wrote = absurd wrote

-- ---- of each

-- what stands is told whatever the limits and the journal's generation are
pub may_end : (what : Text) (end : Result (Unit {0}) Halt) → end ≢ Err ReadFault
    → ((number : ℕ) → (end ≢ Err (BadLine number)) × (end ≢ Err (Limit number)) × (end ≢ Err (Rotated number)))
    → MayEnd what end
may_end what end no_source no_number =
    record {
      no_source = no_source;
      no_line = λ number. (no_number number).0;
      no_limit = λ other number.
          let so = no_number number in (so.1, so.2);
    }

-- a word that met a disk's fault, or no memory, wrote nothing
pub nothing_told : (what : Text) (s : State) (commands : List Command) (held : Option (List ℕ))
    → WritesTold what s commands (Err DiskFault) held held × WritesTold what s commands (Err NoMemory) held held
nothing_told which.State s commands held = (refl, refl)
nothing_told which.Report s commands held = (refl, refl)
nothing_told which.Audit s commands held = (refl, refl)
nothing_told (which.Answers asked) s commands held = (refl, refl)

-- once the last line is written where that stops
pub all_told : (what : Text) (s : State) (commands : List Command) (end : Result (Unit {0}) Halt) (fault : Type 0)
    (before middle now : Option (List ℕ))
    → WritesTold what s commands end before middle
    → ((text : List ℕ) → WritesAll text end before middle → TellsAll text end fault before now)
    → EndsTelling what s commands end fault before now
all_told which.State s commands end fault before middle now wrote last =
    let so = state_told (standing s) end before middle wrote in
    (so.0, last (standing s) so.1)
all_told which.Report s commands end fault before middle now wrote last =
    let so = state_told (reported s) end before middle wrote in
    (so.0, last (reported s) so.1)
all_told which.Audit s commands end fault before middle now wrote last =
    let so = audit_told s commands end before middle wrote in
    (so.0, so.1, last so.0 so.2)
all_told (which.Answers asked) s commands end fault before middle now wrote last =
    let so = answers_told s commands asked end before middle wrote in
    (so.0, last (asked_text asked s.limit commands) so.1)
