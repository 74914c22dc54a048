-- A run at its end, its last line written.
use Rattle.std.proofs.Common.{◌≡◌, List, ℕ, [], ◌++◌, Option, Ok, Err, Result, refl, ap, subst, ◌∙◌, append-nil}
use Rattle.liq_outside.specs.At.{DiskAt}
use Rattle.liq_outside.specs.declared.showing.Showing.{Showing}
use Rattle.liq_types.specs.declared.requests.Request.{Request}
use Rattle.liq_types.specs.State.{State}
use Rattle.liq_types.specs.WellFormed.{IsWellFormed}
use Rattle.liq_text_lines.specs.Writing.{Writes}
use Rattle.liq_text_lines.proofs.Bytes.{writes_more}
use Rattle.liq_word_exit.specs.declared.halts.Halt.{Halt}
use Rattle.liq_word_exit.specs.declared.halts.Halt.TheVariants.{BadLine, ReadFault, WriteFault, DiskFault, Damaged, DamagedInput, NoMemory, Limit, Rotated}
use Rattle.liq_word_exit.specs.Output.{lines, last}
use Rattle.liq_word_exit.specs.Stops.{Adds, EndsIn, WritesUpTo}
use Rattle.liq_word_exit.proofs.EndingLines.{no_part}
use Rattle.liq_word_exit.proofs.Shares.{all_shares}
use Rattle.liq_word_run.specs.Progress.{GivesBack, WritesReplies, IsCutInLastLine}

line_behind : (fault : Type 0) (said line : List ℕ) (before now after : Option (List ℕ)) → Writes before said now
    → Adds [] line fault now after → Adds said line fault before after
line_behind fault said line before now after h adds =
    (adds.0, writes_more before now after said adds.0 h adds.1, adds.2)

cut_stays : (start : State) (fault : Type 0) (requests : List Request) (before now after : Option (List ℕ))
    → (part : List ℕ) × Writes before part now × IsCutInLastLine start part requests → Adds [] [] fault now after
    → (part : List ℕ) × Writes before part after × IsCutInLastLine start part requests
cut_stays start fault requests before now after h adds =
    let more = writes_more before now after h.0 adds.0 h.1 adds.1 in (
      h.0,
      subst (λ (t : List ℕ). Writes before t after)
          (ap (λ (t : List ℕ). h.0 ++ t) (no_part fault adds.0 adds.2) ∙ append-nil h.0) more,
      h.2,
    )

all_written : (start : State) (halt : Halt) (fault : Type 0) (requests : List Request)
    (before now after : Option (List ℕ)) → WritesReplies start (Err halt) requests before now
    → Adds [] (last halt) fault now after → WritesUpTo start (Err halt) fault requests before after
all_written start (BadLine n) fault requests before now after h adds = line_behind fault (lines start requests)
    (last (BadLine n)) before now after h adds
all_written start ReadFault fault requests before now after h adds = line_behind fault (lines start requests)
    (last ReadFault) before now after h adds
all_written start WriteFault fault requests before now after h adds = cut_stays start fault requests before now after
    h adds
all_written start DiskFault fault requests before now after h adds = line_behind fault (lines start requests)
    (last DiskFault) before now after h adds
all_written start (Damaged side number) fault requests before now after h adds = line_behind fault
    (lines start requests) (last (Damaged side number)) before now after h adds
all_written start NoMemory fault requests before now after h adds = line_behind fault (lines start requests)
    (last NoMemory) before now after h adds
all_written start (Limit number) fault requests before now after h adds = line_behind fault (lines start requests)
    (last (Limit number)) before now after h adds
all_written start (Rotated generation) fault requests before now after h adds = line_behind fault
    (lines start requests) (last (Rotated generation)) before now after h adds
all_written start (DamagedInput number) fault requests before now after h adds = line_behind fault
    (lines start requests) (last (DamagedInput number)) before now after h adds

module _ {D : Type 0} (at : D → DiskAt)
    (old_left old_right : D) (start : State) (formed : IsWellFormed start) (l r : List ℕ)
    (told unread : Option (List ℕ)) (fault : Type 0) (shown shown_now : Option (List Showing)) (left right : D) where
  abbrev Gives : Result (Unit {0}) Halt → Option (List ℕ) → Option (List ℕ) → Type 0
  Gives end before now = GivesBack at old_left old_right start end told l r unread before now shown
      shown_now left right

  abbrev EndsSo : Result (Unit {0}) Halt → Option (List ℕ) → Option (List ℕ) → Type 0
  EndsSo end before now = EndsIn at old_left old_right start end told l r unread fault before now
      shown shown_now left right

  ends_so : (end : Result (Unit {0}) Halt) (before now after : Option (List ℕ)) → (h : Gives end before now)
      → WritesUpTo start end fault h.requests before after → EndsSo end before after
  ends_so end before now after h written = record {
    requests = h.requests;
    few = h.few;
    why = h.why;
    read = h.read;
    written = written;
    disks = h.disks;
    fault = h.fault;
    fault_is = h.fault_is;
    past = h.past;
    answered = h.answered after;
    shares = all_shares start h.requests formed;
  }

  pub last_written : (halt : Halt) (before now after : Option (List ℕ)) → Gives (Err halt) before now
      → Adds [] (last halt) fault now after → EndsSo (Err halt) before after
  last_written halt before now after h adds = ends_so (Err halt) before now after h
      (all_written start halt fault h.requests before now after h.written adds)

  pub went_well : (end : Result (Unit {0}) Halt) (before now : Option (List ℕ))
      → ((halt : Halt) → end ≡ Err halt → ⊥) → Gives end before now → EndsSo end before now
  went_well (Ok done) before now well h = ends_so (Ok done) before now now h h.written
  went_well (Err halt) before now well h = absurd (well halt refl)
