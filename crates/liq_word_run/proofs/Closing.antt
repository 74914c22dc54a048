-- What waits at a run's end, written or cut.
use Rattle.std.proofs.Common.{◌≡◌, ℕ, List, [], ◌++◌, Option, None, Ok, Err, Result, refl, ap, sym, subst, ◌∙◌, append-nil, arith, length, inl, inr}
use Rattle.std.specs.Prelude.{◌⊎◌}
use Rattle.liq_types.specs.State.{State}
use Rattle.liq_types.specs.declared.requests.Request.{Request}
use Rattle.liq_core.specs.Core.{Core}
use Rattle.liq_word_exit.specs.declared.halts.Halt.{Halt}
use Rattle.liq_word_exit.specs.declared.halts.Halt.TheVariants.{BadLine, ReadFault, WriteFault, DiskFault, Damaged, DamagedInput, NoMemory, Limit, Rotated}
use Rattle.liq_word_exit.specs.Causes.{DiskCause, ReadCause}
use Rattle.liq_word_exit.specs.Output.{lines}
use Rattle.liq_word_exit.specs.Rest.{WritesRest, whole, cut}
use Rattle.liq_store.specs.Causes.{Faults}
use Rattle.liq_word_run.specs.Calls.{IsStopped}
use Rattle.liq_word_run.specs.Progress.{Ends, Comes, HaltsAt, Written, WritesReplies}
use Rattle.liq_text_lines.specs.Writing.{Writes, WritesPart}
use Rattle.liq_word_run.specs.Writing.{WritesFront}
use Rattle.liq_text_lines.proofs.Bytes.{writes_more}
use Rattle.liq_word_run.proofs.Cutting.{cut_comes}

-- ---- what waits at a run's end cannot be written

-- a run's end, of which this is written by then, and at which it halts so
ends_so : (start : State) (core : Core) (past : List Request → Type 0) (kept : State → Request
    → Type 0) (stopped : List Request → Request → Type 0) (end : Result (Unit {0}) Halt) (told left :
    Option (List ℕ)) (w : List ℕ) (before now after : Option (List ℕ))
    → (h : Comes start end core past kept stopped told left w before now)
    → WritesReplies start end h.requests before after → HaltsAt end told h.requests [] start past kept stopped
    → Ends start end core past kept stopped told left before after
ends_so start core past kept stopped end told left w before now after h written halted = record {
  requests = h.requests;
  few = h.few;
  why = h.why;
  read = h.read;
  written = written;
  stands = h.stands;
  halted = halted;
}

pub cut_ends : (start : State) (core : Core) (past : List Request → Type 0) (kept : State → Request
    → Type 0) (stopped : List Request → Request → Type 0) (told left : Option (List ℕ)) (w : List ℕ) (before now :
    Option (List ℕ)) → Comes start (Err WriteFault) core past kept stopped told left w before now
    → Ends start (Err WriteFault) core past kept stopped told left before now
cut_ends start core past kept stopped told left w before now h =
    ends_so start core past kept stopped (Err WriteFault) told left w before now now h h.written h.halted

waited : (start : State) (core : Core) (past : List Request → Type 0) (kept : State → Request
    → Type 0) (stopped : List Request → Request → Type 0) (end : Result (Unit {0}) Halt) (told left :
    Option (List ℕ)) (w : List ℕ) (before now : Option (List ℕ)) → (end ≡ Err WriteFault → ⊥)
    → (h : Comes start end core past kept stopped told left w before now) → Written start h.requests w before now
waited start core past kept stopped (Ok done) told left w before now other h = h.written
waited start core past kept stopped (Err (BadLine n)) told left w before now other h = h.written
waited start core past kept stopped (Err ReadFault) told left w before now other h = h.written
waited start core past kept stopped (Err WriteFault) told left w before now other h = absurd (other refl)
waited start core past kept stopped (Err NoMemory) told left w before now other h = h.written
waited start core past kept stopped (Err DiskFault) told left w before now other h = h.written
waited start core past kept stopped (Err (Damaged side number)) told left w before now other h = h.written
waited start core past kept stopped (Err (Limit number)) told left w before now other h = h.written
waited start core past kept stopped (Err (Rotated generation)) told left w before now other h = h.written
waited start core past kept stopped (Err (DamagedInput number)) told left w before now other h = h.written

-- of the requests it holds, or nothing waits behind a disk's fault
still_past : (past : List Request → Type 0) (kept : State → Request → Type 0) (stopped : List Request → Request
    → Type 0) (end : Result (Unit {0}) Halt) (told : Option (List ℕ)) (requests : List Request) (w : List ℕ) (start :
    State) → (end ≡ Err WriteFault → ⊥) → HaltsAt end told requests w start past kept stopped → past requests ⊎ (w ≡ [])
still_past past kept stopped (Ok done) told requests w start other h = inl h
still_past past kept stopped (Err (BadLine n)) told requests w start other h = inl h
still_past past kept stopped (Err ReadFault) told requests w start other h = inl h
still_past past kept stopped (Err WriteFault) told requests w start other h = absurd (other refl)
still_past past kept stopped (Err NoMemory) told requests w start other h = inl h
still_past past kept stopped (Err DiskFault) told requests w start other h = inr h.3
still_past past kept stopped (Err (Damaged side number)) told requests w start other h = inl h
still_past past kept stopped (Err (Limit number)) told requests w start other h = inl h
still_past past kept stopped (Err (Rotated generation)) told requests w start other h = inl h
still_past past kept stopped (Err (DamagedInput number)) told requests w start other h = inl h

pub closing_cut : (start : State) (core : Core) (past : List Request → Type 0) (kept : State → Request
    → Type 0) (stopped : List Request → Request → Type 0) (end : Result (Unit {0}) Halt) (halt : Halt) (told left :
    Option (List ℕ)) (w w' : List ℕ) (before now after : Option (List ℕ)) → (end ≡ Err WriteFault → ⊥)
    → Comes start end core past kept stopped told left w before now → WritesFront (Err halt) w w' now after
    → Ends start (Err halt) core past kept stopped told left before after
closing_cut start core past kept stopped end (BadLine n) told left w w' before now after other h f = absurd f
closing_cut start core past kept stopped end ReadFault told left w w' before now after other h f = absurd f
closing_cut start core past kept stopped end NoMemory told left w w' before now after other h f = absurd f
closing_cut start core past kept stopped end DiskFault told left w w' before now after other h f = absurd f
closing_cut start core past kept stopped end (Damaged side number) told left w w' before now after other h f = absurd f
closing_cut start core past kept stopped end (Limit number) told left w w' before now after other h f = absurd f
closing_cut start core past kept stopped end (Rotated generation) told left w w' before now after other h f = absurd f
closing_cut start core past kept stopped end (DamagedInput number) told left w w' before now after other h f = absurd f
closing_cut start core past kept stopped end WriteFault told left w w' before now after other h f =
    by (still_past past kept stopped end told h.requests w _ other h.halted) where
      by : past h.requests ⊎ (w ≡ []) → Ends start (Err WriteFault) core past kept stopped told left before after
      by (inl passed) =
          cut_ends start core past kept stopped told left w' before after
          (cut_comes start core past kept stopped told h.requests left w w' before now after h.few h.begins
          (waited start core past kept stopped end told left w before now other h) h.stands passed f)
      by (inr none) = absurd (omega (arith, f.1, ap length none))

-- ---- all that waits at a run's end is written

pub all_written : (start : State) (requests : List Request) (w w' : List ℕ) (before now after : Option (List ℕ))
    → Written start requests w before now → WritesFront (Ok tt) w w' now after → w' ≡ []
    → Writes before (lines start requests) after
all_written start requests w w' before now after h f none =
    let rest : w ≡ f.0 = f.2 ∙ ap (λ (t : List ℕ). f.0 ++ t) none ∙ append-nil f.0 in
    subst (λ (t : List ℕ). Writes before t after) (sym (h.replies ∙ ap (λ (t : List ℕ). h.front ++ t) rest))
    (writes_more before now after h.front f.0 h.writes f.1)

module _ (start : State) (core : Core) (past : List Request → Type 0) (kept : State → Request
    → Type 0) (stopped : List Request → Request → Type 0) (told left : Option (List ℕ)) (w w' : List ℕ)
    (before now after : Option (List ℕ)) where
  well : (end : Result (Unit {0}) Halt) → (h : Comes start end core past kept stopped told left w before now)
      → WritesReplies start end h.requests before after → HaltsAt end told h.requests [] start past kept stopped
      → Ends start end core past kept stopped told left before after
  well end = ends_so start core past kept stopped end told left w before now after

  written : (requests : List Request) → Written start requests w before now → WritesFront (Ok tt) w w' now after
      → w' ≡ [] → Writes before (lines start requests) after
  written requests = all_written start requests w w' before now after

  pub closing_well : (end : Result (Unit {0}) Halt) → (end ≡ Err WriteFault → ⊥)
      → Comes start end core past kept stopped told left w before now → WritesFront (Ok tt) w w' now after → w' ≡ []
      → Ends start end core past kept stopped told left before after
  closing_well (Ok done) other h f none = well _ h (written h.requests h.written f none) h.halted
  closing_well (Err (BadLine n)) other h f none = well _ h (written h.requests h.written f none) h.halted
  closing_well (Err ReadFault) other h f none = well _ h (written h.requests h.written f none) h.halted
  closing_well (Err NoMemory) other h f none = well _ h (written h.requests h.written f none) h.halted
  closing_well (Err DiskFault) other h f none =
      well (Err DiskFault) h (written h.requests h.written f none)
      (h.halted.0, h.halted.1, h.halted.2, refl, h.halted.4, h.halted.5)
  closing_well (Err (Damaged side number)) other h f none = well _ h (written h.requests h.written f none) h.halted
  closing_well (Err (Limit number)) other h f none = well _ h (written h.requests h.written f none) h.halted
  closing_well (Err (Rotated generation)) other h f none = well _ h (written h.requests h.written f none) h.halted
  closing_well (Err (DamagedInput number)) other h f none = well _ h (written h.requests h.written f none) h.halted
  closing_well (Err WriteFault) other h f none = absurd (other refl)

-- ---- what is written at a run's end, whichever it is

module _ (w : List ℕ) (now after : Option (List ℕ)) where
  -- a front of nothing is written whole
  rest_fails : WritesPart now w after → w ≡ [] → ⊥
  rest_fails part none = omega (arith, part.1, ap length none)

  by_rest : (P : Result (Unit {0}) Halt → Type 0) (end result : Result (Unit {0}) Halt) → (WritesPart now w after
      → P end → P (Err WriteFault)) → WritesRest end w now after result → P end → P result
  by_rest P end result cuts (whole is writes) p = subst P (sym is) p
  by_rest P end result cuts (cut is part) p = subst P (sym is) (cuts part p)

  by_end : (end : Result (Unit {0}) Halt) → (end ≡ Err WriteFault) ⊎ (end ≡ Err WriteFault → ⊥)
  by_end (Ok done) = inr (λ e. cc e)
  by_end (Err (BadLine n)) = inr (λ e. cc e)
  by_end (Err ReadFault) = inr (λ e. cc e)
  by_end (Err WriteFault) = inl refl
  by_end (Err NoMemory) = inr (λ e. cc e)
  by_end (Err DiskFault) = inr (λ e. cc e)
  by_end (Err (Damaged side number)) = inr (λ e. cc e)
  by_end (Err (Limit number)) = inr (λ e. cc e)
  by_end (Err (Rotated generation)) = inr (λ e. cc e)
  by_end (Err (DamagedInput number)) = inr (λ e. cc e)

  kept : (P : Result (Unit {0}) Halt → Type 0) (end result : Result (Unit {0}) Halt) → (WritesPart now w after → P end
      → P (Err WriteFault)) → (end ≡ Err WriteFault → result ≡ end) → ((end ≡ Err WriteFault → ⊥)
      → WritesRest end w now after result) → P end → P result
  kept P end result cuts shut written p = by (by_end end) where
    by : (end ≡ Err WriteFault) ⊎ (end ≡ Err WriteFault → ⊥) → P result
    by (inl is) = subst P (sym (shut is)) p
    by (inr other) = by_rest P end result cuts (written other) p

  cuts_source : (old new : ℕ) (end : Result (Unit {0}) Halt) → (end ≡ Err ReadFault → w ≡ []) → WritesPart now w after
      → ReadCause end old new → new ≡ old
  cuts_source old new (Err ReadFault) none part h = absurd (rest_fails part (none refl))
  cuts_source old new (Ok done) none part h = h
  cuts_source old new (Err (BadLine n)) none part h = h
  cuts_source old new (Err WriteFault) none part h = h
  cuts_source old new (Err NoMemory) none part h = h
  cuts_source old new (Err DiskFault) none part h = h
  cuts_source old new (Err (Damaged side number)) none part h = h
  cuts_source old new (Err (Limit number)) none part h = h
  cuts_source old new (Err (Rotated generation)) none part h = h
  cuts_source old new (Err (DamagedInput number)) none part h = h

  cuts_disks : (old new : Faults) (end : Result (Unit {0}) Halt) → (end ≡ Err DiskFault → w ≡ [])
      → WritesPart now w after → DiskCause end old new → new ≡ old
  cuts_disks old new (Err DiskFault) none part h = absurd (rest_fails part (none refl))
  cuts_disks old new (Ok done) none part h = h
  cuts_disks old new (Err (BadLine n)) none part h = h
  cuts_disks old new (Err WriteFault) none part h = h
  cuts_disks old new (Err NoMemory) none part h = h
  cuts_disks old new (Err ReadFault) none part h = h
  cuts_disks old new (Err (Damaged side number)) none part h = h
  cuts_disks old new (Err (Limit number)) none part h = h
  cuts_disks old new (Err (Rotated generation)) none part h = h
  cuts_disks old new (Err (DamagedInput number)) none part h = h

  cuts_stopped : (stopped : Option ℕ) (end : Result (Unit {0}) Halt) → (end ≡ Err DiskFault → w ≡ [])
      → WritesPart now w after → IsStopped end stopped → stopped ≡ None
  cuts_stopped stopped (Err DiskFault) none part h = absurd (rest_fails part (none refl))
  cuts_stopped stopped (Ok done) none part h = h
  cuts_stopped stopped (Err (BadLine n)) none part h = h
  cuts_stopped stopped (Err WriteFault) none part h = h
  cuts_stopped stopped (Err NoMemory) none part h = h
  cuts_stopped stopped (Err ReadFault) none part h = h
  cuts_stopped stopped (Err (Damaged side number)) none part h = h
  cuts_stopped stopped (Err (Limit number)) none part h = h
  cuts_stopped stopped (Err (Rotated generation)) none part h = absurd h
  cuts_stopped stopped (Err (DamagedInput number)) none part h = h

  module _ (end result : Result (Unit {0}) Halt) (shut : end ≡ Err WriteFault
      → result ≡ end) (written : (end ≡ Err WriteFault → ⊥) → WritesRest end w now after result) where
    pub rest_source : (old new : ℕ) → (end ≡ Err ReadFault → w ≡ []) → ReadCause end old new → ReadCause result old new
    rest_source old new none h = kept (λ (e : Result (Unit {0}) Halt). ReadCause e old new) end result
        (cuts_source old new end none) shut written h

    pub rest_disks : (old new : Faults) → (end ≡ Err DiskFault → w ≡ []) → DiskCause end old new
        → DiskCause result old new
    rest_disks old new none h = kept (λ (e : Result (Unit {0}) Halt). DiskCause e old new) end result
        (cuts_disks old new end none) shut written h

    pub rest_stopped : (stopped : Option ℕ) → (end ≡ Err DiskFault → w ≡ []) → IsStopped end stopped
        → IsStopped result stopped
    rest_stopped stopped none h = kept (λ (e : Result (Unit {0}) Halt). IsStopped e stopped) end result
        (cuts_stopped stopped end none) shut written h

    pub rest_run : (start : State) (core : Core) (past : List Request → Type 0) (kept_so : State → Request
        → Type 0) (stopped : List Request → Request → Type 0) (told left before : Option (List ℕ))
        → (end ≡ Err WriteFault → after ≡ now) → Comes start end core past kept_so stopped told left w before now
        → Ends start result core past kept_so stopped told left before after
    rest_run start core past kept_so stopped told left before stays h = by (by_end end) where
      so : (end ≡ Err WriteFault → ⊥) → WritesRest end w now after result
          → Ends start result core past kept_so stopped told left before after
      so other (whole is writes) =
          subst (λ (e : Result (Unit {0}) Halt). Ends start e core past kept_so stopped told left before after) (sym is)
          (closing_well start core past kept_so stopped told left w [] before now after end other h (
            w,
            writes,
            sym (append-nil w),
          ) refl)
      so other (cut is part) =
          subst (λ (e : Result (Unit {0}) Halt). Ends start e core past kept_so stopped told left before after) (sym is)
          (closing_cut start core past kept_so stopped end WriteFault told left w [] before now after other h part)

      by : (end ≡ Err WriteFault) ⊎ (end ≡ Err WriteFault → ⊥)
          → Ends start result core past kept_so stopped told left before after
      by (inl is) =
          let came = subst (λ (e : Result (Unit {0}) Halt). Comes start e core past kept_so stopped told left w before
          now) is h in
          let ends = cut_ends start core past kept_so stopped told left w before now came in
          subst (λ (e : Result (Unit {0}) Halt). Ends start e core past kept_so stopped told left before after)
          (sym (shut is ∙ is))
          (subst (λ (held : Option (List ℕ)). Ends start (Err WriteFault) core past kept_so stopped told left before
          held) (sym (stays is)) ends)
      by (inr other) = so other (written other)
