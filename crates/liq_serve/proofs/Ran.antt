-- How a run ends, as the clause of the top call says it.
use Rattle.std.proofs.Common.{◌≡◌, ◌≢◌, ◌<◌, ℕ, List, [], ◌∷◌, ◌++◌, length, take, Option, Ok, Err, refl, sym, ap, subst, ◌∙◌, arith}
use Rattle.std.proofs.Math.Seq.{take-append_seam}
use Rattle.std.proofs.lemmas.List.{length-append}
use Rattle.liq_outside.specs.At.{DiskAt, SinkAt, SourceAt}
use Rattle.liq_outside.specs.Faults.{Rose}
use Rattle.liq_types.specs.declared.requests.Request.{Request}
use Rattle.liq_types.specs.State.{State}
use Rattle.liq_text_lines.specs.Writing.{Writes}
use Rattle.liq_word_exit.specs.declared.halts.Halt.TheVariants.{BadLine, ReadFault, WriteFault, DiskFault, Damaged, DamagedInput, NoMemory, Limit, Rotated}
use Rattle.liq_word_exit.specs.Disks.{OfBoth, OfDamage, OfState}
use Rattle.liq_word_exit.specs.Output.{lines}
use Rattle.liq_word_exit.specs.Statuses.{End}
use Rattle.liq_word_exit.specs.Stops.{EndsIn, TellsBehind, WritesUpTo}
use Rattle.liq_word_exit.specs.Outside.{Outside}
use Rattle.liq_serve.specs.Top.{Finds, RunsTo}
use Rattle.liq_serve.proofs.Found.{TellsDamage, damage_told, finds_any, finds_by, of_told, of_untold}

-- ---- what was written

cut_within : (part missing whole : List ℕ) → missing ≢ [] → whole ≡ part ++ missing → length part < length whole
cut_within part [] whole some is = absurd (some refl)
cut_within part (x ∷ missing) whole some is =
    let count = ap (λ (t : List ℕ). length t) is ∙ length-append part (x ∷ missing) in
    omega (arith, count)

told : (start : State) (end : End) (fault : Type 0) (requests : List Request)
    (before now : Option (List ℕ)) → WritesUpTo start end fault requests before now
    → TellsBehind (lines start requests) (lines start requests) end fault before now
told start (Ok done) fault requests before now h = h
told start (Err (BadLine n)) fault requests before now h = h
told start (Err ReadFault) fault requests before now h = h
told start (Err WriteFault) fault requests before now
    (part, wrote, (earlier, final, are, front, (missing, some, whole))) =
    let front_is : take (length part) (lines start requests) ≡ part = ap (λ (t : List ℕ). take (length part) t) whole
    ∙ take-append_seam part missing in (
      length part,
      cut_within part missing (lines start requests) some whole,
      subst (λ (t : List ℕ). Writes before t now)
          (sym front_is) wrote,
    )
told start (Err DiskFault) fault requests before now h = h
told start (Err (Damaged side number)) fault requests before now h = h
told start (Err NoMemory) fault requests before now h = h
told start (Err (Limit number)) fault requests before now h = h
told start (Err (Rotated generation)) fault requests before now h = h
told start (Err (DamagedInput number)) fault requests before now h = h

cut_last : (start : State) (end : End) (fault : Type 0) (requests : List Request)
    (before now : Option (List ℕ)) → WritesUpTo start end fault requests before now → end ≡ Err WriteFault
    → (earlier : List Request) × (final : Request) × (requests ≡ earlier ++ final ∷ [])
    × ((part : List ℕ) × Writes before (lines start earlier ++ part) now)
cut_last start end fault requests before now h is = by
    (subst (λ (e : End). WritesUpTo start e fault requests before now) is h) where
      by : WritesUpTo start (Err WriteFault) fault requests before now → (earlier : List Request) × (final : Request)
          × (requests ≡ earlier ++ final ∷ []) × ((part : List ℕ) × Writes before (lines start earlier ++ part) now)
      by (part, wrote, (earlier, final, are, front, missing)) =
          (earlier, final, are, (front.0, subst (λ (t : List ℕ). Writes before t now) front.1 wrote))

module _
    {S K D : Type 0} (source_at : S → SourceAt) (sink_at : K → SinkAt) (disk_at : D → DiskAt)
    (before after : Outside S K D) where
  pub runs_to :
      (start : State) (end : End) (l r : List ℕ)
      → EndsIn disk_at before.left before.right start end (source_at before.source).left l r
      (source_at after.source).left
      (Rose (sink_at before.sink).faults (sink_at after.sink).faults) (sink_at before.sink).held
      (sink_at after.sink).held
      (sink_at before.sink).shown (sink_at after.sink).shown after.left after.right
      → RunsTo source_at sink_at disk_at before after end l r start
  runs_to start end l r h =
      let fault = Rose (sink_at before.sink).faults (sink_at after.sink).faults in
      record {
        requests = h.requests;
        few = h.few;
        why = h.why;
        read = h.read;
        written = told start end fault h.requests (sink_at before.sink).held (sink_at after.sink).held h.written;
        cut = cut_last start end fault h.requests (sink_at before.sink).held (sink_at after.sink).held h.written;
        disks = h.disks;
        fault = h.fault;
        fault_is = h.fault_is;
        past = h.past;
        answered = h.answered;
        shares = h.shares;
      }

  -- what a run finds on the disks
  pub run_found :
      (end : End)
      → OfState disk_at before.left before.right (λ l r start. EndsIn disk_at before.left before.right start end
      (source_at before.source).left l r (source_at after.source).left
      (Rose (sink_at before.sink).faults (sink_at after.sink).faults) (sink_at before.sink).held
      (sink_at after.sink).held
      (sink_at before.sink).shown (sink_at after.sink).shown after.left after.right)
      → OfDamage disk_at before.left before.right (λ l r side damage. (after.source ≡ before.source)
      × TellsDamage source_at sink_at disk_at before after end l r side damage)
      → Finds source_at sink_at disk_at before after end (after.source ≡ before.source) (λ start commands.
      OfBoth disk_at before.left before.right (λ l r. RunsTo source_at sink_at disk_at before after end l r start))
  run_found end ran damaged =
      finds_by source_at sink_at disk_at before after end (after.source ≡ before.source) _
      (λ l r start told_l told_r is. of_told disk_at before.left before.right
      (λ a b. RunsTo source_at sink_at disk_at before after end a b start) l r told_l told_r
      (runs_to start end l r (ran l r told_l told_r start is)))
      (λ l r side damage told_l told_r is.
      let so = damaged l r told_l told_r side damage is in
      (so.0, damage_told source_at sink_at disk_at before after end l r side damage so.1))
      (λ none. finds_any source_at sink_at disk_at before after end (after.source ≡ before.source) _
      (of_untold disk_at before.left before.right none _) none)
