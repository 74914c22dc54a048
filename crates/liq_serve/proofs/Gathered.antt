-- Lines of one kind, read to their end or not.
use Rattle.std.proofs.Common.{◌≡◌, ℕ, ◌≤◌, List, [], length, Option, Some, Ok, Err, refl, sym, subst, ap, arith, inl, inr}
use Rattle.std.specs.Prelude.{Vec}
use Rattle.std.specs.Global.{Global}
use Rattle.std.specs.List.{AllZip}
use Rattle.liq_outside.specs.At.{DiskAt, SinkAt, SourceAt}
use Rattle.liq_outside.specs.Faults.{Rose}
use Rattle.liq_types.specs.declared.requests.Command.{Command}
use Rattle.liq_text_gather.specs.Gathering as lines
use Rattle.liq_text_lines.specs.declared.stops.Stop.{Stop}
use Rattle.liq_text_lines.specs.declared.stops.Stop.TheVariants as stop
use Rattle.liq_text_lines.specs.Lines.{lines_in}
use Rattle.liq_store.specs.Causes.{Faults}
use Rattle.liq_word_exit.specs.Causes.{DiskCause, LastCause, ReadCause}
use Rattle.liq_word_exit.specs.Output.{last}
use Rattle.liq_word_exit.specs.Statuses.{End}
use Rattle.liq_word_exit.specs.Stops.{Adds, TellsBehind}
use Rattle.liq_word_state.specs.Answers.{IsAnswerOf}
use Rattle.liq_serve.specs.Finishing.{halt_at}
use Rattle.liq_word_exit.specs.Outside.{Outside}
use Rattle.liq_serve.specs.Top.{AnswersLines, TellsFound}
use Rattle.liq_serve.proofs.Served.{read_so, stopping}

-- these lines were gathered
abbrev pub AreGathered : {X : Type 0} → Vec X Global → List X → Type 0
AreGathered items said = items.items ≡ said

-- ---- where reading stopped

-- the counts
pub stop_source : (X : Type 0) (why_not : Stop) (before after : ℕ)
    → lines.ReadCause {T = Vec X Global} (Err why_not) before after
    → ReadCause {T = Unit {0}} (Err (halt_at why_not)) before after
stop_source X (stop.BadLine number) before after c = c
stop_source X stop.ReadFault before after c = c
stop_source X stop.NoMemory before after c = c
stop_source X stop.Limit before after c = c

pub stop_sink : (why_not : Stop) (before after : ℕ) → before ≤ after
    → LastCause (Err (halt_at why_not)) before after
stop_sink (stop.BadLine number) before after fewer = fewer
stop_sink stop.ReadFault before after fewer = fewer
stop_sink stop.NoMemory before after fewer = fewer
stop_sink stop.Limit before after fewer = fewer

pub stop_disks : (why_not : Stop) (counts : Faults) → DiskCause {T = Unit {0}} (Err (halt_at why_not)) counts counts
stop_disks (stop.BadLine number) counts = refl
stop_disks stop.ReadFault counts = refl
stop_disks stop.NoMemory counts = refl
stop_disks stop.Limit counts = refl

-- the last line alone is written
stop_told : (why_not : Stop) (fault : Type 0) (before now : Option (List ℕ))
    → Adds [] (last (halt_at why_not)) fault before now → TellsBehind [] [] (Err (halt_at why_not)) fault before now
stop_told (stop.BadLine number) fault before now h = h
stop_told stop.ReadFault fault before now h = h
stop_told stop.NoMemory fault before now h = h
stop_told stop.Limit fault before now h = h

module _
    {S K D : Type 0} (source_at : S → SourceAt) (sink_at : K → SinkAt) (disk_at : D → DiskAt) {X : Type 0}
    (Says : List ℕ → X → Type 0)
    (text : ℕ → List Command → List X → List ℕ) where
  -- reading stopped: a last line is written
  pub lines_stopped :
      (before after : Outside S K D) (why_not : Stop)
      → lines.Gathers Says AreGathered (Err why_not) (source_at before.source).left (source_at after.source).left
      → after.left ≡ before.left → after.right ≡ before.right
      → (let fault = Rose (sink_at before.sink).faults (sink_at after.sink).faults in Adds [] (last (halt_at why_not))
      fault (sink_at before.sink).held (sink_at after.sink).held)
      → AnswersLines source_at sink_at disk_at before after Says text (Err (halt_at why_not))
  lines_stopped before after why_not read left right told =
      record {
        asked = read.said;
        few = read.few;
        reading = Err (halt_at why_not);
        read = λ bytes is. read_so Says why_not bytes (source_at after.source).left read.said (read.read bytes is);
        came = inl (
          refl,
          (left, right, stopping why_not),
          stop_told why_not _ (sink_at before.sink).held (sink_at after.sink).held told,
        );
      }

  -- ---- where all lines were read

  pub lines_whole :
      (before after : Outside S K D) (items : Vec X Global) (end : End)
      → lines.Gathers Says AreGathered (Ok items) (source_at before.source).left (source_at after.source).left
      → TellsFound source_at sink_at disk_at before after end (λ start commands it. IsAnswerOf start commands end
      × (it ≡ text start.limit commands items.items))
      → AnswersLines source_at sink_at disk_at before after Says text end
  lines_whole before after items end read answers =
      record {
        asked = items.items;
        few = omega (arith, read.few, ap length read.has);
        reading = Ok tt;
        read = λ bytes is. subst (λ (said : List X). AllZip Says (lines_in bytes) said
            × ((source_at after.source).left ≡ Some [])) (sym read.has) (read.read bytes is);
        came = inr (refl, answers);
      }

-- a word that read nothing more keeps the source's count
pub source_kept : (end : End) (before after : ℕ) → after ≡ before → ReadCause end after after
    → ReadCause end before after
source_kept end before after same c = subst (λ (n : ℕ). ReadCause end n after) same c
