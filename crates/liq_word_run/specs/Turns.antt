-- One turn of a run, and what a part of a run shows at its end.
use Rattle.std.specs.Prelude.{ℕ, ◌≡◌, ◌+◌, [], List, Option, Result, Err, Bool}
use Rattle.liq_outside.specs.At.{DiskAt, SinkAt, SourceAt}
use Rattle.liq_outside.specs.declared.disk.Disk.{Ghosts}
use Rattle.liq_store.specs.Causes.{counts_of}
use Rattle.liq_store.specs.Stored.{Stored}
use Rattle.liq_word_exit.specs.declared.halts.Halt.{Halt}
use Rattle.liq_word_exit.specs.declared.halts.Halt.TheVariants.{ReadFault, DiskFault}
use Rattle.liq_word_exit.specs.Causes.{DiskCause, ReadCause, WriteCause}
use Rattle.liq_text_lines.specs.Reading.{unread, ReadsFew}
use Rattle.liq_word_run.specs.declared.run.Run.{Run}
use Rattle.liq_word_run.specs.Calls.{GoOn, IsStopped, KeepsAround}
use Rattle.liq_word_run.specs.Passing.{Begun, IsPastOf, IsStoppedPastOf}
use Rattle.liq_word_run.specs.Progress.{Answered, Comes, Ends, Turns}

-- Where a run has come to: its store, the bytes that were taken from the source and not answered
-- yet, what it still tells, the replies that wait, and its sink.
pub record Reached (D : Type 0) : Type 0 where
  pub store : Stored D
  pub taken : List ℕ
  pub left : Option (List ℕ)
  pub waiting : List ℕ
  pub sink : SinkAt

abbrev pub run_at : {D : Type 0} → Stored D → List ℕ → List ℕ → Option (List ℕ) → SinkAt → Reached D
run_at store taken waiting left sink =
    record { store = store; taken = taken; left = left; waiting = waiting; sink = sink }

-- the place of this run, whose source and sink are so
abbrev pub place_of :
    {D : Type 0} {d : Ghosts D} → Run D d → SourceAt → SinkAt → Reached D
place_of run source sink = run_at run.store run.reader run.waiting.items source.left sink

module _ {D : Type 0} (at : D → DiskAt) (begun : Begun D) (told : Option (List ℕ)) where
  -- A run that began so, and whose source told this, answered n lines.
  abbrev pub HasAnswered : ℕ → Reached D → Type 0
  HasAnswered n place =
      Answered begun.start told n place.store.core (unread place.taken place.left) place.waiting
      begun.held place.sink.held
      (λ requests. IsPastOf at begun requests place.store place.sink.shown)

  -- one line more, or it came to its end
  abbrev pub HasTurned : ℕ → Reached D → Result Bool Halt → Type 0
  HasTurned n place result =
      Turns begun.start (λ requests. IsPastOf at begun requests place.store place.sink.shown)
      (KeepsAround at place.store.left place.store.right)
      (λ requests request. IsStoppedPastOf at begun requests request place.store place.sink.shown)
      told n place.store.core (unread place.taken place.left) place.left place.waiting
      begun.held place.sink.held result

  -- it came to this end, at which some replies may wait
  abbrev pub HasCome : Reached D → Result (Unit {0}) Halt → Type 0
  HasCome place end =
      Comes begun.start end place.store.core
      (λ requests. IsPastOf at begun requests place.store place.sink.shown)
      (KeepsAround at place.store.left place.store.right)
      (λ requests request. IsStoppedPastOf at begun requests request place.store place.sink.shown)
      told place.left place.waiting begun.held place.sink.held

  -- none waits any more
  abbrev pub HasEnded : Reached D → Result (Unit {0}) Halt → Type 0
  HasEnded place end =
      Ends begun.start end place.store.core
      (λ requests. IsPastOf at begun requests place.store place.sink.shown)
      (KeepsAround at place.store.left place.store.right)
      (λ requests request. IsStoppedPastOf at begun requests request place.store place.sink.shown)
      told place.left begun.held place.sink.held

-- The next line was taken, of which there were n before it. Where these are answered, in whatever
-- way the run began, so is one more, or the run comes to its end; and no more bytes were taken than
-- a line has.
pub record TakesTurn
    {D : Type 0} (at : D → DiskAt) (n : ℕ) (old new : Reached D) (result : Result Bool Halt)
    : Type 0 where
  pub turn :
      (begun : Begun D) (told : Option (List ℕ)) → HasAnswered at begun told n old
      → HasTurned at begun told n new result
  pub few :
      (before : Option (List ℕ))
      → ReadsFew before n old.taken old.left → ReadsFew before (n + 1) new.taken new.left

-- A part of a run came to this answer. At a fault of the source or of a disk no reply waits; each
-- fault is counted; the store is stopped by a disk's alone; and both disks go on.
pub record PartShows
    {D T : Type 0} (at : D → DiskAt) (old new : Stored D) (waiting : List ℕ)
    (source_old source_new sink_old sink_new : ℕ) (result : Result T Halt) : Type 0 where
  pub caught_up : result ≡ Err ReadFault → waiting ≡ []
  pub caught_up_too : result ≡ Err DiskFault → waiting ≡ []
  pub source : ReadCause result source_old source_new
  pub sink : WriteCause result sink_old sink_new
  pub stopped : IsStopped result new.stopped
  pub time : GoOn at old new
  pub disks : DiskCause result (counts_of at old.left old.right) (counts_of at new.left new.right)

-- the same of a run, with its source and its sink before and after
abbrev pub RunShows :
    {D T : Type 0} {d : Ghosts D} → (D → DiskAt) → Run D d → SourceAt → SinkAt
    → Run D d → SourceAt → SinkAt → Result T Halt → Type 0
RunShows at old source_old sink_old new source_new sink_new result =
    PartShows at old.store new.store new.waiting.items source_old.faults source_new.faults
    sink_old.faults sink_new.faults result
