-- What a part of a run shows at its end, behind what came before it.
use Rattle.std.proofs.Common.{ℕ, ◌≡◌, ◌≤◌, List, [], None, Result, Err, refl, ap, sym, subst}
use Rattle.liq_outside.specs.At.{DiskAt}
use Rattle.liq_outside.specs.Faults.{Rose}
use Rattle.liq_store.specs.Causes.{Faults, counts_of}
use Rattle.liq_store.specs.Stored.{Stored}
use Rattle.liq_word_exit.specs.declared.halts.Halt.{Halt}
use Rattle.liq_word_exit.specs.declared.halts.Halt.TheVariants.{BadLine, ReadFault, WriteFault, DiskFault, Damaged, DamagedInput, NoMemory, Limit, Rotated}
use Rattle.liq_word_exit.specs.Causes.{DiskCause, ReadCause, WriteCause}
use Rattle.liq_word_run.specs.Calls.{GoOn, IsStopped}
use Rattle.liq_word_run.specs.Turns.{PartShows}
use Rattle.liq_word_run.proofs.Passing.{behind}
use Rattle.liq_word_run.proofs.Residual.{same_halt}

module _ {D : Type 0} (at : D → DiskAt) where
  -- before it time went on and no fault was counted
  pub shows_behind : {T : Type 0} (old mid new : Stored D) (waiting : List ℕ)
      (source_old source_mid source_new sink_old sink_mid sink_new : ℕ) (result : Result T Halt)
      → GoOn at old mid → counts_of at mid.left mid.right ≡ counts_of at old.left old.right
      → source_mid ≡ source_old → sink_mid ≡ sink_old
      → PartShows at mid new waiting source_mid source_new sink_mid sink_new result
      → PartShows at old new waiting source_old source_new sink_old sink_new result
  shows_behind old mid new waiting source_old source_mid source_new sink_old sink_mid sink_new result time
      disks_count source_count sink_count h = record {
        caught_up = h.caught_up;
        caught_up_too = h.caught_up_too;
        source = subst (λ (n : ℕ). ReadCause result n source_new) source_count h.source;
        sink = subst (λ (n : ℕ). WriteCause result n sink_new) sink_count h.sink;
        stopped = h.stopped;
        time = behind at old mid new time h.time;
        disks = subst (λ (before : Faults). DiskCause result before (counts_of at new.left new.right)) disks_count
            h.disks;
      }

  module _ (old new : Stored D) (waiting : List ℕ) (source_old source_new sink_old sink_new : ℕ) where
    shows_as : {T U : Type 0} (halt : Halt)
        → PartShows {T = T} at old new waiting source_old source_new sink_old sink_new (Err halt)
        → ReadCause {T = U} (Err halt) source_old source_new → WriteCause {T = U} (Err halt) sink_old sink_new
        → IsStopped {T = U} (Err halt) new.stopped
        → DiskCause {T = U} (Err halt) (counts_of at old.left old.right) (counts_of at new.left new.right)
        → PartShows {T = U} at old new waiting source_old source_new sink_old sink_new (Err halt)
    shows_as halt h source sink stopped disks = record {
      caught_up = λ is. h.caught_up (ap Err (same_halt _ halt ReadFault refl is));
      caught_up_too = λ is. h.caught_up_too (ap Err (same_halt _ halt DiskFault refl is));
      source = source;
      sink = sink;
      stopped = stopped;
      time = h.time;
      disks = disks;
    }

    -- a part that halts shows the same, whatever it was to give
    as_it_halts : {T U : Type 0} (halt : Halt)
        → PartShows {T = T} at old new waiting source_old source_new sink_old sink_new (Err halt)
        → PartShows {T = U} at old new waiting source_old source_new sink_old sink_new (Err halt)
    as_it_halts (BadLine n) h = shows_as (BadLine n) h h.source h.sink h.stopped h.disks
    as_it_halts ReadFault h = shows_as ReadFault h h.source h.sink h.stopped h.disks
    as_it_halts WriteFault h = shows_as WriteFault h h.source h.sink h.stopped h.disks
    as_it_halts DiskFault h = shows_as DiskFault h h.source h.sink h.stopped h.disks
    as_it_halts (Damaged side number) h = shows_as (Damaged side number) h h.source h.sink h.stopped h.disks
    as_it_halts NoMemory h = shows_as NoMemory h h.source h.sink h.stopped h.disks
    as_it_halts (Limit number) h = shows_as (Limit number) h h.source h.sink h.stopped h.disks
    as_it_halts (Rotated generation) h = shows_as (Rotated generation) h h.source h.sink h.stopped h.disks
    as_it_halts (DamagedInput number) h = shows_as (DamagedInput number) h h.source h.sink h.stopped h.disks

    pub shows_halt : {T U : Type 0} (end : Result U Halt) (halt : Halt) → end ≡ Err halt
        → PartShows {T = T} at old new waiting source_old source_new sink_old sink_new (Err halt)
        → PartShows at old new waiting source_old source_new sink_old sink_new end
    shows_halt end halt is h =
        subst (λ e. PartShows at old new waiting source_old source_new sink_old sink_new e) (sym is)
        (as_it_halts halt h)

    -- the sink met a fault at what waited, and nothing else was called
    pub shows_cut : (end : Result (Unit {0}) Halt) (sink_mid : ℕ) → end ≡ Err WriteFault → waiting ≡ []
        → source_new ≡ source_old → sink_mid ≡ sink_old → WriteCause end sink_mid sink_new → new.stopped ≡ None
        → GoOn at old new → counts_of at new.left new.right ≡ counts_of at old.left old.right
        → PartShows at old new waiting source_old source_new sink_old sink_new end
    shows_cut end sink_mid is none source_count sink_count cause going time disks_count =
        subst (λ e. PartShows at old new waiting source_old source_new sink_old sink_new e) (sym is) (record {
          caught_up = λ same. none;
          caught_up_too = λ same. none;
          source = source_count;
          sink = subst (λ (n : ℕ). (n ≤ sink_new) × Rose n sink_new) sink_count
              (subst (λ (e : Result (Unit {0}) Halt). WriteCause e sink_mid sink_new) is cause);
          stopped = going;
          time = time;
          disks = disks_count;
        })
