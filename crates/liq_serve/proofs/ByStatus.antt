-- What an exit status says by itself.
use Rattle.std.proofs.Common.{◌≡◌, ◌≤◌, ℕ, List, Ok, Err, Result, refl, sym, subst, inl, inr, arith}
use Rattle.std.specs.Prelude.{◌⊎◌, IsSome}
use Rattle.liq_outside.specs.At.{DiskAt, SinkAt, SourceAt}
use Rattle.liq_outside.specs.Disk.{GoesOn}
use Rattle.liq_outside.proofs.Moments.{unmoved}
use Rattle.liq_store.specs.Causes.{counts_of}
use Rattle.liq_word_line.specs.declared.words.Word.{Word}
use Rattle.liq_word_line.specs.Words.{Ask}
use Rattle.liq_word_exit.specs.declared.halts.Halt.{Halt}
use Rattle.liq_word_exit.specs.declared.halts.Halt.TheVariants.{BadLine, ReadFault, WriteFault, DiskFault, Damaged, DamagedInput, NoMemory, Limit, Rotated}
use Rattle.liq_word_exit.specs.Causes.{HasCauses}
use Rattle.liq_word_exit.specs.Outside.{Outside}
use Rattle.liq_word_exit.specs.Statuses.{status_of}
use Rattle.liq_word_exit.proofs.Causes.{disk_causes, sink_causes, six, source_causes}
use Rattle.liq_serve.specs.ByStatus.{ByStatus}
use Rattle.liq_serve.specs.Top.{Ends}
use Rattle.liq_serve.proofs.Asking.{asks_or_not}

known_end : (end : Result (Unit {0}) Halt) → status_of end ≤ 9
known_end (Ok done) = omega arith
known_end (Err (BadLine n)) = omega arith
known_end (Err ReadFault) = omega arith
known_end (Err WriteFault) = omega arith
known_end (Err DiskFault) = omega arith
known_end (Err (Damaged side number)) = omega (arith, six side number)
known_end (Err (DamagedInput number)) = omega arith
known_end (Err NoMemory) = omega arith
known_end (Err (Limit number)) = omega arith
known_end (Err (Rotated generation)) = omega arith

module _
    {S K D : Type 0} (source_at : S → SourceAt) (sink_at : K → SinkAt) (disk_at : D → DiskAt)
    (before after : Outside S K D) where
  abbrev Says : ℕ → Type 0
  Says status = ByStatus source_at sink_at disk_at before after status

  -- where a word came to this end
  of_end : (end : Result (Unit {0}) Halt) → HasCauses source_at sink_at disk_at before after end
      → Says (status_of end)
  of_end end causes =
      let source = source_causes end (source_at before.source).faults (source_at after.source).faults causes.source in
      let sink = sink_causes end (sink_at before.sink).faults (sink_at after.sink).faults causes.sink in
      let disks = disk_causes end (counts_of disk_at before.left before.right)
      (counts_of disk_at after.left after.right) causes.disks.count in
      record {
        known = known_end end;
        source_fault = source.0;
        source_same = source.1;
        sink_fault = sink.0;
        sink_same = sink.1;
        disk_fault = disks.0;
        disk_same = disks.1;
        left_telling = causes.disks.left_telling;
        right_telling = causes.disks.right_telling;
        left_time = causes.disks.left_time;
        right_time = causes.disks.right_time;
      }

  -- where the words ask for nothing: but for the sink all is as it was
  of_usage : after ≡ record before { sink = after.sink } → Says 1
  of_usage same =
      let now : (P : Outside S K D → Type 0) → P (record before { sink = after.sink }) → P after =
      λ P p. subst P (sym same) p in
      record {
        known = omega arith;
        source_fault = λ is. absurd (omega (arith, is));
        source_same = λ other. now (λ o. (source_at o.source).faults ≡ (source_at before.source).faults) refl;
        sink_fault = λ is. absurd (omega (arith, is));
        sink_same = λ is. absurd (omega (arith, is));
        disk_fault = λ is. absurd (omega (arith, is));
        disk_same = λ other.
            now (λ o. counts_of disk_at o.left o.right ≡ counts_of disk_at before.left before.right) refl;
        left_telling = (
          now (λ o. IsSome (disk_at o.left).seen → IsSome (disk_at before.left).seen) (λ told. told),
          now (λ o. IsSome (disk_at before.left).seen → IsSome (disk_at o.left).seen) (λ told. told),
        );
        right_telling = (
          now (λ o. IsSome (disk_at o.right).seen → IsSome (disk_at before.right).seen) (λ told. told),
          now (λ o. IsSome (disk_at before.right).seen → IsSome (disk_at o.right).seen) (λ told. told),
        );
        left_time = now (λ o. GoesOn disk_at before.left o.left) (unmoved disk_at before.left);
        right_time = now (λ o. GoesOn disk_at before.right o.right) (unmoved disk_at before.right);
      }

  pub by_status : (status : ℕ) (words : List (List ℕ)) → Ends source_at sink_at disk_at before after status words
      → Says status
  by_status status words ends = by (asks_or_not words) where
    by : ((word : Word) × Ask words word) ⊎ ((word : Word) → Ask words word → ⊥) → Says status
    by (inl (word, asked)) =
        let e = ends.ends word asked in
        subst Says (sym e.status_is) (of_end e.end e.causes)
    by (inr none) =
        let one = ends.understood.1 none in
        subst Says (sym one) (of_usage (ends.usage one).0)
