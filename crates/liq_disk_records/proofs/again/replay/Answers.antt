use Rattle.std.proofs.Common.{◌∙◌, ◌<◌, ap, length, arith}
use Rattle.liq_journal.specs.Settled.{JournalOn}
use Rattle.liq_journal.proofs.Looks.{looked_on}
use Rattle.liq_disk_records.proofs.Replaying.{goes_on, stops_there, reached_all, journal_still}
use Rattle.liq_disk_records.proofs.again.replay.Goals as goal

pub returns-in-Err-clause-looked : goal.returns-in-Err-clause-looked
returns-in-Err-clause-looked g c = looked_on g.D.Disk.at c.args.journal.now.disk c.loop-done.journal.disk
    c.redo_record.new.journal.disk c.loop-done.invariant.looked c.redo_record.ensures.looked

pub returns-in-Err-clause-replayed : goal.returns-in-Err-clause-replayed
returns-in-Err-clause-replayed g c held w s told journal counted stands =
    let before = c.loop-done.invariant.reached held w s told journal counted stands in
    let within : c.loop-done.done < length w.commands = omega (arith, counted, c.records-done-end.ensures) in
    stops_there s w.commands c.loop-done.done c.loop-done.protocol c.redo_record.new.protocol c.in-Err.fault
    within before
    (λ k recorded. c.in-Err.ensures.replayed held w before.state k (c.loop-done.invariant.looked.same
    ∙ told) (journal_still _ _ _ _ held w (ap (λ j. j.generation) c.loop-done.invariant.same)
    (ap (λ j. j.start) c.loop-done.invariant.same) journal) recorded before.stands)

pub loop-done-preserved : goal.loop-done-preserved
loop-done-preserved g c = record {
  looked = looked_on g.D.Disk.at c.args.journal.now.disk c.loop-done.journal.disk c.redo_record.new.journal.disk
      c.loop-done.invariant.looked c.redo_record.ensures.looked;
  same = c.redo_record.ensures.same
      ∙ ap (λ (j : JournalOn g.row.D.Denot). record j { disk = c.redo_record.new.journal.disk })
      c.loop-done.invariant.same;
  part = c.redo_record.ensures.part;
  still = c.in-Ok.ensures.cause ∙ c.loop-done.invariant.still;
  counted = omega (arith, c.in-Ok.ensures.counted, c.loop-done.invariant.counted);
  generation = c.in-Ok.ensures.generation ∙ c.loop-done.invariant.generation;
  reached = λ held w s told journal counted stands.
      let before = c.loop-done.invariant.reached held w s told journal counted stands in
      let within : c.loop-done.done < length w.commands = omega (arith, counted, c.records-done-end.ensures) in
      goes_on s w.commands c.loop-done.done c.loop-done.protocol c.redo_record.new.protocol within before
      (λ k recorded. c.in-Ok.ensures.replayed held w before.state k (c.loop-done.invariant.looked.same
      ∙ told) (journal_still _ _ _ _ held w (ap (λ j. j.generation) c.loop-done.invariant.same)
      (ap (λ j. j.start) c.loop-done.invariant.same) journal) recorded before.stands);
}

pub returns-clause-replayed : goal.returns-clause-replayed
returns-clause-replayed g c held w s told journal counted stands =
    reached_all s w.commands c.loop-done.done c.loop-done.protocol (omega (arith, counted, c.records-done-end.ensures))
    (c.loop-done.invariant.reached held w s told journal counted stands)
