use Rattle.std.proofs.Common.{◌≡◌, ◌∙◌, ◌+◌, ◌<◌, ℕ, [], ◌∷◌, length, ap, sym, subst, arith, length-append, false}
use Rattle.std.proofs.lemmas.List.Elements.{All-push}
use Rattle.std.specs.List.{All}
use Rattle.liq_types.specs.declared.requests.Command.{Command}
use Rattle.liq_journal.specs.Settled.{JournalOn}
use Rattle.liq_types.specs.Verbs.{is_rotate}
use Rattle.liq_journal.proofs.Looks.{looked_on}
use Rattle.liq_disk_records.specs.Reading.{CountsFault}
use Rattle.liq_store.specs.Answering.{IsUnreadable}
use Rattle.liq_store.proofs.Listing.{one_more}
use Rattle.liq_disk_records.proofs.Replaying.{journal_still}
use Rattle.liq_store.proofs.reading.read_commands.Goals as goal

pub returns-in-Err-clause-looked : goal.returns-in-Err-clause-looked
returns-in-Err-clause-looked g c = looked_on g.D.Disk.at c.args.journal.now.disk c.loop-done.journal.disk
    c.read_command.new.journal.disk c.loop-done.invariant.looked c.read_command.ensures.looked

pub returns-in-Err-push-clause-looked : goal.returns-in-Err-push-clause-looked
returns-in-Err-push-clause-looked g c = looked_on g.D.Disk.at c.args.journal.now.disk c.loop-done.journal.disk
    c.read_command.new.journal.disk c.loop-done.invariant.looked c.read_command.ensures.looked

pub loop-done-preserved : goal.loop-done-preserved
loop-done-preserved g c = record {
  looked = looked_on g.D.Disk.at c.args.journal.now.disk c.loop-done.journal.disk c.read_command.new.journal.disk
      c.loop-done.invariant.looked c.read_command.ensures.looked;
  same = c.read_command.ensures.same
      ∙ ap (λ (j : JournalOn g.row.D.Denot). record j { disk = c.read_command.new.journal.disk })
      c.loop-done.invariant.same;
  part = c.read_command.ensures.part;
  still = c.in-Ok.ensures.cause ∙ c.loop-done.invariant.still;
  counted = ap length c.in-Ok-push.ensures.items ∙ length-append c.loop-done.commands.items (c.in-Ok.command ∷ [])
      ∙ ap (λ n. n + 1) c.loop-done.invariant.counted;
  none_rotates = subst (All (λ (k : Command). is_rotate k.call ≡ false)) (sym c.in-Ok-push.ensures.items)
      (All-push (λ (k : Command). is_rotate k.call ≡ false) c.loop-done.commands.items c.in-Ok.command
      c.loop-done.invariant.none_rotates c.in-Ok.ensures.no_rotation);
  read = λ held w told journal enough.
      let within : c.loop-done.done < length w.commands = omega (arith, enough, c.records-done-end.ensures) in
      let here = c.in-Ok.ensures.command held w (c.loop-done.invariant.looked.same
      ∙ told) (journal_still _ _ _ _ held w (ap (λ j. j.generation) c.loop-done.invariant.same)
      (ap (λ j. j.start) c.loop-done.invariant.same) journal) (omega arith) in
      c.in-Ok-push.ensures.items ∙ one_more w.commands c.loop-done.commands.items c.loop-done.done c.in-Ok.command
      within here (c.loop-done.invariant.read held w told journal enough);
}

pub returns-in-Err-clause-readable : goal.returns-in-Err-clause-readable
returns-in-Err-clause-readable g c held told has =
    let here = journal_still _ _ _ _ held has.written (ap (λ j. j.generation) c.loop-done.invariant.same)
    (ap (λ j. j.start) c.loop-done.invariant.same) has.journal in
    c.in-Err.ensures.readable held has.written (c.loop-done.invariant.looked.same
    ∙ told) here (omega (arith, has.within, c.records-done-end.ensures))

pub returns-in-Err-clause-same : goal.returns-in-Err-clause-same
returns-in-Err-clause-same g c = c.read_command.ensures.same
    ∙ ap (λ (j : JournalOn g.row.D.Denot). record j { disk = c.read_command.new.journal.disk })
    c.loop-done.invariant.same

pub returns-in-Err-push-clause-same : goal.returns-in-Err-push-clause-same
returns-in-Err-push-clause-same g c = c.read_command.ensures.same
    ∙ ap (λ (j : JournalOn g.row.D.Denot). record j { disk = c.read_command.new.journal.disk })
    c.loop-done.invariant.same

pub returns-in-Err-clause-damaged : goal.returns-in-Err-clause-damaged
returns-in-Err-clause-damaged g c =
    subst (λ (j : JournalOn g.row.D.Denot). IsUnreadable j.generation j.start j.count c.in-Err.why)
    c.loop-done.invariant.same c.in-Err.ensures.damaged

pub returns-in-Err-clause-cause : goal.returns-in-Err-clause-cause
returns-in-Err-clause-cause g c =
    subst (λ (n : ℕ). CountsFault c.in-Err.why n (g.D.Disk.at c.read_command.new.journal.disk).faults)
    c.loop-done.invariant.still c.in-Err.ensures.cause
