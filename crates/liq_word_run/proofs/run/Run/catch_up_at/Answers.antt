use Rattle.std.proofs.Common.{ℕ, List, [], Option, ap, sym, subst, ◌∙◌}
use Rattle.liq_outside.specs.declared.showing.Showing.{Showing}
use Rattle.liq_word_run.specs.Turns.{HasCome, HasEnded, run_at}
use Rattle.liq_word_run.proofs.Closing.{rest_disks, rest_run, rest_source, rest_stopped}
use Rattle.liq_word_run.proofs.run.Run.catch_up_at.Goals as goal

pub returns-clause-run : goal.returns-clause-run
returns-clause-run g c begun told left h =
    let shut = c.write_rest.ensures.shut in
    let at = g.K.Sink.at in
    let run = c.args.self.now in
    subst (λ (shown : Option (List Showing)). HasEnded g.D.Disk.at begun told
    (run_at run.store run.reader [] left (record (at c.write_rest.new.out) { shown = shown })) c.write_rest.result)
    (sym c.write_rest.ensures.unshown)
    (rest_run _ _ _ c.args.end c.write_rest.result (λ is. (shut is).0) c.write_rest.ensures.written begun.start
    run.store.core _ _ _ told left begun.held (λ is. ap (λ (k : g.row.K.Denot). (at k).held) (shut is).1)
    (subst (λ (w : List ℕ). HasCome g.D.Disk.at begun told
    (run_at run.store run.reader w left (at c.args.out.now)) c.args.end) (sym c.deref.ensures.value) h))

pub returns-clause-source : goal.returns-clause-source
returns-clause-source g c old new none h =
    rest_source _ _ _ c.args.end c.write_rest.result (λ is. (c.write_rest.ensures.shut is).0)
    c.write_rest.ensures.written old new (λ e. c.deref.ensures.value ∙ none e) h

pub returns-clause-disks : goal.returns-clause-disks
returns-clause-disks g c old new none h =
    rest_disks _ _ _ c.args.end c.write_rest.result (λ is. (c.write_rest.ensures.shut is).0)
    c.write_rest.ensures.written old new (λ e. c.deref.ensures.value ∙ none e) h

pub returns-clause-stopped : goal.returns-clause-stopped
returns-clause-stopped g c stopped none h =
    rest_stopped _ _ _ c.args.end c.write_rest.result (λ is. (c.write_rest.ensures.shut is).0)
    c.write_rest.ensures.written stopped (λ e. c.deref.ensures.value ∙ none e) h
