use Rattle.std.proofs.Common.{sym, subst, Err}
use Rattle.liq_store.specs.Causes.{counts_of}
use Rattle.liq_word_exit.specs.declared.halts.Halt.{Halt}
use Rattle.liq_word_exit.specs.Causes.{DisksGoOn, LastCause}
use Rattle.liq_serve.proofs.Gathered.{stop_disks, stop_sink}
use Rattle.liq_serve.proofs.Telling.{same_go_on}
use Rattle.liq_serve.proofs.answers.stopped.Goals as goal

pub returns-clause-sink : goal.returns-clause-sink
returns-clause-sink g c =
    let was = (g.K.Sink.at c.args.out.now).faults in
    let now = (g.K.Sink.at c.write_last.new.out).faults in
    subst (λ (halt : Halt). LastCause (Err halt) was now) (sym c.halt_at-halt.ensures)
    (stop_sink c.args.stop was now c.write_last.ensures.count)

pub returns-clause-disks : goal.returns-clause-disks
returns-clause-disks g c =
    subst (λ (halt : Halt). DisksGoOn g.D.Disk.at c.args.left c.args.right (Err halt) c.args.left c.args.right)
    (sym c.halt_at-halt.ensures)
    (same_go_on g.D.Disk.at c.args.left c.args.right _
    (stop_disks c.args.stop (counts_of g.D.Disk.at c.args.left c.args.right)))
