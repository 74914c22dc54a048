use Rattle.std.proofs.Common.{ℕ, subst, sym, []}
use Rattle.liq_outside.specs.Faults.{Rose}
use Rattle.liq_word_exit.specs.declared.halts.Halt.TheVariants.{BadLine, Damaged, DamagedInput, Rotated}
use Rattle.liq_word_exit.specs.Output.{last}
use Rattle.liq_word_exit.specs.Stops.{Adds}
use Rattle.liq_word_exit.proofs.EndingLines.{adds_line, nothing_added}
use Rattle.liq_word_exit.proofs.ending.write_last.Goals as goal

pub returns-in-BadLine-clause-written : goal.returns-in-BadLine-clause-written
returns-in-BadLine-clause-written g c =
    let e = c.write_numbered.ensures in
    subst (λ halt. Adds [] (last halt)
    (Rose (g.K.Sink.at c.args.out.now).faults (g.K.Sink.at c.write_numbered.new.out).faults)
    (g.K.Sink.at c.args.out.now).held (g.K.Sink.at c.write_numbered.new.out).held) (sym c.in-BadLine.is)
    (subst (λ (n : ℕ). Adds [] (last (BadLine n))
    (Rose (g.K.Sink.at c.args.out.now).faults (g.K.Sink.at c.write_numbered.new.out).faults)
    (g.K.Sink.at c.args.out.now).held (g.K.Sink.at c.write_numbered.new.out).held) c.from.ensures
    (adds_line _ c.write_numbered.result _ _ _ e.ok e.err e.cause.failed))

pub returns-in-ReadFault-clause-written : goal.returns-in-ReadFault-clause-written
returns-in-ReadFault-clause-written g c =
    let e = c.write_all.ensures in
    subst (λ halt. Adds [] (last halt)
    (Rose (g.K.Sink.at c.args.out.now).faults (g.K.Sink.at c.write_all.new.out).faults)
    (g.K.Sink.at c.args.out.now).held (g.K.Sink.at c.write_all.new.out).held) (sym c.in-ReadFault.is)
    (adds_line _ c.write_all.result _ _ _ e.ok e.err e.cause.failed)

pub returns-in-WriteFault-clause-written : goal.returns-in-WriteFault-clause-written
returns-in-WriteFault-clause-written g c =
    subst (λ halt. Adds [] (last halt) (Rose (g.K.Sink.at c.args.out.now).faults (g.K.Sink.at c.args.out.now).faults)
    (g.K.Sink.at c.args.out.now).held (g.K.Sink.at c.args.out.now).held) (sym c.in-WriteFault.is)
    (nothing_added _ (g.K.Sink.at c.args.out.now).held)

pub returns-in-NoMemory-clause-written : goal.returns-in-NoMemory-clause-written
returns-in-NoMemory-clause-written g c =
    let e = c.write_all-in-NoMemory.ensures in
    subst (λ halt. Adds [] (last halt)
    (Rose (g.K.Sink.at c.args.out.now).faults (g.K.Sink.at c.write_all-in-NoMemory.new.out).faults)
    (g.K.Sink.at c.args.out.now).held (g.K.Sink.at c.write_all-in-NoMemory.new.out).held) (sym c.in-NoMemory.is)
    (adds_line _ c.write_all-in-NoMemory.result _ _ _ e.ok e.err e.cause.failed)

pub returns-in-Limit-clause-written : goal.returns-in-Limit-clause-written
returns-in-Limit-clause-written g c =
    let e = c.write_numbered-in-Limit.ensures in
    subst (λ halt. Adds [] (last halt)
    (Rose (g.K.Sink.at c.args.out.now).faults (g.K.Sink.at c.write_numbered-in-Limit.new.out).faults)
    (g.K.Sink.at c.args.out.now).held (g.K.Sink.at c.write_numbered-in-Limit.new.out).held) (sym c.in-Limit.is)
    (adds_line _ c.write_numbered-in-Limit.result _ _ _ e.ok e.err e.cause.failed)

pub returns-in-DiskFault-clause-written : goal.returns-in-DiskFault-clause-written
returns-in-DiskFault-clause-written g c =
    let e = c.write_all-in-DiskFault.ensures in
    subst (λ halt. Adds [] (last halt)
    (Rose (g.K.Sink.at c.args.out.now).faults (g.K.Sink.at c.write_all-in-DiskFault.new.out).faults)
    (g.K.Sink.at c.args.out.now).held (g.K.Sink.at c.write_all-in-DiskFault.new.out).held) (sym c.in-DiskFault.is)
    (adds_line _ c.write_all-in-DiskFault.result _ _ _ e.ok e.err e.cause.failed)

pub returns-in-Damaged-clause-written : goal.returns-in-Damaged-clause-written
returns-in-Damaged-clause-written g c =
    let e = c.write_damaged.ensures in
    subst (λ halt. Adds [] (last halt)
    (Rose (g.K.Sink.at c.args.out.now).faults (g.K.Sink.at c.write_damaged.new.out).faults)
    (g.K.Sink.at c.args.out.now).held (g.K.Sink.at c.write_damaged.new.out).held) (sym c.in-Damaged.is)
    (subst (λ (n : ℕ). Adds [] (last (Damaged c.in-Damaged.side n))
    (Rose (g.K.Sink.at c.args.out.now).faults (g.K.Sink.at c.write_damaged.new.out).faults)
    (g.K.Sink.at c.args.out.now).held (g.K.Sink.at c.write_damaged.new.out).held) c.from-in-Damaged.ensures
    (adds_line _ c.write_damaged.result _ _ _ e.ok e.err e.cause.failed))

pub returns-in-Rotated-clause-written : goal.returns-in-Rotated-clause-written
returns-in-Rotated-clause-written g c =
    let e = c.write_numbered-in-Rotated.ensures in
    subst (λ halt. Adds [] (last halt)
    (Rose (g.K.Sink.at c.args.out.now).faults (g.K.Sink.at c.write_numbered-in-Rotated.new.out).faults)
    (g.K.Sink.at c.args.out.now).held (g.K.Sink.at c.write_numbered-in-Rotated.new.out).held) (sym c.in-Rotated.is)
    (subst (λ (n : ℕ). Adds [] (last (Rotated n))
    (Rose (g.K.Sink.at c.args.out.now).faults (g.K.Sink.at c.write_numbered-in-Rotated.new.out).faults)
    (g.K.Sink.at c.args.out.now).held (g.K.Sink.at c.write_numbered-in-Rotated.new.out).held) c.from-in-Rotated.ensures
    (adds_line _ c.write_numbered-in-Rotated.result _ _ _ e.ok e.err e.cause.failed))

pub returns-in-DamagedInput-clause-written : goal.returns-in-DamagedInput-clause-written
returns-in-DamagedInput-clause-written g c =
    let e = c.write_numbered-in-DamagedInput.ensures in
    subst (λ halt. Adds [] (last halt)
    (Rose (g.K.Sink.at c.args.out.now).faults (g.K.Sink.at c.write_numbered-in-DamagedInput.new.out).faults)
    (g.K.Sink.at c.args.out.now).held (g.K.Sink.at c.write_numbered-in-DamagedInput.new.out).held)
    (sym c.in-DamagedInput.is)
    (subst (λ (n : ℕ). Adds [] (last (DamagedInput n))
    (Rose (g.K.Sink.at c.args.out.now).faults (g.K.Sink.at c.write_numbered-in-DamagedInput.new.out).faults)
    (g.K.Sink.at c.args.out.now).held (g.K.Sink.at c.write_numbered-in-DamagedInput.new.out).held)
    c.from-in-DamagedInput.ensures
    (adds_line _ c.write_numbered-in-DamagedInput.result _ _ _ e.ok e.err e.cause.failed))
