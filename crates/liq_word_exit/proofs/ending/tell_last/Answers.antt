use Rattle.std.proofs.Common.{Result, sym, subst}
use Rattle.liq_outside.specs.Faults.{Rose}
use Rattle.liq_word_exit.specs.declared.halts.Halt.{Halt}
use Rattle.liq_word_exit.specs.Output.{last}
use Rattle.liq_word_exit.specs.Telling.{TellsAll}
use Rattle.liq_word_exit.specs.Unsaid.{WritesAll}
use Rattle.liq_word_exit.proofs.EndingLines.{rose_later, adds_weaker}
use Rattle.liq_word_exit.proofs.Shown.{all_halted, all_well}
use Rattle.liq_word_exit.proofs.ending.tell_last.Goals as goal

pub returns-in-Err-clause-told : goal.returns-in-Err-clause-told
returns-in-Err-clause-told g c text before count fewer wrote =
    let at = g.K.Sink.at in
    let halt = c.in-Err.halt in
    let after = c.write_last.new.out in
    let now = c.args.out.now in
    subst (λ (e : Result (Unit {0}) Halt). TellsAll text e (Rose count (at after).faults) before (at after).held)
    (sym c.in-Err.is)
    (all_halted halt text (Rose count (at after).faults) before (at now).held (at after).held
    (subst (λ (e : Result (Unit {0}) Halt). WritesAll text e before (at now).held) c.in-Err.is wrote)
    (adds_weaker (last halt) (Rose (at now).faults (at after).faults) (Rose count (at after).faults) (at now).held
    (at after).held
    (rose_later count (at now).faults (at after).faults fewer) c.write_last.ensures.written))

pub returns-in_default-clause-told : goal.returns-in_default-clause-told
returns-in_default-clause-told g c text before count fewer wrote =
    all_well c.args.end text (Rose count (g.K.Sink.at c.args.out.now).faults) before
    (g.K.Sink.at c.args.out.now).held c.in_default.not-Err wrote
