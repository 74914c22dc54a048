use Rattle.liq_types.specs.State.{opening}
use Rattle.liq_sessions.specs.Generated.{generated}
use Rattle.liq_word_gen.specs.Load.{load, summary}
use Rattle.liq_word_exit.proofs.Causes.{write_no_fewer}
use Rattle.liq_word_gen.proofs.Told.{line_told}
use Rattle.liq_word_gen.proofs.telling.tell_load.Goals as goal

pub returns-clause-told : goal.returns-clause-told
returns-clause-told g c =
    let line = summary (load opening (generated c.args.seed c.args.count)) in
    let ran = c.write_load-end in
    let told = line_told line ran.result (g.K.Sink.at c.args.out.now).held
    (g.K.Sink.at ran.new.out).held ran.ensures.written in
    c.tell_last.ensures.told line (g.K.Sink.at c.args.out.now).held (g.K.Sink.at c.args.out.now).faults
    (write_no_fewer ran.result _ _ ran.ensures.sink) told.1

pub returns-clause-ends : goal.returns-clause-ends
returns-clause-ends g c =
    let ran = c.write_load-end in
    (line_told (summary (load opening (generated c.args.seed c.args.count))) ran.result
    (g.K.Sink.at c.args.out.now).held (g.K.Sink.at ran.new.out).held ran.ensures.written).0
