use Rattle.std.proofs.Common.{◌∙◌}
use Rattle.liq_types.specs.State.{opening}
use Rattle.liq_sessions.specs.Generated.{generated}
use Rattle.liq_word_gen.specs.Load.{load}
use Rattle.liq_rule_step.specs.Step.{run}
use Rattle.liq_word_gen.proofs.Told.{line_written}
use Rattle.liq_word_gen.proofs.telling.write_load.Goals as goal

pub returns-clause-written : goal.returns-clause-written
returns-clause-written g c =
    let requests = load opening (generated c.args.seed c.args.count) in
    let done = c.in_ok-carried_out.ensures in
    line_written requests _ _ c.write_text.result (g.K.Sink.at c.args.out.now).held
    (g.K.Sink.at c.write_text.new.out).held done.1
    (c.as_bytes.ensures.value ∙ c.in_ok-line.ensures (run opening requests).0 done.0) c.write_text.ensures.ok
    c.write_text.ensures.err
