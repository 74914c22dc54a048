use Rattle.liq_word_exit.proofs.EndingLines.{adds_line}
use Rattle.liq_word_exit.proofs.ending.write_usage.Goals as goal

pub returns-clause-written : goal.returns-clause-written
returns-clause-written g c =
    let e = c.write_all.ensures in
    adds_line _ c.write_all.result _ _ _ e.ok e.err e.cause.failed
