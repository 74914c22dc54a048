use Rattle.liq_word_run.proofs.run.request_on.Goals as goal

pub returns-in-Err : goal.returns-in-Err
returns-in-Err c = (c.bad_line.ensures, λ request h. cc (c.in-Err.is, c.read_line.ensures.only request h))
