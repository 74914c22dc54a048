use Rattle.liq_word_run.proofs.run.Run.answer_all.Goals as goal

pub returns-clause-run : goal.returns-clause-run
returns-clause-run g c begun held past =
    c.catch_up_at.ensures.run begun (g.S.Source.at c.args.input.now).left
    (g.S.Source.at c.answer_lines-end.new.input).left (c.answer_lines-end.ensures.run begun held past)
