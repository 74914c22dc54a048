use Rattle.std.proofs.Common.{refl, ℕ, ◌+◌, List, Err, ap, subst, sym}
use Rattle.liq_rule_step.specs.Step.{run}
use Rattle.liq_types.specs.declared.requests.Request.TheVariants.{Ask}
use Rattle.liq_word_run.specs.Turns.{HasAnswered, run_at}
use Rattle.liq_word_run.proofs.Residual.{handed_on}
use Rattle.liq_word_run.proofs.Turning.{turn_halts, line_answered, answering_halts, first_line}
use Rattle.liq_text_lines.specs.Reading.{ReadsFew}
use Rattle.liq_text_lines.proofs.Readings.{few_line}
use Rattle.liq_word_run.proofs.run.Run.answer_line.Goals as goal

pub returns-in-Some-clause-turn : goal.returns-in-Some-clause-turn
returns-in-Some-clause-turn g c = record {
  turn = λ begun told a. let left = (g.S.Source.at c.args.input.now).left in
      let read = c.in-Some.ensures.query (c.args.answered + 1) left in
      let said = c.in_ok-answer_query.ensures.answer (run begun.start a.requests).0 a.stands in
      subst (λ (taken : List ℕ). HasAnswered g.D.Disk.at begun told (c.args.answered + 1)
      (run_at c.answer_query.new.self.store taken c.answer_query.new.self.waiting.items left
      (g.K.Sink.at c.answer_query.new.out))) (sym c.answer_query.ensures.reader)
      (line_answered begun.start told read.0 (Ask c.in-Some.query) c.args.answered c.args.self.now.store.core
      c.answer_query.new.self.store.core _ _ _ _ begun.held _ _ _ _ read.1 read.2 read.3 a said
      (c.in_ok-answer_query.ensures.past begun a.requests a.passed));
  few = λ before h. let left = (g.S.Source.at c.args.input.now).left in
      subst (λ (taken : List ℕ). ReadsFew before (c.args.answered + 1) taken left) (sym c.answer_query.ensures.reader)
      (few_line before c.args.answered _ _ h _ _ (c.in-Some.ensures.few left) (c.in-Some.ensures.held refl));
}

pub returns-in_err-answer_query-clause-turn : goal.returns-in_err-answer_query-clause-turn
returns-in_err-answer_query-clause-turn g c = record {
  turn = λ begun told a. let left = (g.S.Source.at c.args.input.now).left in
      let read = c.in-Some.ensures.query (c.args.answered + 1) left in
      let said = c.in_err-answer_query.ensures.answer (run begun.start a.requests).0 a.stands in
      let first = first_line read.0 _ _ read.2 read.3 in
      let halt = c.in_err-answer_query.field-0.0 in
      turn_halts begun.start _ _ _ told c.args.answered _ _ left c.answer_query.new.self.waiting.items begun.held
      (g.K.Sink.at c.answer_query.new.out).held c.from_residual.result halt
      (handed_on c.from_residual.result halt c.from_residual.ensures.1)
      (answering_halts begun.start _ _ _ _
      halt told read.0 (Ask c.in-Some.query) c.args.answered c.args.self.now.store.core
      c.answer_query.new.self.store.core _ left _ _ begun.held _ _ c.requires.few read.1 a first said
      (λ is. c.in_err-answer_query.ensures.kept (ap Err is) (run begun.start a.requests).0 a.stands)
      (c.in_err-answer_query.ensures.past begun a.requests a.passed));
  few = λ before h. let left = (g.S.Source.at c.args.input.now).left in
      subst (λ (taken : List ℕ). ReadsFew before (c.args.answered + 1) taken left) (sym c.answer_query.ensures.reader)
      (few_line before c.args.answered _ _ h _ _ (c.in-Some.ensures.few left) (c.in-Some.ensures.held refl));
}

pub returns-clause-turn : goal.returns-clause-turn
returns-clause-turn g c = record {
  turn = λ begun told a. let left = (g.S.Source.at c.args.input.now).left in
      c.answer_line_at.ensures.turn.turn begun told
      (subst (λ (taken : List ℕ). HasAnswered g.D.Disk.at begun told c.args.answered
      (run_at c.args.self.now.store taken c.args.self.now.waiting.items left (g.K.Sink.at c.args.out.now)))
      (sym (c.in_default.ensures.stays refl)) a);
  few = λ before h. let left = (g.S.Source.at c.args.input.now).left in
      c.answer_line_at.ensures.turn.few before
      (subst (λ (taken : List ℕ). ReadsFew before c.args.answered taken left) (sym (c.in_default.ensures.stays refl))
      h);
}
