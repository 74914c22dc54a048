use Rattle.std.proofs.Common.{ℕ, ◌+◌, List, Err, ap, subst, sym, arith}
use Rattle.liq_rule_step.specs.Step.{run}
use Rattle.liq_word_run.specs.Turns.{HasAnswered, run_at}
use Rattle.liq_word_run.proofs.Passing.{unshown_past}
use Rattle.liq_word_run.proofs.Residual.{handed_on}
use Rattle.liq_word_run.proofs.Turning.{turn_halts, answered_on, answered_cut, reading_halts, reading_ends, line_answered, last_answered, answering_halts, first_line, last_line}
use Rattle.liq_word_run.proofs.run.Run.answer_line_at.Goals as goal
use Rattle.liq_text_lines.specs.Reading.{ReadsFew}
use Rattle.liq_text_lines.proofs.Readings.{few_line, few_still}

pub returns-in_err-catch_up-clause-turn : goal.returns-in_err-catch_up-clause-turn
returns-in_err-catch_up-clause-turn g c = record {
  turn = λ begun told a. let left = (g.S.Source.at c.args.input.now).left in
      let halt = c.in_err-catch_up.field-0.0 in
      turn_halts begun.start _ _ _ told c.args.answered _ _ left c.catch_up.new.waiting.items begun.held
      (g.K.Sink.at c.catch_up.new.out).held c.from_residual.result halt
      (handed_on c.from_residual.result halt c.from_residual.ensures.1)
      (answered_cut begun.start _ _ (λ rs. unshown_past g.D.Disk.at g.met.D.Disk.seen_may_stay begun rs
      c.args.self.now.store _ _ c.catch_up.ensures.unshown) _ _ halt told c.args.answered _ _ left _
      c.catch_up.new.waiting.items begun.held _ _ (omega (arith, c.requires.few)) a c.in_err-catch_up.ensures.written);
  few = λ before h. few_still before c.args.answered _ _ h;
}

pub returns-in_err-next_request-clause-turn : goal.returns-in_err-next_request-clause-turn
returns-in_err-next_request-clause-turn g c = record {
  turn = λ begun told b. let a = answered_on begun.start told c.args.answered _ _ _ c.catch_up.new.waiting.items
      begun.held _ (g.K.Sink.at c.catch_up.new.out).held _ _
      (λ rs. unshown_past g.D.Disk.at g.met.D.Disk.seen_may_stay begun rs c.args.self.now.store _ _
      c.catch_up.ensures.unshown) b c.in_ok-catch_up.ensures.written in
      let halt = c.in_err-next_request.field-0.0 in
      turn_halts begun.start _ _ _ told c.args.answered _ _ (g.S.Source.at c.next_request.new.input).left
      c.catch_up.new.waiting.items begun.held (g.K.Sink.at c.catch_up.new.out).held
      c.from_residual-in_err-next_request.result halt
      (handed_on c.from_residual-in_err-next_request.result halt c.from_residual-in_err-next_request.ensures.1)
      (reading_halts begun.start _ _ _ halt told c.next_request.new.reader c.args.answered _ _
      (g.S.Source.at c.next_request.new.input).left _ begun.held _ c.requires.few c.in_err-next_request.ensures.request
      a);
  few = λ before h. few_line before c.args.answered _ _ h _ _ c.next_request.ensures.few c.next_request.ensures.held;
}

pub returns-in-End-clause-turn : goal.returns-in-End-clause-turn
returns-in-End-clause-turn g c = record {
  turn = λ begun told b. let a = answered_on begun.start told c.args.answered _ _ _ c.catch_up.new.waiting.items
      begun.held _ (g.K.Sink.at c.catch_up.new.out).held _ _
      (λ rs. unshown_past g.D.Disk.at g.met.D.Disk.seen_may_stay begun rs c.args.self.now.store _ _
      c.catch_up.ensures.unshown) b c.in_ok-catch_up.ensures.written in
      let read = rw c.in-End.is at c.in_ok-next_request.ensures.request in
      reading_ends begun.start _ _ _ told c.next_request.new.reader c.args.answered _ _
      (g.S.Source.at c.next_request.new.input).left _ begun.held _ (omega (arith, c.requires.few)) read.0 read.1 a;
  few = λ before h. few_line before c.args.answered _ _ h _ _ c.next_request.ensures.few c.next_request.ensures.held;
}

pub returns-in_ok-answer-in-Line-clause-turn : goal.returns-in_ok-answer-in-Line-clause-turn
returns-in_ok-answer-in-Line-clause-turn g c = record {
  turn = λ begun told b. let a = answered_on begun.start told c.args.answered _ _ _ c.catch_up.new.waiting.items
      begun.held _ (g.K.Sink.at c.catch_up.new.out).held _ _
      (λ rs. unshown_past g.D.Disk.at g.met.D.Disk.seen_may_stay begun rs c.args.self.now.store _ _
      c.catch_up.ensures.unshown) b c.in_ok-catch_up.ensures.written in
      let read = rw c.in-Line.is at c.in_ok-next_request.ensures.request in
      let said = c.in_ok-answer-in-Line.ensures.answer (run begun.start a.requests).0 a.stands in
      subst (λ (taken : List ℕ). HasAnswered g.D.Disk.at begun told (c.args.answered + 1)
      (run_at c.answer.new.self.store taken c.answer.new.self.waiting.items
      (g.S.Source.at c.next_request.new.input).left (g.K.Sink.at c.answer.new.out))) (sym c.answer.ensures.reader)
      (line_answered begun.start told read.0 c.in-Line.request c.args.answered c.args.self.now.store.core
      c.answer.new.self.store.core _ _ _ _ begun.held _ _ _ _ read.1 read.2 read.3 a said
      (c.in_ok-answer-in-Line.ensures.past begun a.requests a.passed a.written));
  few = λ before h. subst (λ (taken : List ℕ). ReadsFew before (c.args.answered + 1) taken
      (g.S.Source.at c.next_request.new.input).left) (sym c.answer.ensures.reader)
      (few_line before c.args.answered _ _ h _ _ c.next_request.ensures.few c.next_request.ensures.held);
}

pub returns-in_err-answer-in-Line-clause-turn : goal.returns-in_err-answer-in-Line-clause-turn
returns-in_err-answer-in-Line-clause-turn g c = record {
  turn = λ begun told b. let a = answered_on begun.start told c.args.answered _ _ _ c.catch_up.new.waiting.items
      begun.held _ (g.K.Sink.at c.catch_up.new.out).held _ _
      (λ rs. unshown_past g.D.Disk.at g.met.D.Disk.seen_may_stay begun rs c.args.self.now.store _ _
      c.catch_up.ensures.unshown) b c.in_ok-catch_up.ensures.written in
      let read = rw c.in-Line.is at c.in_ok-next_request.ensures.request in
      let said = c.in_err-answer-in-Line.ensures.answer (run begun.start a.requests).0 a.stands in
      let first = first_line read.0 _ _ read.2 read.3 in
      let halt = c.in_err-answer-in-Line.field-0.0 in
      turn_halts begun.start _ _ _ told c.args.answered _ _ (g.S.Source.at c.next_request.new.input).left
      c.answer.new.self.waiting.items begun.held (g.K.Sink.at c.answer.new.out).held
      c.from_residual-in_err-answer-in-Line.result halt
      (handed_on c.from_residual-in_err-answer-in-Line.result halt c.from_residual-in_err-answer-in-Line.ensures.1)
      (answering_halts begun.start _ _ _ _
      halt told read.0 c.in-Line.request c.args.answered c.args.self.now.store.core
      c.answer.new.self.store.core _ (g.S.Source.at c.next_request.new.input).left _ _ begun.held _ _ c.requires.few
      read.1 a first said (λ is. c.in_err-answer-in-Line.ensures.kept (ap Err is) (run begun.start a.requests).0
      a.stands)
      (c.in_err-answer-in-Line.ensures.past begun a.requests a.passed a.written));
  few = λ before h. subst (λ (taken : List ℕ). ReadsFew before (c.args.answered + 1) taken
      (g.S.Source.at c.next_request.new.input).left) (sym c.answer.ensures.reader)
      (few_line before c.args.answered _ _ h _ _ c.next_request.ensures.few c.next_request.ensures.held);
}

pub returns-in_ok-answer-in-LastLine-clause-turn : goal.returns-in_ok-answer-in-LastLine-clause-turn
returns-in_ok-answer-in-LastLine-clause-turn g c = record {
  turn = λ begun told b. let a = answered_on begun.start told c.args.answered _ _ _ c.catch_up.new.waiting.items
      begun.held _ (g.K.Sink.at c.catch_up.new.out).held _ _
      (λ rs. unshown_past g.D.Disk.at g.met.D.Disk.seen_may_stay begun rs c.args.self.now.store _ _
      c.catch_up.ensures.unshown) b c.in_ok-catch_up.ensures.written in
      let read = rw c.in-LastLine.is at c.in_ok-next_request.ensures.request in
      let said = c.in_ok-answer-in-LastLine.ensures.answer (run begun.start a.requests).0 a.stands in
      last_answered begun.start _ _ _ _ told read.0 c.next_request.new.reader c.in-LastLine.request c.args.answered
      c.args.self.now.store.core c.answer-in-LastLine.new.self.store.core _
      (g.S.Source.at c.next_request.new.input).left _ _ begun.held _ _ c.requires.few read.1 read.2 read.3 read.4 read.5
      a said
      (c.in_ok-answer-in-LastLine.ensures.past begun a.requests a.passed a.written);
  few = λ before h. subst (λ (taken : List ℕ). ReadsFew before (c.args.answered + 1) taken
      (g.S.Source.at c.next_request.new.input).left) (sym c.answer-in-LastLine.ensures.reader)
      (few_line before c.args.answered _ _ h _ _ c.next_request.ensures.few c.next_request.ensures.held);
}

pub returns-in_err-answer-in-LastLine-clause-turn : goal.returns-in_err-answer-in-LastLine-clause-turn
returns-in_err-answer-in-LastLine-clause-turn g c = record {
  turn = λ begun told b. let a = answered_on begun.start told c.args.answered _ _ _ c.catch_up.new.waiting.items
      begun.held _ (g.K.Sink.at c.catch_up.new.out).held _ _
      (λ rs. unshown_past g.D.Disk.at g.met.D.Disk.seen_may_stay begun rs c.args.self.now.store _ _
      c.catch_up.ensures.unshown) b c.in_ok-catch_up.ensures.written in
      let read = rw c.in-LastLine.is at c.in_ok-next_request.ensures.request in
      let said = c.in_err-answer-in-LastLine.ensures.answer (run begun.start a.requests).0 a.stands in
      let first = last_line read.0 c.next_request.new.reader _ _ read.2 read.3 read.4 read.5 in
      let halt = c.in_err-answer-in-LastLine.field-0.0 in
      turn_halts begun.start _ _ _ told c.args.answered _ _ (g.S.Source.at c.next_request.new.input).left
      c.answer-in-LastLine.new.self.waiting.items begun.held (g.K.Sink.at c.answer-in-LastLine.new.out).held
      c.from_residual-in_err-answer-in-LastLine.result halt
      (handed_on c.from_residual-in_err-answer-in-LastLine.result halt
      c.from_residual-in_err-answer-in-LastLine.ensures.1)
      (answering_halts begun.start _ _ _ _
      halt told read.0 c.in-LastLine.request c.args.answered c.args.self.now.store.core
      c.answer-in-LastLine.new.self.store.core _ (g.S.Source.at c.next_request.new.input).left _ _ begun.held _ _
      c.requires.few read.1 a first said
      (λ is. c.in_err-answer-in-LastLine.ensures.kept (ap Err is) (run begun.start a.requests).0 a.stands)
      (c.in_err-answer-in-LastLine.ensures.past begun a.requests a.passed a.written));
  few = λ before h. subst (λ (taken : List ℕ). ReadsFew before (c.args.answered + 1) taken
      (g.S.Source.at c.next_request.new.input).left) (sym c.answer-in-LastLine.ensures.reader)
      (few_line before c.args.answered _ _ h _ _ c.next_request.ensures.few c.next_request.ensures.held);
}
