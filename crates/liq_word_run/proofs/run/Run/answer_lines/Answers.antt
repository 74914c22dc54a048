use Rattle.std.proofs.Common.{◌≡◌, ◌≤◌, ℕ, List, [], ◌∷◌, ◌+◌, Option, Result, arith, refl, sym, subst, ◌∙◌}
use Rattle.liq_types.specs.declared.amounts.TheConstants.{LINES_MOST}
use Rattle.liq_outside.specs.Faults.{Rose}
use Rattle.liq_word_exit.specs.declared.halts.Halt.{Halt}
use Rattle.liq_word_exit.specs.Causes.{WriteCause}
use Rattle.liq_text_lines.specs.Reading.{unread}
use Rattle.liq_word_run.specs.Passing.{IsPastOf}
use Rattle.liq_word_run.specs.Progress.{Answered}
use Rattle.liq_word_run.specs.Turns.{HasCome, run_at}
use Rattle.liq_word_run.proofs.Passing.{behind, still, unshown_past}
use Rattle.liq_word_run.proofs.Residual.{cut_at, handed_on}
use Rattle.liq_word_run.proofs.Showing.{shows_behind, shows_cut, shows_halt}
use Rattle.liq_word_run.proofs.Turning.{opened, answered_on, answered_cut, reading_fails, reading_ends, limit_halts}
use Rattle.liq_word_run.proofs.run.Run.answer_lines.Goals as goal
use Rattle.liq_text_lines.proofs.Readings.{few_begins, few_behind, few_in_all}

pub loop-answered-init : goal.loop-answered-init
loop-answered-init g c = record {
  answered = λ begun held past.
      subst (λ (before : Option (List ℕ)). Answered begun.start (g.S.Source.at c.args.input.now).left 0
      c.args.self.now.store.core
      (unread c.args.self.now.reader (g.S.Source.at c.args.input.now).left) c.args.self.now.waiting.items begun.held
      before
      (λ requests. IsPastOf g.D.Disk.at begun requests c.args.self.now.store (g.K.Sink.at c.args.out.now).shown)) held
      (opened begun.start c.args.self.now.reader c.args.self.now.waiting.items c.args.self.now.store.core
      (g.S.Source.at c.args.input.now).left begun.held _ past.past.stands c.requires.unread c.requires.waiting past);
  time = still g.D.Disk.at c.args.self.now.store;
  few = few_begins (g.S.Source.at c.args.input.now).left c.args.self.now.reader c.requires.unread;
  going = c.requires.going;
  disks_count = refl;
  source_count = refl;
  sink_count = refl;
}

pub returns-then-not-branch-clause-run : goal.returns-then-not-branch-clause-run
returns-then-not-branch-clause-run g c begun held past =
    (rw c.if-not-branch.true at c.in_ok-answer_line.ensures.turn).turn begun _
    (c.loop-answered.invariant.answered begun held past)

pub loop-answered-preserved : goal.loop-answered-preserved
loop-answered-preserved g c = record {
  answered = λ begun held past. (rw c.if-not-branch.false at c.in_ok-answer_line.ensures.turn).turn begun _
      (c.loop-answered.invariant.answered begun held past);
  time = behind g.D.Disk.at _ _ _ c.loop-answered.invariant.time c.answer_line.ensures.shows.time;
  few = c.answer_line.ensures.turn.few (g.S.Source.at c.args.input.now).left c.loop-answered.invariant.few;
  going = c.in_ok-answer_line.ensures.shows.stopped;
  disks_count = c.in_ok-answer_line.ensures.shows.disks ∙ c.loop-answered.invariant.disks_count;
  source_count = c.in_ok-answer_line.ensures.shows.source ∙ c.loop-answered.invariant.source_count;
  sink_count = c.in_ok-answer_line.ensures.shows.sink ∙ c.loop-answered.invariant.sink_count;
}

pub returns-in_err-flush-clause-run : goal.returns-in_err-flush-clause-run
returns-in_err-flush-clause-run g c begun held past =
    let halt = c.in_err-flush.field-0.0 in
    subst (λ (end : Result (Unit {0}) Halt). HasCome g.D.Disk.at begun (g.S.Source.at c.args.input.now).left
    (run_at c.loop-answered.self.store c.loop-answered.self.reader c.flush.new.waiting.items
    (g.S.Source.at c.loop-answered.input).left (g.K.Sink.at c.flush.new.out)) end)
    (sym (handed_on c.from_residual-in_err-flush.result halt c.from_residual-in_err-flush.ensures.1))
    (answered_cut begun.start _ _ (λ rs. unshown_past g.D.Disk.at g.met.D.Disk.seen_may_stay begun rs
    c.loop-answered.self.store _ _ c.flush.ensures.unshown) _ _ halt _ c.loop-answered.answered _ _
    (g.S.Source.at c.loop-answered.input).left _ c.flush.new.waiting.items begun.held _ _
    (omega (arith, c.loop-answered.auto.answered-end)) (c.loop-answered.invariant.answered begun held past)
    c.in_err-flush.ensures.written)

pub returns-in-Ok-None-clause-run : goal.returns-in-Ok-None-clause-run
returns-in-Ok-None-clause-run g c begun held past =
    let a = answered_on begun.start _ c.loop-answered.answered _ _ _ c.flush.new.waiting.items begun.held _
    (g.K.Sink.at c.flush.new.out).held _ _
    (λ rs. unshown_past g.D.Disk.at g.met.D.Disk.seen_may_stay begun rs c.loop-answered.self.store _ _
    c.flush.ensures.unshown) (c.loop-answered.invariant.answered begun held past)
    c.in_ok-flush.ensures.written in
    let over = rw c.in-Ok-None.field-0-is at c.in-Ok-None.ensures.byte in
    reading_ends begun.start _ _ _ _ c.next_byte.new.self c.loop-answered.answered _ _
    (g.S.Source.at c.next_byte.new.input).left _ _ _ (omega (arith, c.loop-answered.auto.answered-end)) over.0 over.1 a

pub returns-in-Ok-Some-clause-run : goal.returns-in-Ok-Some-clause-run
returns-in-Ok-Some-clause-run g c begun held past =
    let a = answered_on begun.start _ c.loop-answered.answered _ _ _ c.flush.new.waiting.items begun.held _
    (g.K.Sink.at c.flush.new.out).held _ _
    (λ rs. unshown_past g.D.Disk.at g.met.D.Disk.seen_may_stay begun rs c.loop-answered.self.store _ _
    c.flush.ensures.unshown) (c.loop-answered.invariant.answered begun held past)
    c.in_ok-flush.ensures.written in
    let read = rw c.in-Ok-Some.field-0-is at c.in-Ok-Some.ensures.byte in
    let full : c.loop-answered.answered ≡ LINES_MOST = omega
    (arith, c.loop-answered-test.false, c.loop-answered.auto.answered-end) in
    limit_halts begun.start _ _ _ _ c.loop-answered.answered _ _ _ _ (g.S.Source.at c.next_byte.new.input).left _ _
    _ c.from.result c.from.ensures full read a

pub returns-in-Err-clause-run : goal.returns-in-Err-clause-run
returns-in-Err-clause-run g c begun held past =
    let a = answered_on begun.start _ c.loop-answered.answered _ _ _ c.flush.new.waiting.items begun.held _
    (g.K.Sink.at c.flush.new.out).held _ _
    (λ rs. unshown_past g.D.Disk.at g.met.D.Disk.seen_may_stay begun rs c.loop-answered.self.store _ _
    c.flush.ensures.unshown) (c.loop-answered.invariant.answered begun held past)
    c.in_ok-flush.ensures.written in
    let failed = c.in-Err.ensures.failed in
    reading_fails begun.start _ _ _ _ c.next_byte.new.self c.loop-answered.answered _ _
    (g.S.Source.at c.next_byte.new.input).left _ _ _ (omega (arith, c.loop-answered.auto.answered-end))
    ([], tt, failed.0, failed.1, omega arith) (λ e. refl) a

-- ---- what is taken

pub returns-then-not-branch-clause-few : goal.returns-then-not-branch-clause-few
returns-then-not-branch-clause-few g c =
    few_in_all _ (c.loop-answered.answered + 1) _ _
    (c.answer_line.ensures.turn.few (g.S.Source.at c.args.input.now).left c.loop-answered.invariant.few)
    (omega (arith, c.loop-answered-test.true))

pub returns-in_err-answer_line-clause-few : goal.returns-in_err-answer_line-clause-few
returns-in_err-answer_line-clause-few g c =
    few_in_all _ (c.loop-answered.answered + 1) _ _
    (c.answer_line.ensures.turn.few (g.S.Source.at c.args.input.now).left c.loop-answered.invariant.few)
    (omega (arith, c.loop-answered-test.true))

pub returns-in_err-flush-clause-few : goal.returns-in_err-flush-clause-few
returns-in_err-flush-clause-few g c = few_in_all _ c.loop-answered.answered _ _ c.loop-answered.invariant.few
    (omega (arith, c.loop-answered.auto.answered-end))

pub returns-in-Ok-None-clause-few : goal.returns-in-Ok-None-clause-few
returns-in-Ok-None-clause-few g c =
    let over = rw c.in-Ok-None.field-0-is at c.in-Ok-None.ensures.byte in
    few_behind _ c.loop-answered.answered _ _ c.loop-answered.invariant.few
    (omega (arith, c.loop-answered.auto.answered-end)) [] _ _ over.0 (omega (arith, c.next_byte.ensures.held))

pub returns-in-Ok-Some-clause-few : goal.returns-in-Ok-Some-clause-few
returns-in-Ok-Some-clause-few g c =
    let read = rw c.in-Ok-Some.field-0-is at c.in-Ok-Some.ensures.byte in
    let held = rw c.in-Ok-Some.field-0-is at c.in-Ok-Some.ensures.held_with in
    few_behind _ c.loop-answered.answered _ _ c.loop-answered.invariant.few
    (omega (arith, c.loop-answered.auto.answered-end)) (_ ∷ []) _ _ read (omega (arith, held))

pub returns-in-Err-clause-few : goal.returns-in-Err-clause-few
returns-in-Err-clause-few g c =
    let failed = c.in-Err.ensures.failed in
    few_behind _ c.loop-answered.answered _ _ c.loop-answered.invariant.few
    (omega (arith, c.loop-answered.auto.answered-end)) [] _ _ failed.0 (omega (arith, c.next_byte.ensures.held))

pub returns-in_err-answer_line-clause-run : goal.returns-in_err-answer_line-clause-run
returns-in_err-answer_line-clause-run g c begun held past =
    let halt = c.in_err-answer_line.field-0.0 in
    subst (λ (end : Result (Unit {0}) Halt). HasCome g.D.Disk.at begun (g.S.Source.at c.args.input.now).left
    (run_at c.answer_line.new.self.store c.answer_line.new.self.reader c.answer_line.new.self.waiting.items
    (g.S.Source.at c.answer_line.new.input).left (g.K.Sink.at c.answer_line.new.out)) end)
    (sym (handed_on c.from_residual.result halt c.from_residual.ensures.1))
    (c.in_err-answer_line.ensures.turn.turn begun _ (c.loop-answered.invariant.answered begun held past))

-- ---- what it shows

pub returns-then-not-branch-clause-shows : goal.returns-then-not-branch-clause-shows
returns-then-not-branch-clause-shows g c =
    let before = c.loop-answered.invariant in
    let h = c.in_ok-answer_line.ensures.shows in
    record {
      caught_up = λ is. absurd (cc is);
      caught_up_too = λ is. absurd (cc is);
      source = h.source ∙ before.source_count;
      sink = h.sink ∙ before.sink_count;
      stopped = h.stopped;
      time = behind g.D.Disk.at _ _ _ before.time h.time;
      disks = h.disks ∙ before.disks_count;
    }

pub returns-in_err-answer_line-clause-shows : goal.returns-in_err-answer_line-clause-shows
returns-in_err-answer_line-clause-shows g c =
    let before = c.loop-answered.invariant in
    let halt = c.in_err-answer_line.field-0.0 in
    let shows = shows_behind g.D.Disk.at _ _ _ _ _ _ _ _ _ _ _ before.time before.disks_count before.source_count
    before.sink_count c.in_err-answer_line.ensures.shows in
    shows_halt g.D.Disk.at _ _ _ _ _ _ _ c.from_residual.result halt
    (handed_on c.from_residual.result halt c.from_residual.ensures.1) shows

pub returns-in-Ok-None-clause-shows : goal.returns-in-Ok-None-clause-shows
returns-in-Ok-None-clause-shows g c =
    let before = c.loop-answered.invariant in
    record {
      caught_up = λ is. c.flush.ensures.empty;
      caught_up_too = λ is. c.flush.ensures.empty;
      source = c.in-Ok-None.ensures.cause.ok ∙ before.source_count;
      sink = c.in_ok-flush.ensures.cause ∙ before.sink_count;
      stopped = before.going;
      time = before.time;
      disks = before.disks_count;
    }

pub returns-in-Ok-Some-clause-shows : goal.returns-in-Ok-Some-clause-shows
returns-in-Ok-Some-clause-shows g c =
    let before = c.loop-answered.invariant in
    record {
      caught_up = λ is. c.flush.ensures.empty;
      caught_up_too = λ is. c.flush.ensures.empty;
      source = c.in-Ok-Some.ensures.cause.ok ∙ before.source_count;
      sink = c.in_ok-flush.ensures.cause ∙ before.sink_count;
      stopped = before.going;
      time = before.time;
      disks = before.disks_count;
    }

pub returns-in-Err-clause-shows : goal.returns-in-Err-clause-shows
returns-in-Err-clause-shows g c =
    let before = c.loop-answered.invariant in
    let cause = c.in-Err.ensures.cause in
    record {
      caught_up = λ is. c.flush.ensures.empty;
      caught_up_too = λ is. c.flush.ensures.empty;
      source = subst (λ (n : ℕ). (n ≤ (g.S.Source.at c.next_byte.new.input).faults)
          × Rose n (g.S.Source.at c.next_byte.new.input).faults) before.source_count (cause.later, cause.failed);
      sink = c.in_ok-flush.ensures.cause ∙ before.sink_count;
      stopped = before.going;
      time = before.time;
      disks = before.disks_count;
    }

pub returns-in_err-flush-clause-shows : goal.returns-in_err-flush-clause-shows
returns-in_err-flush-clause-shows g c =
    let before = c.loop-answered.invariant in
    let halt = c.in_err-flush.field-0.0 in
    let end = c.from_residual-in_err-flush.result in
    let cut = cut_at end halt _ _ _ _ c.from_residual-in_err-flush.ensures.1 c.in_err-flush.ensures.written in
    let cause = subst (λ (e : Result (Unit {0}) Halt). WriteCause e (g.K.Sink.at c.loop-answered.out).faults
    (g.K.Sink.at c.flush.new.out).faults) (sym (handed_on end halt c.from_residual-in_err-flush.ensures.1))
    c.in_err-flush.ensures.cause in
    shows_cut g.D.Disk.at _ _ _ _ _ _ _ end _ cut c.flush.ensures.empty before.source_count before.sink_count cause
    before.going before.time before.disks_count
