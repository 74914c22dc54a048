use Rattle.std.proofs.Common.{◌≡◌, ◌+◌, [], ◌∷◌, Result, false, refl, sym, subst, ◌∙◌, arith}
use Rattle.liq_types.specs.declared.amounts.TheConstants.{LINES_MOST}
use Rattle.liq_text_lines.specs.declared.stops.Stop.{Stop}
use Rattle.liq_text_lines.proofs.Readings.{few_begins, few_behind, few_in_all}
use Rattle.liq_text_gather.specs.Gathering.{Gathers}
use Rattle.liq_text_gather.proofs.Ends.{gathers_stopped, gathers_done}
use Rattle.liq_text_gather.proofs.Gathered.{ended_well, ended_by_fault, ended_by_limit, opened}
use Rattle.liq_text_gather.proofs.Residual.{handed_on}
use Rattle.liq_text_gather.proofs.reading.read_lines.Goals as goal

pub loop-read-init : goal.loop-read-init
loop-read-init g c = record {
  gathered = opened g.G.Gatherer.says g.G.Gatherer.holds c.args.reader.now (g.S.Source.at c.args.input.now).left
      c.args.gatherer.now c.requires.unread c.requires.blank;
  takes = few_begins (g.S.Source.at c.args.input.now).left c.args.reader.now c.requires.unread;
  room = c.requires.room;
  count = refl;
}

pub loop-read-preserved : goal.loop-read-preserved
loop-read-preserved g c =
    let start = (g.S.Source.at c.args.input.now).left in
    record {
      gathered = (rw c.if-not-branch.false at c.in_ok-read_next.ensures.goes) start c.loop-read.invariant.gathered;
      takes = c.read_next.ensures.takes start c.loop-read.invariant.takes;
      room = omega (arith, c.read_next.ensures.room, c.loop-read.invariant.room);
      count = c.in_ok-read_next.ensures.source ∙ c.loop-read.invariant.count;
    }

pub returns-in_err-read_next-clause-read : goal.returns-in_err-read_next-clause-read
returns-in_err-read_next-clause-read g c =
    let start = (g.S.Source.at c.args.input.now).left in
    let left = (g.S.Source.at c.read_next.new.input).left in
    let stop = c.in_err-read_next.field-0.0 in
    let kept = c.read_next.new.gatherer in
    subst (λ (end : Result (Unit {0}) Stop). Gathers g.G.Gatherer.says (λ done. g.G.Gatherer.holds kept) end start left)
    (sym (handed_on c.from_residual.result stop c.from_residual.ensures.1))
    (gathers_stopped g.G.Gatherer.says (λ more. g.G.Gatherer.holds kept) (λ done. g.G.Gatherer.holds kept) stop start
    left (c.in_err-read_next.ensures.goes start c.loop-read.invariant.gathered))

pub returns-then-not-branch-clause-read : goal.returns-then-not-branch-clause-read
returns-then-not-branch-clause-read g c =
    let start = (g.S.Source.at c.args.input.now).left in
    let kept = c.read_next.new.gatherer in
    gathers_done g.G.Gatherer.says (λ more. g.G.Gatherer.holds kept) (λ done. g.G.Gatherer.holds kept) false tt start
    (g.S.Source.at c.read_next.new.input).left (λ said has. has)
    ((rw c.if-not-branch.true at c.in_ok-read_next.ensures.goes) start c.loop-read.invariant.gathered)

pub returns-in-Ok-None-clause-read : goal.returns-in-Ok-None-clause-read
returns-in-Ok-None-clause-read g c =
    let over = rw c.in-Ok-None.field-0-is at c.in-Ok-None.ensures.byte in
    ended_well g.G.Gatherer.says g.G.Gatherer.holds tt _ _ (g.S.Source.at c.next_byte.new.input).left c.loop-read.read _
    c.next_byte.new.self (omega (arith, c.loop-read.auto.read-end)) c.loop-read.invariant.gathered over.0 over.1

pub returns-in-Ok-Some-clause-read : goal.returns-in-Ok-Some-clause-read
returns-in-Ok-Some-clause-read g c =
    let full : c.loop-read.read ≡ LINES_MOST = omega (arith, c.loop-read-test.false, c.loop-read.auto.read-end) in
    ended_by_limit g.G.Gatherer.says g.G.Gatherer.holds (λ done. g.G.Gatherer.holds c.loop-read.gatherer) _ _ _
    (g.S.Source.at c.next_byte.new.input).left c.loop-read.read _ _ full c.loop-read.invariant.gathered
    (rw c.in-Ok-Some.field-0-is at c.in-Ok-Some.ensures.byte)

pub returns-in-Err-clause-read : goal.returns-in-Err-clause-read
returns-in-Err-clause-read g c =
    let failed = c.in-Err.ensures.failed in
    ended_by_fault g.G.Gatherer.says g.G.Gatherer.holds (λ done. g.G.Gatherer.holds c.loop-read.gatherer) _ _
    (g.S.Source.at c.next_byte.new.input).left c.loop-read.read _ [] c.next_byte.new.self (omega (
      arith,
      c.loop-read.auto.read-end,
    )) c.loop-read.invariant.gathered (record {
      within = tt;
      short = omega arith;
      none_behind = λ e. refl;
    }) failed.0 failed.1

-- ---- what is taken

pub returns-then-not-branch-clause-takes : goal.returns-then-not-branch-clause-takes
returns-then-not-branch-clause-takes g c =
    few_in_all _ (c.loop-read.read + 1) _ _ (c.read_next.ensures.takes (g.S.Source.at c.args.input.now).left
    c.loop-read.invariant.takes) (omega (arith, c.loop-read-test.true))

pub returns-in_err-read_next-clause-takes : goal.returns-in_err-read_next-clause-takes
returns-in_err-read_next-clause-takes g c =
    few_in_all _ (c.loop-read.read + 1) _ _ (c.read_next.ensures.takes (g.S.Source.at c.args.input.now).left
    c.loop-read.invariant.takes) (omega (arith, c.loop-read-test.true))

pub returns-in-Ok-None-clause-takes : goal.returns-in-Ok-None-clause-takes
returns-in-Ok-None-clause-takes g c =
    let over = rw c.in-Ok-None.field-0-is at c.in-Ok-None.ensures.byte in
    few_behind _ c.loop-read.read _ _ c.loop-read.invariant.takes (omega (arith, c.loop-read.auto.read-end)) [] _ _
    over.0 (omega (arith, c.next_byte.ensures.held))

pub returns-in-Ok-Some-clause-takes : goal.returns-in-Ok-Some-clause-takes
returns-in-Ok-Some-clause-takes g c =
    let read = rw c.in-Ok-Some.field-0-is at c.in-Ok-Some.ensures.byte in
    let held = rw c.in-Ok-Some.field-0-is at c.in-Ok-Some.ensures.held_with in
    few_behind _ c.loop-read.read _ _ c.loop-read.invariant.takes (omega (arith, c.loop-read.auto.read-end)) (_
    ∷ []) _ _ read (omega (arith, held))

pub returns-in-Err-clause-takes : goal.returns-in-Err-clause-takes
returns-in-Err-clause-takes g c =
    let failed = c.in-Err.ensures.failed in
    few_behind _ c.loop-read.read _ _ c.loop-read.invariant.takes (omega (arith, c.loop-read.auto.read-end)) [] _ _
    failed.0 (omega (arith, c.next_byte.ensures.held))
