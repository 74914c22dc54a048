use Rattle.std.proofs.Common.{◌+◌, ℕ, List, [], ◌∷◌, ◌++◌, Ok, Err, Bool, false, Result, refl, sym, subst, arith}
use Rattle.liq_text_lines.specs.declared.stops.Stop.{Stop}
use Rattle.liq_text_lines.specs.Reading.{unread}
use Rattle.liq_text_lines.proofs.Readings.{few_line}
use Rattle.liq_text_lines.proofs.Told.{told, first-ended, only-unended}
use Rattle.liq_text_gather.specs.Progress.{Keeps, Goes}
use Rattle.liq_text_gather.proofs.Gathered.{gathered, gathered_last, ended_well, ended_by_fault, ended_by_bad_line, starts_too_long, ended_at_line}
use Rattle.liq_text_gather.proofs.Residual.{handed_on}
use Rattle.liq_text_gather.proofs.reading.read_next.Goals as goal

pub returns-in-Err-clause-goes : goal.returns-in-Err-clause-goes
returns-in-Err-clause-goes g c start h =
    let line = c.in-Err.ensures.line in
    ended_by_fault g.G.Gatherer.says g.G.Gatherer.holds (λ more. g.G.Gatherer.holds c.args.gatherer.now) start _
    (g.S.Source.at c.next_line.new.input).left c.args.read _ c.next_line.new.line.items c.next_line.new.self
    (omega arith) h (record {
      within = line.1;
      short = line.3;
      none_behind = λ e. absurd (omega (
        arith,
        e,
        c.requires.few,
      ));
    }) line.0 line.2

pub returns-in-Ok-Nothing-clause-goes : goal.returns-in-Ok-Nothing-clause-goes
returns-in-Ok-Nothing-clause-goes g c start h =
    let line = rw c.in-Ok-Nothing.field-0-is at c.in-Ok-Nothing.ensures.line in
    ended_well g.G.Gatherer.says g.G.Gatherer.holds false start _ (g.S.Source.at c.next_line.new.input).left c.args.read
    _ c.next_line.new.self (omega arith) h line.0 line.1

pub returns-in-Ok-TooLong-clause-goes : goal.returns-in-Ok-TooLong-clause-goes
returns-in-Ok-TooLong-clause-goes g c start h =
    let line = rw c.in-Ok-TooLong.field-0-is at c.in-Ok-TooLong.ensures.line in
    ended_by_bad_line g.G.Gatherer.says g.G.Gatherer.holds (λ more. g.G.Gatherer.holds c.args.gatherer.now) start _
    (g.S.Source.at c.next_line.new.input).left c.args.read (c.args.read + 1) _ c.requires.few refl h
    (starts_too_long g.G.Gatherer.says g.met.G.Gatherer.short c.next_line.new.line.items line.0 _ _ line.2 line.3
    line.4 line.1)

pub returns-in_ok-keep-in-Ok-Ended-clause-goes : goal.returns-in_ok-keep-in-Ok-Ended-clause-goes
returns-in_ok-keep-in-Ok-Ended-clause-goes g c start h =
    let line = rw c.in-Ok-Ended.field-0-is at c.in-Ok-Ended.ensures.line in
    gathered g.G.Gatherer.says g.G.Gatherer.holds start _ _ c.args.read _ c.keep.new.self c.next_line.new.line.items h
    (subst (λ (l : List ℕ). Keeps g.G.Gatherer.says g.G.Gatherer.holds l (c.args.read + 1) c.args.gatherer.now
    c.keep.new.self (Ok tt)) c.deref.ensures.value c.in_ok-keep-in-Ok-Ended.ensures) line.1 line.0

pub returns-in_ok-keep-in-Ok-Unended-clause-goes : goal.returns-in_ok-keep-in-Ok-Unended-clause-goes
returns-in_ok-keep-in-Ok-Unended-clause-goes g c start h =
    let line = rw c.in-Ok-Unended.field-0-is at c.in-Ok-Unended.ensures.line in
    gathered_last g.G.Gatherer.says g.G.Gatherer.holds false start _ (g.S.Source.at c.next_line.new.input).left
    c.args.read _ c.keep-in-Ok-Unended.new.self c.next_line.new.line.items c.next_line.new.self c.requires.few h
    (subst (λ (l : List ℕ). Keeps g.G.Gatherer.says g.G.Gatherer.holds l (c.args.read + 1) c.args.gatherer.now
    c.keep-in-Ok-Unended.new.self (Ok tt)) c.deref-in-Ok-Unended.ensures.value c.in_ok-keep-in-Ok-Unended.ensures)
    line.1 line.2 line.0 line.3

pub returns-in_err-keep-in-Ok-Ended-clause-goes : goal.returns-in_err-keep-in-Ok-Ended-clause-goes
returns-in_err-keep-in-Ok-Ended-clause-goes g c start h =
    let line = rw c.in-Ok-Ended.field-0-is at c.in-Ok-Ended.ensures.line in
    let text = c.next_line.new.line.items in
    let stop = c.in_err-keep-in-Ok-Ended.field-0.0 in
    let left = (g.S.Source.at c.next_line.new.input).left in
    subst (λ (end : Result Bool Stop). Goes g.G.Gatherer.says g.G.Gatherer.holds start c.args.read c.keep.new.self
    (unread c.next_line.new.self left) left end)
    (sym (handed_on c.from_residual.result stop c.from_residual.ensures.1))
    (ended_at_line g.G.Gatherer.says g.G.Gatherer.holds (λ more. g.G.Gatherer.holds c.keep.new.self) stop start _ left
    c.args.read c.args.gatherer.now c.keep.new.self text c.requires.few h
    (subst (λ (l : List ℕ). Keeps g.G.Gatherer.says g.G.Gatherer.holds l (c.args.read + 1) c.args.gatherer.now
    c.keep.new.self (Err stop)) c.deref.ensures.value c.in_err-keep-in-Ok-Ended.ensures)
    (λ rest is. first-ended rest text _ line.1 (told (text ++ 10 ∷ []) _ _ rest is line.0)))

pub returns-in_err-keep-in-Ok-Unended-clause-goes : goal.returns-in_err-keep-in-Ok-Unended-clause-goes
returns-in_err-keep-in-Ok-Unended-clause-goes g c start h =
    let line = rw c.in-Ok-Unended.field-0-is at c.in-Ok-Unended.ensures.line in
    let text = c.next_line.new.line.items in
    let stop = c.in_err-keep-in-Ok-Unended.field-0.0 in
    let left = (g.S.Source.at c.next_line.new.input).left in
    subst (λ (end : Result Bool Stop). Goes g.G.Gatherer.says g.G.Gatherer.holds start c.args.read
    c.keep-in-Ok-Unended.new.self (unread c.next_line.new.self left) left end)
    (sym (handed_on c.from_residual-in_err-keep-in-Ok-Unended.result stop
    c.from_residual-in_err-keep-in-Ok-Unended.ensures.1))
    (ended_at_line g.G.Gatherer.says g.G.Gatherer.holds (λ more. g.G.Gatherer.holds c.keep-in-Ok-Unended.new.self) stop
    start _ left c.args.read c.args.gatherer.now c.keep-in-Ok-Unended.new.self text c.requires.few h
    (subst (λ (l : List ℕ). Keeps g.G.Gatherer.says g.G.Gatherer.holds l (c.args.read + 1) c.args.gatherer.now
    c.keep-in-Ok-Unended.new.self (Err stop)) c.deref-in-Ok-Unended.ensures.value c.in_err-keep-in-Ok-Unended.ensures)
    (λ rest is. (
      [],
      only-unended rest text c.next_line.new.self left line.1 line.2 (told text _ _ rest is line.0)
          line.3,
    )))

-- ---- what is taken

pub returns-in-Err-clause-takes : goal.returns-in-Err-clause-takes
returns-in-Err-clause-takes g c before h = few_line before c.args.read _ _ h _ _ c.next_line.ensures.few
    c.next_line.ensures.held

pub returns-in-Ok-Nothing-clause-takes : goal.returns-in-Ok-Nothing-clause-takes
returns-in-Ok-Nothing-clause-takes g c before h = few_line before c.args.read _ _ h _ _ c.next_line.ensures.few
    c.next_line.ensures.held

pub returns-in-Ok-TooLong-clause-takes : goal.returns-in-Ok-TooLong-clause-takes
returns-in-Ok-TooLong-clause-takes g c before h = few_line before c.args.read _ _ h _ _ c.next_line.ensures.few
    c.next_line.ensures.held

pub returns-in_ok-keep-in-Ok-Ended-clause-takes : goal.returns-in_ok-keep-in-Ok-Ended-clause-takes
returns-in_ok-keep-in-Ok-Ended-clause-takes g c before h = few_line before c.args.read _ _ h _ _ c.next_line.ensures.few
    c.next_line.ensures.held

pub returns-in_ok-keep-in-Ok-Unended-clause-takes : goal.returns-in_ok-keep-in-Ok-Unended-clause-takes
returns-in_ok-keep-in-Ok-Unended-clause-takes g c before h =
    few_line before c.args.read _ _ h _ _ c.next_line.ensures.few c.next_line.ensures.held

pub returns-in_err-keep-in-Ok-Ended-clause-takes : goal.returns-in_err-keep-in-Ok-Ended-clause-takes
returns-in_err-keep-in-Ok-Ended-clause-takes g c before h =
    few_line before c.args.read _ _ h _ _ c.next_line.ensures.few c.next_line.ensures.held

pub returns-in_err-keep-in-Ok-Unended-clause-takes : goal.returns-in_err-keep-in-Ok-Unended-clause-takes
returns-in_err-keep-in-Ok-Unended-clause-takes g c before h =
    few_line before c.args.read _ _ h _ _ c.next_line.ensures.few c.next_line.ensures.held
