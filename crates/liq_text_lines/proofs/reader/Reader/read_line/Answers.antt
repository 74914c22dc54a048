use Rattle.std.proofs.Common.{◌≡◌, ℕ, List, ◌∷◌, [], subst, sym, ◌∙◌, refl, arith}
use Rattle.std.specs.Prelude.{Contains}
use Rattle.liq_text_lines.specs.Reading.{unread, Reads, IsEndOfInput}
use Rattle.liq_text_lines.specs.Lines.{IsWithinLine}
use Rattle.liq_text_lines.proofs.Bytes.{reads_more}
use Rattle.liq_text_lines.proofs.LinesRead.{within-more}
use Rattle.liq_text_lines.proofs.ReadOn.{ended_on, fails_on, over_on}
use Rattle.liq_text_lines.proofs.Taken.{given, contained_rest}
use Rattle.liq_text_lines.proofs.reader.Reader.read_line.Goals as goal

pub returns-in_err-next_byte-clause-taken : goal.returns-in_err-next_byte-clause-taken
returns-in_err-next_byte-clause-taken g c has =
    let t = given c.loop-length.self c.next_byte.new.self c.next_byte.result c.loop-length.input c.next_byte.new.input
    (c.loop-length.invariant.taken has).0 c.next_byte.ensures.taken in
    absurd (cc (t.1, c.in_err-next_byte.was))

pub returns-in-None-clause-taken : goal.returns-in-None-clause-taken
returns-in-None-clause-taken g c has =
    let t = given c.loop-length.self c.next_byte.new.self c.next_byte.result c.loop-length.input c.next_byte.new.input
    (c.loop-length.invariant.taken has).0 c.next_byte.ensures.taken in
    absurd (cc (t.1, c.in_ok-next_byte.was, c.in-None.is))

pub returns-in-Some-eq10-clause-taken : goal.returns-in-Some-eq10-clause-taken
returns-in-Some-eq10-clause-taken g c has =
    let inv = c.loop-length.invariant.taken has in
    let t = given c.loop-length.self c.next_byte.new.self c.next_byte.result c.loop-length.input c.next_byte.new.input
    inv.0 c.next_byte.ensures.taken in
    (refl, t.3 ∙ inv.1)

pub loop-length-preserved : goal.loop-length-preserved
loop-length-preserved g c =
    let at = g.S.Source.at in
    let read = rw c.in-Some.is at c.in_ok-next_byte.ensures.byte in
    let apart = c.in-Some.byte-test.1 in
    record {
      front =
          subst (λ (line : List ℕ). Reads (unread c.args.self.now (at c.args.input.now).left) line
          (unread c.next_byte.new.self (at c.next_byte.new.input).left)) (sym c.push_reserved.ensures.items)
          (reads_more (unread c.args.self.now (at c.args.input.now).left) (unread c.loop-length.self
          (at c.loop-length.input).left) (unread c.next_byte.new.self (at c.next_byte.new.input).left)
          c.loop-length.line.items (c.in-Some.byte ∷ []) c.loop-length.invariant.front read);
      within = subst IsWithinLine (sym c.push_reserved.ensures.items)
          (within-more c.loop-length.line.items c.in-Some.byte c.loop-length.invariant.within apart);
      length = omega (arith, c.push_reserved.ensures.len, c.loop-length.invariant.length);
      capacity = c.push_reserved.ensures.capacity ∙ c.loop-length.invariant.capacity;
      count = c.in_ok-next_byte.ensures.cause.ok ∙ c.loop-length.invariant.count;
      taken = λ has.
          let inv = c.loop-length.invariant.taken has in
          let t = given c.loop-length.self c.next_byte.new.self c.next_byte.result c.loop-length.input
          c.next_byte.new.input inv.0 c.next_byte.ensures.taken in
          let same : t.0 ≡ c.in-Some.byte = cc (t.1, c.in_ok-next_byte.was, c.in-Some.is) in (
            contained_rest t.0 c.next_byte.new.self 10 (subst (λ (xs : List ℕ). Contains xs 10) t.2 inv.0)
                (λ e. apart (sym same ∙ e)),
            t.3 ∙ inv.1,
          );
    }

pub returns-in_err-next_byte-2-clause-taken : goal.returns-in_err-next_byte-2-clause-taken
returns-in_err-next_byte-2-clause-taken g c has =
    let t = given c.loop-length.self c.next_byte-2.new.self c.next_byte-2.result c.loop-length.input
    c.next_byte-2.new.input (c.loop-length.invariant.taken has).0 c.next_byte-2.ensures.taken in
    absurd (cc (t.1, c.in_err-next_byte-2.was))

pub returns-in-None-2-clause-taken : goal.returns-in-None-2-clause-taken
returns-in-None-2-clause-taken g c has =
    let t = given c.loop-length.self c.next_byte-2.new.self c.next_byte-2.result c.loop-length.input
    c.next_byte-2.new.input (c.loop-length.invariant.taken has).0 c.next_byte-2.ensures.taken in
    absurd (cc (t.1, c.in_ok-next_byte-2.was, c.in-None-2.is))

pub returns-in-Some-eq10-2-clause-taken : goal.returns-in-Some-eq10-2-clause-taken
returns-in-Some-eq10-2-clause-taken g c has =
    let inv = c.loop-length.invariant.taken has in
    let t = given c.loop-length.self c.next_byte-2.new.self c.next_byte-2.result c.loop-length.input
    c.next_byte-2.new.input inv.0 c.next_byte-2.ensures.taken in
    (refl, t.3 ∙ inv.1)

pub returns-in-Some-2-clause-taken : goal.returns-in-Some-2-clause-taken
returns-in-Some-2-clause-taken g c has =
    let inv = c.loop-length.invariant.taken has in
    let t = given c.loop-length.self c.next_byte-2.new.self c.next_byte-2.result c.loop-length.input
    c.next_byte-2.new.input inv.0 c.next_byte-2.ensures.taken in
    (refl, t.3 ∙ inv.1)

pub returns-in_err-next_byte-clause-line : goal.returns-in_err-next_byte-clause-line
returns-in_err-next_byte-clause-line g c =
    let failed = c.in_err-next_byte.ensures.failed in
    fails_on (unread c.args.self.now (g.S.Source.at c.args.input.now).left) (unread c.loop-length.self
    (g.S.Source.at c.loop-length.input).left) (unread c.next_byte.new.self (g.S.Source.at c.next_byte.new.input).left)
    c.loop-length.line.items c.next_byte.new.self c.loop-length.invariant.front c.loop-length.invariant.within
    c.from_residual.result _ c.from_residual.ensures.1 failed.0 failed.1 (omega (
      arith,
      c.loop-length.invariant.length,
      c.loop-length.auto._length-end,
    ))

pub returns-in-None-clause-line : goal.returns-in-None-clause-line
returns-in-None-clause-line g c =
    let read = rw c.in-None.is at c.in_ok-next_byte.ensures.byte in
    over_on (unread c.args.self.now (g.S.Source.at c.args.input.now).left) (unread c.loop-length.self
    (g.S.Source.at c.loop-length.input).left) (unread c.next_byte.new.self (g.S.Source.at c.next_byte.new.input).left)
    c.loop-length.line.items c.next_byte.new.self c.loop-length.invariant.front c.loop-length.invariant.within
    c.end_of_input.result read.0 read.1 (subst (λ (l : List ℕ). IsEndOfInput l c.end_of_input.result)
    c.deref.ensures.value c.end_of_input.ensures)

pub returns-in-Some-eq10-clause-line : goal.returns-in-Some-eq10-clause-line
returns-in-Some-eq10-clause-line g c =
    ended_on (unread c.args.self.now (g.S.Source.at c.args.input.now).left) (unread c.loop-length.self
    (g.S.Source.at c.loop-length.input).left) (unread c.next_byte.new.self (g.S.Source.at c.next_byte.new.input).left)
    c.loop-length.line.items c.next_byte.new.self c.loop-length.invariant.front c.loop-length.invariant.within
    (rw c.in-Some-eq10.field-0-test at (rw c.in-Some-eq10.is at c.in_ok-next_byte.ensures.byte))

pub returns-in_err-next_byte-2-clause-line : goal.returns-in_err-next_byte-2-clause-line
returns-in_err-next_byte-2-clause-line g c =
    let failed = c.in_err-next_byte-2.ensures.failed in
    fails_on (unread c.args.self.now (g.S.Source.at c.args.input.now).left) (unread c.loop-length.self
    (g.S.Source.at c.loop-length.input).left) (unread c.next_byte-2.new.self
    (g.S.Source.at c.next_byte-2.new.input).left) c.loop-length.line.items c.next_byte-2.new.self
    c.loop-length.invariant.front c.loop-length.invariant.within c.from_residual-in_err-next_byte-2.result _
    c.from_residual-in_err-next_byte-2.ensures.1 failed.0 failed.1 (omega (
      arith,
      c.loop-length.invariant.length,
      c.loop-length.auto._length-end,
    ))

pub returns-in-None-2-clause-line : goal.returns-in-None-2-clause-line
returns-in-None-2-clause-line g c =
    let read = rw c.in-None-2.is at c.in_ok-next_byte-2.ensures.byte in
    over_on (unread c.args.self.now (g.S.Source.at c.args.input.now).left) (unread c.loop-length.self
    (g.S.Source.at c.loop-length.input).left) (unread c.next_byte-2.new.self
    (g.S.Source.at c.next_byte-2.new.input).left) c.loop-length.line.items c.next_byte-2.new.self
    c.loop-length.invariant.front c.loop-length.invariant.within c.end_of_input-in-None-2.result read.0 read.1
    (subst (λ (l : List ℕ). IsEndOfInput l c.end_of_input-in-None-2.result) c.deref-in-None-2.ensures.value
    c.end_of_input-in-None-2.ensures)

pub returns-in-Some-eq10-2-clause-line : goal.returns-in-Some-eq10-2-clause-line
returns-in-Some-eq10-2-clause-line g c =
    ended_on (unread c.args.self.now (g.S.Source.at c.args.input.now).left) (unread c.loop-length.self
    (g.S.Source.at c.loop-length.input).left) (unread c.next_byte-2.new.self
    (g.S.Source.at c.next_byte-2.new.input).left) c.loop-length.line.items c.next_byte-2.new.self
    c.loop-length.invariant.front c.loop-length.invariant.within (rw c.in-Some-eq10-2.field-0-test at
    (rw c.in-Some-eq10-2.is at c.in_ok-next_byte-2.ensures.byte))
