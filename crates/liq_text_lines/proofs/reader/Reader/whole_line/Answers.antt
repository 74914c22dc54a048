use Rattle.std.proofs.Common.{ℕ, List, ◌≡◌, ◌∙◌, ap, sym, subst, arith}
use Rattle.std.specs.List.{slice_range}
use Rattle.liq_text_lines.specs.Lines.{IsWholeLine}
use Rattle.liq_text_lines.proofs.Taken.{none_whole}
use Rattle.liq_text_lines.proofs.reader.Reader.whole_line.Goals as goal

pub returns-in_default-clause-none : goal.returns-in_default-clause-none
returns-in_default-clause-none c none size whole =
    let start = c.self.inside.start in
    let end = c.self.inside.end in
    let held = slice_range c.deref.result.now start end in
    let same : c.args.self.now ≡ held = sym c.self.view_is
    ∙ sym (ap (λ (xs : List ℕ). slice_range xs start end) c.deref.ensures.value) in
    none_whole held c.in-Some.at size c.in-Some.ensures.first.1 (omega (arith, c.if-at-le-LINE_BYTES.false))
    (subst (λ (t : List ℕ). IsWholeLine size t) same whole)
