use Rattle.std.proofs.Common.{◌++◌, ◌∷◌, [], ℕ, List, subst, ◌∙◌}
use Rattle.std.specs.Prelude.{decimal}
use Rattle.liq_text_lines.specs.Writing.{Writes, WritesPart}
use Rattle.liq_word_exit.proofs.EndingLines.{on_err_of, on_err_map}
use Rattle.liq_word_exit.proofs.ending.write_numbered.Goals as goal
use Rattle.liq_text_lines.proofs.Parts.{part_first, part_second}

pub returns-in_err-write_all-clause-err : goal.returns-in_err-write_all-clause-err
returns-in_err-write_all-clause-err g c =
    on_err_of c.from_residual.result
    (part_first (g.K.Sink.at c.args.out.now).held (g.K.Sink.at c.write_all.new.out).held c.args.text.now
    (decimal c.args.number ++ 10 ∷ []) c.in_err-write_all.ensures.err)

pub returns-in_err-write_all-2-clause-err : goal.returns-in_err-write_all-2-clause-err
returns-in_err-write_all-2-clause-err g c =
    let at = g.K.Sink.at in
    let digits = c.as_bytes.ensures.value ∙ c.format.ensures.text in
    on_err_of c.from_residual-in_err-write_all-2.result
    (part_second (at c.args.out.now).held (at c.write_all.new.out).held (at c.write_all-2.new.out).held c.args.text.now
    (decimal c.args.number ++ 10 ∷ []) c.in_ok-write_all.ensures.ok
    (part_first (at c.write_all.new.out).held (at c.write_all-2.new.out).held (decimal c.args.number) (10 ∷ [])
    (subst (λ (t : List ℕ). WritesPart (at c.write_all.new.out).held t (at c.write_all-2.new.out).held) digits
    c.in_err-write_all-2.ensures.err)))

pub returns-clause-err : goal.returns-clause-err
returns-clause-err g c =
    let at = g.K.Sink.at in
    let digits = c.as_bytes.ensures.value ∙ c.format.ensures.text in
    on_err_map c.write_all-3.result
    (λ part.
    part_second (at c.args.out.now).held (at c.write_all.new.out).held (at c.write_all-3.new.out).held c.args.text.now
    (decimal c.args.number ++ 10 ∷ []) c.in_ok-write_all.ensures.ok
    (part_second (at c.write_all.new.out).held (at c.write_all-2.new.out).held (at c.write_all-3.new.out).held
    (decimal c.args.number) (10 ∷ [])
    (subst (λ (t : List ℕ). Writes (at c.write_all.new.out).held t (at c.write_all-2.new.out).held) digits
    c.in_ok-write_all-2.ensures.ok) part))
    c.write_all-3.ensures.err
