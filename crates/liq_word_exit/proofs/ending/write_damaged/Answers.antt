use Rattle.std.proofs.Common.{subst, sym}
use Rattle.std.specs.Prelude.{OnOk}
use Rattle.liq_text_lines.specs.Writing.{Writes}
use Rattle.liq_disk_pair.specs.declared.side.Side.{Side}
use Rattle.liq_word_exit.specs.declared.halts.Halt.TheVariants.{Damaged}
use Rattle.liq_word_exit.specs.Output.{last}
use Rattle.liq_word_exit.proofs.ending.write_damaged.Goals as goal

pub returns-in-Left-clause-ok : goal.returns-in-Left-clause-ok
returns-in-Left-clause-ok g c =
    subst (λ (side : Side). OnOk c.write_numbered.result
    (Writes (g.K.Sink.at c.args.out.now).held (last (Damaged side c.args.number))
    (g.K.Sink.at c.write_numbered.new.out).held)) (sym c.in-Left.is) c.write_numbered.ensures.ok

pub returns-in-Right-clause-ok : goal.returns-in-Right-clause-ok
returns-in-Right-clause-ok g c =
    subst (λ (side : Side). OnOk c.write_numbered-in-Right.result
    (Writes (g.K.Sink.at c.args.out.now).held (last (Damaged side c.args.number))
    (g.K.Sink.at c.write_numbered-in-Right.new.out).held)) (sym c.in-Right.is) c.write_numbered-in-Right.ensures.ok
