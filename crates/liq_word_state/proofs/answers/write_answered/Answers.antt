use Rattle.std.proofs.Common.{Ok, ap, sym, ◌∙◌}
use Rattle.liq_word_exit.specs.declared.halts.Halt.TheVariants.{DiskFault, ReadFault}
use Rattle.liq_word_exit.proofs.Shown.{by_sink}
use Rattle.liq_word_state.specs.Answers.{asked_text}
use Rattle.liq_word_state.proofs.SomeTold.{answered_some}
use Rattle.liq_word_state.proofs.TextsTold.{text_written}
use Rattle.liq_word_state.proofs.answers.write_answered.Goals as goal

pub returns-in-Ok-clause-written : goal.returns-in-Ok-clause-written
returns-in-Ok-clause-written g c s is =
    text_written (Ok (asked_text c.args.asked.now c.args.limit c.args.commands.now)) _ c.write_text.result _ _
    (ap Ok (sym (c.deref.ensures.value ∙ c.in-Ok.ensures.text))) c.write_text.ensures.ok c.write_text.ensures.err

pub returns-in-Ok-clause-no_disk : goal.returns-in-Ok-clause-no_disk
returns-in-Ok-clause-no_disk g c = by_sink _ c.write_text.result DiskFault c.write_text.ensures.err (λ e. cc)

pub returns-in-Ok-clause-no_source : goal.returns-in-Ok-clause-no_source
returns-in-Ok-clause-no_source g c = by_sink _ c.write_text.result ReadFault c.write_text.ensures.err (λ e. cc)

pub returns-in-Ok-clause-some : goal.returns-in-Ok-clause-some
returns-in-Ok-clause-some g c =
    answered_some c.args.limit c.requires.limit c.args.commands.now c.requires.no_rotation c.args.asked.now
    c.write_text.result _ _ c.in-Ok.ensures.whole
    (text_written (Ok (asked_text c.args.asked.now c.args.limit c.args.commands.now)) _ c.write_text.result _ _
    (ap Ok (sym (c.deref.ensures.value ∙ c.in-Ok.ensures.text))) c.write_text.ensures.ok c.write_text.ensures.err)
