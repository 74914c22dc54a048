use Rattle.std.proofs.Common.{Ok, ap, sym, ◌∙◌}
use Rattle.liq_word_state.specs.State.{standing}
use Rattle.liq_word_exit.specs.declared.halts.Halt.TheVariants.{DiskFault, ReadFault}
use Rattle.liq_word_exit.proofs.Shown.{by_sink}
use Rattle.liq_word_state.proofs.TextsTold.{text_written}
use Rattle.liq_word_state.proofs.state.write_standing.Goals as goal

pub returns-clause-written : goal.returns-clause-written
returns-clause-written g c s stands =
    text_written (Ok (standing s)) _ c.write_text.result _ _ (ap Ok (sym (c.deref.ensures.value
    ∙ c.in_ok-text.ensures s stands))) c.write_text.ensures.ok c.write_text.ensures.err

pub returns-clause-no_disk : goal.returns-clause-no_disk
returns-clause-no_disk g c = by_sink _ c.write_text.result DiskFault c.write_text.ensures.err (λ e. cc)

pub returns-clause-no_source : goal.returns-clause-no_source
returns-clause-no_source g c = by_sink _ c.write_text.result ReadFault c.write_text.ensures.err (λ e. cc)
