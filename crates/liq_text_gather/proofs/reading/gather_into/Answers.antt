use Rattle.std.proofs.Common.{Result, sym, subst}
use Rattle.liq_text_lines.specs.declared.stops.Stop.{Stop}
use Rattle.liq_text_lines.specs.declared.stops.Stop.TheVariants.{NoMemory}
use Rattle.liq_text_lines.proofs.Readings.{takes_none}
use Rattle.liq_text_gather.specs.Gathering.{Gathers}
use Rattle.liq_text_gather.proofs.Ends.{gathers_nothing, calm_alone}
use Rattle.liq_text_gather.proofs.Residual.{handed_on}
use Rattle.liq_text_gather.proofs.reading.gather_into.Goals as goal

pub returns-in_err-reader-clause-read : goal.returns-in_err-reader-clause-read
returns-in_err-reader-clause-read g c =
    let left = (g.S.Source.at c.args.input.now).left in
    subst (λ (end : Result (Unit {0}) Stop). Gathers g.G.Gatherer.says (λ done. g.G.Gatherer.holds c.args.gatherer.now)
    end left left) (sym (handed_on c.from_residual.result NoMemory c.from_residual.ensures.1))
    (gathers_nothing g.G.Gatherer.says (λ done. g.G.Gatherer.holds c.args.gatherer.now) left left)

pub returns-in_err-reader-clause-takes : goal.returns-in_err-reader-clause-takes
returns-in_err-reader-clause-takes g c = takes_none (g.S.Source.at c.args.input.now).left

pub returns-clause-complete : goal.returns-clause-complete
returns-clause-complete g c bytes told said spelled few calm =
    calm_alone g.G.Gatherer.says (λ done. g.G.Gatherer.holds c.read_lines.new.gatherer) c.read_lines.result bytes
    (g.S.Source.at c.args.input.now).left (g.S.Source.at c.read_lines.new.input).left said
    (g.S.Source.at c.args.input.now).faults (g.S.Source.at c.read_lines.new.input).faults told spelled few calm
    c.read_lines.ensures.source c.read_lines.ensures.read
