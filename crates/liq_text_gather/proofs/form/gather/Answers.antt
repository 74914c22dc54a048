use Rattle.std.proofs.Common.{◌≡◌, Result, sym, subst}
use Rattle.std.specs.Prelude.{Vec, IsOkUnless}
use Rattle.std.specs.Global.{Global}
use Rattle.liq_text_lines.specs.declared.stops.Stop.{Stop}
use Rattle.liq_text_lines.specs.declared.stops.Stop.TheVariants.{NoMemory}
use Rattle.liq_text_gather.specs.Gathering.{Gathers}
use Rattle.liq_text_gather.proofs.Ends.{gathers_stopped, gathers_done}
use Rattle.liq_text_gather.proofs.Residual.{handed_on}
use Rattle.liq_text_gather.proofs.form.gather.Goals as goal

pub returns-in_err-gather_into-clause-read : goal.returns-in_err-gather_into-clause-read
returns-in_err-gather_into-clause-read g c =
    let before = (g.S.Source.at c.args.input.now).left in
    let left = (g.S.Source.at c.gather_into.new.input).left in
    let stop = c.in_err-gather_into.field-0.0 in
    subst (λ (end : Result (Vec g.row.F-Item.Denot Global) Stop). Gathers g.F.Form.says (λ items said. items.items
    ≡ said) end before left) (sym (handed_on c.from_residual.result stop c.from_residual.ensures.1))
    (gathers_stopped g.F.Form.says (λ done said. c.gather_into.new.gatherer.items.items
    ≡ said) (λ items said. items.items ≡ said) stop before left c.in_err-gather_into.ensures.read)

pub returns-clause-read : goal.returns-clause-read
returns-clause-read g c =
    gathers_done g.F.Form.says (λ done said. c.gather_into.new.gatherer.items.items ≡ said) (λ items said. items.items
    ≡ said) tt c.gather_into.new.gatherer.items (g.S.Source.at c.args.input.now).left
    (g.S.Source.at c.gather_into.new.input).left (λ said has. has) c.in_ok-gather_into.ensures.read

pub returns-in_err-gather_into-clause-complete : goal.returns-in_err-gather_into-clause-complete
returns-in_err-gather_into-clause-complete g c bytes told said spelled few calm =
    subst (λ (end : Result (Vec g.row.F-Item.Denot Global) Stop). IsOkUnless end NoMemory)
    (sym (handed_on c.from_residual.result c.in_err-gather_into.field-0.0 c.from_residual.ensures.1))
    (c.in_err-gather_into.ensures.complete bytes told said spelled few calm)
