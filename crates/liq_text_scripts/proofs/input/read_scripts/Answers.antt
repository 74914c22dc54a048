use Rattle.std.proofs.Common.{◌≡◌, Result, sym, subst, ◌∙◌}
use Rattle.std.specs.Prelude.{Vec, IsOkUnless}
use Rattle.std.specs.Global.{Global}
use Rattle.liq_text_lines.specs.declared.stops.Stop.{Stop}
use Rattle.liq_text_lines.specs.declared.stops.Stop.TheVariants.{NoMemory}
use Rattle.liq_text_lines.proofs.Readings.{takes_none}
use Rattle.liq_text_gather.proofs.Ends.{gathers_nothing}
use Rattle.liq_text_gather.proofs.Residual.{handed_on}
use Rattle.liq_sessions.specs.declared.script.Script.{Script}
use Rattle.liq_text_scripts.specs.Asked.{Asks}
use Rattle.liq_text_scripts.specs.BySession.{scripts_of}
use Rattle.liq_text_scripts.specs.Gathering.{Gathers}
use Rattle.liq_text_scripts.proofs.Few.{few_requests}
use Rattle.liq_text_scripts.proofs.Reading.{scripts_stopped, scripts_done}
use Rattle.liq_text_scripts.proofs.input.read_scripts.Goals as goal

pub returns-in_err-scripts-clause-read : goal.returns-in_err-scripts-clause-read
returns-in_err-scripts-clause-read g c =
    let left = (g.S.Source.at c.args.input.now).left in
    subst (λ (end : Result (Vec Script Global) Stop). Gathers end left left)
    (sym (handed_on c.from_residual.result NoMemory c.from_residual.ensures.1))
    (scripts_stopped (λ (done : Unit {0}) asked. Unit {0}) NoMemory left left (gathers_nothing Asks
    (λ (done : Unit {0}) asked. Unit {0}) left left))

pub returns-in_err-scripts-clause-takes : goal.returns-in_err-scripts-clause-takes
returns-in_err-scripts-clause-takes g c = takes_none (g.S.Source.at c.args.input.now).left

pub returns-in_err-gather_into-clause-read : goal.returns-in_err-gather_into-clause-read
returns-in_err-gather_into-clause-read g c =
    let before = (g.S.Source.at c.args.input.now).left in
    let left = (g.S.Source.at c.gather_into.new.input).left in
    let stop = c.in_err-gather_into.field-0.0 in
    subst (λ (end : Result (Vec Script Global) Stop). Gathers end before left)
    (sym (handed_on c.from_residual-in_err-gather_into.result stop c.from_residual-in_err-gather_into.ensures.1))
    (scripts_stopped (λ done asked. c.gather_into.new.gatherer ≡ scripts_of asked) stop before left
    c.in_err-gather_into.ensures.read)

pub returns-in_err-gather_into-clause-complete : goal.returns-in_err-gather_into-clause-complete
returns-in_err-gather_into-clause-complete g c bytes told asked spelled few calm =
    subst (λ (end : Result (Vec Script Global) Stop). IsOkUnless end NoMemory)
    (sym (handed_on c.from_residual-in_err-gather_into.result c.in_err-gather_into.field-0.0
    c.from_residual-in_err-gather_into.ensures.1))
    (c.in_err-gather_into.ensures.complete bytes told asked spelled few calm)

pub returns-clause-read : goal.returns-clause-read
returns-clause-read g c =
    scripts_done c.gather_into.new.gatherer c.into_list.result (g.S.Source.at c.args.input.now).left
    (g.S.Source.at c.gather_into.new.input).left c.into_list.ensures c.in_ok-gather_into.ensures.read

pub returns-clause-few : goal.returns-clause-few
returns-clause-few g c =
    let came = c.in_ok-gather_into.ensures.read in
    few_requests came.said c.into_list.result.items (c.into_list.ensures ∙ came.has) came.few
