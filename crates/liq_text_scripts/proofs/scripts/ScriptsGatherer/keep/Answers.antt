use Rattle.std.proofs.Common.{◌≡◌, ℕ, List, Result, refl, sym, subst}
use Rattle.liq_types.specs.declared.requests.Request.{Request}
use Rattle.liq_text_lines.specs.declared.stops.Stop.{Stop}
use Rattle.liq_text_lines.specs.declared.stops.Stop.TheVariants.{NoMemory}
use Rattle.liq_text_gather.specs.Progress.{Keeps}
use Rattle.liq_text_gather.proofs.Residual.{handed_on}
use Rattle.liq_text_scripts.specs.Asked.{Asks}
use Rattle.liq_text_scripts.specs.BySession.{scripts_of}
use Rattle.liq_text_scripts.proofs.scripts.ScriptsGatherer.keep.Goals as goal

pub returns-in_err-add-in-Ok : goal.returns-in_err-add-in-Ok
returns-in_err-add-in-Ok c =
    subst (λ (end : Result (Unit {0}) Stop). Keeps Asks (λ scripts (asked : List (ℕ × Request)). scripts
    ≡ scripts_of asked) c.args.line.now c.args.number c.args.self.now c.add.new.self end)
    (sym (handed_on c.from_residual.result NoMemory c.from_residual.ensures.1))
    ((c.in-Ok.session, c.in-Ok.request), c.in-Ok.ensures.found)

pub returns-in_ok-add-in-Ok : goal.returns-in_ok-add-in-Ok
returns-in_ok-add-in-Ok c = ((c.in-Ok.session, c.in-Ok.request), c.in-Ok.ensures.found, c.in_ok-add-in-Ok.ensures)

pub returns-in-Err : goal.returns-in-Err
returns-in-Err c =
    (refl, λ (session, request) asks. cc (c.in-Err.is, c.read_session_line.ensures.only session request asks))
