use Rattle.std.proofs.Common.{sym, ◌∙◌}
use Rattle.liq_core.specs.Core.{state_of}
use Rattle.liq_core.proofs.AccountsFirst.{passed_range, refused_range}
use Rattle.liq_core.proofs.engine.Protocol.plan_call.Goals as goal

pub returns-in-Ok : goal.returns-in-Ok
returns-in-Ok c = passed_range (state_of c.args.self.now) c.args.call.now c.plan_verb.result (sym c.in-Ok.is
    ∙ c.check_accounts.ensures) c.plan_verb.ensures

pub returns-in-Err : goal.returns-in-Err
returns-in-Err c = refused_range (state_of c.args.self.now) c.args.call.now c.in-Err.refusal (sym c.in-Err.is
    ∙ c.check_accounts.ensures)
