use Rattle.std.proofs.Common.{ap, ◌∙◌}
use Rattle.liq_types.specs.declared.requests.Call.{Call}
use Rattle.liq_rule_step.specs.Rules.{call_events}
use Rattle.liq_rule_step.specs.Step.{after, ruling}
use Rattle.liq_core.proofs.HintsAside.{after_same, events_same, ruling_same}
use Rattle.liq_core.proofs.hints.unhinted.Goals as goal

pub returns-clause-ruling : goal.returns-clause-ruling
returns-clause-ruling c s =
    ap (λ (call : Call). ruling s (record {
      client = c.args.command.now.client;
      number = c.args.command.now.number;
      call = call;
    })) c.unhinted_call.ensures
    ∙ ruling_same s c.args.command.now.client c.args.command.now.number c.args.command.now.call

pub returns-clause-after : goal.returns-clause-after
returns-clause-after c s =
    ap (λ (call : Call). after s (record {
      client = c.args.command.now.client;
      number = c.args.command.now.number;
      call = call;
    })) c.unhinted_call.ensures
    ∙ after_same s c.args.command.now.client c.args.command.now.number c.args.command.now.call

pub returns-clause-events : goal.returns-clause-events
returns-clause-events c s = ap (call_events s) c.unhinted_call.ensures ∙ events_same s c.args.command.now.call
