use Rattle.std.proofs.Common.{sym, ap, ◌∙◌}
use Rattle.liq_types.specs.Rules.{first_refusal}
use Rattle.liq_core_limits.specs.declared.generation.Generation.{Generation}
use Rattle.liq_core_limits.specs.Generations.{record_rules}
use Rattle.liq_core.specs.Core.{state_of}
use Rattle.liq_types.proofs.Verbs.{not_rotate}
use Rattle.liq_core.proofs.Rotating.{other_rules}
use Rattle.liq_core.proofs.engine.Protocol.no_room.Goals as goal

pub returns-in_default : goal.returns-in_default
returns-in_default c =
    let command = c.args.command.now in
    c.no_record.ensures
    ∙ ap (λ (g : Generation). first_refusal (record_rules g)) c.current.ensures.counts
    ∙ sym (other_rules (state_of c.args.self.now) command (not_rotate command.call c.in_default.not-Rotate))
