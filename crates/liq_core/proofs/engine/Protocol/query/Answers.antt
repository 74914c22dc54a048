use Rattle.std.proofs.Common.{sym, subst, ◌∙◌}
use Rattle.liq_types.specs.Soundness.{IsSoundImage}
use Rattle.liq_core.specs.Core.{Core}
use Rattle.liq_rule_step.proofs.AlikeReplies.{answer_alike}
use Rattle.liq_core.proofs.Stands.{standing_alike}
use Rattle.liq_core.proofs.engine.Protocol.query.Goals as goal

pub returns : goal.returns
returns c s h =
    let sound = subst (λ (core : Core). IsSoundImage core.image core.records) c.self.view_is c.self.invariant.image in
    answer_alike (standing_alike c.args.self.now s sound h) c.args.query.now ∙ sym c.answer.ensures
