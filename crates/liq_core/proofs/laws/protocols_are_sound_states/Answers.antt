use Rattle.std.proofs.Common.{subst}
use Rattle.liq_core.specs.Core.{Core, state_of}
use Rattle.liq_core.specs.Sound.{core_of}
use Rattle.liq_rule_sound.specs.SoundState.{IsSoundState}
use Rattle.liq_rule_sound.proofs.SoundStart.{started_with}
use Rattle.liq_core.proofs.laws.protocols_are_sound_states.Goals as goal

pub returns : goal.returns
returns c =
    let core = core_of c.protocol.inside in
    subst (λ (now : Core). IsSoundState (state_of now)) c.protocol.view_is
    (started_with core.image core.records c.protocol.invariant.image)
