use Rattle.std.proofs.Common.{subst}
use Rattle.liq_core.specs.Core.{Core, StandsFor, state_of}
use Rattle.liq_core.specs.Sound.{core_of}
use Rattle.liq_core.proofs.SoundCores.{sound_stands}
use Rattle.liq_core.proofs.laws.protocols_stand.Goals as goal

pub returns : goal.returns
returns c =
    subst (λ (core : Core). StandsFor core (state_of core)) c.protocol.view_is (sound_stands (core_of c.protocol.inside)
    c.protocol.invariant.image)
