use Rattle.std.proofs.Common.{◌∙◌, ap}
use Rattle.liq_core_limits.specs.Generations.{next_generation}
use Rattle.liq_core.specs.Core.{Core}
use Rattle.liq_core.proofs.Rotating.{rotation_sound, rotation_stands}
use Rattle.liq_core.proofs.engine.Protocol.apply_rotate.Goals as goal

pub invariant_of-self : goal.invariant_of-self
invariant_of-self c =
    rotation_sound c.self.inside c.args.self.now c.self.view_is c.self.invariant c.args.command.now c.args.done
    c.requires.rotates c.requires.allowed c.requires.done _
    (c.next-next.ensures ∙ ap next_generation c.current.ensures.counts) _ c.write.ensures.rows

pub returns-clause-state : goal.returns-clause-state
returns-clause-state c =
    rotation_stands c.self.inside c.args.self.now c.self.view_is c.self.invariant c.args.command.now c.args.done
    c.requires.rotates c.requires.allowed c.requires.done _
    (c.next-next.ensures ∙ ap next_generation c.current.ensures.counts) _ c.write.ensures.rows

pub returns-clause-list : goal.returns-clause-list
returns-clause-list c = ap (λ (core : Core). core.list) c.self.view_is
