use Rattle.liq_core.proofs.Paying.{passed, passed_sound}
use Rattle.liq_core.proofs.engine.Protocol.apply_advance.Goals as goal

pub returns : goal.returns
returns c = passed c.self.inside c.args.self.now c.self.view_is c.self.invariant c.args.minutes

pub invariant_of-self : goal.invariant_of-self
invariant_of-self c = passed_sound c.self.inside c.args.self.now c.self.view_is c.self.invariant c.args.minutes
    c.requires.allowed
