use Rattle.std.proofs.Common.{arith}
use Rattle.liq_core.proofs.Depositing.{claims_so, claim_changes, claim_sound}
use Rattle.liq_core.proofs.engine.Protocol.apply_claim.Goals as goal

pub overflow_sub-self : goal.overflow_sub-self
overflow_sub-self c = let may = claims_so c.self.inside c.args.self.now c.self.view_is c.self.invariant c.args.account
    c.take-coll.result c.requires.range c.requires.allowed c.take-coll.ensures.claimed in omega (arith, may.surplus)

pub pay-requires-clause-coll : goal.pay-requires-clause-coll
pay-requires-clause-coll c = (claims_so c.self.inside c.args.self.now c.self.view_is c.self.invariant c.args.account
    c.take-coll.result c.requires.range c.requires.allowed c.take-coll.ensures.claimed).coll_limit

pub pay-requires-clause-lusd : goal.pay-requires-clause-lusd
pay-requires-clause-lusd c = let may = claims_so c.self.inside c.args.self.now c.self.view_is c.self.invariant
    c.args.account c.take-coll.result c.requires.range c.requires.allowed c.take-coll.ensures.claimed
    in omega (arith, may.lusd_limit)

pub invariant_of-self : goal.invariant_of-self
invariant_of-self c =
    claim_sound c.self.inside c.args.self.now c.self.view_is c.self.invariant c.args.account c.take-coll.result
    c.requires.range c.requires.allowed c.take-coll.ensures.claimed
    c.take-coll.new.self c.pay.new.self c.take-coll.ensures.taken c.pay.ensures.moved

pub returns : goal.returns
returns c =
    claim_changes c.self.inside c.args.self.now c.self.view_is c.self.invariant c.args.account c.take-coll.result
    c.requires.range c.requires.allowed c.take-coll.ensures.claimed
    c.take-coll.new.self c.pay.new.self c.take-coll.ensures.taken c.pay.ensures.moved
