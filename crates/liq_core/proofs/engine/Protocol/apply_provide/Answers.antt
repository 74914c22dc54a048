use Rattle.std.proofs.Common.{refl, arith}
use Rattle.liq_stability.specs.Kept.{position_at}
use Rattle.liq_core.proofs.Depositing.{provides_so, provide_changes, provide_sound}
use Rattle.liq_core.proofs.engine.Protocol.apply_provide.Goals as goal

pub provide-gain-requires-clause-limit : goal.provide-gain-requires-clause-limit
provide-gain-requires-clause-limit c =
    (provides_so c.self.inside c.args.self.now c.self.view_is c.self.invariant c.args.account c.args.lusd
    c.requires.range c.requires.allowed (position_at c.self.inside.pool c.args.account).1 refl).total

pub exchange-requires-clause-coll_limit : goal.exchange-requires-clause-coll_limit
exchange-requires-clause-coll_limit c =
    let may = provides_so c.self.inside c.args.self.now c.self.view_is c.self.invariant c.args.account c.args.lusd
    c.requires.range c.requires.allowed c.provide-gain.result c.provide-gain.ensures.gain in
    omega (arith, may.coll_limit)

pub exchange-requires-clause-lusd_limit : goal.exchange-requires-clause-lusd_limit
exchange-requires-clause-lusd_limit c =
    let may = provides_so c.self.inside c.args.self.now c.self.view_is c.self.invariant c.args.account c.args.lusd
    c.requires.range c.requires.allowed c.provide-gain.result c.provide-gain.ensures.gain in
    omega (arith, may.lusd_limit)

pub invariant_of-self : goal.invariant_of-self
invariant_of-self c =
    provide_sound c.self.inside c.args.self.now c.self.view_is c.self.invariant c.args.account c.args.lusd
    c.requires.range c.requires.allowed c.provide-gain.result c.provide-gain.ensures.gain
    c.provide-gain.new.self c.exchange.new.self c.provide-gain.ensures.words c.provide-gain.ensures.finished
    c.provide-gain.ensures.deposits c.exchange.ensures.rows

pub returns : goal.returns
returns c =
    provide_changes c.self.inside c.args.self.now c.self.view_is c.self.invariant c.args.account c.args.lusd
    c.requires.range c.requires.allowed c.provide-gain.result c.provide-gain.ensures.gain
    c.provide-gain.new.self c.exchange.new.self c.provide-gain.ensures.words c.provide-gain.ensures.finished
    c.provide-gain.ensures.deposits c.exchange.ensures.rows

pub provide-gain-requires-clause-some : goal.provide-gain-requires-clause-some
provide-gain-requires-clause-some c =
    (provides_so c.self.inside c.args.self.now c.self.view_is c.self.invariant c.args.account c.args.lusd
    c.requires.range c.requires.allowed (position_at c.self.inside.pool c.args.account).1 refl).some
