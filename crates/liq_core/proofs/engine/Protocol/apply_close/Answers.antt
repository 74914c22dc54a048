use Rattle.std.proofs.Common.{arith}
use Rattle.liq_core.proofs.Lending.{is_held, closes_so, close_changes, close_sound}
use Rattle.liq_core.proofs.engine.Protocol.apply_close.Goals as goal

pub exchange-requires-clause-lusd : goal.exchange-requires-clause-lusd
exchange-requires-clause-lusd c =
    (closes_so c.self.inside c.args.self.now c.self.view_is c.self.invariant c.args.account c.requires.range
    c.args.repaid c.args.coll c.requires.terms c.requires.allowed).lusd

pub exchange-requires-clause-coll_limit : goal.exchange-requires-clause-coll_limit
exchange-requires-clause-coll_limit c =
    (closes_so c.self.inside c.args.self.now c.self.view_is c.self.invariant c.args.account c.requires.range
    c.args.repaid c.args.coll c.requires.terms c.requires.allowed).coll_limit

pub exchange-requires-clause-lusd_limit : goal.exchange-requires-clause-lusd_limit
exchange-requires-clause-lusd_limit c = let may =
    closes_so c.self.inside c.args.self.now c.self.view_is c.self.invariant c.args.account c.requires.range
    c.args.repaid c.args.coll c.requires.terms c.requires.allowed in omega (arith, may.lusd_limit)

pub overflow_sub-self : goal.overflow_sub-self
overflow_sub-self c =
    let may = closes_so c.self.inside c.args.self.now c.self.view_is c.self.invariant c.args.account c.requires.range
    c.args.repaid c.args.coll c.requires.terms c.requires.allowed in
    omega (arith, may.reserve)

pub lift_trove-requires-clause-there : goal.lift_trove-requires-clause-there
lift_trove-requires-clause-there c =
    (closes_so c.self.inside c.args.self.now c.self.view_is c.self.invariant c.args.account c.requires.range
    c.args.repaid c.args.coll c.requires.terms c.requires.allowed).there

pub lift_trove-requires-clause-held : goal.lift_trove-requires-clause-held
lift_trove-requires-clause-held c = is_held c.self.inside c.self.invariant _ _

pub invariant_of-self : goal.invariant_of-self
invariant_of-self c =
    close_sound c.self.inside c.args.self.now c.self.view_is c.self.invariant c.args.account c.requires.range
    c.args.repaid c.args.coll c.requires.terms c.requires.allowed
    c.exchange.new.self c.lift_trove.new.pools c.lift_trove.new.troves c.lift_trove.new.order c.exchange.ensures.rows
    c.lift_trove.ensures.books c.lift_trove.ensures.others c.lift_trove.ensures.list

pub returns : goal.returns
returns c =
    close_changes c.self.inside c.args.self.now c.self.view_is c.self.invariant c.args.account c.requires.range
    c.args.repaid c.args.coll c.requires.terms c.requires.allowed
    c.exchange.new.self c.lift_trove.new.pools c.lift_trove.new.troves c.lift_trove.new.order c.exchange.ensures.rows
    c.lift_trove.ensures.books c.lift_trove.ensures.others
