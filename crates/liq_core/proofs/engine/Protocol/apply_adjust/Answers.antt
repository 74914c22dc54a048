use Rattle.std.proofs.Common.{arith, ap, length}
use Rattle.liq_core.specs.Core.{Core}
use Rattle.liq_core.proofs.Lending.{is_held, adjusts_so, adjust_changes, adjust_sound}
use Rattle.liq_core.proofs.engine.Protocol.apply_adjust.Goals as goal

pub exchange-requires-clause-coll : goal.exchange-requires-clause-coll
exchange-requires-clause-coll g c =
    (adjusts_so c.self.inside c.args.self.now c.self.view_is c.self.invariant c.args.account c.requires.range
    c.args.change.now c.args.plan.now c.requires.terms c.requires.allowed).coll

pub exchange-requires-clause-lusd : goal.exchange-requires-clause-lusd
exchange-requires-clause-lusd g c =
    (adjusts_so c.self.inside c.args.self.now c.self.view_is c.self.invariant c.args.account c.requires.range
    c.args.change.now c.args.plan.now c.requires.terms c.requires.allowed).lusd

pub exchange-requires-clause-coll_limit : goal.exchange-requires-clause-coll_limit
exchange-requires-clause-coll_limit g c =
    (adjusts_so c.self.inside c.args.self.now c.self.view_is c.self.invariant c.args.account c.requires.range
    c.args.change.now c.args.plan.now c.requires.terms c.requires.allowed).coll_limit

pub exchange-requires-clause-lusd_limit : goal.exchange-requires-clause-lusd_limit
exchange-requires-clause-lusd_limit g c =
    (adjusts_so c.self.inside c.args.self.now c.self.view_is c.self.invariant c.args.account c.requires.range
    c.args.change.now c.args.plan.now c.requires.terms c.requires.allowed).lusd_limit

pub overflow_add-self : goal.overflow_add-self
overflow_add-self g c = let may = adjusts_so c.self.inside c.args.self.now c.self.view_is c.self.invariant
    c.args.account c.requires.range c.args.change.now c.args.plan.now c.requires.terms c.requires.allowed
    in record { fits = omega (arith, may.fee) }

pub change_trove-requires-clause-there : goal.change_trove-requires-clause-there
change_trove-requires-clause-there g c =
    (adjusts_so c.self.inside c.args.self.now c.self.view_is c.self.invariant c.args.account c.requires.range
    c.args.change.now c.args.plan.now c.requires.terms c.requires.allowed).there

pub change_trove-requires-clause-held : goal.change_trove-requires-clause-held
change_trove-requires-clause-held g c = is_held c.self.inside c.self.invariant _ _

pub change_trove-requires-clause-some : goal.change_trove-requires-clause-some
change_trove-requires-clause-some g c =
    (adjusts_so c.self.inside c.args.self.now c.self.view_is c.self.invariant c.args.account c.requires.range
    c.args.change.now c.args.plan.now c.requires.terms c.requires.allowed).some

pub change_trove-requires-clause-least : goal.change_trove-requires-clause-least
change_trove-requires-clause-least g c =
    (adjusts_so c.self.inside c.args.self.now c.self.view_is c.self.invariant c.args.account c.requires.range
    c.args.change.now c.args.plan.now c.requires.terms c.requires.allowed).least

pub change_trove-requires-clause-active_coll : goal.change_trove-requires-clause-active_coll
change_trove-requires-clause-active_coll g c =
    (adjusts_so c.self.inside c.args.self.now c.self.view_is c.self.invariant c.args.account c.requires.range
    c.args.change.now c.args.plan.now c.requires.terms c.requires.allowed).active_coll

pub change_trove-requires-clause-active_debt : goal.change_trove-requires-clause-active_debt
change_trove-requires-clause-active_debt g c =
    (adjusts_so c.self.inside c.args.self.now c.self.view_is c.self.invariant c.args.account c.requires.range
    c.args.change.now c.args.plan.now c.requires.terms c.requires.allowed).active_debt

pub invariant_of-self : goal.invariant_of-self
invariant_of-self g c =
    adjust_sound c.self.inside c.args.self.now c.self.view_is c.self.invariant c.args.account c.requires.range
    c.args.change.now c.args.plan.now c.requires.terms c.requires.allowed
    c.exchange.new.self c.change_trove.new.pools c.change_trove.new.troves c.change_trove.new.order
    c.exchange.ensures.rows c.change_trove.ensures.books c.change_trove.ensures.others c.change_trove.ensures.list

pub returns-clause-made : goal.returns-clause-made
returns-clause-made g c =
    adjust_changes c.self.inside c.args.self.now c.self.view_is c.self.invariant c.args.account c.requires.range
    c.args.change.now c.args.plan.now c.requires.terms c.requires.allowed
    c.exchange.new.self c.change_trove.new.pools c.change_trove.new.troves c.change_trove.new.order
    c.exchange.ensures.rows c.change_trove.ensures.books c.change_trove.ensures.others

pub returns-clause-any : goal.returns-clause-any
returns-clause-any g c =
    let any = c.change_trove.ensures.any in
    let same = ap (λ (core : Core). length core.list) c.self.view_is in
    omega (arith, any, same)
