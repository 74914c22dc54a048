use Rattle.std.proofs.Common.{sym, ◌∙◌, ap, arith, length}
use Rattle.liq_core.specs.Core.{Core}
use Rattle.liq_core.proofs.Answered.{if_value, is_value}
use Rattle.liq_core.proofs.Depositing.{moves_so, move_answer, move_changes, move_sound}
use Rattle.liq_core.proofs.Lending.{is_held}
use Rattle.liq_core.proofs.engine.Protocol.apply_gain_to_trove.Goals as goal

pub unwrap-requires : goal.unwrap-requires
unwrap-requires g c =
    is_value c.withdraw.result _ (c.withdraw.ensures.answer
    ∙ move_answer c.self.inside c.args.self.now c.self.view_is c.self.invariant c.args.account c.args.plan.now
    c.requires.range c.requires.terms c.requires.allowed)

pub change_trove-requires-clause-there : goal.change_trove-requires-clause-there
change_trove-requires-clause-there g c =
    (moves_so c.self.inside c.args.self.now c.self.view_is c.self.invariant c.args.account c.args.plan.now
    c.requires.range c.requires.terms c.requires.allowed).there

pub change_trove-requires-clause-held : goal.change_trove-requires-clause-held
change_trove-requires-clause-held g c = is_held c.self.inside c.self.invariant _ _

pub change_trove-requires-clause-some : goal.change_trove-requires-clause-some
change_trove-requires-clause-some g c =
    (moves_so c.self.inside c.args.self.now c.self.view_is c.self.invariant c.args.account c.args.plan.now
    c.requires.range c.requires.terms c.requires.allowed).some

pub change_trove-requires-clause-least : goal.change_trove-requires-clause-least
change_trove-requires-clause-least g c =
    (moves_so c.self.inside c.args.self.now c.self.view_is c.self.invariant c.args.account c.args.plan.now
    c.requires.range c.requires.terms c.requires.allowed).least

pub change_trove-requires-clause-active_coll : goal.change_trove-requires-clause-active_coll
change_trove-requires-clause-active_coll g c =
    (moves_so c.self.inside c.args.self.now c.self.view_is c.self.invariant c.args.account c.args.plan.now
    c.requires.range c.requires.terms c.requires.allowed).active_coll

pub change_trove-requires-clause-active_debt : goal.change_trove-requires-clause-active_debt
change_trove-requires-clause-active_debt g c =
    (moves_so c.self.inside c.args.self.now c.self.view_is c.self.invariant c.args.account c.args.plan.now
    c.requires.range c.requires.terms c.requires.allowed).active_debt

pub invariant_of-self : goal.invariant_of-self
invariant_of-self g c =
    move_sound c.self.inside c.args.self.now c.self.view_is c.self.invariant c.args.account c.args.plan.now
    c.requires.range c.requires.terms c.requires.allowed
    c.unwrap.result (sym c.withdraw.ensures.answer ∙ c.unwrap.ensures) c.withdraw.new.self c.change_trove.new.pools
    c.change_trove.new.troves c.change_trove.new.order
    (if_value _ c.withdraw.result c.unwrap.result c.unwrap.ensures c.withdraw.ensures.words) c.withdraw.ensures.finished
    (if_value _ c.withdraw.result c.unwrap.result c.unwrap.ensures c.withdraw.ensures.deposits)
    c.change_trove.ensures.books c.change_trove.ensures.others c.change_trove.ensures.list

pub returns-clause-made : goal.returns-clause-made
returns-clause-made g c =
    move_changes c.self.inside c.args.self.now c.self.view_is c.self.invariant c.args.account c.args.plan.now
    c.requires.range c.requires.terms c.requires.allowed
    c.unwrap.result (sym c.withdraw.ensures.answer ∙ c.unwrap.ensures) c.withdraw.new.self c.change_trove.new.pools
    c.change_trove.new.troves c.change_trove.new.order
    (if_value _ c.withdraw.result c.unwrap.result c.unwrap.ensures c.withdraw.ensures.words) c.withdraw.ensures.finished
    (if_value _ c.withdraw.result c.unwrap.result c.unwrap.ensures c.withdraw.ensures.deposits)
    c.change_trove.ensures.books c.change_trove.ensures.others

pub returns-clause-any : goal.returns-clause-any
returns-clause-any g c =
    let any = c.change_trove.ensures.any in
    let same = ap (λ (core : Core). length core.list) c.self.view_is in
    omega (arith, any, same)
