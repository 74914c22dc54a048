use Rattle.std.proofs.Common.{◌∙◌}
use Rattle.liq_core.proofs.Answered.{is_value}
use Rattle.liq_core.proofs.Depositing.{withdraws_so, withdraw_answer, withdraw_changes, withdraw_sound}
use Rattle.liq_core.proofs.engine.Protocol.apply_withdraw.Goals as goal

pub pay-requires-clause-coll : goal.pay-requires-clause-coll
pay-requires-clause-coll c = (withdraws_so c.self.inside c.args.self.now c.self.view_is c.self.invariant c.args.account
    c.args.lusd c.requires.range c.requires.allowed c.withdraw.result c.unwrap-paid.result c.unwrap-paid.ensures
    c.withdraw.ensures.answer).coll_limit

pub pay-requires-clause-lusd : goal.pay-requires-clause-lusd
pay-requires-clause-lusd c = (withdraws_so c.self.inside c.args.self.now c.self.view_is c.self.invariant c.args.account
    c.args.lusd c.requires.range c.requires.allowed c.withdraw.result c.unwrap-paid.result c.unwrap-paid.ensures
    c.withdraw.ensures.answer).lusd_limit

pub invariant_of-self : goal.invariant_of-self
invariant_of-self c =
    withdraw_sound c.self.inside c.args.self.now c.self.view_is c.self.invariant c.args.account c.args.lusd
    c.requires.range c.requires.allowed c.withdraw.result c.unwrap-paid.result c.unwrap-paid.ensures
    c.withdraw.ensures.answer c.withdraw.new.self c.pay.new.self c.withdraw.ensures.words c.withdraw.ensures.finished
    c.withdraw.ensures.deposits c.pay.ensures.moved

pub returns : goal.returns
returns c =
    withdraw_changes c.self.inside c.args.self.now c.self.view_is c.self.invariant c.args.account c.args.lusd
    c.requires.range c.requires.allowed c.withdraw.result c.unwrap-paid.result c.unwrap-paid.ensures
    c.withdraw.ensures.answer c.withdraw.new.self c.pay.new.self c.withdraw.ensures.words c.withdraw.ensures.finished
    c.withdraw.ensures.deposits c.pay.ensures.moved

pub unwrap-paid-requires : goal.unwrap-paid-requires
unwrap-paid-requires c =
    is_value c.withdraw.result _
    (c.withdraw.ensures.answer ∙ withdraw_answer c.self.inside c.args.self.now c.self.view_is c.self.invariant
    c.args.account c.args.lusd c.requires.range c.requires.allowed)
