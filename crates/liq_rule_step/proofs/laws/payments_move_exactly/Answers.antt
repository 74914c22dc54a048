use Rattle.std.proofs.Common.{◌+◌, ◌-◌}
use Rattle.liq_types.specs.State.{wallet_of}
use Rattle.liq_rule_step.proofs.Moving.{wallet_here, wallet_other, paid_coll, paid_lusd, charged_coll, charged_lusd}
use Rattle.liq_rule_step.proofs.laws.payments_move_exactly.Goals as goal

pub returns-clause-paid : goal.returns-clause-paid
returns-clause-paid c s account coll lusd h = wallet_here s.wallets account _ h

pub returns-clause-paid_others : goal.returns-clause-paid_others
returns-clause-paid_others c s account coll lusd other n =
    wallet_other s.wallets account other (record {
      coll = (wallet_of s account).coll + coll;
      lusd = (wallet_of s account).lusd + lusd;
    }) n

pub returns-clause-charged : goal.returns-clause-charged
returns-clause-charged c s account coll lusd h = wallet_here s.wallets account _ h

pub returns-clause-charged_others : goal.returns-clause-charged_others
returns-clause-charged_others c s account coll lusd other n =
    wallet_other s.wallets account other (record {
      coll = (wallet_of s account).coll - coll;
      lusd = (wallet_of s account).lusd - lusd;
    }) n

pub returns-clause-paid_coll : goal.returns-clause-paid_coll
returns-clause-paid_coll c = paid_coll

pub returns-clause-paid_lusd : goal.returns-clause-paid_lusd
returns-clause-paid_lusd c = paid_lusd

pub returns-clause-charged_coll : goal.returns-clause-charged_coll
returns-clause-charged_coll c = charged_coll

pub returns-clause-charged_lusd : goal.returns-clause-charged_lusd
returns-clause-charged_lusd c = charged_lusd
