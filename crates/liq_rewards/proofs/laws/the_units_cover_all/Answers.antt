use Rattle.liq_rewards.proofs.Conserving.{all_units, all_rewards}
use Rattle.liq_rewards.proofs.laws.the_units_cover_all.Goals as goal

pub returns-clause-units : goal.returns-clause-units
returns-clause-units c past minute order = all_units minute past order

pub returns-clause-rewards : goal.returns-clause-rewards
returns-clause-rewards c most served past lawful n below minute = all_rewards most served n past lawful below minute
