use Rattle.liq_rewards.proofs.Along.{within_allowance}
use Rattle.liq_rewards.proofs.laws.rewards_are_shares.Goals as goal

pub returns : goal.returns
returns c most served past lawful account minute = within_allowance most served account minute past lawful
