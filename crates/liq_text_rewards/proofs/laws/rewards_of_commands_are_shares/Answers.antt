use Rattle.liq_text_rewards.proofs.Following.{events_past, all_shares, all_covered}
use Rattle.liq_text_rewards.proofs.laws.rewards_of_commands_are_shares.Goals as goal

pub returns-clause-events : goal.returns-clause-events
returns-clause-events c limit commands = events_past limit commands

pub returns-clause-share : goal.returns-clause-share
returns-clause-share c limit known commands s came account = all_shares limit known commands s came account

pub returns-clause-units : goal.returns-clause-units
returns-clause-units c limit known commands s came = all_covered limit known commands s came
