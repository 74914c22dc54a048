use Rattle.liq_text_rewards.proofs.Following.{past_in_order, last_minute}
use Rattle.liq_types.specs.State.{opening_with}
use Rattle.liq_text_rewards.proofs.laws.minutes_never_fall.Goals as goal

pub returns-clause-order : goal.returns-clause-order
returns-clause-order c limit commands s came = past_in_order limit commands s came

pub returns-clause-last : goal.returns-clause-last
returns-clause-last c limit commands s came = last_minute commands 1 (opening_with limit) s came
