use Rattle.liq_rule_step.proofs.Runs.{replays}
use Rattle.liq_rule_step.proofs.laws.accepted_commands_replay.Goals as goal

pub returns-clause-state : goal.returns-clause-state
returns-clause-state c s requests = (replays s requests).state

pub returns-clause-again : goal.returns-clause-again
returns-clause-again c s requests = (replays s requests).again
