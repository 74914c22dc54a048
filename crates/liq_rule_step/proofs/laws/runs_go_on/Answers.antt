use Rattle.liq_rule_step.proofs.Runs.{run_state, run_replies, run_accepted}
use Rattle.liq_rule_step.proofs.laws.runs_go_on.Goals as goal

pub returns-clause-state : goal.returns-clause-state
returns-clause-state c = run_state

pub returns-clause-replies : goal.returns-clause-replies
returns-clause-replies c = run_replies

pub returns-clause-accepted : goal.returns-clause-accepted
returns-clause-accepted c = run_accepted
