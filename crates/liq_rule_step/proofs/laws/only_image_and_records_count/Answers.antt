use Rattle.liq_types.specs.State.{State}
use Rattle.liq_types.specs.WellFormed.{IsWellFormed}
use Rattle.liq_rule_step.specs.Image.{IsSameState}
use Rattle.liq_rule_step.proofs.AlikeFollowed.{call_events_alike, call_changes_alike, events_alike}
use Rattle.liq_rule_step.proofs.AlikeReads.{Alike}
use Rattle.liq_rule_step.proofs.AlikeReplies.{ruling_alike, step_alike, reply_alike, run_alike, replies_alike, accepted_alike}
use Rattle.liq_rule_step.proofs.laws.only_image_and_records_count.Goals as goal

alike : (s t : State) → IsWellFormed s → IsWellFormed t → IsSameState s t → Alike s t
alike s t ws wt h = record { image = h.image; records = h.records; left = ws; right = wt }

same : {s t : State} → Alike s t → IsSameState s t
same h = record { image = h.image; records = h.records }

pub returns-clause-ruling : goal.returns-clause-ruling
returns-clause-ruling c s t ws wt h command = ruling_alike (alike s t ws wt h) command

pub returns-clause-reply : goal.returns-clause-reply
returns-clause-reply c s t ws wt h request = reply_alike (alike s t ws wt h) request

pub returns-clause-state : goal.returns-clause-state
returns-clause-state c s t ws wt h request = same (step_alike (alike s t ws wt h) request)

pub returns-clause-run_replies : goal.returns-clause-run_replies
returns-clause-run_replies c s t ws wt h requests = replies_alike requests (alike s t ws wt h)

pub returns-clause-run_state : goal.returns-clause-run_state
returns-clause-run_state c s t ws wt h requests = same (run_alike requests (alike s t ws wt h))

pub returns-clause-accepted : goal.returns-clause-accepted
returns-clause-accepted c s t ws wt h requests = accepted_alike requests (alike s t ws wt h)

pub returns-clause-events : goal.returns-clause-events
returns-clause-events c s t ws wt h call = call_events_alike (alike s t ws wt h) call

pub returns-clause-all_events : goal.returns-clause-all_events
returns-clause-all_events c s t ws wt h commands = events_alike commands (alike s t ws wt h)

pub returns-clause-changes : goal.returns-clause-changes
returns-clause-changes c s t ws wt h call = call_changes_alike (alike s t ws wt h) call
