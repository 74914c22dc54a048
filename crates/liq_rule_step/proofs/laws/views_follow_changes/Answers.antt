use Rattle.std.proofs.Common.{take}
use Rattle.liq_rule_step.specs.History.{requests_of}
use Rattle.liq_rule_step.proofs.Following.{after_follows, run_follows}
use Rattle.liq_rule_step.proofs.laws.views_follow_changes.Goals as goal

pub returns-clause-one : goal.returns-clause-one
returns-clause-one c s w h command = after_follows s command w (record { tables = h })

pub returns-clause-run : goal.returns-clause-run
returns-clause-run c s w h requests = run_follows requests s w (record { tables = h })

pub returns-clause-history : goal.returns-clause-history
returns-clause-history c s w h entries n = run_follows (requests_of (take n entries)) s w (record { tables = h })
