use Rattle.std.proofs.Common.{◌≤◌, ◌++◌}
use Rattle.liq_views.specs.Batches.{last_from}
use Rattle.liq_views.specs.Publishers.{published, waiting}
use Rattle.test_sessions.proofs.tests.views.at_once.publish_all.Given as goal

abbrev pub invariant-loop-number : goal.invariant-loop-number
invariant-loop-number g l = last_from 0 (published l.publisher ++ waiting l.publisher) ≤ l.number
