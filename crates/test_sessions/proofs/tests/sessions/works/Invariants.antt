use Rattle.std.proofs.Common.{◌≤◌, length}
use Rattle.std.specs.Prelude.{All}
use Rattle.liq_sessions.specs.declared.script.TheConstants.{REQUESTS_MOST}
use Rattle.test_sessions.proofs.tests.sessions.works.Given as goal

abbrev pub invariant-loop-before : goal.invariant-loop-before
invariant-loop-before g l = All (λ w. length w.script.requests ≤ REQUESTS_MOST) l.works.items
