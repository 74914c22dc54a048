use Rattle.std.proofs.Common.{◌≡◌, ◌≤◌, ◌*◌}
use Rattle.std.specs.Prelude.{min}
use Rattle.liq_rewards.specs.declared.issuance.TheConstants.{YEAR, UNITS_AT_FIRST}
use Rattle.liq_rewards.specs.Issued.{issued}
use Rattle.liq_rewards.proofs.issuance.issued.Given as goal

abbrev pub invariant-loop-year : goal.invariant-loop-year
invariant-loop-year l =
    (l.units ≡ issued (min l.minutes (l.year * YEAR)))
    × (l.units ≤ l.year * (YEAR * UNITS_AT_FIRST))
