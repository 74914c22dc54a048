-- Reward units by time.
use Rattle.std.specs.Prelude.{ℕ, zero, suc, ◌+◌, ◌/◌, ◌^◌}
use Rattle.liq_rewards.specs.declared.issuance.TheConstants.{YEAR, UNITS_AT_FIRST}

-- what a minute issues, the first being 0: from each year to the next half as much, rounded down
unfoldable pub units_in : ℕ → ℕ
units_in minute = UNITS_AT_FIRST / 2 ^ (minute / YEAR)

-- all that the first minutes issue
unfoldable pub issued : ℕ → ℕ
issued zero = 0
issued (suc minute) = issued minute + units_in minute
