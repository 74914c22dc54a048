-- What the protocol gives the accounts of a list of events, and the rows of their audit.
use Rattle.std.specs.Prelude.{ℕ, ◌+◌, ◌^◌, ◌<◌, List, map}
use Rattle.liq_types.specs.declared.amounts.TheConstants.{ACCOUNTS}
use Rattle.liq_types.specs.declared.events.PoolEvent.{PoolEvent}
use Rattle.liq_types.specs.State.{State}
use Rattle.liq_stability.specs.Position.{balance_of, gain_of}
use Rattle.liq_stability.specs.Promise.{gained_of}
use Rattle.liq_audit.specs.declared.rows.EngineRow.{EngineRow}
use Rattle.liq_audit.specs.declared.rows.Row.{Row}
use Rattle.liq_audit.specs.Auditable.{owners_of, row_of}
use Rattle.liq_core.specs.Core.{Core, StandsFor}

-- an account's balance in the state, and all that it gained by then, paid out or not
abbrev pub engine_row : State → List PoolEvent → ℕ → EngineRow
engine_row s events account =
    record { account = account; balance = balance_of s account; gain = gained_of s account events }

-- what the state gives each account with an own operation, ascending
abbrev pub engine_rows : State → List PoolEvent → List EngineRow
engine_rows s events = map (engine_row s events) (owners_of events)

abbrev pub rows_of : State → List PoolEvent → List Row
rows_of s events = map (row_of events) (engine_rows s events)

-- ---- as they are made

-- what the state gives an account that was paid so much
abbrev pub paid_row : State → ℕ × ℕ → EngineRow
paid_row s paid = record {
  account = paid.0;
  balance = balance_of s paid.0;
  gain = gain_of s paid.0
      + paid.1;
}

-- the account is in range, and all that it gained by the core's state fits 64 bits
pub record Pays (core : Core) (paid : ℕ × ℕ) : Type 0 where
  pub range : paid.0 < ACCOUNTS
  pub state : State
  pub stands : StandsFor core state
  pub fits : gain_of state paid.0 + paid.1 < 2 ^ 64
