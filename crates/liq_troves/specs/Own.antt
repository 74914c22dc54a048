-- What changes the troves of a state: own operations, redistributions and snapshots.
use Rattle.std.specs.Prelude.{ℕ, ◌+◌, ◌-◌, Option, Some, None, [], ◌∷◌, ◌++◌, length}
use Rattle.liq_types.specs.State.{State, TroveEntry, After}
use Rattle.liq_types.specs.Tables.{at, put, without}
use Rattle.liq_types.specs.Totals.{stakes_of, total_coll}
use Rattle.liq_troves.specs.Rows.{stake_by}
use Rattle.liq_troves.specs.StakeSums.{pending_coll, pending_debt}

-- the stake for collateral
abbrev pub stake_for : State → ℕ → ℕ
stake_for s coll = stake_by s.snap_stakes s.snap_coll coll

-- a trove leaves: its recorded amounts the active pool, its pending ones the default pool
abbrev pub lifted_entry : State → ℕ → Option TroveEntry → State
lifted_entry s account None = s
lifted_entry s account (Some t) =
    record s {
      active_coll = s.active_coll - t.coll;
      active_debt = s.active_debt - t.debt;
      default_coll = s.default_coll - pending_coll s t;
      default_debt = s.default_debt - pending_debt s t;
      troves = without s.troves account;
    }

abbrev pub lifted : State → ℕ → State
lifted s account = lifted_entry s account (at s.troves account)

-- a trove stands with these amounts, and nothing pending
abbrev pub placed : State → ℕ → ℕ → ℕ → State
placed s account coll debt =
    record s {
      active_coll = s.active_coll + coll;
      active_debt = s.active_debt + debt;
      troves = put s.troves account (record {
        coll = coll;
        debt = debt;
        stake = stake_for s coll;
        mark = After (length s.redistributions);
      });
    }

-- an own operation, after which the trove has these amounts
abbrev pub set_trove : State → ℕ → ℕ → ℕ → State
set_trove s account coll debt = placed (lifted s account) account coll debt

-- collateral and debt for all troves, by their stakes
abbrev pub redistributed : State → ℕ → ℕ → State
redistributed s coll debt =
    record s {
      default_coll = s.default_coll + coll;
      default_debt = s.default_debt + debt;
      redistributions = s.redistributions ++ record {
        coll = coll;
        debt = debt;
        stakes = stakes_of s;
      } ∷ [];
    }

-- stakes and collateral as they are now, by which later stakes are made
abbrev pub snapped : State → State
snapped s = record s { snap_stakes = stakes_of s; snap_coll = total_coll s }
