-- What changes the Stability Pool: depositors' own operations, and offsets.
use Rattle.std.specs.Prelude.{ℕ, ◌+◌, ◌-◌, ◌==◌, List, [], ◌∷◌, ◌++◌, length, fold, if◌then◌else◌}
use Rattle.liq_types.specs.declared.events.PoolEvent.{PoolEvent}
use Rattle.liq_types.specs.declared.events.PoolEvent.TheVariants as event
use Rattle.liq_types.specs.State.{State, DepositEntry, After, opening}
use Rattle.liq_types.specs.Tables.{Table, put, without}
use Rattle.liq_types.specs.Totals.{pool_total}
use Rattle.liq_stability.specs.Position.{balance_of, gain_of}

-- the amount that an own operation leaves
abbrev pub amount_after : State → ℕ → ℕ → ℕ → ℕ
amount_after s account put_in paid_out = balance_of s account + put_in - paid_out

-- a deposit of nothing leaves no row
abbrev pub with_deposit : Table DepositEntry → ℕ → DepositEntry → Table DepositEntry
with_deposit table account d = if d.amount == 0 then without table account else put table account d

-- An own operation: LUSD is put in and paid out, the gain is paid, and what is left counts from now
-- on.
abbrev pub owned : State → ℕ → ℕ → ℕ → State
owned s account put_in paid_out =
    record s {
      provided = s.provided + put_in;
      withdrawn = s.withdrawn + paid_out;
      gains_paid = s.gains_paid + gain_of s account;
      deposits =
          let left = amount_after s account put_in paid_out in
          with_deposit s.deposits account (record {
            amount = left;
            mark = After (length s.offsets);
          });
    }

-- the pool takes over debt for collateral; no deposit changes
abbrev pub offset : State → ℕ → ℕ → State
offset s debt coll = record s {
  offsets = s.offsets ++ record {
    debt = debt;
    coll = coll;
    total = pool_total s;
  } ∷ [];
}

-- what an event does to the pool
abbrev pub after_event : State → PoolEvent → State
after_event s (event.Own account put_in paid_out gain amount) = owned s account put_in paid_out
after_event s (event.Offset debt coll total rise) = offset s debt coll

-- the state after events from the opening on
abbrev pub after_events : List PoolEvent → State
after_events events = fold after_event opening events

-- the part of a state that is the Stability Pool's
abbrev pub pool_of : State → State
pool_of s =
    record opening {
      start = s.start;
      provided = s.provided;
      withdrawn = s.withdrawn;
      gains_paid = s.gains_paid;
      offsets = s.offsets;
      deposits = s.deposits;
    }
