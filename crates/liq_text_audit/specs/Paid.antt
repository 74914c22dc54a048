-- What was paid to the accounts of a list of events.
use Rattle.std.specs.Prelude.{ℕ, ◌+◌, List, [], fold, unwrap_or}
use Rattle.liq_types.specs.declared.events.PoolEvent.{PoolEvent}
use Rattle.liq_types.specs.declared.events.PoolEvent.TheVariants.{Own, Offset}
use Rattle.liq_types.specs.Tables.{Table, at, put}

abbrev pub with_gain : Table ℕ → PoolEvent → Table ℕ
with_gain table (Own owner put_in paid gain amount) =
    put table owner (unwrap_or (at table owner) 0 + gain)
with_gain table (Offset debt coll total rise) = table

-- of each account with an own operation, the gains that it was paid
abbrev pub paid_table : List PoolEvent → Table ℕ
paid_table events = fold with_gain [] events
