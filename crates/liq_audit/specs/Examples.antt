-- A worked example: two depositors of the Stability Pool share two offsets, and one of them puts in
-- more between.
use Rattle.std.specs.Prelude.{List, [], ◌∷◌}
use Rattle.liq_types.specs.declared.events.PoolEvent.{PoolEvent}
use Rattle.liq_types.specs.declared.events.PoolEvent.TheVariants.{Own, Offset}

abbrev pub shared_again : List PoolEvent
shared_again = Own 1 100 0 0 100 ∷ Own 2 200 0 0 200 ∷ Offset 100 70 300 0 ∷ Own 1 50 0 23 116
    ∷ Offset 50 30 250 0 ∷ []
