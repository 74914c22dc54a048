-- Worked examples: events of the Stability Pool from the opening on, and what then holds.
use Rattle.std.specs.Prelude.{ℕ, List, [], ◌∷◌, ◌++◌}
use Rattle.liq_types.specs.declared.events.PoolEvent.{PoolEvent}
use Rattle.liq_types.specs.declared.events.PoolEvent.TheVariants.{Own, Offset}
use Rattle.liq_types.specs.Allowance.{balance_allowance, gain_allowance}
use Rattle.liq_types.specs.State.{State}
pub use Rattle.liq_stability.specs.Own.{after_events}
use Rattle.liq_stability.specs.Position.{balance_of, gain_of}

-- balance and gain
abbrev pub position : State → ℕ → ℕ × ℕ
position s account = (balance_of s account, gain_of s account)

-- by how much balance and gain may fall short
abbrev pub allowances : ℕ → List PoolEvent → ℕ × ℕ
allowances account events = (balance_allowance account events, gain_allowance account events)

-- all but one micro-LUSD of a large pool is taken
abbrev pub one_rise : List PoolEvent
one_rise = Own 1 1000000000000000000 0 0 1000000000000000000
    ∷ Offset 999999999999999999 0 1000000000000000000 1 ∷ []

-- again, which raises the scale twice at once
abbrev pub two_rises : List PoolEvent
two_rises =
    one_rise
    ++ Own 2 999999999999999999 0 0 999999999999999999
    ∷ Offset 999999999999999999 1000000000000000000 1000000000000000000 2
    ∷ []

-- the same offset a third time, behind another deposit
abbrev pub four_scales_on : List PoolEvent
four_scales_on =
    two_rises
    ++ Own 3 999999999999999999 0 0 999999999999999999
    ∷ Offset 999999999999999999 0 1000000000000000000 2
    ∷ []

-- from the least product on, all but one micro-LUSD of the greatest pool: the scale is raised three
-- times at once
abbrev pub three_rises : List PoolEvent
three_rises =
    one_rise
    ++ Own 2 9999999999999999999 0 0 9999999999999999999
    ∷ Offset 9999999999999999999 10000000000000000000 10000000000000000000 3
    ∷ []

-- two depositors share an offset
abbrev pub shared : List PoolEvent
shared = Own 1 100 0 0 100 ∷ Own 2 200 0 0 200 ∷ Offset 100 70 300 0 ∷ []

-- one of them puts in more, and they share another
abbrev pub shared_again : List PoolEvent
shared_again = shared ++ Own 1 50 0 23 116 ∷ Offset 50 30 250 0 ∷ []

-- all of the pool is taken
abbrev pub emptied : List PoolEvent
emptied = Own 1 4000000000 0 0 4000000000 ∷ Offset 4000000000 9431279620 4000000000 0 ∷ []

-- one of them is paid out a part, and they share another
abbrev pub paid_out : List PoolEvent
paid_out = shared ++ Own 1 0 30 23 36 ∷ Offset 17 10 170 0 ∷ []

-- the next epoch begins with a second deposit of the first depositor and one of another
abbrev pub begun_again : List PoolEvent
begun_again = emptied ++ Own 1 500 0 9431279620 500 ∷ Own 2 1500 0 0 1500
    ∷ Offset 400 300 2000 0 ∷ []

-- a little is taken where the product is at its least
abbrev pub at_the_least : List PoolEvent
at_the_least = one_rise ++ Own 2 999999999999999999 0 0 999999999999999999
    ∷ Offset 1 0 1000000000000000000 1 ∷ []

-- an offset of which one depositor gained too little is followed by another's
abbrev pub after_another : List PoolEvent
after_another =
    Own 1 1000000000000000000 0 0 1000000000000000000
    ∷ Offset 999999999999999998 0 1000000000000000000 1
    ∷ Own 2 999999999999999998 0 0 999999999999999998
    ∷ Offset 100000000 499999999 1000000000000000000 0
    ∷ Own 2 0 999999999499999998 0 0
    ∷ Own 3 999999999599999997 0 0 999999999599999997
    ∷ Offset 100000000 3 999999999999999999 0
    ∷ []
