-- The limits of a review, in their order.
use Rattle.std.specs.Prelude.{ℕ, ◌+◌, nat_lt, List, [], ◌∷◌}
use Rattle.std.specs.Prelude.{Option, Some, None, option_map, if◌then◌else◌}
use Rattle.liq_types.specs.declared.amounts.TheConstants.{LIM}
use Rattle.liq_types.specs.declared.events.PoolEvent.{PoolEvent}
use Rattle.liq_types.specs.PlainLedger.{coll_of}
use Rattle.liq_audit.specs.Auditable.{limit_passed}

-- the first sum of the offsets' collateral that is above the limit, where there was so much before
-- these events
abbrev pub coll_above : ℕ → List PoolEvent → Option ℕ
coll_above before [] = None
coll_above before (e ∷ es) =
    let sum = before + coll_of e in
    if nat_lt LIM sum then Some sum else coll_above sum es

abbrev pub or_count : Option ℕ → Option (ℕ × ℕ) → Option ℕ
or_count (Some sum) passed = Some sum
or_count None passed = option_map (λ (p : ℕ × ℕ). p.0) passed

-- what passes a limit: a sum of the offsets' collateral, or else the offsets, or else the accounts,
-- in number
abbrev pub number_above : List PoolEvent → Option ℕ
number_above events = or_count (coll_above 0 events) (limit_passed events)
