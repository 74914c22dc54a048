-- Lawful lists one after another, and the parts of a lawful list.
use Rattle.std.proofs.Common.{ℕ, List, [], ◌∷◌, ◌++◌}
use Rattle.std.specs.Prelude.{fold}
use Rattle.liq_types.specs.declared.events.PoolEvent.{PoolEvent}
use Rattle.liq_types.specs.State.{State}
use Rattle.liq_stability.specs.Lawful.{IsWithinLimit, IsLawfulUpTo}
use Rattle.liq_stability.specs.Own.{after_event}

-- a lawful list begins within the limit
pub lawful_limit : (most : ℕ) (s : State) (events : List PoolEvent) → IsLawfulUpTo most s events → IsWithinLimit most s
lawful_limit most s [] h = h
lawful_limit most s (e ∷ es) h = h.0

pub lawful_joined : (most : ℕ) (s : State) (first rest : List PoolEvent) → IsLawfulUpTo most s first
    → IsLawfulUpTo most (fold after_event s first) rest → IsLawfulUpTo most s (first ++ rest)
lawful_joined most s [] rest h k = k
lawful_joined most s (e ∷ es) rest h k = (h.0, h.1, lawful_joined most (after_event s e) es rest h.2 k)

pub lawful_first : (most : ℕ) (s : State) (first rest : List PoolEvent) → IsLawfulUpTo most s (first ++ rest)
    → IsLawfulUpTo most s first
lawful_first most s [] rest h = lawful_limit most s rest h
lawful_first most s (e ∷ es) rest h = (h.0, h.1, lawful_first most (after_event s e) es rest h.2)

pub lawful_rest : (most : ℕ) (s : State) (first rest : List PoolEvent) → IsLawfulUpTo most s (first ++ rest)
    → IsLawfulUpTo most (fold after_event s first) rest
lawful_rest most s [] rest h = h
lawful_rest most s (e ∷ es) rest h = lawful_rest most (after_event s e) es rest h.2
