-- What rests on the Stability Pool's part of a state alone.
use Rattle.std.proofs.Common.{◌≡◌, ℕ, List, [], ◌∷◌, refl, sym, subst}
use Rattle.liq_types.specs.declared.events.PoolEvent.{PoolEvent}
use Rattle.liq_types.specs.declared.events.PoolEvent.TheVariants as event
use Rattle.liq_types.specs.State.{State}
use Rattle.liq_stability.specs.Lawful.{IsLawfulEvent, IsLawfulUpTo}
use Rattle.liq_stability.specs.Own.{after_event, pool_of}
use Rattle.liq_stability.specs.Promise.{IsWithinAllowance}

pub pool-event : (s : State) (e : PoolEvent) → pool_of (after_event s e) ≡ after_event (pool_of s) e
pool-event s (event.Own account put_in out gain amount) = refl
pool-event s (event.Offset debt coll total rise) = refl

pub event_to_pool : (s : State) (e : PoolEvent) → IsLawfulEvent s e → IsLawfulEvent (pool_of s) e
event_to_pool s (event.Own account put_in out gain amount) h = record {
  gain_is = h.gain_is;
  paid_is = h.paid_is;
  amount_is = h.amount_is;
}
event_to_pool s (event.Offset debt coll total rise) h = record {
  some = h.some;
  within = h.within;
  total_is = h.total_is;
  coll_is = h.coll_is;
  rise_is = h.rise_is;
}

pub event_from_pool : (s : State) (e : PoolEvent) → IsLawfulEvent (pool_of s) e → IsLawfulEvent s e
event_from_pool s (event.Own account put_in out gain amount) h = record {
  gain_is = h.gain_is;
  paid_is = h.paid_is;
  amount_is = h.amount_is;
}
event_from_pool s (event.Offset debt coll total rise) h = record {
  some = h.some;
  within = h.within;
  total_is = h.total_is;
  coll_is = h.coll_is;
  rise_is = h.rise_is;
}

lawful_to_pool : (most : ℕ) (s : State) (events : List PoolEvent) → IsLawfulUpTo most s events
    → IsLawfulUpTo most (pool_of s) events
lawful_to_pool most s [] h = record { total = h.total; coll = h.coll }
lawful_to_pool most s (e ∷ es) h = (
  record { total = h.0.total; coll = h.0.coll },
  event_to_pool s e h.1,
  subst (λ (t : State). IsLawfulUpTo most t es) (pool-event s e) (lawful_to_pool most (after_event s e) es h.2),
)

lawful_from_pool : (most : ℕ) (s : State) (events : List PoolEvent) → IsLawfulUpTo most (pool_of s) events
    → IsLawfulUpTo most s events
lawful_from_pool most s [] h = record { total = h.total; coll = h.coll }
lawful_from_pool most s (e ∷ es) h = (
  record { total = h.0.total; coll = h.0.coll },
  event_from_pool s e h.1,
  lawful_from_pool most (after_event s e) es (subst (λ (t : State). IsLawfulUpTo most t es) (sym (pool-event s e)) h.2),
)

pub lawful_alike : (most : ℕ) (s t : State) → pool_of s ≡ pool_of t → (events : List PoolEvent)
    → IsLawfulUpTo most s events → IsLawfulUpTo most t events
lawful_alike most s t same events h = lawful_from_pool most t events (subst (λ (u : State). IsLawfulUpTo most u events)
    same (lawful_to_pool most s events h))

promise_to_pool : (s : State) (account : ℕ) (events : List PoolEvent) → IsWithinAllowance s account events
    → IsWithinAllowance (pool_of s) account events
promise_to_pool s account events h = record {
  balance_at_most = h.balance_at_most;
  gain_at_most = h.gain_at_most;
  balance_at_least = h.balance_at_least;
  gain_at_least = h.gain_at_least;
}

promise_from_pool : (s : State) (account : ℕ) (events : List PoolEvent) → IsWithinAllowance (pool_of s) account events
    → IsWithinAllowance s account events
promise_from_pool s account events h = record {
  balance_at_most = h.balance_at_most;
  gain_at_most = h.gain_at_most;
  balance_at_least = h.balance_at_least;
  gain_at_least = h.gain_at_least;
}

pub promise_alike : (s t : State) → pool_of s ≡ pool_of t → (account : ℕ) (events : List PoolEvent)
    → IsWithinAllowance t account events → IsWithinAllowance s account events
promise_alike s t same account events h =
    promise_from_pool s account events (subst (λ (u : State). IsWithinAllowance u account events) (sym same)
    (promise_to_pool t account events h))
