-- The limit is no part of the Stability Pool: the same events do the same to it, whatever the limit at the opening.
use Rattle.std.proofs.Common.{◌≡◌, ℕ, List, [], ◌∷◌, refl, ap, ◌∙◌, subst}
use Rattle.std.specs.Prelude.{fold}
use Rattle.liq_types.specs.declared.events.PoolEvent.{PoolEvent}
use Rattle.liq_types.specs.declared.events.PoolEvent.TheVariants as event
use Rattle.liq_types.specs.State.{State}
use Rattle.liq_stability.specs.Lawful.{IsLawfulEvent, IsLawfulUpTo}
use Rattle.liq_stability.specs.Own.{after_event}

-- a state under another limit, from its start on
abbrev pub under : ℕ → State → State
under limit s = record s { start = record s.start { limit = limit }; limit = limit }

under-event : (limit : ℕ) (s : State) (e : PoolEvent) → after_event (under limit s) e ≡ under limit (after_event s e)
under-event limit s (event.Own account put_in out gain amount) = refl
under-event limit s (event.Offset debt coll total rise) = refl

pub under-events : (limit : ℕ) (es : List PoolEvent) (s : State) → fold after_event (under limit s) es
    ≡ under limit (fold after_event s es)
under-events limit [] s = refl
under-events limit (e ∷ es) s = ap (λ (t : State). fold after_event t es) (under-event limit s e)
    ∙ under-events limit es (after_event s e)

event_from_under : (limit : ℕ) (s : State) (e : PoolEvent) → IsLawfulEvent (under limit s) e → IsLawfulEvent s e
event_from_under limit s (event.Own account put_in out gain amount) h =
    record { gain_is = h.gain_is; paid_is = h.paid_is; amount_is = h.amount_is }
event_from_under limit s (event.Offset debt coll total rise) h = record {
  some = h.some;
  within = h.within;
  total_is = h.total_is;
  coll_is = h.coll_is;
  rise_is = h.rise_is;
}

pub lawful_from_under : (most limit : ℕ) (es : List PoolEvent) (s : State) → IsLawfulUpTo most (under limit s) es
    → IsLawfulUpTo most s es
lawful_from_under most limit [] s h = record { total = h.total; coll = h.coll }
lawful_from_under most limit (e ∷ es) s h = (
  record { total = h.0.total; coll = h.0.coll },
  event_from_under limit s e h.1,
  lawful_from_under most limit es (after_event s e) (subst (λ (t : State). IsLawfulUpTo most t es)
      (under-event limit s e) h.2),
)
