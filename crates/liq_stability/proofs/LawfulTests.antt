-- A test of lawful lists, for lists of numbers: it computes, so that refl proves them.
use Rattle.std.proofs.Common.{◌≡◌, ◌*◌, Bool, true, List, [], ◌∷◌, arith, nat_le}
use Rattle.std.specs.Prelude.{◌&&◌, ◌==◌}
use Rattle.std.proofs.lemmas.Bool.{and_parts, leb-true}
use Rattle.std.proofs.lemmas.Bool.Decides.{nat_tests}
use Rattle.liq_types.specs.declared.amounts.TheConstants.{LIM, OFFSET_MOST}
use Rattle.liq_types.specs.declared.events.PoolEvent.{PoolEvent}
use Rattle.liq_types.specs.declared.events.PoolEvent.TheVariants as event
use Rattle.liq_types.specs.Product.{rise_of}
use Rattle.liq_types.specs.State.{State}
use Rattle.liq_types.specs.Totals.{pool_total, pool_coll}
use Rattle.liq_stability.specs.Lawful.{IsLawfulEvent, IsWithinLimit, IsLawful}
use Rattle.liq_stability.specs.Own.{after_event, amount_after}
use Rattle.liq_stability.specs.Position.{words_of, balance_of, gain_of}

abbrev pub is_within_limit : State → Bool
is_within_limit s = nat_le (pool_total s) LIM && nat_le (pool_coll s) LIM

abbrev pub is_lawful_event : State → PoolEvent → Bool
is_lawful_event s (event.Own account put_in paid_out gain amount) =
    gain == gain_of s account && (nat_le paid_out (balance_of s account)
    && amount == amount_after s account put_in paid_out)
is_lawful_event s (event.Offset debt coll total rise) =
    nat_le 1 debt && (nat_le debt total && (total == pool_total s && (nat_le coll (OFFSET_MOST * debt)
    && rise == rise_of (words_of s).p (record { debt = debt; coll = coll; total = total }))))

abbrev pub is_lawful : State → List PoolEvent → Bool
is_lawful s [] = is_within_limit s
is_lawful s (e ∷ es) = is_within_limit s && (is_lawful_event s e && is_lawful (after_event s e) es)

within_tested : (s : State) → is_within_limit s ≡ true → IsWithinLimit LIM s
within_tested s h =
    let parts = and_parts (nat_le (pool_total s) LIM) (nat_le (pool_coll s) LIM) h in
    record { total = leb-true (pool_total s) LIM parts.0; coll = leb-true (pool_coll s) LIM parts.1 }

event_tested : (s : State) (e : PoolEvent) → is_lawful_event s e ≡ true → IsLawfulEvent s e
event_tested s (event.Own account put_in paid_out gain amount) h = record {
  gain_is = grind (arith, nat_tests, h);
  paid_is = grind (arith, nat_tests, h);
  amount_is = grind (arith, nat_tests, h);
}
event_tested s (event.Offset debt coll total rise) h = record {
  some = grind (arith, nat_tests, h);
  within = grind (arith, nat_tests, h);
  total_is = grind (arith, nat_tests, h);
  coll_is = grind (arith, nat_tests, h);
  rise_is = grind (arith, nat_tests, h);
}

pub lawful_tested : (s : State) (events : List PoolEvent) → is_lawful s events ≡ true → IsLawful s events
lawful_tested s [] h = within_tested s h
lawful_tested s (e ∷ es) h =
    let all = and_parts (is_within_limit s) (is_lawful_event s e && is_lawful (after_event s e) es) h in
    let parts = and_parts (is_lawful_event s e) (is_lawful (after_event s e) es) all.1 in
    (within_tested s all.0, event_tested s e parts.0, lawful_tested (after_event s e) es parts.1)
