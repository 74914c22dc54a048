-- The allowance, event by event.
use Rattle.std.proofs.Common.{◌≡◌, ℕ, ◌+◌, Bool, true, false, cond, List, [], ◌∷◌, refl, arith}
use Rattle.std.specs.Prelude.{fold, ◌==◌}
use Rattle.liq_types.specs.declared.events.PoolEvent.{PoolEvent}
use Rattle.liq_types.specs.declared.events.PoolEvent.TheVariants.{Own, Offset}
use Rattle.liq_types.specs.Allowance.{cost_of, costs_from, weight_of}
use Rattle.liq_types.specs.Image.{EpochScale}
use Rattle.liq_types.specs.PlainLedger.{is_own_of, own_events_of}
use Rattle.liq_types.specs.Product.{ScaledProduct, opening_words, after_offset, place_of}

-- the words of now, an account's recorded amount with the place of its last own event, its weight so far and the number
-- of its own events
pub record Watch : Type 0 where
  pub now : ScaledProduct
  pub amount : ℕ
  pub place : EpochScale
  pub weight : ℕ
  pub own_events : ℕ

abbrev pub no_watch : Watch
no_watch = record { now = opening_words; amount = 0; place = (0, 0); weight = 0; own_events = 0 }

abbrev pub watch_after : ℕ → Watch → PoolEvent → Watch
watch_after account w (Own owner put_in out gain left) =
    cond (owner == account) (record w { amount = left; place = place_of w.now; own_events = w.own_events + 1 }) w
watch_after account w (Offset debt coll total rise) =
    record w {
      now = after_offset w.now (record { debt = debt; coll = coll; total = total });
      weight = w.weight + cost_of w.amount w.place (place_of w.now);
    }

abbrev pub watched : ℕ → List PoolEvent → Watch
watched account events = fold (watch_after account) no_watch events

-- ---- what it comes to

weights : (account : ℕ) (w : Watch) (events : List PoolEvent) → (fold (watch_after account) w events).weight
    ≡ w.weight + costs_from account w.now w.amount w.place events
weights account w [] = omega arith
weights account w (Own owner put_in out gain left ∷ es) =
    by (owner == account) (weights account (watch_after account w (Own owner put_in out gain left)) es) where
      by : (b : Bool)
          → (fold (watch_after account) (cond b (record w {
            amount = left;
            place = place_of w.now;
            own_events = w.own_events
                + 1;
          }) w) es).weight ≡ (cond b (record w { amount = left; place = place_of w.now; own_events = w.own_events + 1 })
          w).weight + costs_from account (cond b (record w {
            amount = left;
            place = place_of w.now;
            own_events = w.own_events + 1;
          }) w).now (cond b (record w {
            amount = left;
            place = place_of w.now;
            own_events =
                w.own_events + 1;
          }) w).amount (cond b (record w {
            amount = left;
            place = place_of w.now;
            own_events =
                w.own_events + 1;
          }) w).place es
          → (fold (watch_after account) (cond b (record w {
            amount = left;
            place = place_of w.now;
            own_events = w.own_events
                + 1;
          }) w) es).weight ≡ w.weight + costs_from account w.now (cond b left w.amount)
          (cond b (place_of w.now) w.place) es
      by true h = h
      by false h = h
weights account w (Offset debt coll total rise ∷ es) =
    let more = weights account (watch_after account w (Offset debt coll total rise)) es in
    omega (arith, more)

pub weight_is : (account : ℕ) (events : List PoolEvent) → (watched account events).weight ≡ weight_of account events
weight_is account events = let all = weights account no_watch events in omega (arith, all)

owns : (account : ℕ) (w : Watch) (n : ℕ) → w.own_events ≡ n → (events : List PoolEvent)
    → (fold (watch_after account) w events).own_events ≡ fold (λ a x. a + cond (is_own_of account x) 1 0) n events
owns account w n h [] = h
owns account w n h (Own owner put_in out gain left ∷ es) =
    owns account (watch_after account w (Own owner put_in out gain left)) (n + cond (owner == account) 1 0) (by (owner
    == account)) es where
      by : (b : Bool)
          → (cond b (record w { amount = left; place = place_of w.now; own_events = w.own_events + 1 }) w).own_events
          ≡ n + cond b 1 0
      by true = omega (arith, h)
      by false = omega (arith, h)
owns account w n h (Offset debt coll total rise ∷ es) =
    owns account (watch_after account w (Offset debt coll total rise)) (n + 0) (omega (arith, h)) es

pub own_events_are : (account : ℕ) (events : List PoolEvent) → (watched account events).own_events
    ≡ own_events_of account events
own_events_are account events = owns account no_watch 0 refl events
