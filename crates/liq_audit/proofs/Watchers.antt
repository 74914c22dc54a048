-- What an audit keeps is the allowance, as long as each offset says by how much the scale rises.
use Rattle.std.proofs.Common.{◌≡◌, ℕ, ◌+◌, Bool, true, false, cond, refl, ap, ◌∙◌}
use Rattle.std.specs.Prelude.{◌==◌}
use Rattle.liq_types.specs.declared.events.PoolEvent.{PoolEvent}
use Rattle.liq_types.specs.declared.events.PoolEvent.TheVariants as event
use Rattle.liq_types.specs.Product.{opening_words, product_after, rise_of}
use Rattle.liq_types.specs.State.{PoolOffset}
use Rattle.liq_types.proofs.Watching.{Watch, watch_after}
use Rattle.liq_audit.specs.declared.watcher.Watcher.{Watcher}
use Rattle.liq_audit.specs.Watching.{cost_now, watcher_after}

-- all but the product
abbrev pub watcher_of : Watch → Watcher
watcher_of w =
    record {
      scale = w.now.scale;
      epoch = w.now.epoch;
      amount = w.amount;
      own_scale = w.place.1;
      own_epoch = w.place.0;
      weight = w.weight;
      own_events = w.own_events;
    }

-- an offset says by how much it raises the scale
abbrev pub HasRise : Watch → PoolEvent → Type 0
HasRise w (event.Own owner put_in out gain left) = Unit {0}
HasRise w (event.Offset debt coll total rise) = rise ≡ rise_of w.now.p (record {
  debt = debt;
  coll = coll;
  total = total;
})

pub watcher-after : (account : ℕ) (w : Watch) (e : PoolEvent) → HasRise w e → watcher_after account (watcher_of w) e
    ≡ watcher_of (watch_after account w e)
watcher-after account w (event.Own owner put_in out gain left) h = by (owner == account) where
  by : (b : Bool) → cond b (record (watcher_of w) {
    amount = left;
    own_scale = w.now.scale;
    own_epoch = w.now.epoch;
    own_events = w.own_events + 1;
  }) (watcher_of w)
      ≡ watcher_of (cond b (record w {
        amount = left;
        place = (w.now.epoch, w.now.scale);
        own_events = w.own_events
            + 1;
      }) w)
  by true = refl
  by false = refl
watcher-after account w (event.Offset debt coll total rise) h =
    ap (λ r. record (watcher_of w) {
      epoch = cond (debt == total) (w.now.epoch + 1) w.now.epoch;
      scale = cond (debt
          == total) 0 (w.now.scale + r);
      weight = w.weight + cost_now (watcher_of w);
    }) h
    ∙ by (debt == total) (rise_of w.now.p o) where
      o : PoolOffset
      o = record { debt = debt; coll = coll; total = total }

      by : (b : Bool) (r : ℕ) → record (watcher_of w) {
        epoch = cond b (w.now.epoch + 1) w.now.epoch;
        scale = cond b 0 (w.now.scale + r);
        weight = w.weight + cost_now (watcher_of w);
      }
          ≡ record (watcher_of w) {
            epoch = (cond b (record opening_words { epoch = w.now.epoch + 1 })
                (record { p = product_after w.now.p o r; scale = w.now.scale + r; epoch = w.now.epoch })).epoch;
            scale = (cond b (record opening_words { epoch = w.now.epoch + 1 }) (record {
              p = product_after w.now.p o r;
              scale = w.now.scale + r;
              epoch = w.now.epoch;
            })).scale;
            weight = w.weight + cost_now (watcher_of w);
          }
      by true r = refl
      by false r = refl
