-- What an audit keeps of an account's allowance, event by event.
use Rattle.std.specs.Prelude.{ℕ, ◌+◌, ◌^◌, ◌==◌, ◌<◌, if◌then◌else◌}
use Rattle.liq_types.specs.declared.events.PoolEvent.{PoolEvent}
use Rattle.liq_types.specs.declared.events.PoolEvent.TheVariants as event
use Rattle.liq_types.specs.Allowance.{cost_of}
use Rattle.liq_audit.specs.declared.watcher.Watcher.{Watcher}

abbrev pub nothing_watched : Watcher
nothing_watched = record {
  scale = 0;
  epoch = 0;
  amount = 0;
  own_scale = 0;
  own_epoch = 0;
  weight = 0;
  own_events = 0;
}

-- what an offset may cost the account now
abbrev pub cost_now : Watcher → ℕ
cost_now v = cost_of v.amount (v.own_epoch, v.own_scale) (v.epoch, v.scale)

-- An own operation of the account counts from the place of now on. An offset costs, and moves the
-- place as it says.
abbrev pub watcher_after : ℕ → Watcher → PoolEvent → Watcher
watcher_after account v (event.Own owner put paid gain left) =
    if owner == account
    then record v {
      amount = left;
      own_scale = v.scale;
      own_epoch = v.epoch;
      own_events = v.own_events + 1;
    }
    else v
watcher_after account v (event.Offset debt coll total rise) =
    record v {
      epoch = if debt == total then v.epoch + 1 else v.epoch;
      scale = if debt == total then 0 else v.scale + rise;
      weight = v.weight + cost_now v;
    }

-- ---- that its sums are small

-- the most that an event adds to the weight
abbrev pub weight_most : PoolEvent → ℕ
weight_most (event.Own owner put paid gain left) = 0
weight_most (event.Offset debt coll total rise) = 2 ^ 64

-- few steps of the scale at an event
abbrev pub IsFew : PoolEvent → Type 0
IsFew (event.Own owner put paid gain left) = Unit {0}
IsFew (event.Offset debt coll total rise) = rise < 2 ^ 61

pub record IsShort (v : Watcher) (e : PoolEvent) : Type 0 where
  pub scale : v.scale < 2 ^ 61
  pub epoch : v.epoch < 2 ^ 41
  pub weight : v.weight < 2 ^ 120
  pub own_events : v.own_events < 2 ^ 41
  pub rise : IsFew e
