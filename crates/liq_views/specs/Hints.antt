-- What a finder looks up for a request.
use Rattle.std.specs.Prelude.{ℕ, Option, Some, None}
use Rattle.liq_types.specs.declared.hints.Hint.{Hint}
use Rattle.liq_types.specs.declared.requests.Call.{Call}
use Rattle.liq_types.specs.declared.requests.Call.TheVariants as call
use Rattle.liq_types.specs.declared.requests.Request.{Request}
use Rattle.liq_types.specs.declared.requests.Request.TheVariants as request
use Rattle.liq_list_version.specs.declared.asks.Ask.{Ask}
use Rattle.liq_list_version.specs.declared.asks.Ask.TheVariants as ask
use Rattle.liq_list_version.specs.Versions.{Numbered, answer_of}

-- an opening is looked up by what it would be, a change of a trove by its owner; no other call
-- places a trove
abbrev pub sought_at : Call → Option Ask
sought_at (call.Open account coll borrow bound words) = Some (ask.Open account coll borrow)
sought_at (call.Adjust account coll_in coll_out borrow repay bound words) = Some (ask.Own account)
sought_at (call.GainToTrove account words) = Some (ask.Own account)
sought_at (call.Redeem account amount bound words) = Some (ask.Own account)
sought_at _ = None

abbrev pub sought : Request → Option Ask
sought (request.Do command) = sought_at command.call
sought (request.Ask query) = None

-- a hint of nothing: both sides are absent
abbrev pub absent : ℕ → Hint
absent number = record { prev = None; next = None; version = number }

-- the hint that a version has for what is sought
abbrev pub hint_at : Numbered → Option Ask → Hint
hint_at v None = absent v.number
hint_at v (Some a) = answer_of v a

-- the hint that a version has for a request
abbrev pub hint_of : Numbered → Request → Hint
hint_of v r = hint_at v (sought r)
