use Rattle.std.proofs.Common.{◌≡◌, ℕ, List, take, false}
use Rattle.liq_types.specs.Ranked.{Ranked}
use Rattle.liq_list_index.specs.Followed.{all_listed}
use Rattle.liq_list_keys.specs.Parts.{account_key}
use Rattle.liq_list_index.specs.Rows.{Follows, key_at, next_at, names}
use Rattle.liq_list_index.proofs.rows.Rows.aim.Given as goal

abbrev pub invariant-loop-change : goal.invariant-loop-change
invariant-loop-change l =
    (l.self.places ≡ l.fn.self.places)
    × ((a : ℕ) → key_at l.self.stands a ≡ key_at l.fn.self.stands a)
    × ((list : List Ranked) → Follows (next_at l.fn.self.stands) list
    → Follows (next_at l.self.stands) (all_listed list (take l.change-index l.changes)))
    × ((a : ℕ) → names l.changes a ≡ false → account_key l.self.stands a ≡ account_key l.fn.self.stands a)
