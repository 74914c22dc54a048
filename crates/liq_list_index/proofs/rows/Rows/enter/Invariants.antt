use Rattle.std.proofs.Common.{◌≡◌, take, true}
use Rattle.liq_types.specs.Ranked.{Ranked}
use Rattle.liq_list_index.specs.Rows.{Holds, is_in, is_key, key_at, next_at, names}
use Rattle.liq_list_index.proofs.rows.Rows.enter.Given as goal

abbrev pub invariant-loop-change : goal.invariant-loop-change
invariant-loop-change l =
    (l.self.stands ≡ l.fn.self.stands)
    × (Holds (key_at l.fn.self.stands) (next_at l.fn.self.stands) l.fn.self.places
    → Holds (key_at l.fn.self.stands) (next_at l.fn.self.stands) l.self.places)
    × (Holds (key_at l.fn.self.stands) (next_at l.fn.self.stands) l.fn.self.places
    → (e : Ranked) → names (take l.change-index l.changes) e.1 ≡ true → is_key (next_at l.fn.self.stands e.1) e.0 ≡ true
    → is_in l.self.places e ≡ true)
