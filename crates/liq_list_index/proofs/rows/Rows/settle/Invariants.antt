use Rattle.std.proofs.Common.{◌≡◌, ℕ, drop}
use Rattle.std.specs.Prelude.{not}
use Rattle.liq_list_index.specs.Rows.{Holds, AreSettledBeside, side_at}
use Rattle.liq_list_index.proofs.rows.Rows.settle.Given as goal

abbrev pub invariant-loop-change : goal.invariant-loop-change
invariant-loop-change l =
    ((a : ℕ) → side_at l.made l.self.stands a ≡ side_at l.made l.fn.self.stands a)
    × (AreSettledBeside l.fn.self.stands l.changes → AreSettledBeside l.self.stands (drop l.change-index l.changes))
    × (Holds (side_at l.made l.fn.self.stands) (side_at (not l.made) l.fn.self.stands) l.fn.self.places
    → Holds (side_at l.made l.self.stands) (side_at (not l.made) l.self.stands) l.self.places)
