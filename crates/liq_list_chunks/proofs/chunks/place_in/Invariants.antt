use Rattle.std.proofs.Common.{length, ◌-◌, ◌≡◌, ◌<◌, ◌≤◌, true, slice_index_or}
use Rattle.std.specs.Ordering.{is_lt}
use Rattle.liq_types.specs.Ranked.{Ranked, rank_order}
use Rattle.liq_list_chunks.proofs.chunks.place_in.Given as goal

abbrev pub invariant-loop-at : goal.invariant-loop-at
invariant-loop-at l =
    (l.at ≤ length l.rest)
    × ((d : Ranked) → 0 < l.at → is_lt (rank_order (slice_index_or l.rest (l.at - 1) d) l.entry) ≡ true)

abbrev pub decreases-loop-at : goal.decreases-loop-at
decreases-loop-at l = length l.rest - l.at
