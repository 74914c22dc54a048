use Rattle.std.proofs.Common.{◌≡◌, ◌-◌, ◌<◌, ◌≤◌, true, false, length, slice_index_or}
use Rattle.std.specs.Ordering.{is_lt}
use Rattle.liq_types.specs.Ranked.{Ranked, rank_order}
use Rattle.liq_list_chunks.proofs.chunks.chunk_of.Given as goal

abbrev pub invariant-loop-high : goal.invariant-loop-high
invariant-loop-high l =
    (l.low < l.high)
    × (l.high ≤ length l.firsts)
    × ((d : Ranked) → 0 < l.low → is_lt (rank_order l.entry (slice_index_or l.firsts l.low d)) ≡ false)
    × ((d : Ranked) → l.high < length l.firsts → is_lt (rank_order l.entry (slice_index_or l.firsts l.high d)) ≡ true)

abbrev pub decreases-loop-high : goal.decreases-loop-high
decreases-loop-high l = l.high - l.low
