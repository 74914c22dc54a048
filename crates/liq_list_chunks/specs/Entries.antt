-- Ascending entries: one more, one less, and what stands on either side of a place.
use Rattle.std.specs.Prelude.{List, filter, not, reverse, Option}
use Rattle.std.specs.BTreeSet.{insert_key}
use Rattle.std.specs.Ordering.{is_eq}
use Rattle.liq_types.specs.Ranked.{Ranked, rank_order, first_of, before_entry, after_entry}

-- entries with one more, which may be there
abbrev pub with_entry : List Ranked → Ranked → List Ranked
with_entry list e = insert_key rank_order list e

-- entries without one
abbrev pub without_entry : List Ranked → Ranked → List Ranked
without_entry list e = filter (λ (f : Ranked). not (is_eq (rank_order e f))) list

-- the entry next before a place, and the one next after it
abbrev pub entry_before : List Ranked → Ranked → Option Ranked
entry_before list e = first_of (reverse (before_entry list e))

abbrev pub entry_after : List Ranked → Ranked → Option Ranked
entry_after list e = first_of (after_entry list e)
