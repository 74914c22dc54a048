-- Entries in order, each as it is stored, and the three parts that they are kept in.
use Rattle.std.specs.Prelude.{◌≡◌, ◌<◌, ◌^◌, pos, neg_ℤ, ◌+ℤ◌, ◌*ℤ◌, ◌<ℤ◌, ◌≤ℤ◌, List}
use Rattle.std.specs.List.{AllByRecursion}
use Rattle.liq_types.specs.Ranked.{Ranked, IsAscending}
use Rattle.liq_list_index.specs.declared.longs.Long.{Long}
use Rattle.liq_list_index.specs.declared.entry_sets.Part.{Part}
use Rattle.liq_list_index.specs.declared.entry_sets.Part.TheVariants as part

-- ---- as they are stored

-- what an entry stands for whose key is in two halves
abbrev pub ranked_long : Long → Ranked
ranked_long e = (e.high *ℤ pos (2 ^ 64) +ℤ pos e.low, e.account)

-- the lower half of a key is below 2^64, which one of the upper half counts
abbrev pub IsHalved : Long → Type 0
IsHalved e = e.low < 2 ^ 64

abbrev pub AreHalved : List Long → Type 0
AreHalved entries = AllByRecursion IsHalved entries

-- ---- three parts

-- an entry whose key is below all that an i64 can be
abbrev pub IsBelow : Ranked → Type 0
IsBelow e = e.0 <ℤ neg_ℤ (pos (2 ^ 63))

-- one whose key fits an i64
abbrev pub IsBetween : Ranked → Type 0
IsBetween e = (neg_ℤ (pos (2 ^ 63)) ≤ℤ e.0) × (e.0 <ℤ pos (2 ^ 63))

-- one whose key is above all that an i64 can be
abbrev pub IsAbove : Ranked → Type 0
IsAbove e = pos (2 ^ 63) ≤ℤ e.0

-- where an entry is kept
abbrev pub IsPartOf : Ranked → Part → Type 0
IsPartOf e part.Below = IsBelow e
IsPartOf e (part.Short short) = (short ≡ e) × IsBetween e
IsPartOf e part.Above = IsAbove e

-- three ascending parts, each of its own keys
pub record AreParted (below : List Ranked) (shorts : List Ranked) (above : List Ranked) :
    Type 0 where
  pub below_ascend : IsAscending below
  pub shorts_ascend : IsAscending shorts
  pub above_ascend : IsAscending above
  pub all_below : AllByRecursion IsBelow below
  pub all_short : AllByRecursion IsBetween shorts
  pub all_above : AllByRecursion IsAbove above
