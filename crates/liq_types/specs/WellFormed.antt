-- What holds of every state that the rules reach: marks are moments of their lists, the sums that
-- were finished before the start belong to earlier places than the start's, and what left the
-- Stability Pool had come into it.
use Rattle.std.specs.Prelude.{◌≡◌, ℕ, ◌+◌, ◌<◌, ◌≤◌, ◌⊎◌, length, sum_by}
use Rattle.std.specs.List.{AllByRecursion}
use Rattle.std.specs.List.Sorted.{IsStrictlySortedBy}
use Rattle.std.specs.Map.{keys_of, values_of}
use Rattle.std.specs.Ordering.{nat_cmp}
use Rattle.liq_types.specs.declared.figures.Trove.{Trove}
use Rattle.liq_types.specs.Image.{Image, EpochScale}
use Rattle.liq_types.specs.State.{State, Mark, AtStart, After, TroveEntry, DepositEntry, PoolOffset}
use Rattle.liq_types.specs.Tables.{Table}

-- a place comes before another: in an earlier epoch, or at a lower scale of the same one
abbrev pub IsBefore : EpochScale → EpochScale → Type 0
IsBefore a b = (a.0 < b.0) ⊎ ((a.0 ≡ b.0) × (a.1 < b.1))

abbrev pub IsMoment : {F : Type 0} → ℕ → Mark F → Type 0
IsMoment items (AtStart fields) = Unit {0}
IsMoment items (After n) = n ≤ items

abbrev pub AreFinished : Image → Type 0
AreFinished i = AllByRecursion (λ (row : EpochScale × ℕ).
    IsBefore row.0 (i.epoch, i.scale)) i.finished

abbrev pub TrovesAreMarked : ℕ → Table TroveEntry → Type 0
TrovesAreMarked items troves =
    AllByRecursion (λ (row : ℕ × TroveEntry). IsMoment items row.1.mark) troves

abbrev pub DepositsAreMarked : ℕ → Table DepositEntry → Type 0
DepositsAreMarked items deposits =
    AllByRecursion (λ (row : ℕ × DepositEntry). IsMoment items row.1.mark) deposits

-- what left the Stability Pool had come into it
abbrev pub IsPoolCovered : State → Type 0
IsPoolCovered s =
    (s.withdrawn + sum_by (λ (o : PoolOffset). o.debt) s.offsets ≤ s.start.total + s.provided)
    × (s.gains_paid ≤ s.start.pool_coll + sum_by (λ (o : PoolOffset). o.coll) s.offsets)

abbrev pub IsWellFormed : State → Type 0
IsWellFormed s =
    AreFinished s.start
    × TrovesAreMarked (length s.redistributions) s.troves
    × DepositsAreMarked (length s.offsets) s.deposits
    × IsPoolCovered s

-- the stakes of an image's troves
abbrev pub stakes_in : Image → ℕ
stakes_in i = sum_by (λ (t : Trove). t.stake) (values_of i.troves)

-- a table has each key once, in order
abbrev pub Ascends : {X : Type 0} → Table X → Type 0
Ascends table = IsStrictlySortedBy nat_cmp (keys_of table)

abbrev pub TablesAscend : State → Type 0
TablesAscend s = Ascends s.wallets × Ascends s.troves × Ascends s.surplus_rows × Ascends s.deposits
    × Ascends s.clients
