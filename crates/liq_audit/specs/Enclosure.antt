-- Whole numbers between which an account's exact share lies: one side rounds every quotient down,
-- the other up.
use Rattle.std.specs.Prelude.{ℕ, ◌+◌, ◌-◌, ◌*◌, ◌^◌, ◌==◌, ◌<◌, ◌≤◌, List, fold, if◌then◌else◌}
use Rattle.std.specs.List.{AllByRecursion}
use Rattle.liq_num.specs.Quotient.{floor_of, ceiling_of}
use Rattle.liq_types.specs.declared.events.PoolEvent.{PoolEvent}
use Rattle.liq_types.specs.declared.events.PoolEvent.TheVariants.{Own, Offset}
use Rattle.liq_audit.specs.declared.enclosure.Enclosure.{Enclosure}

abbrev pub nothing_enclosed : Enclosure
nothing_enclosed = record { balance_lo = 0; balance_hi = 0; gain_lo = 0; gain_hi = 0 }

-- an offset leaves a part of every balance, and gives collateral by the balance before it
abbrev pub enclosure_shared : Enclosure → ℕ → ℕ → ℕ → Enclosure
enclosure_shared e debt coll total =
    record {
      balance_lo = floor_of e.balance_lo (total - debt) total;
      balance_hi = ceiling_of e.balance_hi (total - debt) total;
      gain_lo = e.gain_lo + floor_of e.balance_lo coll total;
      gain_hi = e.gain_hi + ceiling_of e.balance_hi coll total;
    }

abbrev pub enclosure_after : ℕ → Enclosure → PoolEvent → Enclosure
enclosure_after account e (Own owner put paid gain amount) =
    if owner == account
    then record e { balance_lo = e.balance_lo + put - paid; balance_hi = e.balance_hi + put - paid }
    else e
enclosure_after account e (Offset debt coll total rise) = enclosure_shared e debt coll total

abbrev pub enclosed : ℕ → List PoolEvent → Enclosure
enclosed account events = fold (enclosure_after account) nothing_enclosed events

-- each offset has something to share
abbrev pub HasTotal : PoolEvent → Type 0
HasTotal (Own owner put paid gain amount) = Unit {0}
HasTotal (Offset debt coll total rise) = 0 < total

abbrev pub HasTotals : List PoolEvent → Type 0
HasTotals events = AllByRecursion HasTotal events

-- ---- that its quotients are small

-- an offset shares something, and takes no more than all
abbrev pub HasParts : PoolEvent → Type 0
HasParts (Own owner put paid gain amount) = Unit {0}
HasParts (Offset debt coll total rise) = (0 < total) × (debt ≤ total)

-- no balance is above all that there may be by more than one for each of 2^40 events, and no gain
-- above that for each gwei
pub record IsSmall (e : Enclosure) : Type 0 where
  pub balance_lo : e.balance_lo < 11 * 10 ^ 18
  pub balance_hi : e.balance_hi < 11 * 10 ^ 18
  pub gain_lo : e.gain_lo ≤ 11 * 10 ^ 37
  pub gain_hi : e.gain_hi ≤ 11 * 10 ^ 37
