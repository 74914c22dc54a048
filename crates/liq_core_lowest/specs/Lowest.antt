-- The lowest troves that a command asks for, whoever the liquidator is.
use Rattle.std.specs.Prelude.{◌≡◌, ℕ, Option, Some, None, List}
use Rattle.liq_types.specs.declared.replies.Refusal.{Refusal}
use Rattle.liq_types.specs.Rules.{first_refusal}
use Rattle.liq_types.specs.State.{State}
use Rattle.liq_liquidation.specs.declared.lowest.LowestFault.{LowestFault}
use Rattle.liq_liquidation.specs.declared.lowest.LowestFault.TheVariants.{No, NoMemory}
use Rattle.liq_liquidation.specs.declared.one.Victim.{Victim}
use Rattle.liq_liquidation.specs.Lowest.{lowest}
use Rattle.liq_rule_step.specs.Liquidation.{liquidate_lowest_row}

-- the first rule that refuses so many of them
abbrev pub lowest_refusal : State → ℕ → Option Refusal
lowest_refusal s count = first_refusal (liquidate_lowest_row s 0 count).rules

-- the victims are the lowest troves, so many at most, where no rule refuses them
abbrev pub AreLowest : State → ℕ → List Victim → Type 0
AreLowest s count victims = (lowest_refusal s count ≡ None) × (lowest s count ≡ victims)

-- why none are planned: the first rule that refuses them, or, where none does, want of memory
abbrev pub IsNoPlan : State → ℕ → LowestFault → Type 0
IsNoPlan s count (No refusal) = lowest_refusal s count ≡ Some refusal
IsNoPlan s count NoMemory = lowest_refusal s count ≡ None
