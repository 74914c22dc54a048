-- The bound that whoever pays a fee sets on its rate.
use Rattle.std.specs.Prelude.{ℕ, ◌*◌, ◌||◌, nat_lt}
use Rattle.liq_types.specs.declared.amounts.TheConstants.{ONE}
use Rattle.liq_types.specs.declared.replies.Refusal.TheVariants.{FeeBound, FeeOver}
use Rattle.liq_types.specs.Rules.{Rule}

-- a bound lies from the least rate to the whole
abbrev pub fee_bound : ℕ → ℕ → Rule
fee_bound bound least = (nat_lt ONE bound || nat_lt bound least, FeeBound bound least)

-- the fee is a greater part of the amount than the bound
abbrev pub fee_over : ℕ → ℕ → ℕ → Rule
fee_over fee amount bound = (
  nat_lt (bound * amount) (fee * ONE),
  FeeOver (fee * ONE) (bound * amount),
)
