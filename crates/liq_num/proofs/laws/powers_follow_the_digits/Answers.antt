use Rattle.std.proofs.Common.{refl}
use Rattle.liq_num.specs.Power.{power_of, digits_product, squared}
use Rattle.liq_num.proofs.Digits.{rounded_product-whole, power_of-next_digit, power_of-digit_on_top, power_of-doubled, power_of-capped}
use Rattle.liq_num.proofs.laws.powers_follow_the_digits.Goals as goal

pub returns-clause-none : goal.returns-clause-none
unfolding power_of digits_product squared
returns-clause-none c x = refl

pub returns-clause-one : goal.returns-clause-one
unfolding power_of digits_product squared
returns-clause-one c x = rounded_product-whole x

pub returns-clause-next_digit : goal.returns-clause-next_digit
returns-clause-next_digit c = power_of-next_digit

pub returns-clause-digit_on_top : goal.returns-clause-digit_on_top
returns-clause-digit_on_top c = power_of-digit_on_top

pub returns-clause-doubled : goal.returns-clause-doubled
returns-clause-doubled c = power_of-doubled

pub returns-clause-capped : goal.returns-clause-capped
returns-clause-capped c = power_of-capped
