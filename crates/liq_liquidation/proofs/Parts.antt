-- What becomes of a trove adds up to what it had.
use Rattle.std.proofs.Common.{◌≡◌, ℕ, ◌+◌, ◌-◌, ◌*◌, ◌≤◌, Bool, true, false, cond, arith, refl}
use Rattle.std.specs.Prelude.{min}
use Rattle.std.proofs.Math.Nat.{mul-le-mul_right, div-le_of_le-mul, div-le_self}
use Rattle.std.proofs.lemmas.Bool.Decides.{nat_tests}
use Rattle.liq_num.specs.Quotient.{floor_of}
use Rattle.liq_types.specs.declared.amounts.TheConstants.{MCR}
use Rattle.liq_types.specs.declared.figures.Market.{Market}
use Rattle.liq_types.specs.Totals.{is_below_percent, is_at_most_whole, is_ratio_below, is_normal}
use Rattle.liq_liquidation.specs.One.{Treatment, Plain, Redistributed, Capped, Kept, treatment, treated, is_kept, cap_of, gas_of, plain, one_total_coll, one_total_debt}

-- ---- the cap

fits : (price coll debt : ℕ) → is_below_percent coll debt price MCR ≡ false → cap_of price debt ≤ coll
fits price coll debt h =
    let enough : 110 * debt * 1000000000 ≤ coll * price * 100 = grind (arith, nat_tests, h) in
    div-le_of_le-mul price (omega (arith, enough))

in_table : (normal whole below under : Bool)
    → cond normal (cond below Plain Kept) (cond whole Redistributed (cond below Plain (cond under Capped Kept)))
    ≡ Capped → below ≡ false
in_table true whole true under h = cc
in_table true whole false under h = refl
in_table false true true under h = cc
in_table false true false under h = refl
in_table false false true under h = cc
in_table false false false under h = refl

pub cap_fits : (m : Market) (coll debt : ℕ) → treatment m coll debt ≡ Capped → cap_of m.price debt ≤ coll
cap_fits m coll debt h =
    fits m.price coll debt
    (in_table (is_normal m) (is_at_most_whole coll debt m.price) (is_below_percent coll debt m.price MCR)
    (is_ratio_below coll debt m.total_coll m.total_debt) h)

-- ---- the sums

pub gas_within : (coll : ℕ) → gas_of coll ≤ coll
gas_within coll = div-le_self coll 200

part_within : (amount part whole : ℕ) → part ≤ whole → floor_of amount part whole ≤ amount
part_within amount part whole h =
    let less : part * amount ≤ whole * amount = mul-le-mul_right amount h in
    div-le_of_le-mul whole (omega (arith, less))

add_four : (coll gas part : ℕ) → gas ≤ coll → part ≤ coll - gas → gas + part + (coll - gas - part) + 0 ≡ coll
add_four coll gas part h k = omega arith

plain_coll : (coll debt total : ℕ) → one_total_coll (plain coll debt total) ≡ coll
plain_coll coll debt total =
    add_four coll (gas_of coll) (floor_of (coll - gas_of coll) (min debt total) debt) (gas_within coll)
    (part_within (coll - gas_of coll) (min debt total) debt (omega arith))

add_capped : (coll cap gas : ℕ) → gas ≤ cap → cap ≤ coll → gas + (cap - gas) + 0 + (coll - cap) ≡ coll
add_capped coll cap gas h k = omega arith

add_spread : (coll gas : ℕ) → gas ≤ coll → gas + 0 + (coll - gas) + 0 ≡ coll
add_spread coll gas h = omega arith

treated_coll : (t : Treatment) (price coll debt total : ℕ) → is_kept t ≡ false → (t ≡ Capped → cap_of price debt ≤ coll)
    → one_total_coll (treated t price coll debt total) ≡ coll
treated_coll Plain price coll debt total h k = plain_coll coll debt total
treated_coll Redistributed price coll debt total h k = add_spread coll (gas_of coll) (gas_within coll)
treated_coll Capped price coll debt total h k = add_capped coll (cap_of price debt) (gas_of (cap_of price debt))
    (gas_within (cap_of price debt)) (k refl)
treated_coll Kept price coll debt total h k = cc

pub parts_coll : (m : Market) (coll debt total : ℕ) → is_kept (treatment m coll debt) ≡ false
    → one_total_coll (treated (treatment m coll debt) m.price coll debt total) ≡ coll
parts_coll m coll debt total h = treated_coll (treatment m coll debt) m.price coll debt total h (cap_fits m coll debt)

treated_debt : (t : Treatment) (price coll debt total : ℕ) → is_kept t ≡ false
    → one_total_debt (treated t price coll debt total) ≡ debt
treated_debt Plain price coll debt total h = omega arith
treated_debt Redistributed price coll debt total h = omega arith
treated_debt Capped price coll debt total h = omega arith
treated_debt Kept price coll debt total h = cc

pub parts_debt : (m : Market) (coll debt total : ℕ) → is_kept (treatment m coll debt) ≡ false
    → one_total_debt (treated (treatment m coll debt) m.price coll debt total) ≡ debt
parts_debt m coll debt total h = treated_debt (treatment m coll debt) m.price coll debt total h
