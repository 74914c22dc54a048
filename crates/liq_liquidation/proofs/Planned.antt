-- What is known of a liquidation that is not refused.
use Rattle.std.proofs.Common.{◌≡◌, ℕ, ◌-◌, ◌*◌, ◌≤◌, ◌<◌, Bool, true, false, cond, min, refl, subst, arith, nat_lt}
use Rattle.std.specs.Prelude.{◌&&◌, Ok}
use Rattle.std.proofs.Math.Nat.{mul-le-mul_left, div-mul-le_self, le_of_mul-le-mul_right}
use Rattle.std.proofs.lemmas.Bool.Decides.{nat_tests}
use Rattle.liq_num.specs.Quotient.{floor_of}
use Rattle.liq_types.specs.declared.amounts.TheConstants.{MCR, CAP_WORTH, OFFSET_MOST, PRICE_LEAST, SUM_MOST}
use Rattle.liq_types.specs.declared.figures.Market.{Market}
use Rattle.liq_types.specs.declared.figures.Trove.{Trove}
use Rattle.liq_types.specs.Rules.{first_refusal}
use Rattle.liq_types.specs.Totals.{is_below_percent, is_at_most_whole, is_ratio_below, is_normal, worth, asked}
use Rattle.liq_types.proofs.Rounding.{offset_worth}
use Rattle.liq_troves.specs.Rows.{entire_by, sum_after}
use Rattle.liq_troves.specs.declared.sums.Sums.{Sums}
use Rattle.liq_liquidation.specs.declared.one.One.{One}
use Rattle.liq_liquidation.specs.One.{Treatment, Plain, Redistributed, Capped, Kept, treatment, treated, gas_of, cap_of, plain, capped, is_capped, without_stake, one_rules, one_by, one_total_coll, one_total_debt}
use Rattle.liq_liquidation.proofs.Parts.{parts_coll, parts_debt}
use Rattle.liq_types.proofs.Tests.{all_false, made_by}
use Rattle.std.proofs.lemmas.Bool.{ltb-false, leb-false}

-- ---- no rule refuses

-- ---- what the pool takes over

served : (kind : Treatment) (price coll debt total : ℕ) → (is_capped kind && nat_lt total debt) ≡ false
    → (treated kind price coll debt total).offset_debt ≤ total
served Plain price coll debt total h = omega arith
served Redistributed price coll debt total h = omega arith
served Capped price coll debt total h = ltb-false total debt h
served Kept price coll debt total h = omega arith

-- collateral below 110 percent is at most 11 gwei for each micro-LUSD
pub below_worth : (coll debt price : ℕ) → PRICE_LEAST ≤ price → is_below_percent coll debt price MCR ≡ true
    → coll ≤ OFFSET_MOST * debt
below_worth coll debt price least below =
    let under : worth coll price < asked MCR debt = grind (arith, nat_tests, below) in
    let more : coll * PRICE_LEAST ≤ coll * price = mul-le-mul_left coll least in
    omega (arith, under, more)

some_debt : (coll debt price : ℕ) → is_below_percent coll debt price MCR ≡ true → 1 ≤ debt
some_debt coll debt price below =
    let under : worth coll price < asked MCR debt = grind (arith, nat_tests, below) in
    omega (arith, under)

pub plain_worth : (coll debt total price : ℕ) → PRICE_LEAST ≤ price → is_below_percent coll debt price MCR ≡ true
    → (plain coll debt total).offset_coll ≤ OFFSET_MOST * (plain coll debt total).offset_debt
plain_worth coll debt total price least below =
    let offset_debt = min debt total in
    let rest = coll - gas_of coll in
    let offset_coll = floor_of rest offset_debt debt in
    let low : offset_coll * debt ≤ rest * offset_debt = div-mul-le_self (rest * offset_debt) debt in
    let rich = below_worth coll debt price least below in
    let law = offset_worth debt offset_debt offset_coll rest low (omega (arith, rich)) in
    le_of_mul-le-mul_right law (omega (arith, some_debt coll debt price below))

capped_worth : (coll debt price : ℕ) → PRICE_LEAST ≤ price → (capped price coll debt).offset_coll ≤ OFFSET_MOST * debt
capped_worth coll debt price least =
    let cap = cap_of price debt in
    let low : cap * price ≤ debt * CAP_WORTH = div-mul-le_self (debt * CAP_WORTH) price in
    let more : cap * PRICE_LEAST ≤ cap * price = mul-le-mul_left cap least in
    omega (arith, low, more)

-- plain is below 110 percent
pub plain_below : (n w b r : Bool)
    → cond n (cond b Plain Kept) (cond w Redistributed (cond b Plain (cond r Capped Kept))) ≡ Plain → b ≡ true
plain_below true w true r h = refl
plain_below true w false r h = cc
plain_below false true b r h = cc
plain_below false false true r h = refl
plain_below false false false true h = cc
plain_below false false false false h = cc

worth_within : (m : Market) (coll debt total : ℕ) (kind : Treatment) → treatment m coll debt ≡ kind
    → PRICE_LEAST ≤ m.price → (treated kind m.price coll debt total).offset_coll
    ≤ OFFSET_MOST * (treated kind m.price coll debt total).offset_debt
worth_within m coll debt total Plain is least =
    plain_worth coll debt total m.price least
    (plain_below (is_normal m) (is_at_most_whole coll debt m.price) (is_below_percent coll debt m.price MCR)
    (is_ratio_below coll debt m.total_coll m.total_debt) is)
worth_within m coll debt total Redistributed is least = omega arith
worth_within m coll debt total Capped is least = capped_worth coll debt m.price least
worth_within m coll debt total Kept is least = omega arith

-- ---- what is planned

pub record IsPlanned (m : Market) (sums : Sums) (t : Trove) (total : ℕ) (made : One) : Type 0 where
  pub several : 2 ≤ m.troves
  pub coll : one_total_coll made ≡ (entire_by sums t).0
  pub debt : one_total_debt made ≡ (entire_by sums t).1
  pub served : made.offset_debt ≤ total
  pub worth : PRICE_LEAST ≤ m.price → made.offset_coll ≤ OFFSET_MOST * made.offset_debt
  pub coll_fits : sum_after sums.coll made.spread_coll (sums.stakes - t.stake) ≤ SUM_MOST
  pub debt_fits : sum_after sums.debt made.spread_debt (sums.stakes - t.stake) ≤ SUM_MOST

pub planned : (m : Market) (sums : Sums) (t : Trove) (total : ℕ) (made : One) → one_by m sums t total ≡ Ok made
    → IsPlanned m sums t total made
planned m sums t total made h =
    let own = entire_by sums t in
    let kind = treatment m own.0 own.1 in
    let others = without_stake sums t in
    let ok = made_by (first_refusal (one_rules m others own.0 own.1 total)) (treated kind m.price own.0 own.1 total)
    made h in
    let rules = all_false (one_rules m others own.0 own.1 total) ok.0 in
    let same = ok.1 in
    record {
      several = omega (arith, leb-false m.troves 1 rules.0);
      coll = subst (λ (x : One). one_total_coll x ≡ own.0) same (parts_coll m own.0 own.1 total rules.1.0);
      debt = subst (λ (x : One). one_total_debt x ≡ own.1) same (parts_debt m own.0 own.1 total rules.1.0);
      served = subst (λ (x : One). x.offset_debt ≤ total) same (served kind m.price own.0 own.1 total rules.1.1.0);
      worth = λ least. subst (λ (x : One). x.offset_coll ≤ OFFSET_MOST * x.offset_debt) same
          (worth_within m own.0 own.1 total kind refl least);
      coll_fits = ltb-false SUM_MOST _ (subst (λ (x : One). nat_lt SUM_MOST (sum_after sums.coll x.spread_coll
          (sums.stakes - t.stake)) ≡ false) same rules.1.1.1.0);
      debt_fits = ltb-false SUM_MOST _ (subst (λ (x : One). nat_lt SUM_MOST (sum_after sums.debt x.spread_debt
          (sums.stakes - t.stake)) ≡ false) same rules.1.1.1.1.0);
    }
