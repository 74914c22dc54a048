-- What is issued, year by year.
use Rattle.std.proofs.Common.{◌≡◌, ℕ, zero, suc, ◌+◌, ◌-◌, ◌*◌, ◌/◌, ◌^◌, ◌≤◌, ◌<◌, refl, ap, ◌∙◌, arith, lit<, inl, inr}
use Rattle.std.specs.Prelude.{min}
use Rattle.std.proofs.Math.Nat.{div-lt_iff_lt-mul, le-div_iff_mul-le, pow-le-pow_right}
use Rattle.std.proofs.lemmas.Bool.{cases_lt}
use Rattle.liq_rewards.specs.declared.issuance.TheConstants.{YEAR, UNITS_AT_FIRST, YEARS, UNITS_MOST}
use Rattle.liq_rewards.specs.Issued.{units_in, issued}

-- what a minute of a year issues
abbrev pub rate_in : ℕ → ℕ
rate_in year = UNITS_AT_FIRST / 2 ^ year

in_year : (year r : ℕ) → r < YEAR → (year * YEAR + r) / YEAR ≡ year
in_year year r low = grind arith

pub issued-more : (minute : ℕ) → issued (minute + 1) ≡ issued minute + units_in minute
unfolding issued
issued-more minute = by (minute + 1) (suc minute) (omega arith) where
  by : (a b : ℕ) → a ≡ b → issued a ≡ issued b
  by a b e = ap issued e

-- the first minutes of a year
pub issued-in : (year r : ℕ) → r ≤ YEAR → issued (year * YEAR + r) ≡ issued (year * YEAR) + r * rate_in year
unfolding units_in
issued-in year zero low =
    let same : issued (year * YEAR + 0) ≡ issued (year * YEAR) = ap issued (omega arith) in
    omega (arith, same)
issued-in year (suc r) low =
    let before = issued-in year r (omega arith) in
    let one = issued-more (year * YEAR + r) in
    let here : units_in (year * YEAR + r) ≡ rate_in year =
    ap (λ y. UNITS_AT_FIRST / 2 ^ y) (in_year year r (omega arith)) in
    let next : issued (year * YEAR + suc r) ≡ issued (year * YEAR + r + 1) = ap issued (omega arith) in
    omega (arith, before, one, here, next)

-- as of a minute, the years so far
pub issued-years : (minutes year : ℕ) → issued (min minutes ((year + 1) * YEAR)) ≡ issued (min minutes (year * YEAR))
    + min (minutes - year * YEAR) YEAR * rate_in year
issued-years minutes year = elim (cases_lt minutes (year * YEAR)) [
  | inl less ↦
      let first : issued (min minutes ((year + 1) * YEAR)) ≡ issued minutes = ap issued (omega arith) in
      let second : issued (min minutes (year * YEAR)) ≡ issued minutes = ap issued (omega arith) in
      let none : min (minutes - year * YEAR) YEAR ≡ 0 = omega arith in
      let gone : min (minutes - year * YEAR) YEAR * rate_in year ≡ 0 * rate_in year = ap (λ n. n * rate_in year) none in
      omega (arith, first, second, gone)
  | inr more ↦
      let inside : min minutes ((year + 1) * YEAR) ≡ year * YEAR + min (minutes - year * YEAR) YEAR = omega arith in
      let second : issued (min minutes (year * YEAR)) ≡ issued (year * YEAR) = ap issued (omega arith) in
      let all = issued-in year (min (minutes - year * YEAR) YEAR) (omega arith) in
      ap issued inside ∙ omega (arith, all, second)
]

pub issued-rises : (a more : ℕ) → issued a ≤ issued (a + more)
issued-rises a zero = let same : issued (a + 0) ≡ issued a = ap issued (omega arith) in omega (arith, same)
issued-rises a (suc more) =
    let before = issued-rises a more in
    let one = issued-more (a + more) in
    let next : issued (a + suc more) ≡ issued (a + more + 1) = ap issued (omega arith) in
    omega (arith, before, one, next)

pub issued-monotone : (a b : ℕ) → a ≤ b → issued a ≤ issued b
issued-monotone a b h =
    let same : issued (a + (b - a)) ≡ issued b = ap issued (omega arith) in
    let more = issued-rises a (b - a) in
    omega (arith, same, more)

-- after the last year that issues any
none-in : (minute : ℕ) → YEARS * YEAR ≤ minute → units_in minute ≡ 0
unfolding units_in
none-in minute late =
    let year : YEARS ≤ minute / YEAR = (le-div_iff_mul-le (lit< tt)).1 late in
    let much : 2 ^ YEARS ≤ 2 ^ (minute / YEAR) = pow-le-pow_right (lit< tt) year in
    let some : 0 < 2 ^ (minute / YEAR) = omega (arith, much) in
    let few : UNITS_AT_FIRST < 1 * 2 ^ (minute / YEAR) = omega (arith, much) in
    let less : UNITS_AT_FIRST / 2 ^ (minute / YEAR) < 1 = (div-lt_iff_lt-mul some).1 few in
    omega (arith, less)

issued-after : (more : ℕ) → issued (YEARS * YEAR + more) ≡ issued (YEARS * YEAR)
issued-after zero = ap issued (omega arith)
issued-after (suc more) =
    let before = issued-after more in
    let one = issued-more (YEARS * YEAR + more) in
    let none = none-in (YEARS * YEAR + more) (omega arith) in
    let next : issued (YEARS * YEAR + suc more) ≡ issued (YEARS * YEAR + more + 1) = ap issued (omega arith) in
    omega (arith, before, one, none, next)

pub issued-all : (minutes : ℕ) → issued (min minutes (YEARS * YEAR)) ≡ issued minutes
issued-all minutes = elim (cases_lt minutes (YEARS * YEAR)) [
  | inl less ↦ ap issued (omega arith)
  | inr more ↦
      let after = issued-after (minutes - YEARS * YEAR) in
      let first : issued (min minutes (YEARS * YEAR)) ≡ issued (YEARS * YEAR) = ap issued (omega arith) in
      let last : issued (YEARS * YEAR + (minutes - YEARS * YEAR)) ≡ issued minutes = ap issued (omega arith) in
      omega (arith, after, first, last)
]

-- ---- all that is issued

-- what a minute of each of the first years issues, added up
rates : ℕ → ℕ
rates zero = 0
rates (suc year) = rates year + rate_in year

whole_years : (year : ℕ) → issued (year * YEAR) ≡ YEAR * rates year
unfolding issued rates
whole_years zero = refl
whole_years (suc year) =
    let before = whole_years year in
    let one = issued-in year YEAR (omega arith) in
    let next : issued (suc year * YEAR) ≡ issued (year * YEAR + YEAR) = ap issued (omega arith) in
    omega (arith, before, one, next)

all_rates : YEAR * rates YEARS ≡ UNITS_MOST
unfolding rates
all_rates = refl

pub issued-most : (minutes : ℕ) → issued minutes ≤ UNITS_MOST
issued-most minutes =
    let all = issued-all minutes in
    let rises = issued-monotone (min minutes (YEARS * YEAR)) (YEARS * YEAR) (omega arith) in
    let years = whole_years YEARS in
    omega (arith, all, rises, years, all_rates)

pub issued-late : (minutes : ℕ) → YEARS * YEAR ≤ minutes → issued minutes ≡ UNITS_MOST
issued-late minutes late =
    let all = issued-all minutes in
    let first : issued (min minutes (YEARS * YEAR)) ≡ issued (YEARS * YEAR) = ap issued (omega arith) in
    let years = whole_years YEARS in
    omega (arith, all, first, years, all_rates)

none_yet : issued 0 ≡ 0
unfolding issued
none_yet = refl

pub issued-none : (minutes : ℕ) → 0 ≡ issued (min minutes 0)
issued-none minutes = let none : issued (min minutes 0) ≡ issued 0 = ap issued (omega arith)
    in omega (arith, none, none_yet)
