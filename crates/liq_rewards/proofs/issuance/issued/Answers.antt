use Rattle.std.proofs.Common.{◌≡◌, ◌*◌, ap, ◌∙◌, arith}
use Rattle.std.specs.Prelude.{min}
use Rattle.liq_rewards.specs.declared.issuance.TheConstants.{YEAR, YEARS}
use Rattle.liq_rewards.specs.Issued.{issued}
use Rattle.liq_rewards.proofs.Issuing.{issued-none, issued-years, issued-all, issued-most}
use Rattle.liq_rewards.proofs.issuance.issued.Goals as goal

pub loop-year-init : goal.loop-year-init
loop-year-init c = (issued-none c.args.minutes, omega arith)

pub loop-year-preserved : goal.loop-year-preserved
loop-year-preserved c =
    let more = issued-years c.args.minutes c.loop-year.year in (
      omega (arith, more, c.loop-year.invariant.0, c.issued_in-units.ensures.issued),
      omega (arith, c.loop-year.invariant.1, c.issued_in-units.ensures.within),
    )

pub returns-clause-issued : goal.returns-clause-issued
returns-clause-issued c =
    let last : c.loop-year.year ≡ YEARS = omega (arith, c.loop-year-test.false, c.loop-year.auto.year-end) in
    c.loop-year.invariant.0 ∙ ap (λ year. issued (min c.args.minutes (year * YEAR))) last ∙ issued-all c.args.minutes

pub returns-clause-within : goal.returns-clause-within
returns-clause-within c =
    let last : c.loop-year.year ≡ YEARS = omega (arith, c.loop-year-test.false, c.loop-year.auto.year-end) in
    let all : c.loop-year.units ≡ issued c.args.minutes = c.loop-year.invariant.0
    ∙ ap (λ year. issued (min c.args.minutes (year * YEAR))) last ∙ issued-all c.args.minutes in
    let most = issued-most c.args.minutes in
    omega (arith, all, most)
