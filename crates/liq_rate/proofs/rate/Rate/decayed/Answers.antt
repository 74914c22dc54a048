use Rattle.std.proofs.Common.{◌≡◌, ℕ, ◌-◌, ◌*◌, ◌/◌, refl, ap, sym, ◌∙◌, arith}
use Rattle.liq_num.specs.Power.{power_of, digits_product, squared}
use Rattle.liq_num.specs.Quotient.{floor_of}
use Rattle.liq_rate.specs.Rate.{decayed}
use Rattle.liq_types.specs.declared.amounts.TheConstants.{ONE, DECAY}
use Rattle.liq_rate.proofs.rate.Rate.decayed.Goals as goal
use Rattle.liq_rate.proofs.rate.Rate.decayed.Goals.{then-self-eq0-via-then-self-eq0, then-self-eq0-via-else-self-eq0+then-now-self}

no_minute : (x : ℕ) → power_of x 0 ≡ ONE
unfolding power_of digits_product squared
no_minute x = refl

nothing : (base minute now : ℕ) → base ≡ 0 → base ≡ decayed base minute now
nothing base minute now none =
    let left = power_of DECAY (now - minute) in
    let zero : 0 * left ≡ 0 = omega arith in
    none ∙ sym (ap (λ b. floor_of b left ONE) none ∙ ap (λ n. n / ONE) zero)

at_once : (base minute now : ℕ) → now ≡ minute → base ≡ decayed base minute now
at_once base minute now same =
    let none : now - minute ≡ 0 = omega (arith, same) in
    let whole : base ≡ floor_of base ONE ONE = omega arith in
    whole ∙ sym (ap (λ n. floor_of base (power_of DECAY n) ONE) none ∙ ap (λ p. floor_of base p ONE) (no_minute DECAY))

pub returns-then-self-eq0-clause-left : goal.returns-then-self-eq0-clause-left
returns-then-self-eq0-clause-left c =
    elim c.then-self-eq0.branch [
      | then-self-eq0-via-then-self-eq0 w ↦ nothing c.args.self.now.base c.args.self.now.minute c.args.now
          w.if-self-eq0.true
      | then-self-eq0-via-else-self-eq0+then-now-self w ↦ at_once c.args.self.now.base c.args.self.now.minute c.args.now
          w.if-now-self.true
    ]
