use Rattle.std.proofs.Common.{◌≡◌, ap, sym, ◌∙◌, Result, Err}
use Rattle.liq_core.specs.declared.image.ImageFault.{ImageFault}
use Rattle.liq_market.proofs.market.Market.at.Goals as goal

the : {X : Type 0} {a b : ImageFault} → ◌≡◌ {A = Result X ImageFault} (Err a) (Err b) → a ≡ b
the e = cc

pub returns-in-Err-clause-unsound : goal.returns-in-Err-clause-unsound
returns-in-Err-clause-unsound c rule =
    let known = c.from_image_at.ensures.unsound rule in (
      (λ e. known.0 (c.in-Err.is ∙ ap Err (the e))),
      (λ e. ap Err (the (sym c.in-Err.is ∙ known.1 e))),
    )
