use Rattle.std.proofs.Common.{◌≤◌, length, ap, subst, ◌∙◌, arith}
use Rattle.liq_checkpoint.specs.Reading.{Gives, image_at}
use Rattle.liq_checkpoint.proofs.Images.{is_found, is_read}
use Rattle.liq_checkpoint.proofs.Places.{told_within}
use Rattle.liq_checkpoint.proofs.decoding.decode.Goals as goal

pub returns-clause-found : goal.returns-clause-found
returns-clause-found c = is_found c.args.bytes.now c.image_at.result (λ i. omega (arith, c.type_inv.bytes i))
    c.image_at.ensures

pub returns-clause-only : goal.returns-clause-only
returns-clause-only c = λ i has e. subst (λ f. Gives (λ j. j) c.image_at.result f)
    (ap (image_at (length c.args.bytes.now)) e ∙ is_read i has (length c.args.bytes.now)) c.image_at.ensures

pub returns-clause-place : goal.returns-clause-place
returns-clause-place c = λ place is.
    let within : place ≤ length c.args.bytes.now = told_within (length c.args.bytes.now) place c.args.bytes.now
    c.image_at.result c.image_at.ensures is in
    (within, omega (arith, within))
