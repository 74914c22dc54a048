use Rattle.std.proofs.Common.{◌≡◌, Bool, true, false, ap, sym, ◌∙◌, arith}
use Rattle.std.proofs.lemmas.Slice.Eq.{bytes_eq-Decides}
use Rattle.liq_market.specs.Saving.{digest}
use Rattle.liq_market.proofs.Opening.{seal_of}
use Rattle.liq_market.proofs.saving.unsealed.Goals as goal

clash : {b : Bool} → b ≡ true → b ≡ false → ⊥
clash e n = cc

pub returns-then-bytes-lt-DIGEST-clause-only : goal.returns-then-bytes-lt-DIGEST-clause-only
returns-then-bytes-lt-DIGEST-clause-only c told is =
    let long = (seal_of c.args.bytes.now told is).long in
    let short = c.if-bytes-lt-DIGEST.true in
    absurd (omega (arith, long, short))

pub returns-then-not-is_digest-clause-only : goal.returns-then-not-is_digest-clause-only
returns-then-not-is_digest-clause-only c told is =
    let seal = seal_of c.args.bytes.now told is in
    let front = c.split_at.ensures.front ∙ seal.front in
    let same = c.split_at.ensures.back ∙ seal.back ∙ sym (ap digest front) in
    absurd (clash ((bytes_eq-Decides _ _).1 same) (sym c.is_digest.ensures ∙ c.if-not-is_digest.true))

pub returns-clause-only : goal.returns-clause-only
returns-clause-only c told is = c.split_at.ensures.front ∙ (seal_of c.args.bytes.now told is).front
