use Rattle.std.proofs.Common.{◌≡◌, Bool, true, false, not, drop, ap, sym, ◌∙◌, arith}
use Rattle.std.specs.Str.{bytes_eq}
use Rattle.std.proofs.lemmas.List.{take_rest}
use Rattle.std.proofs.lemmas.Slice.Eq.{bytes_eq-Decides}
use Rattle.byteorder.specs.Endian.{big_number}
use Rattle.liq_market.specs.Saving.{told_with}
use Rattle.liq_market.proofs.Opening.{parts_of, told_is}
use Rattle.liq_market.proofs.saving.taken_apart.Goals as goal

clash : (b : Bool) → b ≡ true → not b ≡ true → ⊥
clash true e n = cc
clash false e n = cc

of_not : (b : Bool) → not b ≡ false → b ≡ true
of_not true e = cc
of_not false e = cc

pub returns-then-told-lt-FRONT-clause-only : goal.returns-then-told-lt-FRONT-clause-only
returns-then-told-lt-FRONT-clause-only c records checkpoint small is =
    let long = (parts_of c.args.told.now records checkpoint small is).long in
    let short = c.if-told-lt-FRONT.true in
    absurd (omega (arith, long, short))

pub returns-then-ne-clause-only : goal.returns-then-ne-clause-only
returns-then-ne-clause-only c records checkpoint small is =
    let named = (parts_of c.args.told.now records checkpoint small is).named in
    let same = c.split_at.ensures.front ∙ named ∙ sym c.as_slice.ensures in
    let test = bytes_eq c.split_at.result.0.now c.as_slice.result.now in
    clash test ((bytes_eq-Decides _ _).1 same) (sym c.ne.ensures ∙ c.if-ne.true)

pub returns-clause-found : goal.returns-clause-found
returns-clause-found c =
    let rest = c.split_at.result.1.now in
    let test = bytes_eq c.split_at.result.0.now c.as_slice.result.now in
    let named = (bytes_eq-Decides _ _).0 (of_not test (sym c.ne.ensures ∙ c.if-ne.false)) ∙ c.as_slice.ensures in
    let long = c.if-told-lt-FRONT.false in
    told_is c.args.told.now c.split_at.result.0.now rest (λ i. omega (arith, c.type_inv.told i)) (omega (arith, long))
    c.split_at.ensures.front c.split_at.ensures.back named
    ∙ (λ i. told_with (sym c.read_u64.ensures i) (sym (take_rest rest 8) i))

pub returns-clause-only : goal.returns-clause-only
returns-clause-only c records checkpoint small is =
    let parts = parts_of c.args.told.now records checkpoint small is in
    let rest = c.split_at.result.1.now in (
      c.read_u64.ensures ∙ ap (big_number 8) c.split_at.ensures.back ∙ parts.count,
      take_rest rest 8 ∙ ap (drop 8) c.split_at.ensures.back ∙ parts.rest,
    )
