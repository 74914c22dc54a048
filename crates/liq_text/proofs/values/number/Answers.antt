use Rattle.std.proofs.Common.{arith, rules, ap, subst, ◌∙◌, ◌≡◌, ◌<◌, ℕ, List, Some, take, length}
use Rattle.std.specs.Str.Parse.{AllDigits, digits_value}
use Rattle.std.proofs.lemmas.List.{take_all}
use Rattle.std.proofs.lemmas.Int.Digits.{digits_more, digits_value_more}
use Rattle.liq_text.proofs.ReadingLaws.{number_of-empty, number_of-leading_zero, number_of-broken, number_of-digits}
use Rattle.liq_text.proofs.values.number.Goals.{then-is_empty-via-then-is_empty, then-is_empty-via-else-is_empty+then-has_leading_zero}
use Rattle.liq_text.proofs.values.number.Goals as goal

pub returns-then-is_empty : goal.returns-then-is_empty
returns-then-is_empty c =
    elim c.then-is_empty.branch [
      | then-is_empty-via-then-is_empty w ↦ number_of-empty c.args.word.now (search rules)
      | then-is_empty-via-else-is_empty+then-has_leading_zero w ↦
          let leading = w.has_leading_zero.ensures.0 w.if-has_leading_zero.true in
          number_of-leading_zero c.args.word.now leading.0 leading.1
    ]

pub returns-in_err-number : goal.returns-in_err-number
returns-in_err-number c =
    c.from_residual.ensures
    ∙ number_of-broken c.args.word.now c.loop-byte.byte-index c.loop-byte-test.true (λ digit. omega (
      arith,
      c.in_err-number.ensures digit,
      c.loop-byte.invariant.value,
    ))

pub loop-byte-preserved : goal.loop-byte-preserved
loop-byte-preserved c =
    let word : List ℕ = c.args.word.now in
    record {
      digits = digits_more 10 word c.loop-byte.byte-index c.loop-byte-test.true c.loop-byte.invariant.digits
          c.in_ok-number.ensures.0;
      fits = c.in_ok-number.ensures.2;
      value = omega (
        arith,
        c.in_ok-number.ensures.1,
        c.loop-byte.invariant.value,
        digits_value_more 10 word c.loop-byte.byte-index c.loop-byte-test.true,
      );
    }

pub returns : goal.returns
returns c =
    let word : List ℕ = c.args.word.now in
    let whole : take c.loop-byte.byte-index word ≡ word = take_all c.loop-byte.byte-index word (omega arith) in
    let value : c.loop-byte.number ≡ digits_value 10 word = c.loop-byte.invariant.value ∙ ap (digits_value 10) whole in
    let some : 0 < length word = search rules in
    ap Some value
    ∙ number_of-digits word some
    (λ zero. let short : 1 < length word → ⊥ = λ long. cc (
      c.has_leading_zero.ensures.1 (long, zero),
      c.if-has_leading_zero.false,
    ) in omega (arith, some, short))
    (subst (AllDigits 10) whole c.loop-byte.invariant.digits) (omega (arith, value, c.loop-byte.invariant.fits))
