use Rattle.std.proofs.Common.{arith, sym, ◌∙◌}
use Rattle.liq_text.proofs.PieceLaws.{one_word, more_words, words_behind}
use Rattle.liq_text.proofs.pieces.four_words.Goals as goal

pub returns-in_err-rest : goal.returns-in_err-rest
returns-in_err-rest c = rw c.from_residual.ensures (λ four. omega (
  arith,
  four,
  one_word _ _ _ c.split_first.ensures c.in_err-rest.was,
))

pub returns-in_err-rest-2 : goal.returns-in_err-rest-2
returns-in_err-rest-2 c = rw c.from_residual-in_err-rest-2.ensures (λ four. omega (
  arith,
  four,
  words_behind _ _ _ _ c.split_first.ensures c.in_ok-rest.was,
  one_word _ _ _ c.split_first-2.ensures c.in_err-rest-2.was,
))

pub returns-in_err-rest-3 : goal.returns-in_err-rest-3
returns-in_err-rest-3 c = rw c.from_residual-in_err-rest-3.ensures (λ four. omega (
  arith,
  four,
  words_behind _ _ _ _ c.split_first.ensures c.in_ok-rest.was,
  words_behind _ _ _ _ c.split_first-2.ensures c.in_ok-rest-2.was,
  one_word _ _ _ c.split_first-3.ensures c.in_err-rest-3.was,
))

pub returns-then-is_some : goal.returns-then-is_some
returns-then-is_some c four = omega (
  arith,
  four,
  words_behind _ _ _ _ c.split_first.ensures c.in_ok-rest.was,
  words_behind _ _ _ _ c.split_first-2.ensures c.in_ok-rest-2.was,
  words_behind _ _ _ _ c.split_first-3.ensures c.in_ok-rest-3.was,
  more_words _ _ _ c.split_first-4.ensures (sym c.is_some.ensures ∙ c.if-is_some.true),
)
