use Rattle.std.proofs.Common.{◌≡◌, ◌∷◌, [], ap, sym, subst, ◌∙◌, length, arith, codes, map}
use Rattle.std.specs.String.{string_bytes}
use Rattle.liq_word_line.specs.Words.{Ask}
use Rattle.liq_word_line.proofs.Given.{one_word, three_words, same_text, some_such}
use Rattle.liq_word_line.proofs.words.are_understood.Goals as goal

pub returns-in-len1-clause-asks : goal.returns-in-len1-clause-asks
returns-in-len1-clause-asks c holds =
    let one : length c.args.words.now ≡ 1 = omega (arith, c.in-len1.len_at_least, c.in-len1.len_below) in
    let word_is = one_word c.args.words.now c.word-item.result one c.word-item.is in
    let texts_are : map string_bytes c.args.words.now ≡ c.deref.result.now ∷ [] = cc (
      ap (map string_bytes) word_is,
      c.deref.ensures,
    ) in
    let found = some_such c.alone.result (Ask (c.deref.result.now ∷ [])) c.alone.ensures.word (sym c.is_some.ensures
    ∙ holds) in
    (found.0, subst (λ ws. Ask ws found.0) (sym texts_are) found.1)

pub returns-then-eq-clause-asks : goal.returns-then-eq-clause-asks
returns-then-eq-clause-asks c holds =
    let three : length c.args.words.now ≡ 3 = omega (arith, c.in-len3.len_at_least, c.in-len3.len_below) in
    let words_are = three_words c.args.words.now c.word-item-then-words-lt4.result c.seed-item.result
    c.count-item.result three c.word-item-then-words-lt4.is c.seed-item.is c.count-item.is in
    let name : string_bytes c.word-item-then-words-lt4.result ≡ codes "gen" =
    same_text _ _ _ _ c.as_str.ensures.value c.eq.ensures c.if-eq.true in
    let texts_are : map string_bytes c.args.words.now ≡ codes "gen" ∷ c.deref-then-eq.result.now
    ∷ c.deref-then-eq-2.result.now ∷ [] =
    cc (ap (map string_bytes) words_are, name, c.deref-then-eq.ensures, c.deref-then-eq-2.ensures) in
    let found = some_such c.gen_of.result (Ask (codes "gen" ∷ c.deref-then-eq.result.now ∷ c.deref-then-eq-2.result.now
    ∷ [])) c.gen_of.ensures.word (sym c.is_some-then-eq.ensures ∙ holds) in
    (found.0, subst (λ ws. Ask ws found.0) (sym texts_are) found.1)
