use Rattle.std.proofs.Common.{◌≡◌, ap, sym, subst, ◌∙◌, rules, map, Ok, Err, inl, inr}
use Rattle.std.specs.Prelude.{IfOk}
use Rattle.std.specs.String.{string_bytes}
use Rattle.clap.specs.Words.{subcommand_of, subcommand_rows_of, takes, is_simple}
use Rattle.liq_word_line.specs.Words.{Ask}
use Rattle.liq_word_arguments.specs.declared.reading.WordsFault.TheVariants.{NoMemory}
use Rattle.liq_word_arguments.specs.Line.{line}
use Rattle.liq_word_arguments.specs.Reading.{HasRead}
use Rattle.liq_word_arguments.proofs.Asked.{are_taken, in_range, is_read, no_memory, is_word, one_word}
use Rattle.liq_word_arguments.proofs.Taken.{line_is_simple}
use Rattle.liq_word_arguments.proofs.reading.read_words.Goals as goal

-- where clap fails, it does so for want of memory
failed : (c : goal.After-from_residual-in_err-matches) → c.from_residual-in_err-matches.result ≡ Err NoMemory
failed c =
    let words = map string_bytes c.args.words.now in
    let asked = c.are_understood.ensures.asks c.if-not-are_understood.false in
    let taken = ap (λ a. takes a words) c.in_ok-line.ensures ∙ are_taken words asked.0 asked.1 in
    no_memory _ c.from_residual-in_err-matches.result c.from_residual-in_err-matches.ensures.1
    (c.in_err-matches.ensures.passes taken)

pub returns-in_err-matches-clause-only : goal.returns-in_err-matches-clause-only
returns-in_err-matches-clause-only c word ask = inr (failed c)

pub returns-in_err-matches-clause-usage : goal.returns-in_err-matches-clause-usage
returns-in_err-matches-clause-usage c =
    let asked = c.are_understood.ensures.asks c.if-not-are_understood.false in
    let is = failed c in
    (λ usage. absurd (cc (is, usage)), λ none. absurd (none asked.0 asked.1))

-- the answer is the word that was asked
answered : (c : goal.Joined-matches) → let asked = c.are_understood.ensures.asks c.if-not-are_understood.false
    in c.ok_or.result ≡ Ok asked.0
answered c =
    let words = map string_bytes c.args.words.now in
    let asked = c.are_understood.ensures.asks (search rules) in
    let simple = ap is_simple c.in_ok-line.ensures ∙ line_is_simple in
    let found : subcommand_rows_of c.in_ok-matches.matches ≡ subcommand_of line words =
    (c.in_ok-matches.ensures.matches simple).1 ∙ ap (λ a. subcommand_of a words) c.in_ok-line.ensures in
    let read = subst (λ f. HasRead f asked.0) (sym found) (is_read words asked.0 asked.1) in
    is_word c.word_of.result asked.0 c.ok_or.result (c.word_of.ensures asked.0 (in_range words asked.0 asked.1) read)
    c.ok_or.ensures.value

pub returns-clause-word : goal.returns-clause-word
returns-clause-word c =
    let asked = c.are_understood.ensures.asks (search rules) in
    subst (λ r. IfOk r (Ask (map string_bytes c.args.words.now))) (sym (answered c)) asked.1

pub returns-clause-usage : goal.returns-clause-usage
returns-clause-usage c =
    let asked = c.are_understood.ensures.asks (search rules) in
    let is = answered c in
    (λ usage. absurd (cc (is, usage)), λ none. absurd (none asked.0 asked.1))

pub returns-clause-only : goal.returns-clause-only
returns-clause-only c word ask =
    let asked = c.are_understood.ensures.asks (search rules) in
    inl (answered c ∙ ap Ok (one_word (map string_bytes c.args.words.now) asked.0 word asked.1 ask))
