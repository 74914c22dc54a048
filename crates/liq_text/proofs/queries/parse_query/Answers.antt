use Rattle.std.proofs.Common.{◌≡◌, ◌≢◌, ℕ, Option, Some, None, rules, ◌∙◌}
use Rattle.std.specs.Prelude.{codes}
use Rattle.std.proofs.lemmas.Bool.Decides.{Decides-eqb}
use Rattle.std.proofs.lemmas.Slice.Eq.{strip_prefix_is}
use Rattle.liq_text.specs.Reading.{account_of}
use Rattle.liq_text.proofs.QueryLaws.{wallet_read, trove_read, deposit_read, next_number_read, pools_read, system_read, nothing_asked}
use Rattle.liq_text.proofs.queries.parse_query.Goals as goal

pub returns-in_err-account : goal.returns-in_err-account
returns-in_err-account c =
    let read : ◌≡◌ {A = Option ℕ} None (account_of c.in-Some.word.now) = cc (c.in_err-account.was, c.account.ensures) in
    c.from_residual.ensures ∙ wallet_read c.args.words.now c.in-Some.word.now None
    (strip_prefix_is Decides-eqb c.args.words.now (codes "wallet ") (Some c.in-Some.word)
    c.in-Some.ensures.cases) read

pub returns-in-Some : goal.returns-in-Some
returns-in-Some c =
    let read : Some c.in_ok-account.field-0 ≡ account_of c.in-Some.word.now =
    cc (c.in_ok-account.was, c.account.ensures) in
    wallet_read c.args.words.now c.in-Some.word.now (Some c.in_ok-account.field-0)
    (strip_prefix_is Decides-eqb c.args.words.now (codes "wallet ") (Some c.in-Some.word)
    c.in-Some.ensures.cases) read

pub returns-in_err-account-2 : goal.returns-in_err-account-2
returns-in_err-account-2 c =
    let read : ◌≡◌ {A = Option ℕ} None (account_of c.in-Some-strip_prefix.word.now) =
    cc (c.in_err-account-2.was, c.account-in-Some-strip_prefix.ensures) in
    c.from_residual-in_err-account-2.ensures ∙ trove_read c.args.words.now c.in-Some-strip_prefix.word.now None
    (strip_prefix_is Decides-eqb c.args.words.now (codes "trove ") (Some c.in-Some-strip_prefix.word)
    c.in-Some-strip_prefix.ensures.cases) read

pub returns-in-Some-strip_prefix : goal.returns-in-Some-strip_prefix
returns-in-Some-strip_prefix c =
    let read : Some c.in_ok-account-2.field-0 ≡ account_of c.in-Some-strip_prefix.word.now =
    cc (c.in_ok-account-2.was, c.account-in-Some-strip_prefix.ensures) in
    trove_read c.args.words.now c.in-Some-strip_prefix.word.now (Some c.in_ok-account-2.field-0)
    (strip_prefix_is Decides-eqb c.args.words.now (codes "trove ") (Some c.in-Some-strip_prefix.word)
    c.in-Some-strip_prefix.ensures.cases) read

pub returns-in_err-account-3 : goal.returns-in_err-account-3
returns-in_err-account-3 c =
    let read : ◌≡◌ {A = Option ℕ} None (account_of c.in-Some-strip_prefix-2.word.now) =
    cc (c.in_err-account-3.was, c.account-in-Some-strip_prefix-2.ensures) in
    c.from_residual-in_err-account-3.ensures ∙ deposit_read c.args.words.now c.in-Some-strip_prefix-2.word.now None
    (strip_prefix_is Decides-eqb c.args.words.now (codes "deposit ") (Some c.in-Some-strip_prefix-2.word)
    c.in-Some-strip_prefix-2.ensures.cases) read

pub returns-in-Some-strip_prefix-2 : goal.returns-in-Some-strip_prefix-2
returns-in-Some-strip_prefix-2 c =
    let read : Some c.in_ok-account-3.field-0 ≡ account_of c.in-Some-strip_prefix-2.word.now =
    cc (c.in_ok-account-3.was, c.account-in-Some-strip_prefix-2.ensures) in
    deposit_read c.args.words.now c.in-Some-strip_prefix-2.word.now (Some c.in_ok-account-3.field-0)
    (strip_prefix_is Decides-eqb c.args.words.now (codes "deposit ") (Some c.in-Some-strip_prefix-2.word)
    c.in-Some-strip_prefix-2.ensures.cases) read

pub returns-in_err-account-4 : goal.returns-in_err-account-4
returns-in_err-account-4 c =
    let read : ◌≡◌ {A = Option ℕ} None (account_of c.in-Some-strip_prefix-3.word.now) =
    cc (c.in_err-account-4.was, c.account-in-Some-strip_prefix-3.ensures) in
    c.from_residual-in_err-account-4.ensures ∙ next_number_read c.args.words.now c.in-Some-strip_prefix-3.word.now None
    (strip_prefix_is Decides-eqb c.args.words.now (codes "next_number ") (Some c.in-Some-strip_prefix-3.word)
    c.in-Some-strip_prefix-3.ensures.cases) read

pub returns-in-Some-strip_prefix-3 : goal.returns-in-Some-strip_prefix-3
returns-in-Some-strip_prefix-3 c =
    let read : Some c.in_ok-account-4.field-0 ≡ account_of c.in-Some-strip_prefix-3.word.now =
    cc (c.in_ok-account-4.was, c.account-in-Some-strip_prefix-3.ensures) in
    next_number_read c.args.words.now c.in-Some-strip_prefix-3.word.now (Some c.in_ok-account-4.field-0)
    (strip_prefix_is Decides-eqb c.args.words.now (codes "next_number ") (Some c.in-Some-strip_prefix-3.word)
    c.in-Some-strip_prefix-3.ensures.cases) read

pub returns-then-eq : goal.returns-then-eq
returns-then-eq c =
    let is : c.args.words.now ≡ codes "pools" = search rules in
    pools_read c.args.words.now is

pub returns-then-eq-2 : goal.returns-then-eq-2
returns-then-eq-2 c =
    let is : c.args.words.now ≡ codes "system" = search rules in
    system_read c.args.words.now is

pub returns : goal.returns
returns c =
    let words = c.args.words.now in
    let pools : words ≢ codes "pools" = search rules in
    let system : words ≢ codes "system" = search rules in
    nothing_asked words (strip_prefix_is Decides-eqb words (codes "wallet ") None c.in_default.ensures.cases)
    (strip_prefix_is Decides-eqb words (codes "trove ") None c.in_default-strip_prefix.ensures.cases)
    (strip_prefix_is Decides-eqb words (codes "deposit ") None c.in_default-strip_prefix-2.ensures.cases)
    (strip_prefix_is Decides-eqb words (codes "next_number ") None c.in_default-strip_prefix-3.ensures.cases)
    pools system
