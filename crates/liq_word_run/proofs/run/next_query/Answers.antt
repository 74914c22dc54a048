use Rattle.std.proofs.Common.{ℕ, List, take, subst, arith}
use Rattle.std.proofs.lemmas.List.{length-take}
use Rattle.liq_types.specs.declared.requests.Request.TheVariants.{Ask}
use Rattle.liq_word_exit.specs.Requests.{IsRequest}
use Rattle.liq_text_lines.specs.Lines.{IsWholeLine}
use Rattle.liq_text_lines.proofs.Few.{ended_few}
use Rattle.liq_word_run.proofs.Taking.{request_taken}
use Rattle.liq_word_run.proofs.run.next_query.Goals as goal

pub returns-clause-query : goal.returns-clause-query
returns-clause-query c number left =
    let old = c.args.reader.now in
    let size = c.in_ok-size.size in
    let whole : IsWholeLine size old = rw c.in_ok-size.was at c.requires in
    request_taken old (take size old) c.pass.new.self left number (Ask c.in_ok-query.query)
    (subst (λ (line : List ℕ). IsRequest line (Ask c.in_ok-query.query)) c.line.ensures c.in_ok-query.ensures.found)
    whole.1 c.pass.ensures.rest

pub returns-clause-few : goal.returns-clause-few
returns-clause-few c left =
    let old = c.args.reader.now in
    let size = c.in_ok-size.size in
    let whole : IsWholeLine size old = rw c.in_ok-size.was at c.requires in
    ended_few old (take size old) c.pass.new.self left c.pass.ensures.rest (omega (
      arith,
      whole.0,
      length-take size old,
    ))
