use Rattle.std.proofs.Common.{ℕ, ◌+◌, List, take, subst, arith}
use Rattle.std.proofs.lemmas.List.{length-take}
use Rattle.liq_word_exit.specs.Requests.{IsRequest}
use Rattle.liq_text_lines.specs.Saying.{IsBadLine}
use Rattle.liq_text_lines.proofs.Few.{ended_few}
use Rattle.liq_word_run.proofs.Taking.{request_taken, bad_taken}
use Rattle.liq_word_run.proofs.run.taken_request.Goals as goal

pub returns-in-Ok-clause-request : goal.returns-in-Ok-clause-request
returns-in-Ok-clause-request c left =
    let old = c.args.reader.now in
    request_taken old (take c.args.size old) c.pass.new.self left (c.args.before + 1) c.in-Ok.request
    (subst (λ (line : List ℕ). IsRequest line c.in-Ok.request) c.line.ensures c.in-Ok.ensures) c.requires.whole.1
    c.pass.ensures.rest

pub returns-in-Err-clause-request : goal.returns-in-Err-clause-request
returns-in-Err-clause-request c left =
    let old = c.args.reader.now in
    bad_taken old (take c.args.size old) c.pass.new.self left (c.args.before + 1) c.in-Err.halt c.in-Err.ensures.0
    (subst (λ (line : List ℕ). IsBadLine IsRequest line) c.line.ensures c.in-Err.ensures.1) c.requires.whole.1
    c.pass.ensures.rest

pub returns-in-Ok-clause-few : goal.returns-in-Ok-clause-few
returns-in-Ok-clause-few c left =
    let old = c.args.reader.now in
    ended_few old (take c.args.size old) c.pass.new.self left c.pass.ensures.rest (omega (
      arith,
      c.requires.whole.0,
      length-take c.args.size old,
    ))

pub returns-in-Err-clause-few : goal.returns-in-Err-clause-few
returns-in-Err-clause-few c left =
    let old = c.args.reader.now in
    ended_few old (take c.args.size old) c.pass.new.self left c.pass.ensures.rest (omega (
      arith,
      c.requires.whole.0,
      length-take c.args.size old,
    ))
