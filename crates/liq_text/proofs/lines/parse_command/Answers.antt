use Rattle.std.proofs.Common.{◌≡◌, false, Option, Some, None, ◌∙◌}
use Rattle.liq_types.specs.declared.requests.Call.{Call}
use Rattle.liq_text.specs.Reading.{a_number, account_of, call_of, others, pieces_of}
use Rattle.liq_text.specs.Pieces.{first_word, fails, unless}
use Rattle.liq_text.proofs.FormLaws.{command_read}
use Rattle.liq_text.proofs.LineLaws.{no_client, no_question}
use Rattle.liq_text.proofs.lines.parse_command.Goals as goal

pub returns-in_err-client : goal.returns-in_err-client
returns-in_err-client c =
    let words = pieces_of c.args.line.now in
    let client : None ≡ account_of (first_word words) = cc (c.in_err-client.was) in
    c.from_residual.ensures ∙ no_client c.args.line.now c.requires client

pub returns-in_err-call : goal.returns-in_err-call
unfolding unless
returns-in_err-call c =
    let words = pieces_of c.args.line.now in
    let client : Some c.in_ok-client.client ≡ account_of (first_word words) = cc (c.in_ok-client.was) in
    let call : ◌≡◌ {A = Option Call} None (unless (fails a_number false (others words))
    (call_of (others (others words)))) = cc (c.in_err-call.was) in
    c.from_residual-in_err-call.ensures ∙ command_read words (Some c.in_ok-client.client) c.number-number.result None
    false (no_question (first_word words) c.in_ok-client.client client) client (cc) call

pub returns : goal.returns
unfolding unless
returns c =
    let words = pieces_of c.args.line.now in
    let client : Some c.in_ok-client.client ≡ account_of (first_word words) = cc (c.in_ok-client.was) in
    let call : Some c.in_ok-call.call ≡ unless (fails a_number false (others words)) (call_of (others (others words))) =
    cc (c.in_ok-call.was) in
    command_read words (Some c.in_ok-client.client) c.number-number.result (Some c.in_ok-call.call) false
    (no_question (first_word words) c.in_ok-client.client client) client (cc) call
