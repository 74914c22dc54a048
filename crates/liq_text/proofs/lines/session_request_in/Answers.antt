use Rattle.std.proofs.Common.{◌≡◌, ℕ, List, Option, Some, None, [], ◌∷◌, ap, ◌∙◌}
use Rattle.liq_types.specs.declared.requests.Request.{Request}
use Rattle.liq_text.specs.Reading.{pieces_of, session_of, request_of}
use Rattle.liq_text.specs.Pieces.{rest_pieces}
use Rattle.liq_text.proofs.FormLaws.{no_session, session_read, nothing_read}
use Rattle.liq_text.proofs.lines.session_request_in.Goals as goal

pub returns-in_err-session : goal.returns-in_err-session
returns-in_err-session c =
    let word = c.split_first.result.0.now in
    let session : None ≡ session_of word = cc (c.in_err-session.was) in
    c.from_residual.ensures ∙ no_session c.args.line.now word (rest_pieces c.split_first.result.1)
    c.split_first.ensures session

pub returns-in_err-rest : goal.returns-in_err-rest
unfolding rest_pieces
returns-in_err-rest c =
    let word = c.split_first.result.0.now in
    let session : Some c.in_ok-session.session ≡ session_of word = cc (c.in_ok-session.was) in
    let rest : rest_pieces c.split_first.result.1 ≡ [] = ap rest_pieces c.in_err-rest.was in
    c.from_residual-in_err-rest.ensures ∙ session_read c.args.line.now word [] (Some c.in_ok-session.session) None
    (c.split_first.ensures ∙ ap (λ (pieces : List (List ℕ)). word ∷ pieces) rest) session nothing_read

pub returns-in_err-request : goal.returns-in_err-request
unfolding rest_pieces
returns-in_err-request c =
    let word = c.split_first.result.0.now in
    let session : Some c.in_ok-session.session ≡ session_of word = cc (c.in_ok-session.was) in
    let rest : rest_pieces c.split_first.result.1 ≡ pieces_of c.in_ok-rest.field-0.now =
    ap rest_pieces c.in_ok-rest.was in
    let request : ◌≡◌ {A = Option Request} None (request_of (pieces_of c.in_ok-rest.field-0.now)) =
    cc (c.in_err-request.was) in
    c.from_residual-in_err-request.ensures
    ∙ session_read c.args.line.now word (pieces_of c.in_ok-rest.field-0.now) (Some c.in_ok-session.session) None
    (c.split_first.ensures ∙ ap (λ (pieces : List (List ℕ)). word ∷ pieces) rest) session request

pub returns : goal.returns
unfolding rest_pieces
returns c =
    let word = c.split_first.result.0.now in
    let session : Some c.in_ok-session.session ≡ session_of word = cc (c.in_ok-session.was) in
    let rest : rest_pieces c.split_first.result.1 ≡ pieces_of c.in_ok-rest.field-0.now =
    ap rest_pieces c.in_ok-rest.was in
    let request : Some c.in_ok-request.request ≡ request_of (pieces_of c.in_ok-rest.field-0.now) =
    cc (c.in_ok-request.was) in
    session_read c.args.line.now word (pieces_of c.in_ok-rest.field-0.now) (Some c.in_ok-session.session)
    (Some c.in_ok-request.request) (c.split_first.ensures ∙ ap (λ (pieces : List (List ℕ)). word ∷ pieces) rest)
    session request
