use Rattle.std.proofs.Common.{◌≡◌, Option, None, Some, ◌∙◌}
use Rattle.std.specs.Prelude.{codes}
use Rattle.std.proofs.lemmas.Bool.Decides.{Decides-eqb}
use Rattle.std.proofs.lemmas.Slice.Eq.{strip_prefix_is}
use Rattle.liq_types.specs.declared.requests.Query.{Query}
use Rattle.liq_text.specs.Reading.{query_of, pieces_of}
use Rattle.liq_text.proofs.LineLaws.{asked_read}
use Rattle.liq_text.proofs.lines.request.Goals as goal

pub returns-in_err-parse_query-in-Some : goal.returns-in_err-parse_query-in-Some
returns-in_err-parse_query-in-Some c =
    let read : ◌≡◌ {A = Option Query} None (query_of (pieces_of c.in-Some.words.now)) = cc (
      c.in_err-parse_query-in-Some.was,
      c.parse_query.ensures,
    ) in
    c.from_residual.ensures ∙ asked_read c.args.line.now c.in-Some.words.now None
    (strip_prefix_is Decides-eqb c.args.line.now (codes "? ") (Some c.in-Some.words) c.in-Some.ensures.cases) read

pub returns-in_ok-parse_query-in-Some : goal.returns-in_ok-parse_query-in-Some
returns-in_ok-parse_query-in-Some c =
    let read : Some c.in_ok-parse_query-in-Some.field-0 ≡ query_of (pieces_of c.in-Some.words.now) =
    cc (c.in_ok-parse_query-in-Some.was, c.parse_query.ensures) in
    asked_read c.args.line.now c.in-Some.words.now (Some c.in_ok-parse_query-in-Some.field-0)
    (strip_prefix_is Decides-eqb c.args.line.now (codes "? ") (Some c.in-Some.words) c.in-Some.ensures.cases) read
