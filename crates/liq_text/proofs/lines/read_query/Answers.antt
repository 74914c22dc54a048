use Rattle.std.proofs.Common.{None, Some}
use Rattle.std.specs.Prelude.{codes}
use Rattle.std.proofs.lemmas.Bool.Decides.{Decides-eqb}
use Rattle.std.proofs.lemmas.Slice.Eq.{strip_prefix_is}
use Rattle.liq_text.proofs.LineLaws.{query_found, query_only, query_starts}
use Rattle.liq_text.proofs.lines.read_query.Goals as goal

pub returns-in-Some-clause-found : goal.returns-in-Some-clause-found
returns-in-Some-clause-found c =
    query_found c.args.line.now c.in-Some.words.now c.parse_query.result (strip_prefix_is Decides-eqb c.args.line.now
    (codes "? ") (Some c.in-Some.words) c.in-Some.ensures.cases) c.parse_query.ensures

pub returns-in-Some-clause-only : goal.returns-in-Some-clause-only
returns-in-Some-clause-only c =
    λ query s. query_only c.args.line.now c.in-Some.words.now c.parse_query.result query
    (strip_prefix_is Decides-eqb c.args.line.now (codes "? ") (Some c.in-Some.words) c.in-Some.ensures.cases)
    c.parse_query.ensures s

pub returns-in-None-clause-only : goal.returns-in-None-clause-only
returns-in-None-clause-only c = λ query s.
    let starts = query_starts c.args.line.now query s.0 s.1 s.2 in
    absurd (strip_prefix_is Decides-eqb c.args.line.now (codes "? ") None c.in-None.ensures.cases starts.0 starts.1)
