use Rattle.std.proofs.Common.{ap, ◌∙◌, List, ℕ, ◌++◌}
use Rattle.std.specs.Prelude.{map}
use Rattle.std.specs.List.{join_with_byte}
use Rattle.liq_text.specs.Spelling.{request_words}
use Rattle.liq_text.specs.Writing.{piece_of, line_of}
use Rattle.liq_text.proofs.WritingLaws.{appends_line}
use Rattle.liq_text.proofs.requests.write_request.Goals as goal

pub returns-clause-ok : goal.returns-clause-ok
returns-clause-ok c = λ hints.
    appends_line c.args.out.now.items c.put_request.new.out.items c.args.request.now
    (c.put_request.ensures.items
    ∙ ap (λ (x : List ℕ). x ++ join_with_byte 32 (map piece_of (request_words c.args.request.now)))
    c.reserve.ensures.items)
    c.put_request.ensures.range hints

pub returns-clause-written : goal.returns-clause-written
returns-clause-written c = c.put_request.ensures.items
    ∙ ap (λ (x : List ℕ). x ++ line_of c.args.request.now) c.reserve.ensures.items
