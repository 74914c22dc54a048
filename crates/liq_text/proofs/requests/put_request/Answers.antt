use Rattle.std.proofs.Common.{List, ℕ, ◌∙◌, sym, ap, ◌++◌}
use Rattle.std.specs.Prelude.{codes, map}
use Rattle.std.specs.List.{join_with_byte}
use Rattle.liq_types.specs.declared.requests.Request.{Request}
use Rattle.liq_text.specs.Spelling.{query_words, request_words}
use Rattle.liq_text.specs.Writing.{piece_of, spaced}
use Rattle.liq_text.proofs.WritingLaws.{put_behind}
use Rattle.liq_text.proofs.requests.put_request.Goals as goal

pub returns-in-Ask-clause-items : goal.returns-in-Ask-clause-items
returns-in-Ask-clause-items c =
    let named = c.put_named.ensures.items ∙ ap (λ (pieces : List (List ℕ)). c.put.new.out.items
    ++ spaced pieces) c.named_query.ensures.words in
    put_behind c.args.out.now.items c.put.new.out.items c.put_named.new.out.items (codes "?")
    (map piece_of (query_words c.in-Ask.query)) c.put.ensures.items named
    ∙ ap (λ (r : Request). c.args.out.now.items ++ join_with_byte 32 (map piece_of (request_words r))) (sym c.in-Ask.is)
