use Rattle.std.proofs.Common.{List, ℕ, ◌++◌, ap, ◌∙◌}
use Rattle.std.specs.Prelude.{map, decimal}
use Rattle.liq_text.specs.Spelling.{call_words}
use Rattle.liq_text.specs.Writing.{piece_of, spaced}
use Rattle.liq_text.proofs.WritingLaws.{put_two_behind}
use Rattle.liq_text.proofs.requests.put_command.Goals as goal

pub returns-clause-items : goal.returns-clause-items
returns-clause-items c =
    let named = c.put_named.ensures.items ∙ ap (λ (pieces : List (List ℕ)). c.put_number.new.out.items
    ++ spaced pieces) c.named_call.ensures.words in
    put_two_behind c.args.out.now.items c.put_first.new.out.items c.put_number.new.out.items c.put_named.new.out.items
    (decimal c.args.command.now.client) (decimal c.args.command.now.number)
    (map piece_of (call_words c.args.command.now.call))
    c.put_first.ensures.items c.put_number.ensures.items named
