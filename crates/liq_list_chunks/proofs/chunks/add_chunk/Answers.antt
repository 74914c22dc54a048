use Rattle.std.proofs.Common.{◌++◌, [], ◌∷◌, List, ap, ◌∙◌, map}
use Rattle.std.specs.Prelude.{Vec}
use Rattle.std.specs.Global.{Global}
use Rattle.liq_types.specs.Ranked.{Ranked}
use Rattle.liq_list_chunks.specs.Chunks.{joined}
use Rattle.liq_list_chunks.proofs.Added.{joined_more}
use Rattle.liq_list_chunks.proofs.Stored.{items_of}
use Rattle.liq_list_chunks.proofs.chunks.add_chunk.Goals as goal

pub returns-clause-added : goal.returns-clause-added
returns-clause-added c =
    let first = c.args.first in
    let firsts = c.args.firsts.now.items in
    let rests = c.args.rests.now.items in
    let kept = c.extend_from_slice.new.self in
    ap (λ (l : List Ranked). joined l (map items_of c.push-2.new.self.items)) c.in-Ok.ensures.items
    ∙ ap (λ (l : List (Vec Ranked Global)). joined (firsts ++ first ∷ []) (map items_of l)) c.in-Ok-push.ensures.items
    ∙ joined_more first kept firsts rests c.requires.len
    ∙ ap (λ (l : List Ranked). joined firsts (map items_of rests) ++ (first ∷ l))
    (c.in_ok-extend_from_slice.ensures.items
    ∙ ap (λ (l : List Ranked). l ++ c.args.rest.now) c.in_ok-kept.ensures.items)
