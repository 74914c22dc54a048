use Rattle.std.proofs.Common.{◌≡◌, ◌-◌, suc, List, take, get_or, Option, Some, arith, sym, ap, ◌∙◌}
use Rattle.std.proofs.lemmas.List.{length-map}
use Rattle.liq_types.specs.Ranked.{Ranked}
use Rattle.std.specs.Option.{option_or}
use Rattle.liq_list_chunks.specs.Chunks.{joined, last_of, last_or, lists}
use Rattle.liq_list_chunks.proofs.Nearest.{last_joined}
use Rattle.liq_list_chunks.proofs.Stored.{items_of, read_rest}
use Rattle.liq_list_chunks.proofs.chunks.or_last_before.Goals as goal

pub returns-in-None-2 : goal.returns-in-None-2
returns-in-None-2 c =
    let fs = c.args.firsts.now.items in
    let rs = lists c.args.rests.now in
    let i = c.args.chunk - 1 in
    let next : suc i ≡ c.args.chunk = omega arith in
    let first = c.index.result.now in
    let rest = c.index-in-None-2.result.now in
    let last = c.last_in.ensures ∙ ap (λ (f : Ranked). last_or f c.deref.result.now) c.index.ensures
    ∙ ap (λ (l : List Ranked). last_or (get_or fs i first) l) (c.deref.ensures.value
    ∙ read_rest c.args.rests.now.items i rest (omega arith) c.index-in-None-2.ensures) in
    ap (λ (e : Ranked). Some e) last
    ∙ sym (
    ap (λ (o : Option Ranked). option_or o (last_of (joined (take c.args.chunk fs) (take c.args.chunk rs))))
    c.in-None-2.is
    ∙ ap (λ n. last_of (joined (take n fs) (take n rs))) (sym next)
    ∙ last_joined fs rs i first (omega arith) (c.requires.len ∙ sym (length-map c.args.rests.now.items items_of))
    )
