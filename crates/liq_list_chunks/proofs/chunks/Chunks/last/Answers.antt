use Rattle.std.proofs.Common.{◌-◌, suc, List, take, get_or, Some, arith, sym, ap, ◌∙◌}
use Rattle.std.proofs.lemmas.List.{length-map, take_all}
use Rattle.liq_types.specs.Ranked.{Ranked}
use Rattle.liq_list_chunks.specs.Chunks.{joined, last_of, last_or, lists}
use Rattle.liq_list_chunks.proofs.Nearest.{last_joined}
use Rattle.liq_list_chunks.proofs.Stored.{items_of, read_rest}
use Rattle.liq_list_chunks.proofs.chunks.Chunks.last.Goals as goal

pub returns-in_default : goal.returns-in_default
returns-in_default c =
    let fs = c.self.inside.firsts.items in
    let rests = c.self.inside.rests.items in
    let rs = lists c.self.inside.rests in
    let i = c.len.result - 1 in
    let first = c.index.result.now in
    let lengths = c.self.invariant.0 ∙ sym (length-map rests items_of) in
    let counted = c.len.ensures in
    let all = c.self.inside.firsts.ok.0 in
    let last = c.last_in.ensures ∙ ap (λ (f : Ranked). last_or f c.deref.result.now) c.index.ensures
    ∙ ap (λ (l : List Ranked). last_or (get_or fs i first) l) (c.deref.ensures.value
    ∙ read_rest rests i c.index-in_default.result.now (omega (arith, counted, all, c.self.invariant.0))
    c.index-in_default.ensures) in
    ap (λ (e : Ranked). Some e) last
    ∙ sym (last_joined fs rs i first (omega (arith, counted, all)) lengths)
    ∙ ap (λ (l : List Ranked). last_of (joined l (take (suc i) rs))) (take_all (suc i) fs (omega (arith, counted, all)))
    ∙ ap (λ (l : List (List Ranked)). last_of (joined fs l)) (take_all (suc i) rs (omega (
      arith,
      counted,
      all,
      lengths,
    )))
    ∙ ap (λ (l : List Ranked). last_of l) c.self.view_is
