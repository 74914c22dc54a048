use Rattle.std.proofs.Common.{◌-◌, ◌++◌, List, length, take, drop, ap, arith, ◌∙◌}
use Rattle.std.proofs.lemmas.List.{length-drop, take_all}
use Rattle.liq_types.specs.Ranked.{Ranked}
use Rattle.liq_list_chunks.proofs.chunks.behind_half.Goals as goal

pub returns : goal.returns
returns c =
    let seen = c.deref.result.now in
    c.in_ok-extend_from_slice.ensures.items
    ∙ ap (λ (l : List Ranked). l ++ take (length seen - 32) (drop 32 seen)) c.in_ok-half.ensures.items
    ∙ take_all (length seen - 32) (drop 32 seen) (omega (arith, length-drop 32 seen))
    ∙ ap (λ (l : List Ranked). drop 32 l) c.deref.ensures.value
