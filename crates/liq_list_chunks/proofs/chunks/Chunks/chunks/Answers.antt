use Rattle.std.proofs.Common.{List, length, sym, ap, ◌∙◌, arith}
use Rattle.std.proofs.lemmas.List.{length-map}
use Rattle.liq_types.specs.Ranked.{Ranked}
use Rattle.liq_list_chunks.specs.Chunks.{lists}
use Rattle.liq_list_chunks.proofs.Stored.{items_of}
use Rattle.liq_list_chunks.proofs.Around.{no_more_than_entries}
use Rattle.liq_list_chunks.proofs.chunks.Chunks.chunks.Goals as goal

pub returns : goal.returns
returns c =
    let fs = c.self.inside.firsts.items in
    let rests = c.self.inside.rests.items in
    let rs = lists c.self.inside.rests in
    omega (
      arith,
      c.len.ensures,
      ap (λ (l : List Ranked). length l) c.self.view_is,
      no_more_than_entries fs rs (c.self.invariant.0 ∙ sym (length-map rests items_of)),
    )
