use Rattle.std.proofs.Common.{◌≡◌, arith, true, List, [], ◌∷◌, map, sym, ap, subst, ◌∙◌}
use Rattle.std.proofs.lemmas.Bool.{eqb-true}
use Rattle.std.proofs.lemmas.List.{length-map, nil_from_length}
use Rattle.std.specs.Ordering.{is_eq}
use Rattle.std.specs.Global.{Global}
use Rattle.std.specs.Prelude.{Vec, remove}
use Rattle.liq_types.specs.Ranked.{Ranked, rank_order}
use Rattle.liq_list_chunks.specs.Chunks.{AreShort, joined, lists}
use Rattle.liq_list_chunks.specs.Entries.{without_entry}
use Rattle.liq_list_chunks.proofs.Around.{chunk_gone}
use Rattle.liq_list_chunks.proofs.Lists.{left_first}
use Rattle.liq_list_chunks.proofs.Stored.{items_of, left_stored, map_remove, read_ascending, read_chunk}
use Rattle.liq_list_chunks.proofs.Short.{short_read, short_remove, short_set}
use Rattle.liq_list_chunks.proofs.chunks.take_out.Goals as goal

pub returns-then-is_same-clause-left : goal.returns-then-is_same-clause-left
returns-then-is_same-clause-left c =
    let fs = c.args.firsts.now.items in
    let rs = c.args.rests.now.items in
    let i = c.args.chunk in
    let e = c.args.entry in
    let first = c.index-then-is_empty.result.now in
    let rest = c.index.result.now in
    let was = read_chunk fs rs i e first rest c.requires.belongs.within c.requires.len c.index-then-is_empty.ensures
    c.index.ensures in
    let same : is_eq (rank_order e first) ≡ true = sym c.is_same.ensures ∙ c.if-is_same.true in
    let alone : rest.items ≡ [] = nil_from_length rest.items (sym rest.ok.0
    ∙ eqb-true rest.len 0 (sym c.is_empty.ensures ∙ c.if-is_empty.true)) in
    ap (λ (l : List Ranked). joined l (lists c.remove-then-is_same.new.self)) c.remove.ensures.items
    ∙ ap (λ (l : List (List Ranked)). joined (remove fs i) l) (ap (λ (l : List (Vec Ranked Global)). map items_of l)
    c.remove-then-is_same.ensures.items ∙ map_remove rs i)
    ∙ chunk_gone fs (lists c.args.rests.now) i e c.requires.belongs.within (c.requires.len
    ∙ sym (length-map rs items_of)) c.requires.ascending e c.requires.belongs.low c.requires.belongs.high
    (ap (λ (l : List Ranked). without_entry l e) (sym was) ∙ ap (λ (l : List Ranked). without_entry (first ∷ l) e) alone
    ∙ left_first first [] e (tt, tt) same)

pub take_out_of_chunk-requires-clause-ascending : goal.take_out_of_chunk-requires-clause-ascending
take_out_of_chunk-requires-clause-ascending c =
    read_ascending c.args.firsts.now.items c.args.rests.now.items c.args.chunk c.args.entry c.index_mut.result.now
    c.index_mut-2.result.now c.requires.belongs c.requires.len c.requires.ascending c.index_mut.ensures.value
    c.index_mut-2.ensures.value

pub returns-clause-left : goal.returns-clause-left
returns-clause-left c =
    left_stored c.args.firsts.now.items c.args.rests.now.items c.args.chunk c.args.entry c.index_mut.result.now
    c.index_mut-2.result.now c.requires.belongs c.requires.len c.requires.ascending c.index_mut.ensures.value
    c.index_mut-2.ensures.value c.take_out_of_chunk.new.first c.take_out_of_chunk.new.rest
    c.take_out_of_chunk.ensures.left

pub returns-then-is_same-clause-short : goal.returns-then-is_same-clause-short
returns-then-is_same-clause-short c =
    subst AreShort (ap (λ (l : List (Vec Ranked Global)). map items_of l) (sym c.remove-then-is_same.ensures.items))
    (short_remove c.args.rests.now.items c.args.chunk c.requires.short)

pub returns-clause-short : goal.returns-clause-short
returns-clause-short c =
    let was = short_read c.args.rests.now.items c.args.chunk c.index_mut-2.result.now c.requires.short (omega (
      arith,
      c.requires.belongs.within,
      c.requires.len,
    )) c.index_mut-2.ensures.value in
    short_set c.args.rests.now.items c.args.chunk c.take_out_of_chunk.new.rest c.requires.short (omega (
      arith,
      was,
      c.take_out_of_chunk.ensures.less,
    ))
