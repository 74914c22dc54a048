use Rattle.std.proofs.Common.{◌≡◌, length, get_or, map, [], arith, List, ap}
use Rattle.liq_types.specs.Ranked.{Ranked}
use Rattle.liq_list_chunks.proofs.Lists.{on_err, on_ok}
use Rattle.liq_list_chunks.proofs.Stored.{entered_stored, items_of, kept_stored, read_ascending, read_rest}
use Rattle.liq_list_chunks.proofs.Short.{short_set}
use Rattle.liq_list_chunks.proofs.chunks.enter.Goals as goal

pub enter_chunk-requires : goal.enter_chunk-requires
enter_chunk-requires c =
    read_ascending c.args.firsts.now.items c.args.rests.now.items c.args.chunk c.args.entry c.index_mut.result.now
    c.index_mut-2.result.now c.requires.belongs c.requires.len c.requires.ascending c.index_mut.ensures.value
    c.index_mut-2.ensures.value

pub returns-clause-ok : goal.returns-clause-ok
returns-clause-ok c =
    on_ok c.enter_chunk.result
    (entered_stored c.args.firsts.now.items c.args.rests.now.items c.args.chunk c.args.entry c.index_mut.result.now
    c.index_mut-2.result.now c.requires.belongs c.requires.len c.requires.ascending c.index_mut.ensures.value
    c.index_mut-2.ensures.value c.enter_chunk.new.first c.enter_chunk.new.rest)
    c.enter_chunk.ensures.ok

pub returns-clause-err : goal.returns-clause-err
returns-clause-err c =
    on_err c.enter_chunk.result
    (kept_stored c.args.firsts.now.items c.args.rests.now.items c.args.chunk c.args.entry c.index_mut.result.now
    c.index_mut-2.result.now c.requires.belongs c.requires.len c.requires.ascending c.index_mut.ensures.value
    c.index_mut-2.ensures.value c.enter_chunk.new.first c.enter_chunk.new.rest)
    c.enter_chunk.ensures.err

pub returns-clause-short : goal.returns-clause-short
returns-clause-short c =
    let rests = c.args.rests.now.items in
    let was : length c.index_mut-2.result.now.items ≡ length (get_or (map items_of rests) c.args.chunk []) =
    ap (λ (l : List Ranked). length l) (read_rest rests c.args.chunk c.index_mut-2.result.now (omega (
      arith,
      c.requires.belongs.within,
      c.requires.len,
    )) c.index_mut-2.ensures.value) in
    short_set rests c.args.chunk c.enter_chunk.new.rest c.requires.short (omega (
      arith,
      was,
      c.requires.room [],
      c.enter_chunk.ensures.more,
    ))
