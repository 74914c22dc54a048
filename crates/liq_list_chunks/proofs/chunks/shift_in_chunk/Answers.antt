use Rattle.std.proofs.Common.{◌≡◌, ◌<◌, ◌+◌, true, List, [], length, set, get_or, arith, sym, ap, subst, ◌∙◌}
use Rattle.std.proofs.lemmas.List.{length-map, map-set, set-get_or}
use Rattle.std.specs.List.{Contains}
use Rattle.std.specs.Ordering.{is_lt}
use Rattle.liq_types.specs.Ranked.{Ranked, IsAscending, rank_order}
use Rattle.liq_list_chunks.specs.Chunks.{joined, lists}
use Rattle.liq_list_chunks.specs.Entries.{with_entry, without_entry}
use Rattle.liq_list_chunks.proofs.Around.{chunk_ascending, chunk_has, chunk_shifted}
use Rattle.liq_list_chunks.proofs.Stored.{items_of, read_rest}
use Rattle.liq_list_chunks.proofs.Short.{short_read, short_set}
use Rattle.liq_list_chunks.proofs.chunks.shift_in_chunk.Goals as goal
use Rattle.liq_list_chunks.proofs.chunks.shift_in_chunk.Goals.{After-shift_in}

pub shift_in-requires : goal.shift_in-requires
shift_in-requires c =
    let fs = c.args.firsts.now.items in
    let rests = c.args.rests.now.items in
    let i = c.args.chunk in
    let seen = read_rest rests i c.index_mut.result.now (omega (arith, c.requires.belongs.within, c.requires.len))
    c.index_mut.ensures.value in
    subst IsAscending (sym seen)
    (chunk_ascending fs (lists c.args.rests.now) i c.args.from c.requires.belongs.within (c.requires.len
    ∙ sym (length-map rests items_of)) c.requires.ascending).1

-- what stands behind the first of the chunk
seen : (c : After-shift_in) → c.index_mut.result.now.items ≡ get_or (lists c.args.rests.now) c.args.chunk []
seen c = read_rest c.args.rests.now.items c.args.chunk c.index_mut.result.now (omega (
  arith,
  c.requires.belongs.within,
  c.requires.len,
)) c.index_mut.ensures.value

pub returns-clause-shifted : goal.returns-clause-shifted
returns-clause-shifted c done =
    let was = seen (goal.at.returns-clause-shifted c).After-shift_in in
    let fs = c.args.firsts.now.items in
    let rests = c.args.rests.now.items in
    let rs = lists c.args.rests.now in
    let i = c.args.chunk in
    let there = subst (λ (l : List Ranked). Contains l c.args.from) was (c.shift_in.ensures.there done) in
    let behind = subst (λ (l : List Ranked). is_lt (rank_order (get_or l i c.args.from) c.args.to)
    ≡ true) c.deref.ensures.value (c.is_behind_first.ensures.low c.args.from c.if-not-is_behind_first.false) in
    let before = subst (λ (l : List Ranked). (d : Ranked) → i + 1 < length l
    → is_lt (rank_order c.args.to (get_or l (i + 1) d)) ≡ true) c.deref.ensures.value
    (λ d k. c.is_behind_first.ensures.high d c.if-not-is_behind_first.false k) in
    ap (λ (l : List (List Ranked)). joined fs l) (map-set items_of rests i c.shift_in.new.rest)
    ∙ chunk_shifted fs rs i c.args.from c.requires.belongs.within (c.requires.len
    ∙ sym (length-map rests items_of)) c.requires.ascending c.args.from c.args.to c.requires.belongs.low
    c.requires.belongs.high there behind before c.shift_in.new.rest.items
    (c.shift_in.ensures.shifted done
    ∙ ap (λ (l : List Ranked). with_entry (without_entry l c.args.from) c.args.to) was)

pub returns-clause-there : goal.returns-clause-there
returns-clause-there c done =
    let was = seen (goal.at.returns-clause-there c).After-shift_in in
    let rests = c.args.rests.now.items in
    let i = c.args.chunk in
    chunk_has c.args.firsts.now.items (lists c.args.rests.now) i c.args.from c.requires.belongs.within (c.requires.len
    ∙ sym (length-map rests items_of)) c.requires.ascending c.args.from
    (subst (λ (l : List Ranked). Contains l c.args.from) was (c.shift_in.ensures.there done))

pub returns-clause-stays : goal.returns-clause-stays
returns-clause-stays c done =
    let was = seen (goal.at.returns-clause-stays c).After-shift_in in
    let fs = c.args.firsts.now.items in
    let rests = c.args.rests.now.items in
    let rs = lists c.args.rests.now in
    let i = c.args.chunk in
    ap (λ (l : List (List Ranked)). joined fs l) (map-set items_of rests i c.shift_in.new.rest
    ∙ ap (λ (l : List Ranked). set rs i l) (c.shift_in.ensures.stays done ∙ was) ∙ set-get_or rs i [])

pub returns-clause-short : goal.returns-clause-short
returns-clause-short c =
    let was = short_read c.args.rests.now.items c.args.chunk c.index_mut.result.now c.requires.short (omega (
      arith,
      c.requires.belongs.within,
      c.requires.len,
    )) c.index_mut.ensures.value in
    short_set c.args.rests.now.items c.args.chunk c.shift_in.new.rest c.requires.short (omega (
      arith,
      was,
      c.shift_in.ensures.less,
    ))
