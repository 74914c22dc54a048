use Rattle.std.proofs.Common.{◌≡◌, ◌≤◌, ℕ, take, drop, map, get_or, subst, sym, ◌+◌, ◌<◌, List, [], length, arith, ap, ◌∙◌}
use Rattle.std.specs.Prelude.{insert, Vec}
use Rattle.std.specs.Ordering.{is_lt}
use Rattle.std.proofs.lemmas.List.Edits.{get_or-insert_above, get_or-insert_below, length-insert}
use Rattle.liq_types.specs.Ranked.{Ranked, rank_order}
use Rattle.liq_list_chunks.proofs.Stored.{cut_in_two, items_of, read_rest}
use Rattle.std.proofs.lemmas.List.{length-drop, length-take}
use Rattle.std.specs.Global.{Global}
use Rattle.liq_list_chunks.specs.Chunks.{AreShort, BelongsTo, BelongsToEither}
use Rattle.liq_list_chunks.proofs.Short.{both_have_room, short_insert, short_read, short_set}
use Rattle.liq_list_chunks.proofs.chunks.split.Goals as goal

pub index-first-requires : goal.index-first-requires
index-first-requires c =
    let read = read_rest c.args.rests.now.items c.args.chunk c.index-rest.result.now (omega arith) c.index-rest.ensures
    in
    let full = c.requires.full [] in
    omega (arith, ap length read, full, c.index-rest.result.now.ok.0)

pub behind_half-requires : goal.behind_half-requires
behind_half-requires c =
    let read = read_rest c.args.rests.now.items c.args.chunk c.index-rest.result.now (omega arith) c.index-rest.ensures
    in
    let full = c.requires.full [] in
    omega (arith, ap length read, full, c.index-rest.result.now.ok.0)

pub returns-clause-same : goal.returns-clause-same
returns-clause-same c =
    let chunk = c.index-rest.result.now in
    let i = c.args.chunk in
    let first = c.index-first.result.now in
    let read = read_rest c.args.rests.now.items i chunk (omega arith) c.index-rest.ensures in
    let full = c.requires.full [] in
    let long : 31 < length chunk.items = omega (arith, ap length read, full) in
    cut_in_two c.args.firsts.now.items c.insert-2.new.self.items c.args.rests.now.items c.insert.new.self.items i first
    chunk c.in_ok-second.second c.index_mut.result.now c.truncate.new.self
    c.requires.belongs.within c.requires.len c.index-rest.ensures long c.index-first.ensures c.in_ok-second.ensures
    (c.in-Ok-insert.ensures.items ∙ ap (λ (l : List Ranked). insert l (i + 1) first) c.try_reserve.ensures.items)
    c.in-Ok.ensures.items c.index_mut.ensures.value c.truncate.ensures.items

-- each half of a chunk has room for one more
front_room : (seen half : List Ranked) → half ≡ take 31 seen → length half < 63
front_room seen half is = omega (arith, ap length is, length-take 31 seen)

second_room : (chunk second : List Ranked) → length chunk ≤ 63 → second ≡ drop 32 chunk → length second < 63
second_room chunk second short is = omega (arith, ap length is, length-drop 32 chunk, short)

pub returns-clause-short : goal.returns-clause-short
returns-clause-short c =
    let rests = c.args.rests.now.items in
    let i = c.args.chunk in
    let chunk = c.index-rest.result.now in
    let second = c.in_ok-second.second in
    let whole = short_read rests i chunk c.requires.short (omega (arith, c.requires.belongs.within, c.requires.len))
    c.index-rest.ensures in
    let behind = second_room chunk.items second.items whole c.in_ok-second.ensures in
    let front = front_room c.index_mut.result.now.items c.truncate.new.self.items c.truncate.ensures.items in
    short_set c.insert.new.self.items i c.truncate.new.self
    (subst AreShort (ap (λ (l : List (Vec Ranked Global)). map items_of l) (sym c.in-Ok.ensures.items))
    (short_insert rests (i + 1) second c.requires.short (omega (arith, behind))))
    (omega (arith, front))

pub returns-clause-room : goal.returns-clause-room
returns-clause-room c at d low high =
    let rests = c.args.rests.now.items in
    let chunk = c.index-rest.result.now in
    let second = c.in_ok-second.second in
    let inside : c.args.chunk < length rests = omega (arith, c.requires.belongs.within, c.requires.len) in
    let whole = short_read rests c.args.chunk chunk c.requires.short inside c.index-rest.ensures in
    both_have_room rests c.insert.new.self.items c.args.chunk at second c.truncate.new.self d inside
    c.in-Ok.ensures.items
    (front_room c.index_mut.result.now.items c.truncate.new.self.items c.truncate.ensures.items)
    (second_room chunk.items second.items whole c.in_ok-second.ensures) low high

-- an entry of the chunk belongs to it or to the one that comes behind it
either : (fs : List Ranked) (i : ℕ) (f e : Ranked) → BelongsTo fs e i → BelongsToEither (insert fs (i + 1) f) e i
either fs i f e b =
    let inside : i + 1 ≤ length fs = omega (arith, b.within) in
    let long = length-insert fs (i + 1) f inside in
    let next : i + 2 ≡ i + 1 + 1 = omega arith in
    record {
      within = omega (arith, long, b.within);
      low = λ d some. ap (λ (g : Ranked). is_lt (rank_order e g)) (get_or-insert_below fs (i + 1) f d i
          (omega arith) inside) ∙ b.low d some;
      high = λ d room.
          ap (λ (g : Ranked). is_lt (rank_order e g)) (ap (λ n. get_or (insert fs (i + 1) f) n d) next
          ∙ get_or-insert_above fs (i + 1) f d (i + 1) (omega arith) inside)
          ∙ b.high d (omega (arith, room, long));
    }

pub returns-clause-either : goal.returns-clause-either
returns-clause-either c =
    let i = c.args.chunk in
    let first = c.index-first.result.now in
    let firsts = c.in-Ok-insert.ensures.items
    ∙ ap (λ (l : List Ranked). insert l (i + 1) first) c.try_reserve.ensures.items in
    subst (λ (l : List Ranked). BelongsToEither l c.args.entry i) (sym firsts) (either c.args.firsts.now.items i first
    c.args.entry c.requires.belongs)
