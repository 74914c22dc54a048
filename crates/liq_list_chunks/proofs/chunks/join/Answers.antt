use Rattle.std.proofs.Common.{◌≡◌, ◌-◌, ◌+◌, suc, List, ◌∷◌, length, set, map, arith, sym, ap, subst, ◌∙◌}
use Rattle.std.proofs.lemmas.List.{length-append}
use Rattle.std.specs.Global.{Global}
use Rattle.std.specs.Prelude.{Vec}
use Rattle.liq_types.specs.Ranked.{Ranked}
use Rattle.liq_list_chunks.specs.Chunks.{joined, lists, AreShort}
use Rattle.liq_list_chunks.proofs.Short.{short_set, short_remove}
use Rattle.liq_list_chunks.proofs.Stored.{items_of, made_one, same, same_chunks, second_read, seen_read, read_rest}
use Rattle.liq_list_chunks.proofs.chunks.join.Goals as goal

pub returns-in_default-clause-same : goal.returns-in_default-clause-same
returns-in_default-clause-same c =
    ap (λ (l : List (List Ranked)). joined c.args.firsts.now.items l)
    (same_chunks c.args.rests.now.items (c.args.chunk - 1) c.index_mut.result.now c.try_reserve.new.self
    (omega arith) c.index_mut.ensures.value c.try_reserve.ensures.items)

pub returns-in_default-clause-short : goal.returns-in_default-clause-short
returns-in_default-clause-short c =
    subst AreShort
    (sym (same_chunks c.args.rests.now.items (c.args.chunk - 1) c.index_mut.result.now c.try_reserve.new.self
    (omega arith) c.index_mut.ensures.value c.try_reserve.ensures.items))
    c.requires.short

pub returns-clause-same : goal.returns-clause-same
returns-clause-same c =
    let next : c.args.chunk ≡ suc (c.args.chunk - 1) = omega (arith, c.if-chunk-eq0.false) in
    ap (λ (l : List Ranked). joined l (lists (Rattle.std.specs.Vec.with_item c.remove-second.new.self
    (c.args.chunk - 1) c.append.new.rest))) c.remove-first.ensures.items
    ∙ made_one c.args.rests.now.items c.remove-second.new.self.items (c.args.chunk - 1) c.args.chunk
    c.index_mut.result.now c.try_reserve.new.self c.remove-second.result c.index_mut-2.result.now
    next (omega (arith, c.requires.len)) c.index_mut.ensures.value c.try_reserve.ensures.items
    c.remove-second.ensures.value c.remove-second.ensures.items c.index_mut-2.ensures.value
    c.args.firsts.now.items c.remove-first.result c.append.new.rest c.requires.len c.remove-first.ensures.value
    c.append.ensures

pub returns-clause-short : goal.returns-clause-short
returns-clause-short c =
    let rests = c.args.rests.now.items in
    let i = c.args.chunk - 1 in
    let j = c.args.chunk in
    let held = c.try_reserve.new.self in
    let second = c.remove-second.result in
    let seen = c.index_mut-2.result.now in
    let next : j ≡ suc i = omega (arith, c.if-chunk-eq0.false) in
    let kept = same rests c.remove-second.new.self.items i j c.index_mut.result.now held second seen next (omega (
      arith,
      c.requires.len,
    )) c.index_mut.ensures.value c.try_reserve.ensures.items c.remove-second.ensures.value
    c.remove-second.ensures.items c.index_mut-2.ensures.value in
    let behind = second_read rests c.remove-second.new.self.items i j c.index_mut.result.now held second seen next
    (omega (arith, c.requires.len)) c.index_mut.ensures.value c.try_reserve.ensures.items
    c.remove-second.ensures.value c.remove-second.ensures.items c.index_mut-2.ensures.value in
    let front = seen_read rests c.remove-second.new.self.items i j c.index_mut.result.now held second seen next
    (omega (arith, c.requires.len)) c.index_mut.ensures.value c.try_reserve.ensures.items
    c.remove-second.ensures.value c.remove-second.ensures.items c.index_mut-2.ensures.value in
    let behind_was = read_rest rests j c.index.result.now (omega arith) c.index.ensures in
    let front_was = read_rest rests i c.index-2.result.now (omega arith) c.index-2.ensures in
    let fewer = subst AreShort (ap (λ (l : List (Vec Ranked Global)). map items_of l)
    (sym c.remove-second.ensures.items)) (short_remove (set rests i held) j
    (subst AreShort (sym kept) c.requires.short)) in
    let long : length c.append.new.rest.items ≡ length seen.items + length (c.remove-first.result ∷ second.items) =
    ap (λ (l : List Ranked). length l) c.append.ensures ∙ length-append seen.items (c.remove-first.result
    ∷ second.items) in
    let front_long : length seen.items ≡ length c.index-2.result.now.items = ap (λ (l : List Ranked). length l) (front
    ∙ sym front_was) in
    let behind_long : length second.items ≡ length c.index.result.now.items = ap (λ (l : List Ranked). length l) (behind
    ∙ sym behind_was) in
    short_set c.remove-second.new.self.items i c.append.new.rest fewer
    (omega (
      arith,
      long,
      front_long,
      behind_long,
      c.len-more.ensures,
      c.len-2.ensures,
      c.index.result.now.ok.0,
      c.index-2.result.now.ok.0,
      c.if-len-more-gt-HALF.false,
    ))
