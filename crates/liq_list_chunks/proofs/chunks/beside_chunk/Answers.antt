use Rattle.std.proofs.Common.{◌≡◌, ◌+◌, ◌-◌, ℕ, suc, List, ◌∷◌, take, drop, get_or, [], Option, arith, sym, ap, subst, ◌∙◌}
use Rattle.std.proofs.lemmas.List.{length-drop, length-map}
use Rattle.liq_types.specs.Ranked.{Ranked, IsAscending, first_of}
use Rattle.std.specs.Option.{option_or}
use Rattle.liq_list_chunks.specs.Chunks.{entries, joined, last_of, lists}
use Rattle.liq_list_chunks.specs.Entries.{entry_after, entry_before}
use Rattle.liq_list_chunks.proofs.Nearest.{first_joined}
use Rattle.liq_list_chunks.proofs.Around.{chunk_after, chunk_ascending, chunk_before}
use Rattle.liq_list_chunks.proofs.Stored.{items_of, read_chunk}
use Rattle.liq_list_chunks.proofs.chunks.beside_chunk.Goals as goal

pub before_in-before-requires-clause-ascending : goal.before_in-before-requires-clause-ascending
before_in-before-requires-clause-ascending c =
    let fs = c.args.firsts.now.items in
    let rs = c.args.rests.now.items in
    let was = read_chunk fs rs c.args.chunk c.args.place c.index-first.result.now c.index-rest.result.now
    c.requires.belongs.within c.requires.len c.index-first.ensures c.index-rest.ensures in
    subst IsAscending (sym (ap (λ (l : List Ranked). c.index-first.result.now ∷ l) c.deref-2.ensures.value ∙ was))
    (chunk_ascending fs (lists c.args.rests.now) c.args.chunk c.args.place c.requires.belongs.within (c.requires.len
    ∙ sym (length-map rs items_of)) c.requires.ascending)

pub after_in-after-requires-clause-ascending : goal.after_in-after-requires-clause-ascending
after_in-after-requires-clause-ascending c =
    let fs = c.args.firsts.now.items in
    let rs = c.args.rests.now.items in
    let was = read_chunk fs rs c.args.chunk c.args.place c.index-first.result.now c.index-rest.result.now
    c.requires.belongs.within c.requires.len c.index-first.ensures c.index-rest.ensures in
    subst IsAscending (sym (ap (λ (l : List Ranked). c.index-first.result.now ∷ l) c.deref-3.ensures.value ∙ was))
    (chunk_ascending fs (lists c.args.rests.now) c.args.chunk c.args.place c.requires.belongs.within (c.requires.len
    ∙ sym (length-map rs items_of)) c.requires.ascending)

pub returns : goal.returns
returns c =
    let fs = c.args.firsts.now.items in
    let rests = c.args.rests.now.items in
    let rs = lists c.args.rests.now in
    let i = c.args.chunk in
    let e = c.args.place in
    let first = c.index-first.result.now in
    let chunk = get_or fs i e ∷ get_or rs i [] in
    let was = read_chunk fs rests i e first c.index-rest.result.now c.requires.belongs.within c.requires.len
    c.index-first.ensures c.index-rest.ensures in
    let lengths = c.requires.len ∙ sym (length-map rests items_of) in
    let next : i + 1 ≡ suc i = omega arith in
    let behind = length-drop (suc i) fs ∙ ap (λ (n : ℕ). n - suc i) lengths ∙ sym (length-drop (suc i) rs) in
    let before = c.or_last_before.ensures
    ∙ ap (λ (o : Option Ranked). option_or o (last_of (joined (take i fs) (take i rs)))) (c.before_in-before.ensures
    ∙ ap (λ (l : List Ranked). entry_before l e) (ap (λ (l : List Ranked). first ∷ l) c.deref-2.ensures.value ∙ was))
    ∙ sym (chunk_before fs rs i e c.requires.belongs.within lengths c.requires.ascending e c.requires.belongs.low
    c.requires.belongs.high) in
    let after = c.or_first_from.ensures
    ∙ ap (λ (o : Option Ranked). option_or o (first_of (drop (i + 1) c.deref-4.result.now))) (c.after_in-after.ensures
    ∙ ap (λ (l : List Ranked). entry_after l e) (ap (λ (l : List Ranked). first ∷ l) c.deref-3.ensures.value ∙ was))
    ∙ ap (λ (o : Option Ranked). option_or (entry_after chunk e) o) (ap (λ (l : List Ranked). first_of (drop (i + 1) l))
    c.deref-4.ensures.value ∙ ap (λ n. first_of (drop n fs)) next
    ∙ sym (first_joined (drop (suc i) fs) (drop (suc i) rs) behind))
    ∙ sym (chunk_after fs rs i e c.requires.belongs.within lengths c.requires.ascending e c.requires.belongs.low
    c.requires.belongs.high) in
    ap (λ (o : Option Ranked). (o, c.or_first_from.result)) before
    ∙ ap (λ (o : Option Ranked). (entry_before (entries c.args.firsts.now c.args.rests.now) e, o)) after
