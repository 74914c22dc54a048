use Rattle.std.proofs.Common.{List, ◌++◌, [], ◌∷◌, get_or, pos, subst, sym}
use Rattle.liq_types.specs.Ranked.{Ranked, IsAscending}
use Rattle.liq_list_index.proofs.Behind.{next_ascends}
use Rattle.liq_list_index.proofs.entry_sets.EntrySets.of.Goals as goal

pub add-requires-clause-last : goal.add-requires-clause-last
add-requires-clause-last c =
    let list = c.args.list.now in
    let i = c.loop-place.place-index in
    let d : Ranked = (pos 0, 0) in
    subst (λ (l : List Ranked). IsAscending (l ++ get_or list i d ∷ [])) (sym c.loop-place.invariant.so_far)
    (next_ascends list i c.loop-place-test.true d c.requires)
