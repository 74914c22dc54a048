use Rattle.std.proofs.Common.{◌≡◌, sym, subst, take, get_or, pos}
use Rattle.std.proofs.lemmas.List.Sums.{fold_more}
use Rattle.liq_types.specs.declared.events.ListChange.TheVariants.{Put}
use Rattle.liq_types.specs.Views.{View, all_followed, followed}
use Rattle.liq_list_version.specs.Words.{seen}
use Rattle.liq_list_version.proofs.words.Words.after.Goals as goal

pub loop-change-preserved : goal.loop-change-preserved
loop-change-preserved c list =
    let v = seen list c.args.self in
    let changes = c.args.changes.now in
    let i = c.loop-change.change-index in
    let before = all_followed v (take i changes) in
    let change = get_or changes i (Put (pos 0) 0) in
    let step = subst (λ (x : View). followed x change ≡ seen (followed x change).list c.followed-words.result)
    (sym (c.loop-change.invariant list)) (c.followed-words.ensures before.list) in
    subst (λ (x : View). x ≡ seen x.list c.followed-words.result)
    (sym (fold_more followed v changes i (Put (pos 0) 0) c.loop-change-test.true)) step
