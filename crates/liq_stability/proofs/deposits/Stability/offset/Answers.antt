use Rattle.std.proofs.Common.{◌≡◌, ◌+◌, ◌≤◌, sym, ap, ◌∙◌, subst, arith, Some, None, Option}
use Rattle.std.specs.Prelude.{vec_len, vec_capacity}
use Rattle.liq_types.specs.declared.amounts.TheConstants.{LIM}
use Rattle.liq_types.specs.declared.image.FinishedSum.{FinishedSum}
use Rattle.liq_stability.specs.Kept.{Kept, IsSoundPool, finished_rows, with_last, room_for}
use Rattle.liq_stability.specs.Words.{finished_by, finished_with}
use Rattle.liq_stability.proofs.Keeping.{offset_sound, finished_last}
use Rattle.liq_stability.proofs.deposits.Stability.offset.Goals as goal

finished : (c : goal.After-keep) → finished_rows c.keep.new.sums.items
    ≡ finished_with (finished_rows c.self.inside.finished.items) (finished_by c.self.inside.words c.args.debt
    c.args.coll)
finished c =
    let s = c.self.inside in
    ap finished_rows (c.keep.ensures.items ∙ ap (with_last s.finished.items) c.offset_words-finished.ensures.finished)
    ∙ finished_last s.words s.finished.items s.deposits.rows c.args.debt c.args.coll c.self.invariant

room : (c : goal.After-keep) → vec_len c.self.inside.finished + 1 ≤ vec_capacity c.self.inside.finished
room c = let spare = ap (λ (v : Kept). v.spare) c.self.view_is in omega (arith, spare, c.requires.room)

few : (o : Option FinishedSum) → room_for o ≤ 1
few None = omega arith
few (Some f) = omega arith

pub invariant_of-self : goal.invariant_of-self
invariant_of-self c =
    let s = c.self.inside in
    let within = subst (λ (v : Kept). c.args.debt ≤ v.words.total) (sym c.self.view_is) c.requires.within in
    let limit = subst (λ (v : Kept). v.words.coll + c.args.coll ≤ LIM) (sym c.self.view_is) c.requires.limit in
    let sound = offset_sound s.words (finished_rows s.finished.items) s.deposits.rows c.args.debt c.args.coll
    c.self.invariant c.requires.some within c.requires.worth limit in
    subst (λ t. IsSoundPool c.offset_words-finished.result.0 t s.deposits.rows) (sym (finished c))
    (subst (λ w. IsSoundPool w (finished_with (finished_rows s.finished.items)
    (finished_by s.words c.args.debt c.args.coll)) s.deposits.rows) (sym c.offset_words-finished.ensures.words) sound)

pub returns-clause-finished : goal.returns-clause-finished
returns-clause-finished c = finished c
    ∙ ap (λ (v : Kept). finished_with v.finished (finished_by v.words c.args.debt c.args.coll)) c.self.view_is

pub keep-requires : goal.keep-requires
keep-requires c = let spare = ap (λ (v : Kept). v.spare) c.self.view_is in omega (arith, spare, c.requires.room)

pub returns-clause-spare : goal.returns-clause-spare
returns-clause-spare c =
    let spare = ap (λ (v : Kept). v.spare) c.self.view_is in
    let same = ap room_for (c.offset_words-finished.ensures.finished
    ∙ ap (λ (v : Kept). finished_by v.words c.args.debt c.args.coll) c.self.view_is) in
    omega (
      arith,
      spare,
      same,
      c.keep.ensures.len,
      c.keep.ensures.capacity,
      room c,
      few c.offset_words-finished.result.1,
    )
