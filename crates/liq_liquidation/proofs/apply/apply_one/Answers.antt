use Rattle.std.proofs.Common.{◌+◌, ap, sym, ◌∙◌, arith}
use Rattle.liq_stability.specs.Kept.{room_for}
use Rattle.liq_stability.specs.Words.{finished_with}
use Rattle.liq_liquidation.proofs.Applied.{due, taken, not_taken}
use Rattle.liq_liquidation.proofs.apply.apply_one.Goals as goal
use Rattle.liq_liquidation.proofs.apply.apply_one.Goals.{then-one-gt0, else-one-gt0}

pub offset-requires-clause-within : goal.offset-requires-clause-within
offset-requires-clause-within c = (due _ _ _ c.args.victim.now c.requires.planned c.lift.ensures.books).served

pub offset-requires-clause-worth : goal.offset-requires-clause-worth
offset-requires-clause-worth c = (due _ _ _ c.args.victim.now c.requires.planned c.lift.ensures.books).worth

pub hand_on-requires-clause-stands : goal.hand_on-requires-clause-stands
hand_on-requires-clause-stands c = (due _ _ _ c.args.victim.now c.requires.planned c.lift.ensures.books).stands

pub hand_on-requires-clause-some : goal.hand_on-requires-clause-some
hand_on-requires-clause-some c = (due _ _ _ c.args.victim.now c.requires.planned c.lift.ensures.books).some

pub hand_on-requires-clause-fits : goal.hand_on-requires-clause-fits
hand_on-requires-clause-fits c = (due _ _ _ c.args.victim.now c.requires.planned c.lift.ensures.books).fits

pub hand_on-requires-clause-coll : goal.hand_on-requires-clause-coll
hand_on-requires-clause-coll c =
    omega (arith, (due _ _ _ c.args.victim.now c.requires.planned c.lift.ensures.books).coll, c.requires.within.coll)

pub hand_on-requires-clause-debt : goal.hand_on-requires-clause-debt
hand_on-requires-clause-debt c =
    omega (arith, (due _ _ _ c.args.victim.now c.requires.planned c.lift.ensures.books).debt, c.requires.within.debt)

pub returns-clause-words : goal.returns-clause-words
returns-clause-words c =
    elim c.if-one-gt0.branch [
      | then-one-gt0 w ↦
          rw w.stability-is (w.offset.ensures.words
          ∙ sym (taken c.args.victim.now.one.offset_debt _ _ w.if-one-gt0.true))
      | else-one-gt0 w ↦
          rw w.stability-is (sym (not_taken c.args.victim.now.one.offset_debt _ _ w.if-one-gt0.false))
    ]

pub returns-clause-finished : goal.returns-clause-finished
returns-clause-finished c =
    let with = finished_with c.args.stability.now.finished in
    elim c.if-one-gt0.branch [
      | then-one-gt0 w ↦
          rw w.stability-is (w.offset.ensures.finished
          ∙ ap with (sym (taken c.args.victim.now.one.offset_debt _ _ w.if-one-gt0.true)))
      | else-one-gt0 w ↦
          rw w.stability-is (ap with (sym (not_taken c.args.victim.now.one.offset_debt _ _ w.if-one-gt0.false)))
    ]

pub returns-clause-spare : goal.returns-clause-spare
returns-clause-spare c =
    elim c.if-one-gt0.branch [
      | then-one-gt0 w ↦
          rw w.stability-is
          (ap (λ o. w.offset.new.self.spare + room_for o) (taken c.args.victim.now.one.offset_debt _ _
          w.if-one-gt0.true) ∙ w.offset.ensures.spare)
      | else-one-gt0 w ↦
          rw w.stability-is
          (ap (λ o. c.args.stability.now.spare + room_for o) (not_taken c.args.victim.now.one.offset_debt _ _
          w.if-one-gt0.false) ∙ omega arith)
    ]
