use Rattle.std.proofs.Common.{refl}
use Rattle.std.proofs.lemmas.Result.{err_from_is_err_and}
use Rattle.liq_checkpoint.specs.Reading.{number_at, numbers_at, words_at}
use Rattle.liq_checkpoint.proofs.Loop.{behind, fails_then}
use Rattle.liq_checkpoint.proofs.decoding.words_at.Goals as goal

pub returns-in_err-p : goal.returns-in_err-p
unfolding words_at
returns-in_err-p c =
    let p = err_from_is_err_and c.from_residual-in_err-p.result c.from_residual-in_err-p.ensures.1 in
    rw (p.1, p.2) (behind _ _ c.in_ok-times.ensures (behind _ _ c.in_ok-pools.ensures
    (behind _ _ c.in_ok-sum_coll.ensures (behind _ _ c.in_ok-sum_debt.ensures (behind _ _ c.in_ok-stakes.ensures
    (fails_then c.in_err-p.field-0.0 (number_at c.args.end 16 c.in_ok-stakes.at.now) _ c.in_err-p.ensures))))))

pub returns-in_err-place : goal.returns-in_err-place
unfolding words_at
returns-in_err-place c =
    let p = err_from_is_err_and c.from_residual-in_err-place.result c.from_residual-in_err-place.ensures.1 in
    rw (p.1, p.2) (behind _ _ c.in_ok-times.ensures (behind _ _ c.in_ok-pools.ensures
    (behind _ _ c.in_ok-sum_coll.ensures (behind _ _ c.in_ok-sum_debt.ensures (behind _ _ c.in_ok-stakes.ensures
    (behind _ _ c.in_ok-p.ensures
    (fails_then c.in_err-place.field-0.0 (numbers_at c.args.end 2 c.in_ok-p.at.now) _ c.in_err-place.ensures)))))))

pub returns-in_err-sum : goal.returns-in_err-sum
unfolding words_at
returns-in_err-sum c =
    let p = err_from_is_err_and c.from_residual-in_err-sum.result c.from_residual-in_err-sum.ensures.1 in
    rw (p.1, p.2) (behind _ _ c.in_ok-times.ensures (behind _ _ c.in_ok-pools.ensures
    (behind _ _ c.in_ok-sum_coll.ensures (behind _ _ c.in_ok-sum_debt.ensures (behind _ _ c.in_ok-stakes.ensures
    (behind _ _ c.in_ok-p.ensures (behind _ _ c.in_ok-place.ensures
    (fails_then c.in_err-sum.field-0.0 (number_at c.args.end 16 c.in_ok-place.at.now) _ c.in_err-sum.ensures))))))))

pub returns-in_err-deposited : goal.returns-in_err-deposited
unfolding words_at
returns-in_err-deposited c =
    let p = err_from_is_err_and c.from_residual-in_err-deposited.result c.from_residual-in_err-deposited.ensures.1 in
    rw (p.1, p.2) (behind _ _ c.in_ok-times.ensures (behind _ _ c.in_ok-pools.ensures
    (behind _ _ c.in_ok-sum_coll.ensures (behind _ _ c.in_ok-sum_debt.ensures (behind _ _ c.in_ok-stakes.ensures
    (behind _ _ c.in_ok-p.ensures (behind _ _ c.in_ok-place.ensures (behind _ _ c.in_ok-sum.ensures
    (fails_then c.in_err-deposited.field-0.0 (numbers_at c.args.end 2 c.in_ok-sum.at.now) _
    c.in_err-deposited.ensures)))))))))

pub returns : goal.returns
unfolding words_at
returns c = rw (
  c.in_ok-times.ensures,
  c.in_ok-pools.ensures,
  c.in_ok-sum_coll.ensures,
  c.in_ok-sum_debt.ensures,
  c.in_ok-stakes.ensures,
  c.in_ok-p.ensures,
  c.in_ok-place.ensures,
  c.in_ok-sum.ensures,
  c.in_ok-deposited.ensures,
  c.image_of.ensures,
) refl
