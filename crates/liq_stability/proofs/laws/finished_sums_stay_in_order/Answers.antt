use Rattle.std.proofs.Common.{cond, ap, sym, ◌∙◌}
use Rattle.std.specs.Prelude.{unwrap_or}
use Rattle.std.specs.Map.{lookup}
use Rattle.liq_types.specs.Product.{is_place, place_of, prod, sumat, finished_sums}
use Rattle.liq_types.proofs.Places.{sum_shown}
use Rattle.liq_types.proofs.FinishedSums.{finished-ascend, finished-some, finished-before}
use Rattle.liq_stability.proofs.laws.finished_sums_stay_in_order.Goals as goal

pub returns-clause-ascending : goal.returns-clause-ascending
returns-clause-ascending c i offsets h = finished-ascend i offsets h

pub returns-clause-some : goal.returns-clause-some
returns-clause-some c i offsets h = finished-some i offsets h

pub returns-clause-before : goal.returns-clause-before
returns-clause-before c i offsets h = finished-before i offsets h

pub returns-clause-shown : goal.returns-clause-shown
returns-clause-shown c i offsets h place away =
    let shown = sum_shown i offsets h place in
    sym (ap (λ b. cond b (sumat i offsets (place_of (prod i offsets)))
    (unwrap_or (lookup (is_place place) (finished_sums i offsets)) 0)) away) ∙ shown
