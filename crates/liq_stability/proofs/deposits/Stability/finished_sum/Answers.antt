use Rattle.std.proofs.Common.{rules, ◌≡◌, ◌*◌, ◌∙◌, sym, ap, subst, get_or, length, arith}
use Rattle.std.specs.Prelude.{unwrap_or}
use Rattle.std.specs.Map.{lookup}
use Rattle.std.specs.declared.cmp.Ordering.TheVariants.{Equal}
use Rattle.std.proofs.lemmas.List.Sorted.{answers_always}
use Rattle.liq_types.specs.declared.amounts.TheConstants.{OFFSET_MOST, P_OPENING}
use Rattle.liq_types.specs.Tables.{EpochScale}
use Rattle.liq_types.specs.Product.{is_place, place_order}
use Rattle.liq_stability.proofs.Finishing.{key, found, not_parted, sum_within, IsParted}
use Rattle.liq_stability.proofs.Keeping.{sums_within}
use Rattle.liq_stability.proofs.deposits.Stability.finished_sum.Goals as goal

pub returns-in-Ok-clause-sum : goal.returns-in-Ok-clause-sum
returns-in-Ok-clause-sum c =
    let place : EpochScale = (c.args.epoch, c.args.scale) in
    let items = c.self.inside.finished.items in
    let by_key = c.in-Ok.ensures.position (λ f. (f.epoch, f.scale)) (answers_always _ _ _ (λ f a r g called.
    search rules)) in
    let here : place_order (key (get_or items c.in-Ok.at c.index.result.now)) place ≡ Equal =
    subst (λ l. place_order (key (get_or l c.in-Ok.at c.index.result.now)) place ≡ Equal) c.deref.ensures.value
    (by_key c.index.result.now) in
    ap (λ f. f.sum) c.index.ensures
    ∙ sym (found items c.in-Ok.at c.index.result.now place c.self.invariant.places (omega (
      arith,
      c.in-Ok.ensures.bound,
      ap (λ l. length l) c.deref.ensures.value,
    )) here)
    ∙ ap (λ v. unwrap_or (lookup (is_place place) v.finished) 0) c.self.view_is

pub returns-in-Ok-clause-within : goal.returns-in-Ok-clause-within
returns-in-Ok-clause-within c =
    let items = c.self.inside.finished.items in
    let most = sum_within (OFFSET_MOST * P_OPENING) items c.in-Ok.at c.index.result.now
    (sums_within c.self.inside.words items c.self.inside.deposits.rows c.self.invariant) (omega (
      arith,
      c.in-Ok.ensures.bound,
      ap (λ l. length l) c.deref.ensures.value,
    )) in
    omega (arith, most, ap (λ f. f.sum) c.index.ensures)

pub returns-in-Err-clause-sum : goal.returns-in-Err-clause-sum
returns-in-Err-clause-sum c =
    let place : EpochScale = (c.args.epoch, c.args.scale) in
    let items = c.self.inside.finished.items in
    let by_key = c.in-Err.ensures.position (λ f. (f.epoch, f.scale)) (answers_always _ _ _ (λ f a r g called.
    search rules)) in
    let parted : IsParted c.deref.result.now c.in-Err.field-0 place = by_key in
    let none = not_parted items c.in-Err.field-0 place c.self.invariant.places
    (subst (λ l. IsParted l c.in-Err.field-0 place) c.deref.ensures.value parted) in
    sym (ap (λ v. unwrap_or (lookup (is_place place) v.finished) 0) (sym c.self.view_is) ∙ none)
