use Rattle.std.proofs.Common.{◌≡◌, ℕ, ◌-◌, ◌+◌, ◌<◌, true, false, get_or, refl, sym, ap, ◌∙◌, arith, inl, inr}
use Rattle.std.specs.Ordering.{is_lt}
use Rattle.std.specs.declared.cmp.Ordering.TheVariants.{Less}
use Rattle.std.proofs.lemmas.Bool.{cases_lt}
use Rattle.liq_types.specs.Product.{place_order}
use Rattle.liq_image_rows.proofs.Places.{place_order_total, key, sum, no_sum, before-order, less_from_before}
use Rattle.liq_image_rows.proofs.Searching.{Ascend, ascend, ascending_at}
use Rattle.liq_image_rows.proofs.finished.ascend.Goals as goal

pub returns-then-not-is_before : goal.returns-then-not-is_before
returns-then-not-is_before c = (λ no. cc, λ h. clash h) where
  clash : Ascend place_order_total key sum c.args.finished.now → false ≡ true
  clash h =
      let rows = c.args.finished.now in
      let at = c.loop-at.at in
      let less : place_order (key (get_or rows (at - 1) no_sum)) (key (get_or rows at no_sum)) ≡ Less =
      ascending_at place_order_total key sum rows (at - 1) at no_sum h (omega (arith, c.loop-at.auto.at)) (omega (
        arith,
        c.loop-at-test.true,
      )) in
      sym c.if-not-is_before.true ∙ c.is_before.ensures
      ∙ before-order (key (get_or rows (at - 1) no_sum)) (key (get_or rows at no_sum)) ∙ ap is_lt less

pub loop-at-preserved : goal.loop-at-preserved
loop-at-preserved c = λ k j same less. next k j same less where
  next : (k j : ℕ) → j ≡ k + 1 → j < c.loop-at.at + 1
      → place_order (key (get_or c.args.finished.now k no_sum)) (key (get_or c.args.finished.now j no_sum)) ≡ Less
  next k j same less =
      let rows = c.args.finished.now in
      let at = c.loop-at.at in
      let here : place_order (key (get_or rows (at - 1) no_sum)) (key (get_or rows at no_sum)) ≡ Less =
      less_from_before (key (get_or rows (at - 1) no_sum)) (key (get_or rows at no_sum)) (sym c.is_before.ensures
      ∙ c.if-not-is_before.false) in
      elim (cases_lt j at) [
        | inl early ↦ c.loop-at.invariant k j same early
        | inr late ↦
            let second : j ≡ at = omega arith in
            let first : k ≡ at - 1 = omega arith in
            rw (second, first) here
      ]

pub returns : goal.returns
returns c = (
  λ _. ascend place_order_total key sum no_sum c.args.finished.now (λ k j same less.
      c.loop-at.invariant k j same (omega (arith, less, c.loop-at-test.false))),
  λ _. refl,
)
