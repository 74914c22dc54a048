use Rattle.std.proofs.Common.{◌≡◌, ℕ, ◌+◌, ◌<◌, get_or}
use Rattle.std.specs.declared.cmp.Ordering.TheVariants.{Less}
use Rattle.liq_types.specs.Product.{place_order}
use Rattle.liq_image_rows.proofs.Places.{key, no_sum}
use Rattle.liq_image_rows.proofs.finished.ascend.Given as goal

abbrev pub invariant-loop-at : goal.invariant-loop-at
invariant-loop-at l =
    (k j : ℕ) → j ≡ k + 1 → j < l.at
    → place_order (key (get_or l.finished k no_sum)) (key (get_or l.finished j no_sum)) ≡ Less
