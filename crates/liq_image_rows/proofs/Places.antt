-- Finished sums as rows with a place and a sum.
use Rattle.std.proofs.Common.{◌≡◌, ℕ, Bool, true, false, cond, refl, sym, ◌∙◌}
use Rattle.std.specs.Prelude.{◌&&◌, ◌||◌}
use Rattle.std.specs.Cmp.{IsTotalOrder, nat_cmp_total, then_total, on_total}
use Rattle.std.specs.Ordering.{is_lt, ordering_then}
use Rattle.std.specs.declared.cmp.Ordering.{Ordering}
use Rattle.std.specs.declared.cmp.Ordering.TheVariants.{Less, Equal, Greater}
use Rattle.liq_types.specs.declared.image.FinishedSum.{FinishedSum}
use Rattle.liq_types.specs.Product.{place_order}
use Rattle.liq_types.specs.Soundness.{is_before}
use Rattle.liq_types.specs.Tables.{EpochScale}

abbrev pub key : FinishedSum → EpochScale
key f = (f.epoch, f.scale)

abbrev pub sum : FinishedSum → ℕ
sum f = f.sum

-- what a list is read at beyond its end
abbrev pub no_sum : FinishedSum
no_sum = record { epoch = 0; scale = 0; sum = 0 }

pub place_order_total : IsTotalOrder place_order
place_order_total = then_total (on_total (λ (p : EpochScale). p.0) nat_cmp_total)
    (on_total (λ (p : EpochScale). p.1) nat_cmp_total)

by_tests : (p q r s : Bool)
    → (p || (q && r)) ≡ is_lt (ordering_then (cond p Less (cond q Equal Greater)) (cond r Less (cond s Equal Greater)))
by_tests true q r s = refl
by_tests false true true s = refl
by_tests false true false true = refl
by_tests false true false false = refl
by_tests false false r s = refl

-- what is before by the test comes first in the order
pub before-order : (a b : EpochScale) → is_before a b ≡ is_lt (place_order a b)
before-order a b = by_tests _ _ _ _

pub less_from_before : (a b : EpochScale) → is_before a b ≡ true → place_order a b ≡ Less
less_from_before a b h = less (place_order a b) (sym (before-order a b) ∙ h) where
  less : (o : Ordering) → is_lt o ≡ true → o ≡ Less
  less Less k = refl
  less Equal k = cc
  less Greater k = cc
