-- The counts of faults of a store's disks, by the side of the one that is taken.
use Rattle.std.proofs.Common.{◌≡◌, ◌+◌, ◌≤◌, inl, inr, ℕ, min, Option, Some, None, sym, ◌∙◌, ap, refl, arith}
use Rattle.liq_outside.specs.At.{DiskAt}
use Rattle.liq_outside.specs.Faults.{Rose, count_most}
use Rattle.liq_disk_pair.specs.declared.side.Side.{Side}
use Rattle.liq_disk_pair.specs.declared.side.Side.TheVariants.{Left, Right}
use Rattle.liq_disk_pair.specs.Sides.{on, other}
use Rattle.liq_store.specs.Causes.{OneRose, counts_of, stopped_by, sum_of}

module _ {D : Type 0} (at : D → DiskAt) where
  sum_on : (side : Side) (t b : D) → min ((at t).faults + (at b).faults) count_most
      ≡ sum_of (counts_of at (on side t b) (on side b t))
  sum_on Left t b = refl
  sum_on Right t b = ap (λ (n : ℕ). min n count_most) (omega arith)

  -- a store that was not stopped keeps the sum
  pub stopped_on : (side : Side) (t b : D) (stopped : Option ℕ) (sum : ℕ) → stopped ≡ None
      → sum ≡ min ((at t).faults + (at b).faults) count_most
      → Some sum ≡ stopped_by stopped (counts_of at (on side t b) (on side b t))
  stopped_on side t b stopped sum none is =
      let both = counts_of at (on side t b) (on side b t) in
      ap Some (is ∙ sum_on side t b) ∙ ap (λ (o : Option ℕ). stopped_by o both) (sym none)

  -- where a call stayed without a fault
  pub taken_still : (side : Side) (t t' b : D) → (at t').faults ≡ (at t).faults
      → counts_of at (on side t' b) (on side b t') ≡ counts_of at (on side t b) (on side b t)
  taken_still Left t t' b same = ap (λ (n : ℕ). record { left = n; right = (at b).faults }) same
  taken_still Right t t' b same = ap (λ (n : ℕ). record { left = (at b).faults; right = n }) same

  -- and where the other disk was taken
  pub turned_still : (side : Side) (t b b' : D) → (at b').faults ≡ (at b).faults
      → counts_of at (on (other side) b' t) (on (other side) t b') ≡ counts_of at (on side t b) (on side b t)
  turned_still Left t b b' same = ap (λ (n : ℕ). record { left = (at t).faults; right = n }) same
  turned_still Right t b b' same = ap (λ (n : ℕ). record { left = n; right = (at t).faults }) same

  pub taken_rose : (side : Side) (t t' b : D) → (at t).faults ≤ (at t').faults → Rose (at t).faults (at t').faults
      → OneRose (counts_of at (on side t b) (on side b t)) (counts_of at (on side t' b) (on side b t'))
  taken_rose Left t t' b later rose = record { left = later; right = omega arith; rose = inl rose }
  taken_rose Right t t' b later rose = record { left = omega arith; right = later; rose = inr rose }

  pub beside_rose : (side : Side) (t b b' : D) → (at b).faults ≤ (at b').faults → Rose (at b).faults (at b').faults
      → OneRose (counts_of at (on side t b) (on side b t)) (counts_of at (on side t b') (on side b' t))
  beside_rose Left t b b' later rose = record { left = omega arith; right = later; rose = inr rose }
  beside_rose Right t b b' later rose = record { left = later; right = omega arith; rose = inl rose }
