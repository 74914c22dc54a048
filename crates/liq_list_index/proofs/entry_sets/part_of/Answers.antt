use Rattle.std.proofs.Common.{◌≡◌, ℤ, pos, ◌^◌, rules, arith, refl, ap, ◌∙◌}
use Rattle.std.proofs.lemmas.Cmp.{int_ranked}
use Rattle.std.proofs.lemmas.Int.{to_z-of_z, ints}
use Rattle.std.specs.Prelude.{◌<ℤ◌, ◌≤ℤ◌, neg_ℤ}
use Rattle.std.specs.Ordering.{MatchOrdering, int_cmp}
use Rattle.std.specs.declared.cmp.Ordering.{Ordering}
use Rattle.std.specs.declared.cmp.Ordering.TheVariants.{Less, Equal, Greater}
use Rattle.liq_list_index.proofs.entry_sets.part_of.Goals as goal
use mir.Syntax.{w64, w128}
use mir.Val.{SFits}

-- what does not fit is below or above
not_above : (key : ℤ) → (SFits w64 key → ⊥) → key <ℤ pos 0 → key <ℤ neg_ℤ (pos (2 ^ 63))
not_above key out low = by (int_cmp key (neg_ℤ (pos (2 ^ 63)))) (int_ranked key (neg_ℤ (pos (2 ^ 63)))
    (int_cmp key (neg_ℤ (pos (2 ^ 63)))) refl) where
      by : (o : Ordering) → MatchOrdering o (key <ℤ neg_ℤ (pos (2 ^ 63))) (key ≡ neg_ℤ (pos (2 ^ 63)))
          (neg_ℤ (pos (2 ^ 63)) <ℤ key) → key <ℤ neg_ℤ (pos (2 ^ 63))
      by Less h = h
      by Equal h = absurd (out (record { sfits = omega (arith, ints, h, low) }))
      by Greater h = absurd (out (record { sfits = omega (arith, ints, h, low) }))

not_below : (key : ℤ) → (SFits w64 key → ⊥) → pos 0 ≤ℤ key → pos (2 ^ 63) ≤ℤ key
not_below key out high = by (int_cmp key (pos (2 ^ 63))) (int_ranked key (pos (2 ^ 63)) (int_cmp key (pos (2 ^ 63)))
    refl) where
      by : (o : Ordering) → MatchOrdering o (key <ℤ pos (2 ^ 63)) (key ≡ pos (2 ^ 63)) (pos (2 ^ 63) <ℤ key)
          → pos (2 ^ 63) ≤ℤ key
      by Less h = absurd (out (record { sfits = omega (arith, ints, h, high) }))
      by Equal h = omega (arith, ints, h)
      by Greater h = omega (arith, ints, h)

pub returns-in-Ok : goal.returns-in-Ok
returns-in-Ok c =
    let fits : SFits w128 c.args.place.0 = search rules in
    let of : SFits w64 c.args.place.0 × (c.in-Ok.key ≡ c.args.place.0) = simp to_z-of_z at c.in-Ok.ensures in
    let kept : SFits w64 c.in-Ok.key = search rules in
    (ap (λ (z : ℤ). (z, c.args.place.1)) (to_z-of_z w64 c.in-Ok.key kept ∙ of.1), omega (arith, ints, of.0))

pub returns-in-Err : goal.returns-in-Err
returns-in-Err c =
    let fits : SFits w128 c.args.place.0 = search rules in
    let out : SFits w64 c.args.place.0 → ⊥ = simp to_z-of_z at c.in-Err.ensures in
    let low = simp to_z-of_z at c.if-key-lt0.true in
    not_above c.args.place.0 out (omega (arith, ints, low))

pub returns-in-Err-2 : goal.returns-in-Err-2
returns-in-Err-2 c =
    let fits : SFits w128 c.args.place.0 = search rules in
    let out : SFits w64 c.args.place.0 → ⊥ = simp to_z-of_z at c.in-Err.ensures in
    let high = simp to_z-of_z at c.if-key-lt0.false in
    not_below c.args.place.0 out (omega (arith, ints, high))
