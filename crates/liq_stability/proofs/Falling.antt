-- Where an offset leaves a deposit: it goes on to count, some scales further above its mark, or it is past.
use Rattle.std.proofs.Common.{◌≡◌, ℕ, zero, suc, ◌+◌, ◌-◌, ◌*◌, ◌^◌, ◌≤◌, ◌<◌, Bool, true, false, refl, ap, sym, ◌∙◌, subst, arith, inl, inr}
use Rattle.std.specs.Prelude.{◌⊎◌, ◌==◌}
use Rattle.std.proofs.Math.Nat.{div-lt_iff_lt-mul}
use Rattle.std.proofs.lemmas.Bool.{cases_lt}
use Rattle.std.proofs.lemmas.Bool.Decides.{nat_tests}
use Rattle.liq_num.proofs.Floors.{floor_low, floor_high}
use Rattle.liq_types.specs.declared.amounts.TheConstants.{P_LEAST, RISES_MOST}
use Rattle.liq_types.specs.Product.{ScaledProduct, IsWithinRange, TakesPartUpTo, after_offset, product_after, rise_of, sum_growth, place_of, is_place}
use Rattle.liq_types.specs.State.{PoolOffset, PoolMark}
use Rattle.liq_types.proofs.Places.{after_not_place}
use Rattle.liq_types.proofs.Ranges.{rise_no_more}
use Rattle.liq_types.proofs.Rounding.{worth_below, worth_near, gain_below, gain_near, little_left}
use Rattle.liq_types.proofs.Sums.{LeavesPart, TakesAll, leaves_part, takes_all}
use Rattle.liq_stability.specs.Worth.{base_of, reach}
use Rattle.liq_stability.proofs.Reading.{IsLive, IsPast, reach_split, reach_low, some_power}

-- what a unit of the amount was worth, and is worth now, beside the part of the pool that is left
pub record StaysLive (now : ScaledProduct) (o : PoolOffset) (mark : PoolMark) (j k : ℕ) : Type 0 where
  pub live : IsLive (after_offset now o) mark k
  pub low : (after_offset now o).p * reach k * o.total ≤ now.p * reach j * (o.total - o.debt)
  pub near : now.p * reach j * (o.total - o.debt) ≤ (after_offset now o).p * reach k * o.total + reach j * o.total

-- less than a unit is left of all of it
pub record FallsPast (now : ScaledProduct) (o : PoolOffset) (mark : PoolMark) (j : ℕ) : Type 0 where
  pub past : IsPast (after_offset now o) mark
  pub little : (amount : ℕ) → amount ≤ 10 ^ 27 → amount * (now.p * reach j) * (o.total - o.debt)
      ≤ base_of mark * o.total

module _ (most : ℕ) (served : most ≤ 10 ^ (9 * RISES_MOST)) (now : ScaledProduct) (o : PoolOffset)
    (range : IsWithinRange now) (takes : TakesPartUpTo most o) (mark : PoolMark) (least : P_LEAST ≤ mark.p) where
  stays : (j k : ℕ) → rise_of now.p o ≡ k → j + k ≤ 3 → IsLive now mark j → LeavesPart now o
      → StaysLive now o mark j (j + k)
  stays j k is near h part =
      let next = after_offset now o in
      let rest = o.total - o.debt in
      let p_is : next.p ≡ product_after now.p o k = part.p ∙ ap (product_after now.p o) is in
      let floor : next.p * o.total ≤ now.p * (rest * 10 ^ (9 * k)) =
      subst (λ n. n * o.total ≤ now.p * (rest * 10 ^ (9 * k))) (sym p_is) (floor_low now.p (rest * 10 ^ (9 * k))
      o.total) in
      let above : now.p * (rest * 10 ^ (9 * k)) ≤ next.p * o.total + o.total = subst (λ n. now.p * (rest * 10 ^ (9 * k))
      ≤ n * o.total + o.total) (sym p_is) (floor_high now.p (rest * 10 ^ (9 * k)) o.total (omega (arith, part.less)))
      in
      record {
        live = record { few = near; epoch = part.epoch ∙ h.epoch; scale = omega (arith, part.scale, h.scale, is) };
        low = worth_below now.p next.p (10 ^ (9 * k)) (reach j) (reach (j + k)) o.total rest
            (reach_split j k near) floor;
        near = worth_near now.p next.p (10 ^ (9 * k)) (reach j) (reach (j + k)) o.total rest (reach_split j k near)
            (some_power (9 * k)) above;
      }

  falls : (j k : ℕ) → rise_of now.p o ≡ k → 3 < j + k → IsLive now mark j → LeavesPart now o → FallsPast now o mark j
  falls j zero is far h part = absurd (omega (arith, h.few))
  falls j (suc i) is far h part =
      let rest = o.total - o.debt in
      let pos : 0 < o.total = omega (arith, part.less) in
      let low : product_after now.p o i < P_LEAST = rise_no_more most served now o range takes i (omega (arith, is)) in
      let under : now.p * (rest * 10 ^ (9 * i)) < P_LEAST * o.total = (div-lt_iff_lt-mul pos).0 low in
      record {
        past = inr (sym h.epoch ∙ sym part.epoch, omega (arith, part.scale, h.scale, is));
        little = λ amount small. little_left amount now.p mark.p P_LEAST (reach j) (10 ^ (9 * i)) (10 ^ 27) o.total rest
            (reach_low j i far) (omega (arith, under)) (omega (arith, small)) least;
      }

  ends : (j : ℕ) → IsLive now mark j → TakesAll now o → FallsPast now o mark j
  ends j h all = record {
    past = inl (omega (arith, all.epoch, h.epoch));
    little = λ amount small.
        let none : o.total - o.debt ≡ 0 = omega (arith, all.all) in
        let gone : amount * (now.p * reach j) * (o.total - o.debt) ≡ amount * (now.p * reach j) * 0 =
        ap (λ r. amount * (now.p * reach j) * r) none in
        omega (arith, gone);
  }

  pub where_left : (j : ℕ) → IsLive now mark j → ((k : ℕ) × StaysLive now o mark j k) ⊎ FallsPast now o mark j
  where_left j h = by (o.debt == o.total) refl where
    by : (b : Bool) → (o.debt == o.total) ≡ b → ((k : ℕ) × StaysLive now o mark j k) ⊎ FallsPast now o mark j
    by true e = inr (ends j h (takes_all now o e))
    by false e =
        let part = leaves_part now o takes.within e in
        elim (cases_lt 3 (j + rise_of now.p o)) [
          | inl far ↦ inr (falls j (rise_of now.p o) refl far h part)
          | inr near ↦ inl (j + rise_of now.p o, stays j (rise_of now.p o) refl near h part)
        ]

  pub stays_past : IsPast now mark → IsPast (after_offset now o) mark
  stays_past h = by (o.debt == o.total) refl h where
    by : (b : Bool) → (o.debt == o.total) ≡ b → IsPast now mark → IsPast (after_offset now o) mark
    by true e (inl k) = let all = takes_all now o e in inl (omega (arith, all.epoch))
    by true e (inr k) = let all = takes_all now o e in inl (omega (arith, all.epoch, k.0))
    by false e (inl k) = let part = leaves_part now o takes.within e in inl (omega (arith, part.epoch))
    by false e (inr k) = let part = leaves_part now o takes.within e
        in inr (k.0 ∙ sym part.epoch, omega (arith, part.scale, k.1))

-- ---- what the sums gain

-- in the unit of a deposit that counts
pub gained_low : (now : ScaledProduct) (o : PoolOffset) (j : ℕ) → sum_growth now o * reach j * o.total
    ≤ o.coll * (now.p * reach j)
gained_low now o j = gain_below now.p (sum_growth now o) (reach j) o.total o.coll (floor_low o.coll now.p o.total)

pub gained_near : (now : ScaledProduct) (o : PoolOffset) (j : ℕ) → 0 < o.total → o.coll * (now.p * reach j)
    ≤ sum_growth now o * reach j * o.total + reach j * o.total
gained_near now o j pos = gain_near now.p (sum_growth now o) (reach j) o.total o.coll
    (floor_high o.coll now.p o.total pos)

-- the place of now among the four places of a deposit
pub live_place : (now : ScaledProduct) (mark : PoolMark) (j i : ℕ) → IsLive now mark j
    → is_place (place_of now) (mark.epoch, mark.scale + i) ≡ (i == j)
live_place now mark j i h = grind (arith, nat_tests, h.epoch, h.scale)

pub past_place : (now : ScaledProduct) (mark : PoolMark) (i : ℕ) → i ≤ 3 → IsPast now mark
    → is_place (place_of now) (mark.epoch, mark.scale + i) ≡ false
past_place now mark i few (inl h) = after_not_place (mark.epoch, mark.scale + i) (place_of now) (inl h)
past_place now mark i few (inr h) = after_not_place (mark.epoch, mark.scale + i) (place_of now)
    (inr (h.0, omega (arith, h.1)))
