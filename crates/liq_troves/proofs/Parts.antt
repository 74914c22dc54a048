-- What is pending beside the exact part of the redistributions since.
use Rattle.std.proofs.Common.{◌≡◌, ℕ, zero, suc, ◌+◌, ◌-◌, ◌*◌, ◌/◌, ◌≤◌, ◌<◌, Bool, true, false, cond, List, [], ◌∷◌, refl, ap, sym, subst, arith, length, take, drop}
use Rattle.std.specs.Prelude.{fold, sum_by, nat_lt}
use Rattle.std.proofs.Math.Nat.{div-mul-le_self, lt-div-mul-add, mul-le-mul_right}
use Rattle.std.proofs.Math.Seq.{take-length}
use Rattle.std.proofs.lemmas.Bool.Decides.{nat_tests}
use Rattle.std.proofs.lemmas.List.{take-append-drop}
use Rattle.std.proofs.lemmas.List.Sums.{sum_by-cons, sum_by-append}
use Rattle.liq_types.specs.declared.amounts.TheConstants.{ONE}
use Rattle.liq_types.specs.State.{Redistribution}
use Rattle.liq_types.proofs.Rounding.{pending_below, pending_near}
use Rattle.liq_troves.specs.Rows.{pending, growth}
use Rattle.liq_troves.specs.Standing.{HadStakes}
use Rattle.liq_troves.specs.StakeSums.{exact_part, somethings, IsShortOf}

module _ (amount : Redistribution → ℕ) (stake : ℕ) where
  abbrev rise : Redistribution → ℕ
  rise r = growth (amount r) r.stakes

  abbrev step : ℕ × ℕ → Redistribution → ℕ × ℕ
  step part r = (part.0 * r.stakes + amount r * stake * part.1, part.1 * r.stakes)

  -- u is what the sums give of it, and items how many there were of more than nothing
  record IsBetween (u items : ℕ) (part : ℕ × ℕ) : Type 0 where
    some : 1 ≤ part.1
    below : u * part.1 ≤ part.0 * ONE
    near : part.0 * ONE ≤ (u + items * stake) * part.1

  abbrev counted : Redistribution → ℕ
  counted r = cond (nat_lt 0 (amount r)) 1 0

  some_product : (a b : ℕ) → 1 ≤ a → 1 ≤ b → 1 ≤ a * b
  some_product a b h k = let more : 1 * b ≤ a * b = mul-le-mul_right b h in omega (arith, more, k)

  near_by : (b : Bool) (r : Redistribution) (u items : ℕ) (part : ℕ × ℕ) → nat_lt 0 (amount r) ≡ b → 1 ≤ r.stakes
      → IsBetween u items part → (step part r).0 * ONE ≤ (u + stake * rise r + (items + cond b 1 0) * stake)
      * (step part r).1
  near_by true r u items part e some h =
      let high : amount r * ONE ≤ rise r * r.stakes + r.stakes =
      omega (arith, lt-div-mul-add {a = amount r * ONE} {b = r.stakes} some) in
      let law = pending_near stake u items (rise r) part.0 part.1 (amount r) r.stakes ONE high h.near in
      omega (arith, law)
  near_by false r u items part e some h =
      let none : amount r ≡ 0 = grind (arith, nat_tests, e) in
      let nothing : amount r * (stake * part.1) ≡ 0 * (stake * part.1) = ap (λ k. k * (stake * part.1)) none in
      let law : part.0 * ONE * r.stakes ≤ (u + items * stake) * part.1 * r.stakes = mul-le-mul_right r.stakes h.near in
      let more : 0 * (stake * (part.1 * r.stakes)) ≤ rise r * (stake * (part.1 * r.stakes)) =
      mul-le-mul_right (stake * (part.1 * r.stakes)) (omega arith) in
      omega (arith, law, nothing, more)

  next : (r : Redistribution) (u items : ℕ) (part : ℕ × ℕ) → 1 ≤ r.stakes → IsBetween u items part
      → IsBetween (u + stake * rise r) (items + counted r) (step part r)
  next r u items part some h =
      record {
        some = some_product part.1 r.stakes h.some some;
        below = pending_below stake u (rise r) part.0 part.1 (amount r) r.stakes ONE
            (div-mul-le_self (amount r * ONE) r.stakes) h.below;
        near = near_by (nat_lt 0 (amount r)) r u items part refl some h;
      }

  along : (rs : List Redistribution) (u items : ℕ) (part : ℕ × ℕ) → HadStakes rs → IsBetween u items part
      → IsBetween (u + stake * sum_by rise rs) (items + sum_by counted rs) (fold step part rs)
  along [] u items part s h =
      let a : u + stake * 0 ≡ u = omega arith in
      let b : items + 0 ≡ items = omega arith in
      subst (λ n. IsBetween n (items + 0) part) (sym a) (subst (λ n. IsBetween u n part) (sym b) h)
  along (r ∷ rs) u items part s h =
      let later = along rs (u + stake * rise r) (items + counted r) (step part r) s.1 (next r u items part s.0 h) in
      let a : u + stake * rise r + stake * sum_by rise rs ≡ u + stake * sum_by rise (r ∷ rs) =
      omega (arith, ap (λ k. stake * k) (sum_by-cons rise r rs)) in
      let b : items + counted r + sum_by counted rs ≡ items + sum_by counted (r ∷ rs) =
      omega (arith, sum_by-cons counted r rs) in
      subst (λ n. IsBetween n (items + sum_by counted (r ∷ rs)) (fold step part (r ∷ rs))) a
      (subst (λ n. IsBetween (u + stake * rise r + stake * sum_by rise rs) n (fold step part (r ∷ rs))) b later)

  pub part_near : (rs : List Redistribution) → HadStakes rs → (u : ℕ) → u ≡ stake * sum_by rise rs
      → IsShortOf (u / ONE) stake (somethings amount rs) (exact_part amount stake rs)
  part_near rs s u e =
      let start : IsBetween 0 0 (0, 1) = record { some = omega arith; below = omega arith; near = omega arith } in
      let h = along rs 0 0 (0, 1) s start in
      let exact = exact_part amount stake rs in
      let same : (0 + stake * sum_by rise rs) * exact.1 ≡ u * exact.1 = ap (λ k. k * exact.1) (omega (arith, e)) in
      let low : u / ONE * ONE * exact.1 ≤ u * exact.1 = mul-le-mul_right exact.1 (div-mul-le_self u ONE) in
      let under : u < u / ONE * ONE + ONE = lt-div-mul-add {a = u} {b = ONE} (omega arith) in
      let high : (u + 1) * exact.1 ≤ (u / ONE * ONE + ONE) * exact.1 =
      mul-le-mul_right exact.1 (omega (arith, under)) in
      record {
        at_most = omega (arith, same, low, h.below);
        short = omega (arith, same, high, h.near, h.some);
      }

all_drop : (n : ℕ) (rs : List Redistribution) → HadStakes rs → HadStakes (drop n rs)
all_drop zero rs h = h
all_drop (suc n) [] h = tt
all_drop (suc n) (r ∷ rs) h = all_drop n rs h.1

-- the sums since a moment are those of the list from there on
since : (f : Redistribution → ℕ) (base n : ℕ) (rs : List Redistribution)
    → base + sum_by f (take (length rs) rs) - (base + sum_by f (take n rs)) ≡ sum_by f (drop n rs)
since f base n rs =
    let all = ap (sum_by f) (take-length rs) in
    let parts = sum_by-append f (take n rs) (drop n rs) in
    let whole = ap (sum_by f) (take-append-drop n rs) in
    omega (arith, all, parts, whole)

pub pending_near_part : (amount : Redistribution → ℕ) (stake base n : ℕ) (rs : List Redistribution) → HadStakes rs
    → IsShortOf (pending stake (base + sum_by (rise amount stake) (take (length rs) rs))
    (base + sum_by (rise amount stake) (take n rs))) stake (somethings amount (drop n rs)) (exact_part amount stake
    (drop n rs))
pending_near_part amount stake base n rs s =
    let now = base + sum_by (rise amount stake) (take (length rs) rs) in
    let mark = base + sum_by (rise amount stake) (take n rs) in
    part_near amount stake (drop n rs) (all_drop n rs s) (stake * (now - mark)) (ap (λ k. stake * k)
    (since (rise amount stake) base n rs))
