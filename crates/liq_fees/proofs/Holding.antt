-- One account beside its exact share, whatever happened: before anything is rounded it holds at most the share, and
-- less by at most its weight and one for each rounding.
use Rattle.std.proofs.Common.{◌≡◌, ℕ, ◌+◌, ◌-◌, ◌*◌, ◌<◌, ◌≤◌, ◌⊎◌, inl, inr, Bool, true, false, cond, eqb, List, [], ◌∷◌, refl, ap, sym, subst, arith, lit<}
use Rattle.std.proofs.Math.Nat.{le_of_mul-le-mul_right}
use Rattle.std.proofs.lemmas.Bool.{eqb-false}
use Rattle.std.proofs.lemmas.Grind.{div_ceil_times}
use Rattle.liq_num.specs.Quotient.{floor_of, ceiling_of}
use Rattle.liq_num.proofs.Floors.{floor_low, floor_high}
use Rattle.liq_num.specs.declared.power.TheConstants.{ONE}
use Rattle.liq_fees.specs.Happened.{Happened, Put, Out, Fee, Asset, stake_of, staked_of, changes_of}
use Rattle.liq_fees.specs.Exact.{den_of, share_of, weight_of, allowance_of, IsWithinAllowance}
use Rattle.liq_fees.specs.Gains.{sum_of, mark_of, got_of, gained, gain_of}
use Rattle.liq_fees.proofs.Steps.{more_held, fee_upper, fee_lower, settle_upper, settle_lower, allow}

-- what an account holds before anything is rounded, in 10^18ths
abbrev pub held : ℕ → ℕ → ℕ → ℕ → ℕ
held got stake sum mark = got * ONE + stake * (sum - mark)

pub record Stands (got stake sum mark den share weight changes lost : ℕ) : Type 0 where
  pub within : mark ≤ sum
  pub upper : held got stake sum mark * den ≤ share * ONE
  pub lower : share * ONE ≤ (held got stake sum mark + weight + lost * ONE) * den
  -- the first change rounds nothing
  pub begun : (changes ≡ lost + 1) ⊎ ((changes ≡ 0) × (lost ≡ 0) × (held got stake sum mark ≡ 0) × (stake ≡ 0)
      × (got ≡ 0))

-- a stake holds nothing of a sum that has not risen
pub no_rise : (stake sum : ℕ) → stake * (sum - sum) ≡ 0
no_rise stake sum =
    let same : sum - sum ≡ 0 = omega arith in
    let none : stake * (sum - sum) ≡ stake * 0 = ap (λ k. stake * k) same in
    omega (arith, none)

some_staked : (n : ℕ) → eqb n 0 ≡ false → 0 < n
some_staked n e = let other : n ≡ 0 → ⊥ = eqb-false _ _ e in omega (arith, other)

fee_stands : (fee got stake sum mark staked den share weight changes lost : ℕ) (b : Bool) → eqb staked 0 ≡ b
    → Stands got stake sum mark den share weight changes lost
    → Stands got stake (cond b sum (sum + floor_of fee ONE staked)) mark (cond b den (den * staked))
    (cond b share (share * staked + fee * stake * den)) (cond b weight (weight + stake)) changes lost
fee_stands fee got stake sum mark staked den share weight changes lost true e h = h
fee_stands fee got stake sum mark staked den share weight changes lost false e h =
    let pos = some_staked staked e in
    let rise = floor_of fee ONE staked in
    let more : held got stake (sum + rise) mark ≡ held got stake sum mark + stake * rise =
    omega (arith, more_held stake sum rise mark h.within) in
    record {
      within = omega (arith, h.within);
      upper = subst (λ u. u * (den * staked) ≤ (share * staked + fee * stake * den) * ONE) (sym more)
          (fee_upper (held got stake sum mark) stake rise den staked share fee ONE (floor_low fee ONE staked) h.upper);
      lower = subst (λ u. (share * staked + fee * stake * den) * ONE
          ≤ (u + (weight + stake) + lost * ONE) * (den * staked)) (sym more)
          (fee_lower (held got stake sum mark) stake rise den staked share fee ONE weight lost
          (floor_high fee ONE staked pos) h.lower);
      begun = begins h.begun;
    } where
      begins : (changes ≡ lost + 1) ⊎ ((changes ≡ 0) × (lost ≡ 0) × (held got stake sum mark ≡ 0) × (stake ≡ 0)
          × (got ≡ 0))
          → (changes ≡ lost + 1) ⊎ ((changes ≡ 0) × (lost ≡ 0) × (held got stake (sum + floor_of fee ONE staked) mark
          ≡ 0) × (stake ≡ 0) × (got ≡ 0))
      begins (inl k) = inl k
      begins (inr k) = inr (k.0, k.1, rw (k.3, k.4) (omega arith), k.3, k.4)

-- a change settles what is held, and leaves another stake
settled : (got stake sum mark den share weight changes lost next : ℕ)
    → Stands got stake sum mark den share weight changes lost
    → (more : ℕ) × Stands (gained got stake (sum - mark)) next sum sum den share weight (changes + 1) more
settled got stake sum mark den share weight changes lost next h = by h.begun where
  more : ℕ
  more = floor_of stake (sum - mark) ONE

  none : held (got + more) next sum sum ≡ (got + more) * ONE
  none = omega (arith, no_rise next sum)

  over : (got + more) * ONE * den ≤ share * ONE
  over = settle_upper got more (stake * (sum - mark)) den share ONE (floor_low stake (sum - mark) ONE) h.upper

  by : (changes ≡ lost + 1) ⊎ ((changes ≡ 0) × (lost ≡ 0) × (held got stake sum mark ≡ 0) × (stake ≡ 0) × (got ≡ 0))
      → (more : ℕ) × Stands (gained got stake (sum - mark)) next sum sum den share weight (changes + 1) more
  by (inl k) = (
    lost + 1,
    record {
      within = omega arith;
      upper = subst (λ u. u * den ≤ share * ONE) (sym none) over;
      lower = subst (λ u. share * ONE ≤ (u + weight + (lost + 1) * ONE) * den) (sym none)
          (settle_lower got more (stake * (sum - mark)) den share ONE weight lost (floor_high stake (sum - mark) ONE
          (lit< tt)) h.lower);
      begun = inl (omega (arith, k));
    },
  )
  by (inr k) = (
    0,
    record {
      within = omega arith;
      upper = subst (λ u. u * den ≤ share * ONE) (sym none) over;
      lower = subst (λ u. share * ONE ≤ (u + weight + 0 * ONE) * den) (sym none) little;
      begun = inl (omega (arith, k.0));
    },
  ) where
    little : share * ONE ≤ ((got + more) * ONE + weight + 0 * ONE) * den
    little =
        let before : share * ONE ≤ (0 + weight + 0 * ONE) * den =
        subst (λ u. share * ONE ≤ (u + weight + 0 * ONE) * den) k.2 (subst (λ l. share * ONE
        ≤ (held got stake sum mark + weight + l * ONE) * den) k.1 h.lower) in
        omega (arith, before)

changed_stands : (got stake sum mark den share weight changes next : ℕ) (b : Bool)
    → ((lost : ℕ) × Stands got stake sum mark den share weight changes lost)
    → (lost : ℕ) × Stands (cond b (gained got stake (sum - mark)) got) (cond b next stake) sum (cond b sum mark) den
    share weight (cond b (changes + 1) changes) lost
changed_stands got stake sum mark den share weight changes next true h =
    settled got stake sum mark den share weight changes h.0 next h.1
changed_stands got stake sum mark den share weight changes next false h = h

pub stands : (asset : Asset) (account : ℕ) (past : List Happened)
    → (lost : ℕ) × Stands (got_of asset account past) (stake_of account past) (sum_of asset past)
    (mark_of asset account past) (den_of past) (share_of asset account past) (weight_of account past)
    (changes_of account past) lost
stands asset account [] = (
  0,
  record {
    within = omega arith;
    upper = omega arith;
    lower = omega arith;
    begun = inr (refl, refl, refl, refl, refl);
  },
)
stands asset account (Put owner amount ∷ past) =
    changed_stands (got_of asset account past) (stake_of account past) (sum_of asset past) (mark_of asset account past)
    (den_of past) (share_of asset account past) (weight_of account past) (changes_of account past)
    (stake_of account past + amount) (eqb owner account) (stands asset account past)
stands asset account (Out owner amount ∷ past) =
    changed_stands (got_of asset account past) (stake_of account past) (sum_of asset past) (mark_of asset account past)
    (den_of past) (share_of asset account past) (weight_of account past) (changes_of account past)
    (stake_of account past - amount) (eqb owner account) (stands asset account past)
stands asset account (Fee coll lusd ∷ past) =
    let before = stands asset account past in (
      before.0,
      fee_stands (asset coll lusd) (got_of asset account past) (stake_of account past) (sum_of asset past)
          (mark_of asset account past) (staked_of past) (den_of past) (share_of asset account past)
          (weight_of account past) (changes_of account past) before.0 (eqb (staked_of past) 0) refl before.1,
    )

-- ---- what is read

read_upper : (gain den share : ℕ) → gain * ONE * den ≤ share * ONE → gain * den ≤ share
read_upper gain den share h = le_of_mul-le-mul_right turned (lit< tt) where
  turned : gain * den * ONE ≤ share * ONE
  turned = omega (arith, h)

read_lower : (gain den share weight changes : ℕ) → share * ONE ≤ (gain * ONE + weight + changes * ONE) * den
    → share ≤ (gain + (ceiling_of weight 1 ONE + changes)) * den
read_lower gain den share weight changes h =
    le_of_mul-le-mul_right (allow gain den share ONE weight (ceiling_of weight 1 ONE) changes reached h) (lit< tt) where
      reached : weight ≤ ceiling_of weight 1 ONE * ONE
      reached = let up : weight * 1 ≤ ceiling_of weight 1 ONE * ONE = (div_ceil_times (weight * 1) ONE (lit< tt)).0
          in omega (arith, up)

-- a reading rounds once more, in the place of the first change
reads : (got stake sum mark den share weight changes lost : ℕ) → Stands got stake sum mark den share weight changes lost
    → (gained got stake (sum - mark) * den ≤ share)
    × (share ≤ (gained got stake (sum - mark) + (ceiling_of weight 1 ONE + changes)) * den)
reads got stake sum mark den share weight changes lost h = (
  read_upper (got + more) den share over,
  read_lower (got + more) den share weight changes (by h.begun),
) where
  more : ℕ
  more = floor_of stake (sum - mark) ONE

  over : (got + more) * ONE * den ≤ share * ONE
  over = settle_upper got more (stake * (sum - mark)) den share ONE (floor_low stake (sum - mark) ONE) h.upper

  by : (changes ≡ lost + 1) ⊎ ((changes ≡ 0) × (lost ≡ 0) × (held got stake sum mark ≡ 0) × (stake ≡ 0) × (got ≡ 0))
      → share * ONE ≤ ((got + more) * ONE + weight + changes * ONE) * den
  by (inl k) = subst (λ m. share * ONE ≤ ((got + more) * ONE + weight + m * ONE) * den) (sym k)
      (settle_lower got more (stake * (sum - mark)) den share ONE weight lost (floor_high stake (sum - mark) ONE
      (lit< tt)) h.lower)
  by (inr k) =
      let before : share * ONE ≤ (0 + weight + 0 * ONE) * den =
      subst (λ u. share * ONE ≤ (u + weight + 0 * ONE) * den) k.2 (subst (λ l. share * ONE
      ≤ (held got stake sum mark + weight + l * ONE) * den) k.1 h.lower) in
      omega (arith, before)

pub within_allowance : (asset : Asset) (account : ℕ) (past : List Happened)
    → IsWithinAllowance asset account past (gain_of asset account past) (allowance_of account past)
within_allowance asset account past =
    let s = stands asset account past in
    let both = reads (got_of asset account past) (stake_of account past) (sum_of asset past)
    (mark_of asset account past) (den_of past) (share_of asset account past) (weight_of account past)
    (changes_of account past) s.0 s.1 in
    record { at_most = both.0; at_least = both.1 }
