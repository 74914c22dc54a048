-- All accounts together: their stakes are all that is staked, and what they hold with what stayed unshared is at most
-- all fees.
use Rattle.std.proofs.Common.{◌≡◌, ℕ, ◌+◌, ◌-◌, ◌*◌, ◌<◌, ◌≤◌, Bool, true, false, cond, eqb, List, [], ◌∷◌, refl, ap, arith, lit<}
use Rattle.std.proofs.Math.Nat.{le_of_mul-le-mul_right, mul-le-mul_right}
use Rattle.std.proofs.lemmas.Bool.{eqb-false, eq-eqb}
use Rattle.liq_num.specs.Quotient.{floor_of}
use Rattle.liq_num.specs.declared.power.TheConstants.{ONE}
use Rattle.liq_num.proofs.Floors.{floor_low}
use Rattle.liq_types.specs.PlainLedger.{over_accounts}
use Rattle.liq_types.proofs.Accounts.{over-same, over-plus, over-times, over-le, over-term, over-one, over-none}
use Rattle.liq_fees.specs.Happened.{Happened, Put, Out, Fee, Asset, stake_of, staked_of, fees_of, unshared_of, AreCovered, AreOwnedBelow}
use Rattle.liq_fees.specs.Gains.{sum_of, mark_of, got_of, gained, gain_of}
use Rattle.liq_fees.proofs.Steps.{more_held}
use Rattle.liq_fees.proofs.Holding.{held, stands, no_rise}

abbrev pub held_of : Asset → List Happened → ℕ → ℕ
held_of asset past account = held (got_of asset account past) (stake_of account past) (sum_of asset past)
    (mark_of asset account past)

pub marked : (asset : Asset) (past : List Happened) (account : ℕ) → mark_of asset account past ≤ sum_of asset past
marked asset past account = (stands asset account past).1.within

-- ---- stakes

mine : (owner : ℕ) (x y : ℕ) → cond (eqb owner owner) x y ≡ x
mine owner x y = rw (eq-eqb owner owner refl) refl

other : (owner account x y : ℕ) → eqb owner account ≡ false → cond (eqb owner account) x y ≡ y
other owner account x y e = rw e refl

pub all_staked : (n : ℕ) (past : List Happened) → AreOwnedBelow n past → AreCovered past
    → over_accounts n (λ account. stake_of account past) ≡ staked_of past
all_staked n [] owned covered = over-none n
all_staked n (Put owner amount ∷ past) owned covered =
    let before = all_staked n past owned.1 covered in
    let one = over-one n (λ account. stake_of account past) (λ account. stake_of account (Put owner amount ∷ past))
    owner owned.0 (λ q e. other owner q (stake_of q past + amount) (stake_of q past) e) in
    let own = mine owner (stake_of owner past + amount) (stake_of owner past) in
    omega (arith, before, one, own)
all_staked n (Out owner amount ∷ past) owned covered =
    let before = all_staked n past owned.1 covered.1 in
    let one = over-one n (λ account. stake_of account past) (λ account. stake_of account (Out owner amount ∷ past))
    owner owned.0 (λ q e. other owner q (stake_of q past - amount) (stake_of q past) e) in
    let own = mine owner (stake_of owner past - amount) (stake_of owner past) in
    omega (arith, before, one, own, covered.0)
all_staked n (Fee coll lusd ∷ past) owned covered = all_staked n past owned covered

-- ---- what is held

-- settling never raises it
settled_less : (got stake rise next sum : ℕ) → held (gained got stake rise) next sum sum ≤ got * ONE + stake * rise
settled_less got stake rise next sum = let low : floor_of stake rise ONE * ONE ≤ stake * rise = floor_low stake rise ONE
    in omega (arith, low, no_rise next sum)

module _ (asset : Asset) (n : ℕ) where
  abbrev pub all_held : List Happened → ℕ
  all_held past = over_accounts n (held_of asset past)

  -- a change of one account
  changed_less : (owner next : ℕ) (past : List Happened) (g : ℕ → ℕ) → owner < n → ((q : ℕ) → eqb owner q ≡ false
      → g q ≡ held_of asset past q)
      → g owner ≡ held (gained (got_of asset owner past) (stake_of owner past) (sum_of asset past
      - mark_of asset owner past)) next (sum_of asset past) (sum_of asset past)
      → over_accounts n g ≤ all_held past
  changed_less owner next past g low others own =
      let one = over-one n (held_of asset past) g owner low others in
      let less = settled_less (got_of asset owner past) (stake_of owner past) (sum_of asset past
      - mark_of asset owner past) next (sum_of asset past) in
      omega (arith, one, own, less)

  -- a fee that is shared
  shared_most : (fee : ℕ) (past : List Happened) → AreOwnedBelow n past → AreCovered past
      → over_accounts n (λ account. held (got_of asset account past) (stake_of account past) (sum_of asset past
      + floor_of fee ONE (staked_of past)) (mark_of asset account past)) ≤ all_held past + fee * ONE
  shared_most fee past owned covered =
      let rise = floor_of fee ONE (staked_of past) in
      let each = over-same n (λ account. held (got_of asset account past) (stake_of account past) (sum_of asset past
      + rise) (mark_of asset account past)) (λ account. held_of asset past account + stake_of account past * rise)
      (λ q low. more q) in
      let parts = over-plus n (held_of asset past) (λ account. stake_of account past * rise) in
      let times = over-times n (λ account. stake_of account past) rise in
      let all : over_accounts n (λ account. stake_of account past) * rise ≡ staked_of past * rise =
      ap (λ s. s * rise) (all_staked n past owned covered) in
      let low : rise * staked_of past ≤ fee * ONE = floor_low fee ONE (staked_of past) in
      omega (arith, each, parts, times, all, low) where
        more : (q : ℕ) → held (got_of asset q past) (stake_of q past) (sum_of asset past + floor_of fee ONE
            (staked_of past)) (mark_of asset q past) ≡ held_of asset past q + stake_of q past * floor_of fee ONE
            (staked_of past)
        more q = let m = more_held (stake_of q past) (sum_of asset past) (floor_of fee ONE (staked_of past))
            (mark_of asset q past) (marked asset past q) in omega (arith, m)

  fee_most : (fee : ℕ) (past : List Happened) (unshared fees : ℕ) (b : Bool) → AreOwnedBelow n past → AreCovered past
      → all_held past + unshared * ONE ≤ fees * ONE
      → over_accounts n (λ account. held (got_of asset account past) (stake_of account past) (cond b (sum_of asset past)
      (sum_of asset past + floor_of fee ONE (staked_of past))) (mark_of asset account past))
      + cond b (unshared + fee) unshared * ONE ≤ (fees + fee) * ONE
  fee_most fee past unshared fees true owned covered h = omega (arith, h)
  fee_most fee past unshared fees false owned covered h = let most = shared_most fee past owned covered
      in omega (arith, h, most)

  pub held_most : (past : List Happened) → AreOwnedBelow n past → AreCovered past
      → all_held past + unshared_of asset past * ONE ≤ fees_of asset past * ONE
  held_most [] owned covered = let none = over-none n in omega (arith, none)
  held_most (Put owner amount ∷ past) owned covered =
      let before = held_most past owned.1 covered in
      let less = changed_less owner (stake_of owner past + amount) past (held_of asset (Put owner amount ∷ past))
      owned.0 (λ q e. rw e refl) (rw (eq-eqb owner owner refl) refl) in
      omega (arith, before, less)
  held_most (Out owner amount ∷ past) owned covered =
      let before = held_most past owned.1 covered.1 in
      let less = changed_less owner (stake_of owner past - amount) past (held_of asset (Out owner amount ∷ past))
      owned.0 (λ q e. rw e refl) (rw (eq-eqb owner owner refl) refl) in
      omega (arith, before, less)
  held_most (Fee coll lusd ∷ past) owned covered =
      fee_most (asset coll lusd) past (unshared_of asset past) (fees_of asset past) (eqb (staked_of past) 0) owned
      covered (held_most past owned covered)

  -- what one account holds
  pub one_held : (past : List Happened) (account : ℕ) → account < n → AreOwnedBelow n past → AreCovered past
      → held_of asset past account ≤ fees_of asset past * ONE
  one_held past account low owned covered =
      let most = held_most past owned covered in
      let one = over-term n (held_of asset past) account low in
      omega (arith, most, one)

  pub all_gained : (past : List Happened) → AreOwnedBelow n past → AreCovered past
      → over_accounts n (λ account. gain_of asset account past) + unshared_of asset past ≤ fees_of asset past
  all_gained past owned covered = le_of_mul-le-mul_right whole (lit< tt) where
    less : (q : ℕ) → gain_of asset q past * ONE ≤ held_of asset past q
    less q = let low : floor_of (stake_of q past) (sum_of asset past - mark_of asset q past) ONE * ONE
        ≤ stake_of q past * (sum_of asset past - mark_of asset q past) =
        floor_low (stake_of q past) (sum_of asset past - mark_of asset q past) ONE in omega (arith, low)

    whole : (over_accounts n (λ account. gain_of asset account past) + unshared_of asset past) * ONE
        ≤ fees_of asset past * ONE
    whole =
        let most = held_most past owned covered in
        let each = over-le n (λ account. gain_of asset account past * ONE) (held_of asset past) (λ q low. less q) in
        let times = over-times n (λ account. gain_of asset account past) ONE in
        omega (arith, most, each, times)

-- ---- the sum

sum_fee : (fee sum unshared fees staked : ℕ) (b : Bool) → eqb staked 0 ≡ b → sum + unshared * ONE ≤ fees * ONE
    → cond b sum (sum + floor_of fee ONE staked) + cond b (unshared + fee) unshared * ONE ≤ (fees + fee) * ONE
sum_fee fee sum unshared fees staked true e h = omega (arith, h)
sum_fee fee sum unshared fees staked false e h =
    let apart : staked ≡ 0 → ⊥ = eqb-false _ _ e in
    let low : floor_of fee ONE staked * staked ≤ fee * ONE = floor_low fee ONE staked in
    let once : 1 * floor_of fee ONE staked ≤ staked * floor_of fee ONE staked =
    mul-le-mul_right (floor_of fee ONE staked) (omega (arith, apart)) in
    omega (arith, h, low, once)

pub sum_most : (asset : Asset) (past : List Happened) → sum_of asset past + unshared_of asset past * ONE
    ≤ fees_of asset past * ONE
sum_most asset [] = omega arith
sum_most asset (Put owner amount ∷ past) = sum_most asset past
sum_most asset (Out owner amount ∷ past) = sum_most asset past
sum_most asset (Fee coll lusd ∷ past) = sum_fee (asset coll lusd) (sum_of asset past) (unshared_of asset past)
    (fees_of asset past) (staked_of past) (eqb (staked_of past) 0) refl (sum_most asset past)
