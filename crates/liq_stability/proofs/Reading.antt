-- What is read of a deposit, beside what it is worth and has gained before anything is rounded.
use Rattle.std.proofs.Common.{◌≡◌, ℕ, zero, suc, ◌+◌, ◌-◌, ◌*◌, ◌^◌, ◌≤◌, ◌<◌, Bool, true, false, cond, nat_le, refl, ap, ◌∙◌, arith, inl, inr}
use Rattle.std.specs.Prelude.{◌⊎◌, ◌==◌, ◌&&◌}
use Rattle.std.proofs.Math.Nat.{mul-le-mul_right, pow-le-pow_right}
use Rattle.std.proofs.lemmas.Nat.{pow-add}
use Rattle.std.proofs.lemmas.Bool.Decides.{nat_tests}
use Rattle.liq_num.specs.Quotient.{floor_of}
use Rattle.liq_num.proofs.Floors.{floor_low, floor_high}
use Rattle.liq_types.specs.Product.{ScaledProduct}
use Rattle.liq_types.specs.State.{PoolMark}
use Rattle.liq_stability.specs.Position.{balance_by, gain_by, growth}
use Rattle.liq_stability.specs.Worth.{base_of, reach, worth_of}

-- ---- powers

pub reach_whole : (j : ℕ) → j ≤ 3 → 10 ^ (9 * j) * reach j ≡ 10 ^ 27
reach_whole zero h = refl
reach_whole (suc zero) h = refl
reach_whole (suc (suc zero)) h = refl
reach_whole (suc (suc (suc zero))) h = refl
reach_whole (suc (suc (suc (suc j)))) h = absurd (omega arith)

pub reach_split : (j k : ℕ) → j + k ≤ 3 → reach j ≡ 10 ^ (9 * k) * reach (j + k)
reach_split j k h = ap (λ n. 10 ^ n) (parts) ∙ pow-add 10 (9 * k) (9 * (3 - (j + k))) where
  parts : 9 * (3 - j) ≡ 9 * k + 9 * (3 - (j + k))
  parts = omega arith

pub reach_low : (j i : ℕ) → 3 < j + suc i → reach j ≤ 10 ^ (9 * i)
reach_low j i h = pow-le-pow_right (omega arith) (omega arith)

pub some_power : (k : ℕ) → 1 ≤ 10 ^ k
some_power k = pow-le-pow_right {n = 10} (omega arith) {i = 0} {j = k} (omega arith)

-- ---- live and past

-- so many scales above the mark, in its epoch
pub record IsLive (now : ScaledProduct) (mark : PoolMark) (j : ℕ) : Type 0 where
  pub few : j ≤ 3
  pub epoch : now.epoch ≡ mark.epoch
  pub scale : now.scale ≡ mark.scale + j

-- the mark's epoch is over, or the scale more than three above it
abbrev pub IsPast : ScaledProduct → PoolMark → Type 0
IsPast now mark = (mark.epoch < now.epoch) ⊎ ((mark.epoch ≡ now.epoch) × (mark.scale + 3 < now.scale))

abbrev counts : ScaledProduct → PoolMark → Bool
counts now mark = now.epoch == mark.epoch && nat_le (now.scale - mark.scale) 3

live_counts : (now : ScaledProduct) (mark : PoolMark) (j : ℕ) → IsLive now mark j → counts now mark ≡ true
live_counts now mark j h = grind (arith, nat_tests, h.few, h.epoch, h.scale)

past_counts : (now : ScaledProduct) (mark : PoolMark) → IsPast now mark → counts now mark ≡ false
past_counts now mark (inl h) = grind (arith, nat_tests, h)
past_counts now mark (inr h) = grind (arith, nat_tests, h.0, h.1)

rise_is : (now : ScaledProduct) (mark : PoolMark) (j : ℕ) → IsLive now mark j → now.scale - mark.scale ≡ j
rise_is now mark j h = omega (arith, h.scale)

pub balance-live : (amount : ℕ) (now : ScaledProduct) (mark : PoolMark) (j : ℕ) → IsLive now mark j
    → balance_by amount mark now ≡ floor_of amount now.p (mark.p * 10 ^ (9 * j))
balance-live amount now mark j h =
    ap (λ b. cond b (floor_of amount now.p (mark.p * 10 ^ (9 * (now.scale - mark.scale)))) 0) (live_counts now mark j h)
    ∙ ap (λ r. floor_of amount now.p (mark.p * 10 ^ (9 * r))) (rise_is now mark j h)

pub worth-live : (now : ScaledProduct) (mark : PoolMark) (j : ℕ) → IsLive now mark j
    → worth_of mark now ≡ now.p * reach j
worth-live now mark j h =
    ap (λ b. cond b (now.p * reach (now.scale - mark.scale)) 0) (live_counts now mark j h)
    ∙ ap (λ r. now.p * reach r) (rise_is now mark j h)

pub balance-past : (amount : ℕ) (now : ScaledProduct) (mark : PoolMark) → IsPast now mark
    → balance_by amount mark now ≡ 0
balance-past amount now mark h = ap (λ b. cond b (floor_of amount now.p (mark.p * 10 ^ (9 * (now.scale - mark.scale))))
    0) (past_counts now mark h)

pub worth-past : (now : ScaledProduct) (mark : PoolMark) → IsPast now mark → worth_of mark now ≡ 0
worth-past now mark h = ap (λ b. cond b (now.p * reach (now.scale - mark.scale)) 0) (past_counts now mark h)

-- ---- the balance

read_below : (b a p p0 power h all : ℕ) → power * h ≡ all → b * (p0 * power) ≤ a * p → b * (p0 * all) ≤ a * (p * h)
read_below b a p p0 power h all split low =
    let first : b * (p0 * power) * h ≤ a * p * h = mul-le-mul_right h low in
    let same : power * h * (b * p0) ≡ all * (b * p0) = ap (λ k. k * (b * p0)) split in
    omega arith

read_near : (b a p p0 power h all : ℕ) → power * h ≡ all → a * p ≤ b * (p0 * power) + p0 * power
    → a * (p * h) ≤ (b + 1) * (p0 * all)
read_near b a p p0 power h all split high =
    let first : a * p * h ≤ (b * (p0 * power) + p0 * power) * h = mul-le-mul_right h high in
    let same : power * h * (b * p0) ≡ all * (b * p0) = ap (λ k. k * (b * p0)) split in
    let unit : power * h * p0 ≡ all * p0 = ap (λ k. k * p0) split in
    omega arith

positive_product : (a b : ℕ) → 1 ≤ a → 1 ≤ b → 0 < a * b
positive_product a b h k = let more : 1 * b ≤ a * b = mul-le-mul_right b h in omega arith

pub balance_low : (amount : ℕ) (now : ScaledProduct) (mark : PoolMark) (j : ℕ) → IsLive now mark j
    → balance_by amount mark now * base_of mark ≤ amount * (now.p * reach j)
balance_low amount now mark j h =
    let b = floor_of amount now.p (mark.p * 10 ^ (9 * j)) in
    let low : b * (mark.p * 10 ^ 27) ≤ amount * (now.p * reach j) = read_below b amount now.p mark.p (10 ^ (9 * j))
    (reach j) (10 ^ 27) (reach_whole j h.few) (floor_low amount now.p (mark.p * 10 ^ (9 * j))) in
    let is : balance_by amount mark now * (mark.p * 10 ^ 27) ≡ b * (mark.p * 10 ^ 27) =
    ap (λ n. n * (mark.p * 10 ^ 27)) (balance-live amount now mark j h) in
    omega arith

pub balance_high : (amount : ℕ) (now : ScaledProduct) (mark : PoolMark) (j : ℕ) → 1 ≤ mark.p → IsLive now mark j
    → amount * (now.p * reach j) ≤ (balance_by amount mark now + 1) * base_of mark
balance_high amount now mark j some h =
    let b = floor_of amount now.p (mark.p * 10 ^ (9 * j)) in
    let pos = positive_product mark.p (10 ^ (9 * j)) some (some_power (9 * j)) in
    let high : amount * (now.p * reach j) ≤ (b + 1) * (mark.p * 10 ^ 27) =
    read_near b amount now.p mark.p (10 ^ (9 * j)) (reach j) (10 ^ 27) (reach_whole j h.few) (floor_high amount now.p
    (mark.p * 10 ^ (9 * j)) pos) in
    let is : balance_by amount mark now * (mark.p * 10 ^ 27) ≡ b * (mark.p * 10 ^ 27) =
    ap (λ n. n * (mark.p * 10 ^ 27)) (balance-live amount now mark j h) in
    omega arith

-- ---- the gain

-- how the sums grew since the mark, in the unit of the mark
abbrev pub grown : PoolMark → (ℕ → ℕ) → ℕ
grown mark sums = growth mark sums 0 * 10 ^ 27 + growth mark sums 1 * 10 ^ 18 + growth mark sums 2 * 10 ^ 9
    + growth mark sums 3

gains_low : (a p f0 f1 f2 f3 g0 g1 g2 g3 : ℕ) → f0 * (p * 10 ^ 0) ≤ a * g0 → f1 * (p * 10 ^ 9) ≤ a * g1
    → f2 * (p * 10 ^ 18) ≤ a * g2 → f3 * (p * 10 ^ 27) ≤ a * g3 → (f0 + f1 + f2 + f3) * (p * 10 ^ 27)
    ≤ a * (g0 * 10 ^ 27 + g1 * 10 ^ 18 + g2 * 10 ^ 9 + g3)
gains_low a p f0 f1 f2 f3 g0 g1 g2 g3 h0 h1 h2 h3 = omega arith

gains_high : (a p f0 f1 f2 f3 g0 g1 g2 g3 : ℕ) → a * g0 ≤ f0 * (p * 10 ^ 0) + p * 10 ^ 0
    → a * g1 ≤ f1 * (p * 10 ^ 9) + p * 10 ^ 9 → a * g2 ≤ f2 * (p * 10 ^ 18) + p * 10 ^ 18
    → a * g3 ≤ f3 * (p * 10 ^ 27) + p * 10 ^ 27 → a * (g0 * 10 ^ 27 + g1 * 10 ^ 18 + g2 * 10 ^ 9 + g3)
    ≤ (f0 + f1 + f2 + f3 + 4) * (p * 10 ^ 27)
gains_high a p f0 f1 f2 f3 g0 g1 g2 g3 h0 h1 h2 h3 = omega arith

module _ (amount : ℕ) (mark : PoolMark) (sums : ℕ → ℕ) where
  part : ℕ → ℕ → ℕ
  part i power = floor_of amount (growth mark sums i) (mark.p * power)

  gain_is : gain_by amount mark sums ≡ part 0 1 + part 1 (10 ^ 9) + part 2 (10 ^ 18) + part 3 (10 ^ 27)
  unfolding part
  gain_is = omega arith

  pub gain_low : gain_by amount mark sums * base_of mark ≤ amount * grown mark sums
  unfolding part
  gain_low =
      let all : (part 0 1 + part 1 (10 ^ 9) + part 2 (10 ^ 18) + part 3 (10 ^ 27)) * (mark.p * 10 ^ 27)
      ≤ amount * grown mark sums =
      gains_low amount mark.p (part 0 1) (part 1 (10 ^ 9)) (part 2 (10 ^ 18)) (part 3 (10 ^ 27)) (growth mark sums 0)
      (growth mark sums 1) (growth mark sums 2) (growth mark sums 3)
      (floor_low amount (growth mark sums 0) (mark.p * 1)) (floor_low amount (growth mark sums 1) (mark.p * 10 ^ 9))
      (floor_low amount (growth mark sums 2) (mark.p * 10 ^ 18)) (floor_low amount (growth mark sums 3)
      (mark.p * 10 ^ 27)) in
      let is : gain_by amount mark sums * (mark.p * 10 ^ 27) ≡ (part 0 1 + part 1 (10 ^ 9) + part 2 (10 ^ 18) + part 3
      (10 ^ 27)) * (mark.p * 10 ^ 27) = ap (λ n. n * (mark.p * 10 ^ 27)) gain_is in
      omega arith

  pub gain_high : 1 ≤ mark.p → amount * grown mark sums ≤ (gain_by amount mark sums + 4) * base_of mark
  unfolding part
  gain_high some =
      let all : amount * grown mark sums ≤ (part 0 1 + part 1 (10 ^ 9) + part 2 (10 ^ 18) + part 3 (10 ^ 27) + 4)
      * (mark.p * 10 ^ 27) =
      gains_high amount mark.p (part 0 1) (part 1 (10 ^ 9)) (part 2 (10 ^ 18)) (part 3 (10 ^ 27)) (growth mark sums 0)
      (growth mark sums 1) (growth mark sums 2) (growth mark sums 3)
      (floor_high amount (growth mark sums 0) (mark.p * 1) (omega arith)) (floor_high amount (growth mark sums 1)
      (mark.p * 10 ^ 9) (omega arith)) (floor_high amount (growth mark sums 2) (mark.p * 10 ^ 18) (omega arith))
      (floor_high amount (growth mark sums 3) (mark.p * 10 ^ 27) (omega arith)) in
      let is : gain_by amount mark sums * (mark.p * 10 ^ 27) ≡ (part 0 1 + part 1 (10 ^ 9) + part 2 (10 ^ 18) + part 3
      (10 ^ 27)) * (mark.p * 10 ^ 27) = ap (λ n. n * (mark.p * 10 ^ 27)) gain_is in
      omega arith

-- the sum j scales above the mark gained x, and no other
pub grown_more : (mark : PoolMark) (t u : ℕ → ℕ) (x j : ℕ) → j ≤ 3 → mark.sum ≤ u 0
    → ((i : ℕ) → t i ≡ u i + cond (i == j) x 0) → grown mark t ≡ grown mark u + x * reach j
grown_more mark t u x zero few some h = omega (arith, h 0, h 1, h 2, h 3)
grown_more mark t u x (suc zero) few some h = omega (arith, h 0, h 1, h 2, h 3)
grown_more mark t u x (suc (suc zero)) few some h = omega (arith, h 0, h 1, h 2, h 3)
grown_more mark t u x (suc (suc (suc zero))) few some h = omega (arith, h 0, h 1, h 2, h 3)
grown_more mark t u x (suc (suc (suc (suc j)))) few some h = absurd (omega arith)

-- no sum gained
pub grown_same : (mark : PoolMark) (t u : ℕ → ℕ) → ((i : ℕ) → i ≤ 3 → t i ≡ u i) → grown mark t ≡ grown mark u
grown_same mark t u h = omega (arith, h 0 (omega arith), h 1 (omega arith), h 2 (omega arith), h 3 (omega arith))

-- a new mark has all of its sum, and nothing is above it
pub grown_none : (mark : PoolMark) (t : ℕ → ℕ) → t 0 ≡ mark.sum → ((i : ℕ) → t (suc i) ≡ 0) → grown mark t ≡ 0
grown_none mark t h k = omega (arith, h, k 0, k 1, k 2)
