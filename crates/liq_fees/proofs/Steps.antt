-- What a fee, a change and a reading do to one account, over plain numbers. Each is linear in the facts named in it.
use Rattle.std.proofs.Common.{◌≡◌, ℕ, ◌+◌, ◌-◌, ◌*◌, ◌≤◌, arith}
use Rattle.std.proofs.Math.Nat.{mul-le-mul_right, mul-sub}

-- the sum rises: what a stake holds of it rises with it
pub more_held : (stake sum rise mark : ℕ) → mark ≤ sum → stake * (sum + rise - mark)
    ≡ stake * (sum - mark) + stake * rise
more_held stake sum rise mark h =
    let left : stake * (sum + rise - mark) ≡ stake * (sum + rise) - stake * mark = mul-sub stake (sum + rise) mark in
    let right : stake * (sum - mark) ≡ stake * sum - stake * mark = mul-sub stake sum mark in
    let under : mark * stake ≤ sum * stake = mul-le-mul_right stake h in
    omega arith

pub fee_upper : (u s rise den staked share fee one : ℕ) → rise * staked ≤ fee * one → u * den ≤ share * one
    → (u + s * rise) * (den * staked) ≤ (share * staked + fee * s * den) * one
fee_upper u s rise den staked share fee one low h =
    let first : rise * staked * (s * den) ≤ fee * one * (s * den) = mul-le-mul_right (s * den) low in
    let second : u * den * staked ≤ share * one * staked = mul-le-mul_right staked h in
    omega arith

pub fee_lower : (u s rise den staked share fee one w lost : ℕ) → fee * one ≤ rise * staked + staked
    → share * one ≤ (u + w + lost * one) * den
    → (share * staked + fee * s * den) * one ≤ (u + s * rise + (w + s) + lost * one) * (den * staked)
fee_lower u s rise den staked share fee one w lost high h =
    let first : fee * one * (s * den) ≤ (rise * staked + staked) * (s * den) = mul-le-mul_right (s * den) high in
    let second : share * one * staked ≤ (u + w + lost * one) * den * staked = mul-le-mul_right staked h in
    omega arith

-- what is held is rounded down to `got + more`
pub settle_upper : (got more x den share one : ℕ) → more * one ≤ x → (got * one + x) * den ≤ share * one
    → (got + more) * one * den ≤ share * one
settle_upper got more x den share one low h =
    let first : more * one * den ≤ x * den = mul-le-mul_right den low in
    omega arith

pub settle_lower : (got more x den share one w lost : ℕ) → x ≤ more * one + one
    → share * one ≤ (got * one + x + w + lost * one) * den
    → share * one ≤ ((got + more) * one + w + (lost + 1) * one) * den
settle_lower got more x den share one w lost high h =
    let first : x * den ≤ (more * one + one) * den = mul-le-mul_right den high in
    omega arith

-- the weight in whole units; then cancel `one`
pub allow : (gain den share one w c m : ℕ) → w ≤ c * one → share * one ≤ (gain * one + w + m * one) * den
    → share * one ≤ (gain + (c + m)) * den * one
allow gain den share one w c m high h =
    let first : w * den ≤ c * one * den = mul-le-mul_right den high in
    omega arith
