-- What one account has earned, beside its exact share: the inequalities that each sharing and each event keeps. Letters
-- stand for numbers: q is the unit in which the amount is counted, s how the sums grew since its mark.
use Rattle.std.proofs.Common.{ℕ, ◌+◌, ◌*◌, ◌^◌, ◌≤◌, ◌<◌, arith}
use Rattle.std.proofs.Math.Nat.{mul-le-mul_right, le_of_mul-le-mul_right}
use Rattle.liq_types.proofs.Rounding.{reward_kept, reward_close, ended_upper_kept, gain_read_upper}

-- without a deposit: earned is all that the account has; held is what sharings withheld from it, cost what rounding may
-- have cost it
pub record EarnsNothing (den rew earned held cost events : ℕ) : Type 0 where
  pub upper : earned * den ≤ rew
  pub lower : rew * 10 ^ 9 ≤ (earned * 10 ^ 9 + (held * 10 ^ 9 + cost + 4 * (10 ^ 9 * events))) * den

-- with a deposit, whether or not it still counts
pub record EarnsSome (den rew earned held cost amount lost q s : ℕ) : Type 0 where
  pub upper : (earned * q + amount * s) * den ≤ rew * q
  pub lower : rew * q * 10 ^ 9 ≤ ((earned * q + amount * s) * 10 ^ 9 + (held * 10 ^ 9 + cost + 4 * (10 ^ 9 * lost))
      * q) * den

-- ---- one inequality each

-- more is the balance allowance, u is ceil(units * more / total)
reward_past : (k den bal rew q n u w total units more : ℕ) → bal ≤ more * den → units * more ≤ u * total
    → rew * q * n ≤ (k * n + w * q) * den
    → (rew * total + units * bal) * q * n ≤ (k * n + (w + u * n) * q) * (den * total)
reward_past k den bal rew q n u w total units more short up h =
    let first : rew * q * n * total ≤ (k * n + w * q) * den * total = mul-le-mul_right total h in
    let second : bal * (units * q * n) ≤ more * den * (units * q * n) = mul-le-mul_right (units * q * n) short in
    let third : units * more * (den * q * n) ≤ u * total * (den * q * n) = mul-le-mul_right (den * q * n) up in
    omega arith

-- both sides have the factor q, which is cancelled where it is cited
reward_read : (a s earned more den rew q n w lost : ℕ) → a * s ≤ (more + 4) * q
    → rew * q * n ≤ ((earned * q + a * s) * n + (w + 4 * (n * lost)) * q) * den
    → rew * n * q ≤ ((earned + more) * n + (w + 4 * (n * (lost + 1)))) * den * q
reward_read a s earned more den rew q n w lost most h =
    let first : a * s * (n * den) ≤ (more + 4) * q * (n * den) = mul-le-mul_right (n * den) most in
    omega arith

-- ---- units are shared

module _ (den bal rew earned held cost units total u c more : ℕ) (up : units * more ≤ u * total) where
  pub none_shares : (events : ℕ) → bal ≤ more * den → EarnsNothing den rew earned held cost events
      → EarnsNothing (den * total) (rew * total + units * bal) earned (held + u) (cost + c) events
  none_shares events short h = record {
    upper =
        let after = ended_upper_kept earned rew den bal 1 total units (omega (arith, h.upper)) in
        omega (arith, after);
    lower =
        let after = reward_past earned den bal rew 1 (10 ^ 9) u (held * 10 ^ 9 + cost + 4 * (10 ^ 9 * events)) total
        units more short up (omega (arith, h.lower)) in
        omega (arith, after);
  }

  -- with a deposit of which nothing counts any more
  pub past_shares : (amount lost q s : ℕ) → bal ≤ more * den → EarnsSome den rew earned held cost amount lost q s
      → EarnsSome (den * total) (rew * total + units * bal) earned (held + u) (cost + c) amount lost q s
  past_shares amount lost q s short h = record {
    upper = ended_upper_kept (earned * q + amount * s) rew den bal q total units h.upper;
    lower =
        let after = reward_past (earned * q + amount * s) den bal rew q (10 ^ 9) u (held * 10 ^ 9 + cost
        + 4 * (10 ^ 9 * lost)) total units more short up h.lower in
        omega (arith, after);
  }

  -- with a deposit that counts: a unit of it is worth v, and the sum of now grows by x
  pub live_shares : (amount lost q s v x b unit : ℕ) → amount * v * den ≤ bal * q → bal ≤ (b + more) * den
      → b * q ≤ amount * v → x * total ≤ units * v → units * v ≤ x * total + unit * total
      → 10 ^ 9 * amount * unit ≤ c * q
      → EarnsSome den rew earned held cost amount lost q s → EarnsSome (den * total) (rew * total + units * bal) earned
      (held + u) (cost + c) amount lost q (s + x)
  live_shares amount lost q s v x b unit worth short low below near light h = record {
    upper = reward_kept amount v x earned s den bal rew q total units below worth h.upper;
    lower = reward_close amount v x earned s b unit den bal rew q (10 ^ 9) u c held cost lost total units more short low
        near light up h.lower;
  }

-- ---- an offset

pub none_scaled : (den rew earned held cost events total : ℕ) → EarnsNothing den rew earned held cost events
    → EarnsNothing (den * total) (rew * total) earned held cost events
none_scaled den rew earned held cost events total h = record {
  upper =
      let more : earned * den * total ≤ rew * total = mul-le-mul_right total h.upper in
      omega (arith, more);
  lower =
      let more : rew * 10 ^ 9 * total ≤ (earned * 10 ^ 9 + (held * 10 ^ 9 + cost + 4 * (10 ^ 9 * events))) * den
      * total = mul-le-mul_right total h.lower in
      omega (arith, more);
}

pub some_scaled : (den rew earned held cost amount lost q s total : ℕ)
    → EarnsSome den rew earned held cost amount lost q s
    → EarnsSome (den * total) (rew * total) earned held cost amount lost q s
some_scaled den rew earned held cost amount lost q s total h = record {
  upper =
      let more : (earned * q + amount * s) * den * total ≤ rew * q * total = mul-le-mul_right total h.upper in
      omega (arith, more);
  lower =
      let more : rew * q * 10 ^ 9 * total
      ≤ ((earned * q + amount * s) * 10 ^ 9 + (held * 10 ^ 9 + cost + 4 * (10 ^ 9 * lost)) * q) * den * total =
      mul-le-mul_right total h.lower in
      omega (arith, more);
}

-- ---- an own operation

-- first all is earned that was read
pub some_read : (den rew earned held cost amount lost q s more : ℕ) → 0 < q → more * q ≤ amount * s
    → amount * s ≤ (more + 4) * q → EarnsSome den rew earned held cost amount lost q s
    → EarnsNothing den rew (earned + more) held cost (lost + 1)
some_read den rew earned held cost amount lost q s more pos low high h = record {
  upper = le_of_mul-le-mul_right (gain_read_upper amount s earned more den rew q low h.upper) pos;
  lower =
      let both : rew * 10 ^ 9 * q ≤ ((earned + more) * 10 ^ 9 + (held * 10 ^ 9 + cost + 4 * (10 ^ 9 * (lost + 1))))
      * den * q = reward_read amount s earned more den rew q (10 ^ 9) (held * 10 ^ 9 + cost) lost high h.lower in
      le_of_mul-le-mul_right both pos;
}

-- then a deposit counts anew
pub some_begun : (den rew earned held cost amount events q : ℕ) → EarnsNothing den rew earned held cost events
    → EarnsSome den rew earned held cost amount events q 0
some_begun den rew earned held cost amount events q h = record {
  upper =
      let more : earned * den * q ≤ rew * q = mul-le-mul_right q h.upper in
      omega (arith, more);
  lower =
      let more : rew * 10 ^ 9 * q ≤ (earned * 10 ^ 9 + (held * 10 ^ 9 + cost + 4 * (10 ^ 9 * events))) * den * q =
      mul-le-mul_right q h.lower in
      omega (arith, more);
}

-- where nothing more is earned, one event more changes nothing
pub none_left : (den rew earned held cost events : ℕ) → EarnsNothing den rew earned held cost events
    → EarnsNothing den rew earned held cost (events + 1)
none_left den rew earned held cost events h = record { upper = h.upper; lower = omega (arith, h.lower) }
