-- What one account holds, beside its exact share: the inequalities that every event keeps. Letters stand for numbers: v
-- is what a unit of the amount is worth now, q the unit in which it is counted, s how the sums grew since the mark, got
-- what the account was paid.
use Rattle.std.proofs.Common.{◌≡◌, ℕ, ◌+◌, ◌-◌, ◌*◌, ◌^◌, ◌≤◌, ◌<◌, arith}
use Rattle.std.proofs.Math.Nat.{mul-le-mul_right, le_of_mul-le-mul_right}
use Rattle.liq_types.specs.declared.events.PoolEvent.TheVariants.{Offset}
use Rattle.liq_types.specs.PlainLedger.{Share, share_after}
use Rattle.liq_types.proofs.Rounding.{balance_kept, gain_kept, balance_close, gain_close, balance_ends, gain_ends, ended_balance_kept, ended_gain_kept, ended_upper_kept, balance_read_upper, gain_read_upper, balance_read_lower, gain_read_lower, ended_gain_read, own_balance_upper, own_balance_lower, own_gain_lower, own_none_balance, own_none_gain}

-- ---- the three ways to hold

-- no record: the account never acted, or its record was removed
pub record HoldsNothing (share : Share) (weight events got : ℕ) : Type 0 where
  pub upper : got * share.den ≤ share.gain
  pub balance : share.bal * 10 ^ 9 ≤ (weight + 10 ^ 9 * events) * share.den
  pub gain : (share.gain + 11 * share.bal) * 10 ^ 9 ≤ (got * 10 ^ 9 + 12 * weight + 15 * (10 ^ 9 * events)) * share.den

-- a deposit that counts
pub record HoldsLive (share : Share) (weight got amount lost v q s : ℕ) : Type 0 where
  pub worth : amount * v * share.den ≤ share.bal * q
  pub upper : (got * q + amount * s) * share.den ≤ share.gain * q
  pub balance : share.bal * q * 10 ^ 9 ≤ (amount * v * 10 ^ 9 + (weight + 10 ^ 9 * lost) * q) * share.den
  pub gain : (share.gain + 11 * share.bal) * q * 10 ^ 9 ≤ ((got * q + amount * s + 11 * (amount * v)) * 10 ^ 9
      + (12 * weight + 15 * (10 ^ 9 * lost)) * q) * share.den

-- a deposit of which nothing counts any more: its epoch is over, or it is too many scales behind
pub record HoldsPast (share : Share) (weight got amount lost q s : ℕ) : Type 0 where
  pub upper : (got * q + amount * s) * share.den ≤ share.gain * q
  pub balance : share.bal * 10 ^ 9 ≤ (weight + 10 ^ 9 * (lost + 1)) * share.den
  pub gain : (share.gain + 11 * share.bal) * q * 10 ^ 9
      ≤ ((got * q + amount * s) * 10 ^ 9 + (12 * weight + 15 * (10 ^ 9 * lost) + 11 * 10 ^ 9) * q) * share.den

-- ---- through an offset

module _ (account : ℕ) (share : Share) (debt coll total rise : ℕ) (part : debt ≤ total) (worth_less : coll
    ≤ 11 * debt) where
  -- the share after it
  abbrev pub shared : Share
  shared = share_after account share (Offset debt coll total rise)

  abbrev pub rest : ℕ
  rest = total - debt

  whole : debt + rest ≡ total
  whole = omega arith

  pub live_to_live : (weight c got amount lost v v1 q s x unit : ℕ) → v1 * total ≤ v * rest
      → v * rest ≤ v1 * total + unit * total → x * total ≤ coll * v → coll * v ≤ x * total + unit * total
      → 10 ^ 9 * amount * unit ≤ c * q → HoldsLive share weight got amount lost v q s
      → HoldsLive shared (weight + c) got amount lost v1 q (s + x)
  live_to_live weight c got amount lost v v1 q s x unit low near gain_low gain_near light h = record {
    worth = balance_kept amount v v1 share.den share.bal q total rest low h.worth;
    upper = gain_kept amount v x got s share.den share.bal share.gain q total coll gain_low h.worth h.upper;
    balance = balance_close amount v v1 unit share.den share.bal q (10 ^ 9) weight c lost total rest
        (omega arith) near light h.balance;
    gain = gain_close amount v v1 x s got unit share.gain share.den share.bal q (10 ^ 9) weight c lost debt coll total
        rest whole worth_less h.worth gain_near near light h.gain;
  }

  pub live_to_past : (weight c got amount lost v q s x unit : ℕ) → 0 < q → amount * v * rest ≤ q * total
      → x * total ≤ coll * v → coll * v ≤ x * total + unit * total → 10 ^ 9 * amount * unit ≤ c * q
      → HoldsLive share weight got amount lost v q s → HoldsPast shared (weight + c) got amount lost q (s + x)
  live_to_past weight c got amount lost v q s x unit pos little gain_low gain_near light h = record {
    upper = gain_kept amount v x got s share.den share.bal share.gain q total coll gain_low h.worth h.upper;
    balance = le_of_mul-le-mul_right (balance_ends amount v share.den share.bal q (10 ^ 9) weight c lost total rest
        (omega arith) little h.balance) pos;
    gain = gain_ends amount v x s got unit share.gain share.den share.bal q (10 ^ 9) weight c lost debt coll total rest
        whole worth_less h.worth gain_near light h.gain little;
  }

  pub past_to_past : (weight c got amount lost q s : ℕ) → HoldsPast share weight got amount lost q s
      → HoldsPast shared (weight + c) got amount lost q s
  past_to_past weight c got amount lost q s h = record {
    upper = ended_upper_kept (got * q + amount * s) share.gain share.den share.bal q total coll h.upper;
    balance = ended_balance_kept share.den share.bal (10 ^ 9) weight c (lost + 1) total rest (omega arith) h.balance;
    gain =
        let before : (share.gain + 11 * share.bal) * q * 10 ^ 9
        ≤ ((got * q + amount * s) * 10 ^ 9 + (12 * weight + 10 ^ 9 * (15 * lost + 11)) * q) * share.den =
        omega (arith, h.gain) in
        let after = ended_gain_kept (got * q + amount * s) share.gain share.den share.bal q (10 ^ 9) weight c
        (15 * lost + 11) debt coll total rest whole worth_less before in
        omega (arith, after);
  }

  pub none_to_none : (weight c events got : ℕ) → HoldsNothing share weight events got
      → HoldsNothing shared (weight + c) events got
  none_to_none weight c events got h = record {
    upper =
        let after = ended_upper_kept got share.gain share.den share.bal 1 total coll (omega (arith, h.upper)) in
        omega (arith, after);
    balance = ended_balance_kept share.den share.bal (10 ^ 9) weight c events total rest (omega arith) h.balance;
    gain =
        let after = ended_gain_kept got share.gain share.den share.bal 1 (10 ^ 9) weight c (15 * events) debt coll total
        rest whole worth_less (omega (arith, h.gain)) in
        omega (arith, after);
  }

-- ---- what is read

-- b is the balance, g the gain and all that was paid
pub record IsRead (share : Share) (weight events b g : ℕ) : Type 0 where
  pub upper_balance : b * share.den ≤ share.bal
  pub upper_gain : g * share.den ≤ share.gain
  pub balance : share.bal * 10 ^ 9 ≤ (b * 10 ^ 9 + weight + 10 ^ 9 * events) * share.den
  pub gain : (share.gain + 11 * share.bal) * 10 ^ 9 ≤ ((g + 11 * b) * 10 ^ 9 + 12 * weight + 15 * (10 ^ 9 * events))
      * share.den

pub read_none : (share : Share) (weight events got : ℕ) → HoldsNothing share weight events got
    → IsRead share weight events 0 got
read_none share weight events got h = record {
  upper_balance = omega arith;
  upper_gain = h.upper;
  balance = omega (arith, h.balance);
  gain = omega (arith, h.gain);
}

pub read_live : (share : Share) (weight got amount lost v q s b more : ℕ) → 0 < q → b * q ≤ amount * v
    → amount * v ≤ (b + 1) * q → more * q ≤ amount * s → amount * s ≤ (more + 4) * q
    → HoldsLive share weight got amount lost v q s → IsRead share weight (lost + 1) b (got + more)
read_live share weight got amount lost v q s b more pos low high gain_low gain_high h = record {
  upper_balance = le_of_mul-le-mul_right (balance_read_upper amount v b share.den share.bal q low h.worth) pos;
  upper_gain = le_of_mul-le-mul_right (gain_read_upper amount s got more share.den share.gain q gain_low h.upper) pos;
  balance = le_of_mul-le-mul_right (balance_read_lower amount v b share.den share.bal q (10 ^ 9) weight lost high
      h.balance) pos;
  gain = le_of_mul-le-mul_right (gain_read_lower amount v b s got more share.den share.gain share.bal q
      (10 ^ 9) weight lost high gain_high h.gain) pos;
}

pub read_past : (share : Share) (weight got amount lost q s more : ℕ) → 0 < q → more * q ≤ amount * s
    → amount * s ≤ (more + 4) * q → HoldsPast share weight got amount lost q s
    → IsRead share weight (lost + 1) 0 (got + more)
read_past share weight got amount lost q s more pos gain_low gain_high h =
    let end : (share.gain + 11 * share.bal) * 10 ^ 9
    ≤ ((got + more) * 10 ^ 9 + 12 * weight + 15 * (10 ^ 9 * (lost + 1))) * share.den =
    le_of_mul-le-mul_right (ended_gain_read amount s got more share.den share.gain share.bal q (10 ^ 9) weight lost
    gain_high h.gain) pos in
    record {
      upper_balance = omega arith;
      upper_gain = le_of_mul-le-mul_right (gain_read_upper amount s got more share.den share.gain q gain_low
          h.upper) pos;
      balance = omega (arith, h.balance);
      gain = omega (arith, end);
    }

-- ---- through an own operation

module _ (account : ℕ) (share : Share) (weight events b g put_in out : ℕ) (within : out
    ≤ b) (h : IsRead share weight events b g) where
  -- the share after it
  abbrev pub moved : Share
  moved = record share { bal = share.bal + put_in * share.den - out * share.den }

  pub nothing_cut : moved.bal + out * share.den ≡ share.bal + put_in * share.den
  nothing_cut =
      let some : out * share.den ≤ b * share.den = mul-le-mul_right share.den within in
      omega (arith, some, h.upper_balance)

  pub own_live : (left q : ℕ) → left + out ≡ b + put_in → HoldsLive moved weight g left events q q 0
  own_live left q is = record {
    worth = own_balance_upper left b share.den share.bal moved.bal q put_in out nothing_cut is h.upper_balance;
    upper =
        let more : g * share.den * q ≤ share.gain * q = mul-le-mul_right q h.upper_gain in
        omega (arith, more);
    balance = own_balance_lower left b share.den share.bal moved.bal q (10 ^ 9) weight events put_in out nothing_cut is
        h.balance;
    gain = own_gain_lower left b g share.den share.gain share.bal moved.bal q (10 ^ 9) weight events put_in out
        nothing_cut is h.gain;
  }

  pub own_none : out ≡ b + put_in → HoldsNothing moved weight (events + 1) g
  own_none is = record {
    upper = h.upper_gain;
    balance = own_none_balance b share.den share.bal moved.bal (10 ^ 9) weight events put_in out nothing_cut is
        h.balance;
    gain = own_none_gain b g share.den share.gain share.bal moved.bal (10 ^ 9) weight events put_in out nothing_cut
        is h.gain;
  }
