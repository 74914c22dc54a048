-- What one account has earned at a moment of a lawful list, and how a sharing and an event keep it.
use Rattle.std.proofs.Common.{◌≡◌, ℕ, suc, ◌+◌, ◌-◌, ◌*◌, ◌^◌, ◌≤◌, ◌<◌, Bool, true, false, cond, refl, ap, sym, ◌∙◌, subst, arith, inl, inr, Some, None, Option, length}
use Rattle.std.specs.Prelude.{◌⊎◌, ◌==◌, ◌&&◌, not}
use Rattle.std.proofs.Math.Nat.{mul-le-mul_right}
use Rattle.std.proofs.lemmas.Bool.Decides.{nat_tests}
use Rattle.std.proofs.lemmas.Grind.{div_ceil_times}
use Rattle.liq_num.specs.Quotient.{floor_of, ceiling_of}
use Rattle.liq_types.specs.declared.amounts.TheConstants.{P_LEAST}
use Rattle.liq_types.specs.declared.events.PoolEvent.TheVariants.{Offset}
use Rattle.liq_types.specs.Allowance.{cost_of}
use Rattle.liq_types.specs.PlainLedger.{Share}
use Rattle.liq_types.specs.Product.{place_of, is_place, mark_after}
use Rattle.liq_types.specs.State.{State, PoolMark, PoolOffset, After, DepositEntry}
use Rattle.liq_types.specs.Tables.{EpochScale, Table, at, put, without}
use Rattle.liq_types.specs.WellFormed.{IsBefore, Ascends}
use Rattle.liq_types.proofs.Lookups.{at-put_same, at-without_same}
use Rattle.liq_types.proofs.Rounding.{weight_covers}
use Rattle.liq_types.proofs.Watching.{Watch}
use Rattle.liq_stability.specs.Own.{owned, offset, with_deposit, amount_after}
use Rattle.liq_stability.specs.Position.{mark_of, gain_by, balance_by}
use Rattle.liq_stability.specs.Words.{words_of}
use Rattle.liq_stability.specs.Worth.{base_of, reach}
use Rattle.liq_stability.proofs.Falling.{gained_low, gained_near, live_place, past_place}
use Rattle.liq_stability.proofs.Pool.{mark-grown, mark-full}
use Rattle.liq_stability.proofs.Reading.{IsPast, reach_whole, some_power, balance_low, balance-past, gain_low, gain_high, grown, grown_more, grown_same, grown_none}
use Rattle.liq_stability.proofs.Standing.{IsMarked, StandsLive, StandsBy, bare_balance}
use Rattle.liq_rewards.specs.Exact.{RewardShare, with_units, with_event}
use Rattle.liq_rewards.proofs.Steps.{EarnsNothing, EarnsSome, none_shares, past_shares, live_shares, none_scaled, some_scaled, some_read, some_begun, none_left}

-- a mark with another sum
abbrev pub marked : PoolMark → ℕ → PoolMark
marked m sum = record m { sum = sum }

abbrev pub from : (EpochScale → ℕ) → PoolMark → ℕ → ℕ
from sums m i = sums (m.epoch, m.scale + i)

-- with this deposit
pub record EarnsWith (s : State) (events : ℕ) (x : RewardShare) (earned held cost sum : ℕ) (sums : EpochScale
    → ℕ) (d : DepositEntry) (lost : ℕ) : Type 0 where
  pub events_are : events ≡ lost + 1
  pub within : sum ≤ from sums (mark_of s d.mark) 0
  pub earns : EarnsSome x.share.den x.rew earned held cost d.amount lost (base_of (mark_of s d.mark))
      (grown (marked (mark_of s d.mark) sum) (from sums (mark_of s d.mark)))

abbrev pub EarnsBy : State → ℕ → RewardShare → ℕ → ℕ → ℕ → ℕ → (EpochScale → ℕ) → Option DepositEntry → Type 0
EarnsBy s events x earned held cost sum sums None = EarnsNothing x.share.den x.rew earned held cost events
EarnsBy s events x earned held cost sum sums (Some d) = (lost : ℕ)
    × EarnsWith s events x earned held cost sum sums d lost

-- the same of numbers that are the same
pub earns_alike : (s : State) (events : ℕ) (x : RewardShare) (earned held held1 cost cost1 sum : ℕ) (t u : EpochScale
    → ℕ) (o : Option DepositEntry) → held ≡ held1 → cost ≡ cost1 → ((q : EpochScale) → t q ≡ u q)
    → EarnsBy s events x earned held cost sum u o → EarnsBy s events x earned held1 cost1 sum t o
earns_alike s events x earned held held1 cost cost1 sum t u None a b same h =
    subst (λ n. EarnsNothing x.share.den x.rew earned n cost1 events) a
    (subst (λ n. EarnsNothing x.share.den x.rew earned held n events) b h)
earns_alike s events x earned held held1 cost cost1 sum t u (Some d) a b same h =
    let m = mark_of s d.mark in (
      h.0,
      record {
        events_are = h.1.events_are;
        within = (let here = same (m.epoch, m.scale + 0) in omega (arith, here, h.1.within));
        earns =
            subst (λ n. EarnsSome x.share.den x.rew earned n cost1 d.amount h.0 (base_of m) (grown (marked m sum)
            (from t m))) a
            (subst (λ n. EarnsSome x.share.den x.rew earned held n d.amount h.0 (base_of m) (grown (marked m sum)
            (from t m))) b
            (subst (λ g. EarnsSome x.share.den x.rew earned held cost d.amount h.0 (base_of m) g)
            (sym (grown_same (marked m sum) (from t m) (from u m) (λ i few. same (m.epoch, m.scale + i))))
            h.1.earns));
      },
    )

-- ---- a sharing

-- what it may cost a deposit that counts
covered : (amount epoch scale own_epoch own_scale j : ℕ) → 1 ≤ amount → epoch ≡ own_epoch → scale ≡ own_scale + j
    → amount ≤ cost_of amount (own_epoch, own_scale) (epoch, scale) * 10 ^ (9 * j)
covered amount epoch scale own_epoch own_scale j some here above =
    let test : (not (amount == 0) && epoch == own_epoch) ≡ true = grind (arith, nat_tests, some, here) in
    let rise : scale - own_scale ≡ j = omega (arith, above) in
    let is : cost_of amount (own_epoch, own_scale) (epoch, scale) ≡ ceiling_of amount 1 (10 ^ (9 * j)) =
    ap (λ b. cond b (ceiling_of amount 1 (10 ^ (9 * (scale - own_scale)))) 0) test
    ∙ ap (λ r. ceiling_of amount 1 (10 ^ (9 * r))) rise in
    let up : amount * 1 ≤ ceiling_of amount 1 (10 ^ (9 * j)) * 10 ^ (9 * j) =
    (div_ceil_times (amount * 1) (10 ^ (9 * j)) (some_power (9 * j))).0 in
    let same : cost_of amount (own_epoch, own_scale) (epoch, scale) * 10 ^ (9 * j)
    ≡ ceiling_of amount 1 (10 ^ (9 * j)) * 10 ^ (9 * j) = ap (λ n. n * 10 ^ (9 * j)) is in
    omega (arith, up, same)

-- the exact balance is the plain ledger's, over a denominator that is greater by the same factor
pub record IsScaled (x : RewardShare) (plain : Share) (times : ℕ) : Type 0 where
  pub den : x.share.den ≡ plain.den * times
  pub bal : x.share.bal ≡ plain.bal * times

scaled_short : (bal den plain_bal plain_den times b : ℕ) → den ≡ plain_den * times → bal ≡ plain_bal * times
    → plain_bal ≤ b * plain_den → bal ≤ b * den
scaled_short bal den plain_bal plain_den times b d e h =
    let first : plain_bal * times ≤ b * plain_den * times = mul-le-mul_right times h in
    let second : b * den ≡ b * (plain_den * times) = ap (λ n. b * n) d in
    omega (arith, first, second, e)

scaled_worth : (bal den plain_bal plain_den times a q : ℕ) → den ≡ plain_den * times → bal ≡ plain_bal * times
    → a * plain_den ≤ plain_bal * q → a * den ≤ bal * q
scaled_worth bal den plain_bal plain_den times a q d e h =
    let first : a * plain_den * times ≤ plain_bal * q * times = mul-le-mul_right times h in
    let second : a * den ≡ a * (plain_den * times) = ap (λ n. a * n) d in
    let third : bal * q ≡ plain_bal * times * q = ap (λ n. n * q) e in
    omega (arith, first, second, third)

module _ (s : State) (plain : Share) (w : Watch) (got events : ℕ) (x : RewardShare) (times : ℕ)
    (is : IsScaled x plain times) (earned held cost sum units total more : ℕ) (pos : 0 < total) (t u : EpochScale → ℕ)
    (grows : (q : EpochScale) → t q ≡ u q + cond (is_place (place_of (words_of s)) q) (floor_of units
    (words_of s).p total)
    0) where
  abbrev withheld : ℕ
  withheld = ceiling_of units more total

  abbrev costs : ℕ
  costs = cost_of w.amount w.place (place_of (words_of s))

  up : units * more ≤ withheld * total
  up = (div_ceil_times (units * more) total pos).0

  unchanged : (n k : ℕ) (b : Bool) → b ≡ false → n + cond b k 0 ≡ n
  unchanged n k b e = ap (λ c. n + cond c k 0) e ∙ none n where
    none : (m : ℕ) → m + 0 ≡ m
    none m = omega arith

  without_zero : plain.bal ≤ (0 + more) * plain.den → plain.bal ≤ more * plain.den
  without_zero h = omega (arith, h)

  live_shared : (d : DepositEntry) (lost own_lost own_sum grown_then j : ℕ)
      → IsMarked (mark_of s d.mark) own_sum w d.amount own_lost
      → StandsLive (words_of s) plain w got d.amount own_lost grown_then (mark_of s d.mark) j
      → plain.bal ≤ (bare_balance s (Some d) + more) * plain.den → EarnsWith s events x earned held cost sum u d lost
      → EarnsWith s events (with_units units total x) earned (held + withheld) (cost + costs) sum t d lost
  live_shared d lost own_lost own_sum grown_then j m stands short h =
      let mark = mark_of s d.mark in
      let now = words_of s in
      let o : PoolOffset = record { debt = 0; coll = units; total = total } in
      let rise = floor_of units now.p total in
      let weighs : d.amount ≤ costs * 10 ^ (9 * j) =
      subst (λ a. a ≤ costs * 10 ^ (9 * j)) m.amount_is
      (covered w.amount now.epoch now.scale w.place.0 w.place.1 j (omega (arith, m.amount_is, m.some))
      (stands.live.epoch ∙ sym m.epoch_is) (omega (arith, stands.live.scale, m.scale_is))) in
      let light : 10 ^ 9 * d.amount * reach j ≤ costs * base_of mark = weight_covers d.amount costs (10 ^ 9) mark.p
      (10 ^ (9 * j)) (reach j) (10 ^ 27) (reach_whole j stands.live.few) m.least_p weighs in
      let more_grown : grown (marked mark sum) (from t mark) ≡ grown (marked mark sum) (from u mark) + rise * reach j =
      grown_more (marked mark sum) (from t mark) (from u mark) rise j stands.live.few h.within (λ i. grows (
        mark.epoch,
        mark.scale + i,
      ) ∙ ap (λ b. from u mark i + cond b rise 0) (live_place now mark j i stands.live)) in
      record {
        events_are = h.events_are;
        within = (let here = grows (mark.epoch, mark.scale + 0) in omega (arith, here, h.within));
        earns =
            subst (λ g. EarnsSome (x.share.den * total) (x.rew * total + units * x.share.bal) earned (held + withheld)
            (cost + costs) d.amount lost (base_of mark) g) (sym more_grown)
            (live_shares x.share.den x.share.bal x.rew earned held cost units total withheld costs more up d.amount lost
            (base_of mark) (grown (marked mark sum) (from u mark)) (now.p * reach j) (rise * reach j)
            (balance_by d.amount mark now) (reach j)
            (scaled_worth x.share.bal x.share.den plain.bal plain.den times (d.amount * (now.p * reach j))
            (base_of mark) is.den is.bal stands.holds.worth)
            (scaled_short x.share.bal x.share.den plain.bal plain.den times (balance_by d.amount mark now + more) is.den
            is.bal short)
            (balance_low d.amount now mark j stands.live) (gained_low now o j) (gained_near now o j pos) light h.earns);
      }

  past_shared : (d : DepositEntry) (lost : ℕ) → IsPast (words_of s) (mark_of s d.mark)
      → plain.bal ≤ (bare_balance s (Some d) + more) * plain.den → EarnsWith s events x earned held cost sum u d lost
      → EarnsWith s events (with_units units total x) earned (held + withheld) (cost + costs) sum t d lost
  past_shared d lost past short h =
      let mark = mark_of s d.mark in
      let now = words_of s in
      let rise = floor_of units now.p total in
      let none : bare_balance s (Some d) ≡ 0 = balance-past d.amount now mark past in
      let less : plain.bal ≤ (0 + more) * plain.den = subst (λ b. plain.bal ≤ (b + more) * plain.den) none short in
      let same : grown (marked mark sum) (from t mark) ≡ grown (marked mark sum) (from u mark) =
      grown_same (marked mark sum) (from t mark) (from u mark) (λ i few. grows (mark.epoch, mark.scale + i)
      ∙ unchanged (from u mark i) rise (is_place (place_of now) (mark.epoch, mark.scale + i))
      (past_place now mark i few past)) in
      record {
        events_are = h.events_are;
        within = (let here = grows (mark.epoch, mark.scale + 0) in omega (arith, here, h.within));
        earns =
            subst (λ g. EarnsSome (x.share.den * total) (x.rew * total + units * x.share.bal) earned (held + withheld)
            (cost + costs) d.amount lost (base_of mark) g) (sym same)
            (past_shares x.share.den x.share.bal x.rew earned held cost units total withheld costs more up d.amount lost
            (base_of mark) (grown (marked mark sum) (from u mark))
            (scaled_short x.share.bal x.share.den plain.bal plain.den times more is.den is.bal (without_zero less))
            h.earns);
      }

  pub shared_earns : (o : Option DepositEntry) → StandsBy s plain w got o
      → plain.bal ≤ (bare_balance s o + more) * plain.den → EarnsBy s events x earned held cost sum u o
      → EarnsBy s events (with_units units total x) earned (held + withheld) (cost + costs) sum t o
  shared_earns None stands short h =
      none_shares x.share.den x.share.bal x.rew earned held cost units total withheld costs more up events
      (scaled_short x.share.bal x.share.den plain.bal plain.den times more is.den is.bal (without_zero short)) h
  shared_earns (Some d) stands short h = (
    h.0,
    elim stands.1.2 [
      | inl k ↦ live_shared d h.0 stands.1.0 _ _ k.0 stands.1.1 k.1 short h.1
      | inr k ↦ past_shared d h.0 k.past short h.1
    ],
  )

-- ---- an offset

pub offset_earns : (s : State) (account debt coll total rise events : ℕ) (x : RewardShare) (earned held cost sum : ℕ)
    (sums : EpochScale → ℕ) (plain : Share) (w : Watch) (got : ℕ) (o : Option DepositEntry) → StandsBy s plain w got o
    → EarnsBy s events x earned held cost sum sums o
    → EarnsBy (offset s debt coll) events (with_event account (Offset debt coll total rise) x) earned held cost
    sum sums o
offset_earns s account debt coll total rise events x earned held cost sum sums plain w got None stands h =
    none_scaled x.share.den x.rew earned held cost events total h
offset_earns s account debt coll total rise events x earned held cost sum sums plain w got (Some d) stands h = (
  h.0,
  record {
    events_are = h.1.events_are;
    within = subst (λ (m : PoolMark). sum ≤ from sums m 0) (sym (mark-grown s debt coll d.mark stands.0)) h.1.within;
    earns =
        subst (λ (m : PoolMark). EarnsSome (x.share.den * total) (x.rew * total) earned held cost d.amount h.0
        (base_of m) (grown (marked m sum) (from sums m))) (sym (mark-grown s debt coll d.mark stands.0))
        (some_scaled x.share.den x.rew earned held cost d.amount h.0 (base_of (mark_of s d.mark))
        (grown (marked (mark_of s d.mark) sum) (from sums (mark_of s d.mark))) total h.1.earns);
  },
)

-- ---- an own operation

-- what its account has then
pub deposit_left : (table : Table DepositEntry) (account : ℕ) (d : DepositEntry) → Ascends table
    → (at (with_deposit table account d) account ≡ None) ⊎ (at (with_deposit table account d) account ≡ Some d)
deposit_left table account d h = by (d.amount == 0) where
  by : (b : Bool) → (at (cond b (without table account) (put table account d)) account ≡ None)
      ⊎ (at (cond b (without table account) (put table account d)) account ≡ Some d)
  by true = inl (at-without_same table account h)
  by false = inr (at-put_same table account d)

-- what is read of a deposit, or of none
abbrev pub read_of : State → ℕ → (EpochScale → ℕ) → Option DepositEntry → ℕ
read_of s sum sums None = 0
read_of s sum sums (Some d) = gain_by d.amount (marked (mark_of s d.mark) sum) (from sums (mark_of s d.mark))

pub reads_earned : (s : State) (events : ℕ) (x : RewardShare) (earned held cost sum : ℕ) (sums : EpochScale
    → ℕ) (plain : Share) (w : Watch) (got : ℕ) (o : Option DepositEntry) → StandsBy s plain w got o
    → EarnsBy s events x earned held cost sum sums o
    → EarnsNothing x.share.den x.rew (earned + read_of s sum sums o) held cost events
reads_earned s events x earned held cost sum sums plain w got None stands h =
    subst (λ n. EarnsNothing x.share.den x.rew n held cost events) (plus_none earned) h where
      plus_none : (n : ℕ) → n ≡ n + 0
      plus_none n = omega arith
reads_earned s events x earned held cost sum sums plain w got (Some d) stands h =
    let m = mark_of s d.mark in
    let least : P_LEAST ≤ m.p = stands.1.1.least_p in
    let some : 1 ≤ m.p = omega (arith, least) in
    subst (λ n. EarnsNothing x.share.den x.rew (earned + read_of s sum sums (Some d)) held cost n) (sym h.1.events_are)
    (some_read x.share.den x.rew earned held cost d.amount h.0 (base_of m) (grown (marked m sum) (from sums m))
    (gain_by d.amount (marked m sum) (from sums m)) (omega (arith, least))
    (gain_low d.amount (marked m sum) (from sums m)) (gain_high d.amount (marked m sum) (from sums m) some) h.1.earns)

-- the share after an own operation of its account, or of another
abbrev pub moved : ℕ → ℕ → RewardShare → RewardShare
moved put_in out x = record x {
  share = record x.share {
    bal = x.share.bal + put_in * x.share.den
        - out * x.share.den;
  };
}

module _ (s : State) (ascends : Ascends s.deposits) (account put_in out events : ℕ) (x : RewardShare)
    (earned held cost : ℕ) (sums : EpochScale → ℕ) (later : (q : EpochScale) → IsBefore (place_of (words_of s)) q
    → sums q ≡ 0) where
  abbrev left : DepositEntry
  left = record { amount = amount_after s account put_in out; mark = After (length s.offsets) }

  begun : EarnsNothing x.share.den x.rew earned held cost events
      → EarnsWith (owned s account put_in out) (events + 1) (moved put_in out x) earned held cost
      (sums (place_of (words_of s))) sums left events
  begun h =
      let now = words_of s in
      let sum = sums (place_of now) in
      let m = mark_after s.start s.offsets in
      let here : sums (now.epoch, now.scale + 0) ≡ sum = ap (λ n. sums (now.epoch, n)) (plus_none now.scale) in
      let none : grown (marked m sum) (from sums m) ≡ 0 = grown_none (marked m sum) (from sums m) here
      (λ i. later (now.epoch, now.scale + suc i) (inr (refl, omega arith))) in
      record {
        events_are = refl;
        within = subst (λ (m : PoolMark). sum ≤ from sums m 0) (sym (mark-full s)) (omega (arith, here));
        earns =
            subst (λ (m : PoolMark). EarnsSome x.share.den x.rew earned held cost left.amount events (base_of m)
            (grown (marked m sum) (from sums m))) (sym (mark-full s))
            (subst (λ g. EarnsSome x.share.den x.rew earned held cost left.amount events (base_of m) g) (sym none)
            (some_begun x.share.den x.rew earned held cost left.amount events (base_of m) h));
      }
    where
      plus_none : (n : ℕ) → n + 0 ≡ n
      plus_none n = omega arith

  pub own_earns : EarnsNothing x.share.den x.rew earned held cost events
      → EarnsBy (owned s account put_in out) (events + 1) (moved put_in out x) earned held cost
      (sums (place_of (words_of s))) sums (at (with_deposit s.deposits account left) account)
  own_earns h = elim (deposit_left s.deposits account left ascends) [
    | inl k ↦
        subst (EarnsBy (owned s account put_in out) (events + 1) (moved put_in out x) earned held cost
        (sums (place_of (words_of s))) sums) (sym k)
        (none_left x.share.den x.rew earned held cost events h)
    | inr k ↦
        subst (EarnsBy (owned s account put_in out) (events + 1) (moved put_in out x) earned held cost
        (sums (place_of (words_of s))) sums) (sym k)
        (events, begun h)
  ]

-- an own operation of another account
pub other_earns : (s : State) (owner put_in out events : ℕ) (x : RewardShare) (earned held cost sum : ℕ)
    (sums : EpochScale → ℕ) (o : Option DepositEntry)
    → EarnsBy s events x earned held cost sum sums o
    → EarnsBy (owned s owner put_in out) events x earned held cost sum sums o
other_earns s owner put_in out events x earned held cost sum sums None h = h
other_earns s owner put_in out events x earned held cost sum sums (Some d) h =
    (h.0, record { events_are = h.1.events_are; within = h.1.within; earns = h.1.earns })
