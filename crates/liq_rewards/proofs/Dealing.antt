-- What is kept of an account, once what is due is dealt with, and what is read of it.
use Rattle.std.proofs.Common.{◌≡◌, ℕ, ◌+◌, ◌-◌, ◌*◌, ◌^◌, ◌≤◌, Bool, true, false, cond, List, length, refl, ap, sym, ◌∙◌, arith, Some, None, Option}
use Rattle.std.specs.Prelude.{◌==◌}
use Rattle.std.proofs.lemmas.Bool.Decides.{nat_tests}
use Rattle.liq_num.specs.Quotient.{floor_of, ceiling_of}
use Rattle.liq_types.specs.declared.amounts.TheConstants.{LIM}
use Rattle.liq_types.specs.Allowance.{weight_of, balance_allowance, cost_of}
use Rattle.liq_types.specs.PlainLedger.{own_events_of}
use Rattle.liq_types.specs.Product.{is_place}
use Rattle.liq_types.specs.State.{PoolMark, DepositEntry, opening}
use Rattle.liq_types.specs.Tables.{EpochScale, at}
use Rattle.liq_stability.specs.Lawful.{IsLawful}
use Rattle.liq_stability.specs.Position.{mark_of, gain_by, growth}
use Rattle.liq_rewards.specs.declared.earner.Earner.{Earner}
use Rattle.liq_rewards.specs.declared.earner.Sums.{Sums}
use Rattle.liq_rewards.specs.declared.issuance.TheConstants.{EVENTS_MOST, UNITS_MOST}
use Rattle.liq_rewards.specs.Timed.{Timed, events_of, state_of, total_of, place_at, AreInOrder, due_at, is_shared_at}
use Rattle.liq_rewards.specs.Earner.{SUM_MOST, sharing_of, dealt_with, sums_risen, reading_by, reward_by, allowance_by, IsSmall, HasSmallSums}
use Rattle.liq_rewards.specs.Earning.{rise_by, sum_of, sum_at, mark_sum, reward_mark, sums_from, reading, earned_of, reward_at}
use Rattle.liq_rewards.specs.Exact.{recorded, own_place, withheld_of, withheld_at, costs_of, costs_at, allowance_at}
use Rattle.liq_rewards.specs.Kept.{sums_since, IsDepositOf, IsEarnerOf, words_kept}
use Rattle.liq_rewards.proofs.Along.{IsDeposited, deposited}
use Rattle.liq_rewards.proofs.Small.{served, recorded_most, weight_most, owns_most, own_few, withheld_most, costs_most, sum_most, reward_most}

-- once what is due at a minute is dealt with
pub record IsDealtOf (e : Earner) (minute : ℕ) (past : List Timed) : Type 0 where
  pub amount : e.amount ≡ recorded e.account past
  pub place : (e.epoch, e.scale) ≡ own_place e.account past
  pub earned : e.earned ≡ earned_of e.account past
  pub own_events : e.own_events ≡ own_events_of e.account (events_of past)
  pub weight : e.weight ≡ weight_of e.account (events_of past)
  pub withheld : e.withheld ≡ withheld_at e.account minute past
  pub costs : e.costs ≡ costs_at e.account minute past
  pub deposit : IsDepositOf (sum_at minute past) e past (at (state_of past).deposits e.account)

-- ---- sums

four : {a b c d p q r s : ℕ} → a ≡ p → b ≡ q → c ≡ r → d ≡ s → let one : Sums = record {
  first = a;
  second = b;
  third = c;
  fourth = d;
} in let other : Sums = record { first = p; second = q; third = r; fourth = s } in one ≡ other
four e f g h = rw (e, f, g, h) refl

sums_alike : (t u : EpochScale → ℕ) (account : ℕ) (past : List Timed) (d : DepositEntry) → ((q : EpochScale) → t q
    ≡ u q)
    → sums_since t account past d ≡ sums_since u account past d
sums_alike t u account past d same =
    let m = reward_mark account past d in
    four (ap (λ n. n - m.sum) (same (m.epoch, m.scale + 0))) (same (m.epoch, m.scale + 1)) (same (m.epoch, m.scale + 2))
    (same (m.epoch, m.scale + 3))

deposit_alike : (t u : EpochScale → ℕ) (e : Earner) (past : List Timed) (o : Option DepositEntry) → ((q : EpochScale)
    → t q ≡ u q)
    → IsDepositOf u e past o → IsDepositOf t e past o
deposit_alike t u e past None same h = tt
deposit_alike t u e past (Some d) same h = (h.0, h.1 ∙ sym (sums_alike t u e.account past d same))

-- ---- a sharing

first_risen : (sum old mark more : ℕ) → sum ≡ old - mark → mark ≤ old → sum + more ≡ old + more - mark
first_risen sum old mark more e h = omega (arith, e, h)

risen_is : (place : EpochScale) (epoch scale own_epoch own_scale i rise : ℕ) → own_epoch ≡ epoch → own_scale ≡ scale
    → cond (is_place place (own_epoch, own_scale + i)) rise 0 ≡ cond (is_place place (epoch, scale + i)) rise 0
risen_is place epoch scale own_epoch own_scale i rise e f = ap (λ n. cond (is_place place (n, own_scale + i)) rise 0) e
    ∙ ap (λ n. cond (is_place place (epoch, n + i)) rise 0) f

not_none : (amount : ℕ) → 1 ≤ amount → (amount == 0) ≡ false
not_none amount some = grind (arith, nat_tests, some)

is_none : (amount : ℕ) → amount ≡ 0 → (amount == 0) ≡ true
is_none amount none = grind (arith, nat_tests, none)

module _ (past : List Timed) (lawful : IsLawful opening (events_of past)) (e : Earner) where
  abbrev here : EpochScale
  here = place_at past

  sums_shared : (rise : ℕ) (o : Option DepositEntry) → e.amount ≡ recorded e.account past
      → (e.epoch, e.scale) ≡ own_place e.account past → IsDeposited e.account past o
      → IsDepositOf (sum_of past) e past o
      → IsDepositOf (λ q. sum_of past q + cond (is_place (place_at past) q) rise 0) (record e {
        sums = cond (e.amount
            == 0) e.sums (sums_risen e (words_kept past) rise);
      }) past o
  sums_shared rise None amount place dep h = tt
  sums_shared rise (Some d) amount place dep h =
      let m = mark_of (state_of past) d.mark in
      let epoch : e.epoch ≡ m.epoch = ap (λ (q : EpochScale). q.0) place ∙ dep.epoch in
      let scale : e.scale ≡ m.scale = ap (λ (q : EpochScale). q.1) place ∙ dep.scale in
      let some : 1 ≤ e.amount = omega (arith, amount, dep.amount, dep.some) in (
        h.0,
        ap (λ b. cond b e.sums (sums_risen e (words_kept past) rise)) (not_none e.amount some)
            ∙ four
            (ap (λ n. e.sums.first + n) (risen_is (place_at past) m.epoch m.scale e.epoch e.scale 0 rise epoch scale)
            ∙ first_risen e.sums.first (sum_of past (m.epoch, m.scale + 0)) (mark_sum e.account past)
            (cond (is_place (place_at past) (m.epoch, m.scale + 0)) rise 0) (ap (λ (s : Sums). s.first) h.1)
            dep.within)
            (ap (λ n. e.sums.second + n) (risen_is (place_at past) m.epoch m.scale e.epoch e.scale 1 rise epoch scale)
            ∙ ap (λ n. n + cond (is_place (place_at past) (m.epoch, m.scale + 1)) rise 0)
            (ap (λ (s : Sums). s.second) h.1))
            (ap (λ n. e.sums.third + n) (risen_is (place_at past) m.epoch m.scale e.epoch e.scale 2 rise epoch scale)
            ∙ ap (λ n. n + cond (is_place (place_at past) (m.epoch, m.scale + 2)) rise 0)
            (ap (λ (s : Sums). s.third) h.1))
            (ap (λ n. e.sums.fourth + n) (risen_is (place_at past) m.epoch m.scale e.epoch e.scale 3 rise epoch scale)
            ∙ ap (λ n. n + cond (is_place (place_at past) (m.epoch, m.scale + 3)) rise 0)
            (ap (λ (s : Sums). s.fourth) h.1)),
      )

  -- by whether anything is shared
  dealt_by : (minute : ℕ) (b : Bool) → IsEarnerOf e past
      → let x : Earner =
      dealt_with e (words_kept past) (cond b (Some (record { units = due_at minute past; rise = rise_by minute past }))
      None) in
      (x.amount ≡ recorded x.account past) × ((x.epoch, x.scale) ≡ own_place x.account past)
      × (x.earned ≡ earned_of x.account past) × (x.own_events ≡ own_events_of x.account (events_of past))
      × (x.weight ≡ weight_of x.account (events_of past))
      × (x.withheld ≡ withheld_of x.account past + cond b (ceiling_of (due_at minute past) (balance_allowance x.account
      (events_of past)) (total_of past)) 0)
      × (x.costs ≡ costs_of x.account past + cond b (cost_of (recorded x.account past) (own_place x.account past)
      (place_at past)) 0)
      × IsDepositOf (λ q. sum_of past q + cond b (cond (is_place (place_at past) q) (rise_by minute past) 0) 0) x past
      (at (state_of past).deposits x.account)
  dealt_by minute false h = (
    h.amount,
    h.place,
    h.earned,
    h.own_events,
    h.weight,
    omega (arith, h.withheld),
    omega (arith, h.costs),
    deposit_alike (λ q. sum_of past q + 0) (sum_of past) e past (at (state_of past).deposits e.account)
        (λ q. omega arith) h.deposit,
  )
  dealt_by minute true h = (
    h.amount,
    h.place,
    h.earned,
    h.own_events,
    h.weight,
    ap (λ n. n + ceiling_of (due_at minute past) (ceiling_of e.weight 1 (10 ^ 9) + e.own_events) (total_of past))
        h.withheld
        ∙ ap (λ n. withheld_of e.account past + ceiling_of (due_at minute past) (ceiling_of n 1 (10 ^ 9) + e.own_events)
        (total_of past)) h.weight
        ∙ ap (λ n. withheld_of e.account past + ceiling_of (due_at minute past)
        (ceiling_of (weight_of e.account (events_of past)) 1 (10 ^ 9) + n) (total_of past)) h.own_events,
    ap (λ n. n + cost_of e.amount (e.epoch, e.scale) (place_at past)) h.costs
        ∙ ap (λ n. costs_of e.account past + cost_of n (e.epoch, e.scale) (place_at past)) h.amount
        ∙ ap (λ (q : EpochScale). costs_of e.account past + cost_of (recorded e.account past) q
        (place_at past)) h.place,
    sums_shared (rise_by minute past) (at (state_of past).deposits e.account) h.amount h.place
        (deposited LIM served e.account past lawful) h.deposit,
  )

  pub dealt : (minute : ℕ) → IsEarnerOf e past
      → IsDealtOf (dealt_with e (words_kept past) (sharing_of (words_kept past) (due_at minute past))) minute past
  dealt minute h =
      let x = dealt_by minute (is_shared_at minute past) h in
      record {
        amount = x.0;
        place = x.1;
        earned = x.2;
        own_events = x.3;
        weight = x.4;
        withheld = x.5;
        costs = x.6;
        deposit = x.7;
      }

-- ---- what is read

parts : ℕ → ℕ → Sums → ℕ
parts amount p s = floor_of amount s.first (p * 10 ^ 0) + floor_of amount s.second (p * 10 ^ 9)
    + floor_of amount s.third (p * 10 ^ 18) + floor_of amount s.fourth (p * 10 ^ 27)

gain_parts : (amount : ℕ) (mark : PoolMark) (sums : ℕ → ℕ)
    → parts amount mark.p (record {
      first = growth mark sums 0;
      second = growth mark sums 1;
      third = growth mark sums 2;
      fourth = growth mark sums 3;
    }) ≡ gain_by amount mark sums
unfolding parts
gain_parts amount mark sums = omega arith

reading_parts : (e : Earner) → reading_by e ≡ cond (e.amount == 0) 0 (parts e.amount e.p e.sums)
unfolding parts
reading_parts e = refl

pub reads : (e : Earner) (minute : ℕ) (past : List Timed) → IsLawful opening (events_of past) → IsDealtOf e minute past
    → reward_by e ≡ reward_at e.account minute past
reads e minute past lawful h =
    ap (λ n. n + reading_by e) h.earned
    ∙ ap (λ n. earned_of e.account past + n) (reading_parts e
    ∙ by (at (state_of past).deposits e.account) (deposited LIM served e.account past lawful) h.deposit) where
      by : (o : Option DepositEntry) → IsDeposited e.account past o → IsDepositOf (sum_at minute past) e past o
          → cond (e.amount == 0) 0 (parts e.amount e.p e.sums) ≡ reading e.account minute past o
      by None dep k = ap (λ b. cond b 0 (parts e.amount e.p e.sums)) (is_none e.amount (h.amount ∙ dep))
      by (Some d) dep k =
          let some : 1 ≤ e.amount = omega (arith, h.amount, dep.amount, dep.some) in
          let mark = reward_mark e.account past d in
          ap (λ b. cond b 0 (parts e.amount e.p e.sums)) (not_none e.amount some)
          ∙ ap (λ a. parts a e.p e.sums) (h.amount ∙ dep.amount) ∙ ap (λ p. parts d.amount p e.sums) k.0
          ∙ ap (λ (s : Sums). parts d.amount mark.p s) k.1
          ∙ gain_parts d.amount mark (sums_from minute past mark)

pub allows : (e : Earner) (minute : ℕ) (past : List Timed) → IsDealtOf e minute past
    → allowance_by e ≡ allowance_at e.account minute past
allows e minute past h =
    ap (λ n. n + ceiling_of e.costs 1 (10 ^ 9) + 4 * e.own_events) h.withheld
    ∙ ap (λ n. withheld_at e.account minute past + ceiling_of n 1 (10 ^ 9) + 4 * e.own_events) h.costs
    ∙ ap (λ n. withheld_at e.account minute past + ceiling_of (costs_at e.account minute past) 1 (10 ^ 9) + 4 * n)
    h.own_events

-- ---- that it is small

small_sums : (e : Earner) (t : EpochScale → ℕ) (past : List Timed) (o : Option DepositEntry) → ((q : EpochScale)
    → t q ≤ SUM_MOST)
    → e.amount ≡ recorded e.account past → IsDeposited e.account past o → IsDepositOf t e past o → 1 ≤ e.amount
    → HasSmallSums e
small_sums e t past None low amount dep h some = absurd (omega (arith, amount, dep, some))
small_sums e t past (Some d) low amount dep h some =
    let m = mark_of (state_of past) d.mark in
    record {
      p = omega (arith, h.0, dep.least);
      first = (let is = ap (λ (s : Sums). s.first) h.1 in let most = low (m.epoch, m.scale + 0)
          in omega (arith, is, most));
      second = (let is = ap (λ (s : Sums). s.second) h.1 in let most = low (m.epoch, m.scale + 1)
          in omega (arith, is, most));
      third = (let is = ap (λ (s : Sums). s.third) h.1 in let most = low (m.epoch, m.scale + 2)
          in omega (arith, is, most));
      fourth = (let is = ap (λ (s : Sums). s.fourth) h.1 in let most = low (m.epoch, m.scale + 3)
          in omega (arith, is, most));
    }

module _ (e : Earner) (minute : ℕ) (past : List Timed) (lawful : IsLawful opening (events_of past))
    (order : AreInOrder minute past) (few : length past ≤ EVENTS_MOST) where
  small_by : (t : EpochScale → ℕ) → ((q : EpochScale) → t q ≤ SUM_MOST) → e.amount ≡ recorded e.account past
      → (e.epoch, e.scale) ≡ own_place e.account past → e.own_events ≡ own_events_of e.account (events_of past)
      → e.weight ≡ weight_of e.account (events_of past)
      → e.withheld ≤ withheld_at e.account minute past → e.costs ≤ costs_at e.account minute past
      → IsDepositOf t e past (at (state_of past).deposits e.account) → IsSmall e
  small_by t low amount place own weight withheld costs deposit =
      let recorded = recorded_most e.account past lawful in
      let place_low = own_few e.account past lawful in
      let scale = ap (λ (q : EpochScale). q.1) place in
      let owns = owns_most e.account past in
      let weighs = weight_most e.account past lawful in
      let held = withheld_most e.account minute past lawful few in
      let cost = costs_most e.account minute past lawful in
      record {
        amount = omega (arith, amount, recorded);
        scale = omega (arith, scale, place_low.scale, few);
        own_events = omega (arith, own, owns, few);
        weight = omega (arith, weight, weighs, few);
        withheld = omega (arith, withheld, held, few);
        costs = omega (arith, costs, cost, few);
        sums = small_sums e t past (at (state_of past).deposits e.account) low amount
            (deposited LIM served e.account past lawful) deposit;
      }

  pub small_dealt : IsDealtOf e minute past → IsSmall e
  small_dealt h = small_by (sum_at minute past) (sum_most minute past lawful order) h.amount h.place h.own_events
      h.weight (omega (arith, h.withheld)) (omega (arith, h.costs)) h.deposit

  pub small_kept : IsEarnerOf e past → IsSmall e
  small_kept h = small_by (sum_of past) (λ q. low q) h.amount h.place h.own_events h.weight (omega (arith, h.withheld))
      (omega (arith, h.costs)) h.deposit where
        low : (q : EpochScale) → sum_of past q ≤ SUM_MOST
        low q = let most = sum_most minute past lawful order q in omega (arith, most)

  pub small_reward : IsDealtOf e minute past → reward_by e ≤ UNITS_MOST
  small_reward h =
      let is = reads e minute past lawful h in
      let most = reward_most e.account minute past lawful order in
      omega (arith, is, most)
