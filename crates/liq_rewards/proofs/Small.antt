-- The numbers that are kept are small, along a lawful list.
use Rattle.std.proofs.Common.{◌≡◌, ℕ, zero, suc, ◌+◌, ◌-◌, ◌*◌, ◌^◌, ◌≤◌, ◌<◌, Bool, true, false, cond, List, [], ◌∷◌, length, refl, sym, subst, arith}
use Rattle.std.specs.Prelude.{◌==◌, ◌&&◌, not}
use Rattle.std.proofs.Math.Nat.{mul-le-mul_right, le_of_mul-le-mul_right}
use Rattle.std.proofs.lemmas.Grind.{div_ceil_times}
use Rattle.liq_num.specs.Quotient.{floor_of, ceiling_of}
use Rattle.liq_num.proofs.Floors.{floor_low}
use Rattle.liq_types.specs.declared.amounts.TheConstants.{LIM, P_OPENING, RISES_MOST}
use Rattle.liq_types.specs.declared.events.PoolEvent.{PoolEvent}
use Rattle.liq_types.specs.declared.events.PoolEvent.TheVariants as event
use Rattle.liq_types.specs.Allowance.{weight_of, balance_allowance, cost_of}
use Rattle.liq_types.specs.PlainLedger.{is_own_of, own_events_of}
use Rattle.liq_types.specs.Product.{ScaledProduct, TakesPartUpTo, after_offset, is_place, place_of}
use Rattle.liq_types.specs.State.{State, opening}
use Rattle.liq_types.specs.Tables.{EpochScale, at}
use Rattle.liq_types.specs.Totals.{pool_total}
use Rattle.liq_types.proofs.Accounts.{over-term, above_with, owned_with, under_with}
use Rattle.liq_types.proofs.Ranges.{rise_few}
use Rattle.liq_types.proofs.Sums.{leaves_part, takes_all}
use Rattle.liq_types.proofs.Watching.{Watch, watched, watch_after, weight_is}
use Rattle.liq_stability.specs.Lawful.{IsLawful, IsLawfulEvent, IsWithinLimit}
use Rattle.liq_stability.specs.Own.{after_event}
use Rattle.liq_stability.specs.Position.{balance_of}
use Rattle.liq_stability.specs.Words.{words_of}
use Rattle.liq_stability.proofs.LawfulLists.{lawful_first, lawful_rest}
use Rattle.liq_stability.proofs.Pool.{balance_within, owned-total, offset_now, words-snoc}
use Rattle.liq_stability.proofs.Promise.{pool_stands}
use Rattle.liq_stability.proofs.Reading.{some_power}
use Rattle.liq_stability.proofs.Whole.{PoolStands}
use Rattle.liq_rewards.specs.declared.issuance.TheConstants.{SHARED_LEAST, UNITS_MOST}
use Rattle.liq_rewards.specs.Timed.{Timed, events_of, state_of, total_of, words_at, place_at, AreInOrder, due_at, is_shared_at, shared_of, shared_at, unshared_at}
use Rattle.liq_rewards.specs.Earning.{rise_by, sum_of, sum_at, reward_at}
use Rattle.liq_rewards.specs.Exact.{withheld_by, withheld_of, withheld_at, amount_left, recorded, own_place, cost_by, costs_of, costs_at}
use Rattle.liq_rewards.proofs.Along.{state-more, watched-more, owns-more, enough, amount_is}
use Rattle.liq_rewards.proofs.Conserving.{all_units, all_rewards}
use Rattle.liq_rewards.proofs.Issuing.{issued-most}

pub served : LIM ≤ 10 ^ (9 * RISES_MOST)
served = omega arith

pub earlier : (t : Timed) (past : List Timed) → IsLawful opening (events_of (t ∷ past))
    → IsLawful opening (events_of past)
earlier t past lawful = lawful_first LIM opening (events_of past) (t.event ∷ []) lawful

pub happens : (t : Timed) (past : List Timed) → IsLawful opening (events_of (t ∷ past))
    → IsWithinLimit LIM (state_of past) × IsLawfulEvent (state_of past) t.event
    × IsWithinLimit LIM (after_event (state_of past) t.event)
happens t past lawful = lawful_rest LIM opening (events_of past) (t.event ∷ []) lawful

pub stands : (past : List Timed) → IsLawful opening (events_of past) → PoolStands (state_of past)
stands past lawful = pool_stands LIM served (events_of past) lawful

-- ---- units

pub units_most : (minute : ℕ) (past : List Timed) → AreInOrder minute past
    → shared_at minute past + unshared_at minute past ≤ UNITS_MOST
units_most minute past order = let all = all_units minute past order in let most = issued-most minute
    in omega (arith, all, most)

pub due_most : (minute : ℕ) (past : List Timed) → due_at minute past ≤ UNITS_MOST
due_most minute past = let most = issued-most minute in omega (arith, most)

pub reward_most : (account minute : ℕ) (past : List Timed) → IsLawful opening (events_of past) → AreInOrder minute past
    → reward_at account minute past ≤ UNITS_MOST
reward_most account minute past lawful order =
    let n = above_with account (events_of past) in
    let one = over-term n (λ a. reward_at a minute past) account (under_with account (events_of past)) in
    let all = all_rewards LIM served n past lawful (owned_with account (events_of past)) minute in
    let most = units_most minute past order in
    omega (arith, one, all, most)

-- ---- sums

rise_most : (units p total : ℕ) → p ≤ P_OPENING → SHARED_LEAST ≤ total → floor_of units p total ≤ units * 10 ^ 9
rise_most units p total product least =
    let r = floor_of units p total in
    let low : r * total ≤ units * p = floor_low units p total in
    let more : SHARED_LEAST * r ≤ total * r = mul-le-mul_right r least in
    let high : p * units ≤ P_OPENING * units = mul-le-mul_right units product in
    le_of_mul-le-mul_right {m = r} {n = units * 10 ^ 9} {k = 10 ^ 9} (omega (arith, low, more, high)) (omega arith)

due_sum : (minute : ℕ) (past : List Timed) → IsLawful opening (events_of past) → (q : EpochScale)
    → sum_of past q ≤ shared_of past * 10 ^ 9 → sum_at minute past q ≤ shared_at minute past * 10 ^ 9
due_sum minute past lawful q h = by (is_shared_at minute past) (is_place (place_at past) q) refl where
  by : (b c : Bool) → is_shared_at minute past ≡ b → sum_of past q + cond b (cond c (rise_by minute past) 0) 0
      ≤ (shared_of past + cond b (due_at minute past) 0) * 10 ^ 9
  by false c e = omega (arith, h)
  by true false e = omega (arith, h)
  by true true e =
      let most = rise_most (due_at minute past) (words_at past).p (total_of past) (stands past lawful).range.most
      (enough minute past e) in
      omega (arith, h, most)

sum_within : (past : List Timed) → IsLawful opening (events_of past) → (q : EpochScale)
    → sum_of past q ≤ shared_of past * 10 ^ 9
sum_within [] lawful q = omega arith
sum_within (t ∷ past) lawful q = due_sum t.minute past (earlier t past lawful) q
    (sum_within past (earlier t past lawful) q)

pub sum_most : (minute : ℕ) (past : List Timed) → IsLawful opening (events_of past) → AreInOrder minute past
    → (q : EpochScale) → sum_at minute past q ≤ UNITS_MOST * 10 ^ 9
sum_most minute past lawful order q =
    let within = due_sum minute past lawful q (sum_within past lawful q) in
    let most = units_most minute past order in
    omega (arith, within, most)

-- ---- amounts, and what they may cost

either_most : (b : Bool) (x y m : ℕ) → x ≤ m → y ≤ m → cond b x y ≤ m
either_most true x y m h k = h
either_most false x y m h k = k

amount_after_most : (balance total put out amount : ℕ) → amount ≡ balance + put - out → balance ≤ total
    → total + put - out ≤ LIM → amount ≤ LIM
amount_after_most balance total put out amount e h k = omega (arith, e, h, k)

left_most : (s : State) → PoolStands s → (e : PoolEvent) → IsLawfulEvent s e → IsWithinLimit LIM (after_event s e)
    → amount_left e ≤ LIM
left_most s h (event.Own owner put out gain amount) lawful next =
    let total = owned-total s h.covered owner put out in
    amount_after_most (balance_of s owner) (pool_total s) put out amount lawful.amount_is
    (balance_within s (at s.deposits owner)) (omega (arith, total, next.total))
left_most s h (event.Offset debt coll total rise) lawful next = omega arith

pub recorded_most : (account : ℕ) (past : List Timed) → IsLawful opening (events_of past) → recorded account past ≤ LIM
recorded_most account [] lawful = omega arith
recorded_most account (t ∷ past) lawful =
    let now = happens t past lawful in
    either_most (is_own_of account t.event) (amount_left t.event) (recorded account past) LIM (left_most (state_of past)
    (stands past (earlier t past lawful)) t.event now.1 now.2) (recorded_most account past (earlier t past lawful))

ceiling_most : (a c : ℕ) → 1 ≤ c → ceiling_of a 1 c ≤ a
ceiling_most a c some =
    let q = ceiling_of a 1 c in
    let near : q * c < a * 1 + c = (div_ceil_times (a * 1) c some).1 in
    by q near where
      by : (q : ℕ) → q * c < a * 1 + c → q ≤ a
      by zero h = omega arith
      by (suc r) h =
          let one : 1 * r ≤ c * r = mul-le-mul_right r some in
          omega (arith, h, one)

cost_most : (amount : ℕ) (then now : EpochScale) → cost_of amount then now ≤ amount
cost_most amount then now = either_most (not (amount == 0) && now.0
    == then.0) (ceiling_of amount 1 (10 ^ (9 * (now.1 - then.1)))) 0 amount (ceiling_most amount
    (10 ^ (9 * (now.1 - then.1))) (some_power (9 * (now.1 - then.1)))) (omega arith)

pub owns_most : (account : ℕ) (past : List Timed) → own_events_of account (events_of past) ≤ length past
owns_most account [] = omega arith
owns_most account (t ∷ past) =
    let more = owns-more account t past in
    let one = either_most (is_own_of account t.event) 1 0 1 (omega arith) (omega arith) in
    let before = owns_most account past in
    omega (arith, more, one, before)

watched_most : (account : ℕ) (past : List Timed) → IsLawful opening (events_of past)
    → (watched account (events_of past)).weight ≤ length past * LIM
watched_most account [] lawful = omega arith
watched_most account (t ∷ past) lawful =
    let before = watched_most account past (earlier t past lawful) in
    let amount = amount_is LIM served account past in
    let most = recorded_most account past (earlier t past lawful) in
    subst (λ (w : Watch). w.weight ≤ length (t ∷ past) * LIM) (sym (watched-more account t past))
    (by t.event (watched account (events_of past)) before (omega (arith, amount, most))) where
      either : (b : Bool) (w : Watch) (left m : ℕ) → w.weight ≤ m
          → (cond b (record w { amount = left; place = place_of w.now; own_events = w.own_events + 1 }) w).weight ≤ m
      either true w left m h = h
      either false w left m h = h

      by : (e : PoolEvent) (w : Watch) → w.weight ≤ length past * LIM → w.amount ≤ LIM
          → (watch_after account w e).weight ≤ length (t ∷ past) * LIM
      by (event.Own owner put out gain left) w h k = either (owner == account) w left (length (t ∷ past) * LIM)
          (omega (arith, h))
      by (event.Offset debt coll total rise) w h k = let cost = cost_most w.amount w.place (place_of w.now)
          in omega (arith, h, k, cost)

pub weight_most : (account : ℕ) (past : List Timed) → IsLawful opening (events_of past)
    → weight_of account (events_of past) ≤ length past * LIM
weight_most account past lawful = let most = watched_most account past lawful
    in let is = weight_is account (events_of past) in omega (arith, most, is)

due_cost : (account minute : ℕ) (past : List Timed) → IsLawful opening (events_of past)
    → cost_by account minute past ≤ LIM
due_cost account minute past lawful =
    let cost = cost_most (recorded account past) (own_place account past) (place_at past) in
    let most = recorded_most account past lawful in
    either_most (is_shared_at minute past) (cost_of (recorded account past) (own_place account past) (place_at past)) 0
    LIM (omega (arith, cost, most)) (omega arith)

costs_within : (account : ℕ) (past : List Timed) → IsLawful opening (events_of past)
    → costs_of account past ≤ length past * LIM
costs_within account [] lawful = omega arith
costs_within account (t ∷ past) lawful =
    let before = costs_within account past (earlier t past lawful) in
    let one = due_cost account t.minute past (earlier t past lawful) in
    omega (arith, before, one)

pub costs_most : (account minute : ℕ) (past : List Timed) → IsLawful opening (events_of past)
    → costs_at account minute past ≤ (length past + 1) * LIM
costs_most account minute past lawful =
    let before = costs_within account past lawful in
    let one = due_cost account minute past lawful in
    omega (arith, before, one)

-- ---- what is withheld

short_most : (weight own n : ℕ) → n ≤ 2 ^ 40 → weight ≤ n * LIM → own ≤ n → ceiling_of weight 1 (10 ^ 9) + own ≤ 2 ^ 75
short_most weight own n few h k =
    let near : ceiling_of weight 1 (10 ^ 9) * 10 ^ 9 < weight * 1 + 10 ^ 9 =
    (div_ceil_times (weight * 1) (10 ^ 9) (omega arith)).1 in
    omega (arith, near, few, h, k)

part_most : (units short total : ℕ) → units ≤ UNITS_MOST → short ≤ 2 ^ 75 → SHARED_LEAST ≤ total
    → ceiling_of units short total ≤ 2 ^ 82
part_most units short total few low least =
    let q = ceiling_of units short total in
    let near : q * total < units * short + total = (div_ceil_times (units * short) total (omega (arith, least))).1 in
    by q near where
      high : units * short ≤ UNITS_MOST * 2 ^ 75
      high =
          let first : units * short ≤ UNITS_MOST * short = mul-le-mul_right short few in
          omega (arith, first, low)

      by : (q : ℕ) → q * total < units * short + total → q ≤ 2 ^ 82
      by zero h = omega arith
      by (suc r) h =
          let more : SHARED_LEAST * r ≤ total * r = mul-le-mul_right r least in
          omega (arith, h, more, high)

due_withheld : (account minute : ℕ) (past : List Timed) → IsLawful opening (events_of past) → length past ≤ 2 ^ 40
    → withheld_by account minute past ≤ 2 ^ 82
due_withheld account minute past lawful few = by (is_shared_at minute past) refl where
  by : (b : Bool) → is_shared_at minute past ≡ b
      → cond b (ceiling_of (due_at minute past) (balance_allowance account (events_of past)) (total_of past)) 0 ≤ 2 ^ 82
  by true e =
      part_most (due_at minute past) (balance_allowance account (events_of past)) (total_of past) (due_most minute past)
      (short_most (weight_of account (events_of past)) (own_events_of account (events_of past)) (length past) few
      (weight_most account past lawful) (owns_most account past)) (enough minute past e)
  by false e = omega arith

withheld_within : (account : ℕ) (past : List Timed) → IsLawful opening (events_of past) → length past ≤ 2 ^ 40
    → withheld_of account past ≤ length past * 2 ^ 82
withheld_within account [] lawful few = omega arith
withheld_within account (t ∷ past) lawful few =
    let before = withheld_within account past (earlier t past lawful) (omega (arith, few)) in
    let one = due_withheld account t.minute past (earlier t past lawful) (omega (arith, few)) in
    omega (arith, before, one)

pub withheld_most : (account minute : ℕ) (past : List Timed) → IsLawful opening (events_of past) → length past ≤ 2 ^ 40
    → withheld_at account minute past ≤ (length past + 1) * 2 ^ 82
withheld_most account minute past lawful few =
    let before = withheld_within account past lawful few in
    let one = due_withheld account minute past lawful few in
    omega (arith, before, one)

-- ---- places

pub record IsFew (place : EpochScale) (n : ℕ) : Type 0 where
  pub epoch : place.0 ≤ n
  pub scale : place.1 ≤ 3 * n

moved_few : (s : State) → PoolStands s → (e : PoolEvent) → IsWithinLimit LIM s → IsLawfulEvent s e → (n : ℕ)
    → IsFew (place_of (words_of s)) n → IsFew (place_of (words_of (after_event s e))) (n + 1)
moved_few s h (event.Own owner put out gain amount) limit lawful n few = record {
  epoch = omega (arith, few.epoch);
  scale = omega (arith, few.scale);
}
moved_few s h (event.Offset debt coll total rise) limit lawful n few =
    subst (λ (w : ScaledProduct). IsFew (place_of w) (n + 1)) (sym (words-snoc s debt coll)) (by (debt
    == pool_total s) refl) where
      takes : TakesPartUpTo LIM (offset_now s debt coll)
      takes = record { some = lawful.some; within = omega (arith, lawful.within, lawful.total_is); limit = limit.total }

      by : (b : Bool) → (debt == pool_total s) ≡ b
          → IsFew (place_of (after_offset (words_of s) (offset_now s debt coll))) (n + 1)
      by true e =
          let all = takes_all (words_of s) (offset_now s debt coll) e in
          record { epoch = omega (arith, all.epoch, few.epoch); scale = omega (arith, all.scale) }
      by false e =
          let part = leaves_part (words_of s) (offset_now s debt coll) takes.within e in
          let rises = rise_few LIM served (words_of s) (offset_now s debt coll) h.range takes in
          record { epoch = omega (arith, part.epoch, few.epoch); scale = omega (arith, part.scale, rises, few.scale) }

pub place_few : (past : List Timed) → IsLawful opening (events_of past) → IsFew (place_at past) (length past)
place_few [] lawful = record { epoch = omega arith; scale = omega arith }
place_few (t ∷ past) lawful =
    let now = happens t past lawful in
    subst (λ (s : State). IsFew (place_of (words_of s)) (length (t ∷ past))) (sym (state-more t past))
    (subst (IsFew (place_of (words_of (after_event (state_of past) t.event)))) (more past)
    (moved_few (state_of past) (stands past (earlier t past lawful)) t.event now.0 now.1 (length past)
    (place_few past (earlier t past lawful)))) where
      more : (xs : List Timed) → length xs + 1 ≡ length (t ∷ xs)
      more xs = omega arith

pub own_few : (account : ℕ) (past : List Timed) → IsLawful opening (events_of past)
    → IsFew (own_place account past) (length past)
own_few account [] lawful = record { epoch = omega arith; scale = omega arith }
own_few account (t ∷ past) lawful =
    let here = place_few past (earlier t past lawful) in
    let there = own_few account past (earlier t past lawful) in
    by (is_own_of account t.event) here there where
      by : (b : Bool) → IsFew (place_at past) (length past) → IsFew (own_place account past) (length past)
          → IsFew (cond b (place_at past) (own_place account past)) (length (t ∷ past))
      by true h k = record { epoch = omega (arith, h.epoch); scale = omega (arith, h.scale) }
      by false h k = record { epoch = omega (arith, k.epoch); scale = omega (arith, k.scale) }
