-- All accounts together: what they have earned is at most what was shared, and with what was not it is all that was
-- issued.
use Rattle.std.proofs.Common.{◌≡◌, ℕ, ◌+◌, ◌*◌, ◌^◌, ◌≤◌, ◌<◌, Bool, true, false, cond, List, [], ◌∷◌, ◌++◌, refl, ap, ◌∙◌, subst, arith}
use Rattle.std.proofs.Math.Nat.{mul-le-mul_right, le_of_mul-le-mul_right}
use Rattle.std.proofs.lemmas.List.Sums.{fold-append}
use Rattle.liq_types.specs.declared.amounts.TheConstants.{RISES_MOST}
use Rattle.liq_types.specs.declared.events.PoolEvent.{PoolEvent}
use Rattle.liq_types.specs.declared.events.PoolEvent.TheVariants as event
use Rattle.liq_types.specs.PlainLedger.{exact_share, den_of, AreOwnedBelow, over_accounts}
use Rattle.liq_types.specs.PlainLedger as ledger
use Rattle.liq_types.specs.State.{opening}
use Rattle.liq_types.proofs.Accounts.{over-same, over-plus, over-times, over-le, over-none, share_den}
use Rattle.liq_stability.specs.Lawful.{IsLawfulUpTo}
use Rattle.liq_stability.proofs.LawfulLists.{lawful_first}
use Rattle.liq_stability.proofs.Promise.{all_balances_are, one_den}
use Rattle.liq_rewards.specs.Issued.{issued}
use Rattle.liq_rewards.specs.Timed.{Timed, events_of, total_of, minute_of, AreInOrder, due_at, is_shared_at, shared_of, shared_at, unshared_of, unshared_at}
use Rattle.liq_rewards.specs.Earning.{reward_at}
use Rattle.liq_rewards.specs.Exact.{RewardShare, with_units, with_event, share_of, share_at}
use Rattle.liq_rewards.proofs.Issuing.{issued-monotone}
use Rattle.liq_rewards.proofs.Along.{times_of, times_by, scaled_at, scaled_of, enough, within_allowance}

-- ---- units

units_by : (due : ℕ) (b : Bool) → cond b due 0 + cond b 0 due ≡ due
units_by due true = omega arith
units_by due false = omega arith

pub up_to : (minute : ℕ) (past : List Timed) → AreInOrder minute past → minute_of past ≤ minute
up_to minute [] h = omega arith
up_to minute (t ∷ past) h = h.0

nothing_first : issued 0 ≡ 0
unfolding issued
nothing_first = refl

units_at : (minute : ℕ) (past : List Timed) → AreInOrder minute past → shared_of past + unshared_of past
    ≡ issued (minute_of past) → shared_at minute past + unshared_at minute past ≡ issued minute
units_at minute past order h =
    let due = units_by (due_at minute past) (is_shared_at minute past) in
    let rises = issued-monotone (minute_of past) minute (up_to minute past order) in
    omega (arith, h, due, rises)

units_of : (minute : ℕ) (past : List Timed) → AreInOrder minute past → shared_of past + unshared_of past
    ≡ issued (minute_of past)
units_of minute [] order = omega (arith, nothing_first)
units_of minute (t ∷ past) order = units_at t.minute past order.1 (units_of t.minute past order.1)

pub all_units : (minute : ℕ) (past : List Timed) → AreInOrder minute past
    → shared_at minute past + unshared_at minute past ≡ issued minute
all_units minute past order = units_at minute past order (units_of minute past order)

-- ---- rewards

owned_first : (n : ℕ) (first rest : List PoolEvent) → AreOwnedBelow n (first ++ rest) → AreOwnedBelow n first
owned_first n [] rest h = tt
owned_first n (e ∷ es) rest h = (h.0, owned_first n es rest h.1)

dens-more : (t : Timed) (past : List Timed) → den_of (events_of (t ∷ past))
    ≡ den_of (events_of past) * ledger.total_of t.event
dens-more t past = fold-append (λ den e. den * ledger.total_of e) 1 (events_of past) (t.event ∷ [])

times_some : (minute : ℕ) (past : List Timed) → 0 < times_of past → 0 < times_of past * times_by minute past
times_some minute past h = by (is_shared_at minute past) refl where
  by : (b : Bool) → is_shared_at minute past ≡ b → 0 < times_of past * cond b (total_of past) 1
  by true e =
      let least = enough minute past e in
      let more : 1 * total_of past ≤ times_of past * total_of past = mul-le-mul_right (total_of past) h in
      omega (arith, least, more)
  by false e = omega (arith, h)

times_positive : (past : List Timed) → 0 < times_of past
unfolding times_of
times_positive [] = omega arith
times_positive (t ∷ past) = times_some t.minute past (times_positive past)

event-rew : (account : ℕ) (e : PoolEvent) (x : RewardShare) → (with_event account e x).rew ≡ x.rew * ledger.total_of e
event-rew account (event.Own owner put_in out gain left) x = omega arith
event-rew account (event.Offset debt coll total rise) x = refl

module _ (most : ℕ) (served : most ≤ 10 ^ (9 * RISES_MOST)) (n : ℕ) where
  -- all accounts have the same denominator
  abbrev den_at : ℕ → List Timed → ℕ
  den_at minute past = den_of (events_of past) * (times_of past * times_by minute past)

  due_all : (minute : ℕ) (past : List Timed) → IsLawfulUpTo most opening (events_of past)
      → AreOwnedBelow n (events_of past)
      → over_accounts n (λ a. (share_of a past).rew) ≤ shared_of past * (den_of (events_of past) * times_of past)
      → over_accounts n (λ a. (share_at a minute past).rew) ≤ shared_at minute past * den_at minute past
  due_all minute past lawful below h = by (is_shared_at minute past) where
    by : (b : Bool) → over_accounts n (λ a. (cond b (with_units (due_at minute past) (total_of past) (share_of a past))
        (share_of a past)).rew)
        ≤ (shared_of past + cond b (due_at minute past) 0) * (den_of (events_of past) * (times_of past * cond b
        (total_of past) 1))
    by false = omega (arith, h)
    by true =
        let total = total_of past in
        let due = due_at minute past in
        let times = times_of past in
        let parts = over-plus n (λ a. (share_of a past).rew * total) (λ a. due * (share_of a past).share.bal) in
        let first = over-times n (λ a. (share_of a past).rew) total in
        let turned = over-same n (λ a. due * (share_of a past).share.bal) (λ a. (exact_share a (events_of past)).bal
        * (times * due)) (λ a low. each due times a (scaled_of a past).bal) in
        let second = over-times n (λ a. (exact_share a (events_of past)).bal) (times * due) in
        let all : over_accounts n (λ a. (exact_share a (events_of past)).bal) * (times * due)
        ≡ total * den_of (events_of past) * (times * due) = ap (λ k. k * (times * due)) (all_balances_are most served
        (events_of past) lawful n below) in
        let more : over_accounts n (λ a. (share_of a past).rew) * total
        ≤ shared_of past * (den_of (events_of past) * times) * total = mul-le-mul_right total h in
        omega (arith, parts, first, turned, second, all, more)
      where
        each : (due times a : ℕ) → (share_of a past).share.bal ≡ (exact_share a (events_of past)).bal * times
            → due * (share_of a past).share.bal ≡ (exact_share a (events_of past)).bal * (times * due)
        each due times a e = let k : due * (share_of a past).share.bal
            ≡ due * ((exact_share a (events_of past)).bal * times) = ap (λ b. due * b) e in omega (arith, k)

  event_all : (t : Timed) (past : List Timed)
      → over_accounts n (λ a. (share_at a t.minute past).rew) ≤ shared_at t.minute past * den_at t.minute past
      → over_accounts n (λ a. (share_of a (t ∷ past)).rew)
      ≤ shared_of (t ∷ past) * (den_of (events_of (t ∷ past)) * times_of (t ∷ past))
  unfolding times_of
  event_all t past h =
      let total = ledger.total_of t.event in
      let same = over-same n (λ a. (share_of a (t ∷ past)).rew) (λ a. (share_at a t.minute past).rew * total)
      (λ a low. event-rew a t.event (share_at a t.minute past)) in
      let times = over-times n (λ a. (share_at a t.minute past).rew) total in
      let more : over_accounts n (λ a. (share_at a t.minute past).rew) * total
      ≤ shared_at t.minute past * den_at t.minute past * total = mul-le-mul_right total h in
      let den : shared_at t.minute past * (times_of past * times_by t.minute past) * den_of (events_of (t ∷ past))
      ≡ shared_at t.minute past * (times_of past * times_by t.minute past) * (den_of (events_of past) * total) =
      ap (λ d. shared_at t.minute past * (times_of past * times_by t.minute past) * d) (dens-more t past) in
      omega (arith, same, times, more, den)

  all_of : (past : List Timed) → IsLawfulUpTo most opening (events_of past) → AreOwnedBelow n (events_of past)
      → over_accounts n (λ a. (share_of a past).rew) ≤ shared_of past * (den_of (events_of past) * times_of past)
  all_of [] lawful below = let none = over-none n in omega (arith, none)
  all_of (t ∷ past) lawful below =
      let before = lawful_first most opening (events_of past) (t.event ∷ []) lawful in
      let owned = owned_first n (events_of past) (t.event ∷ []) below in
      event_all t past (due_all t.minute past before owned (all_of past before owned))

  pub all_rewards : (past : List Timed) → IsLawfulUpTo most opening (events_of past) → AreOwnedBelow n (events_of past)
      → (minute : ℕ)
      → over_accounts n (λ a. reward_at a minute past) ≤ shared_at minute past
  all_rewards past lawful below minute =
      let den = den_at minute past in
      let pos : 0 < den = positive (den_of (events_of past)) (times_of past * times_by minute past) (one_den most served
      (events_of past) lawful 0).1 (times_some minute past (times_positive past)) in
      let each = over-le n (λ a. reward_at a minute past * den) (λ a. (share_at a minute past).rew) (λ a low. at_most a)
      in
      let times = over-times n (λ a. reward_at a minute past) den in
      let all = due_all minute past lawful below (all_of past lawful below) in
      le_of_mul-le-mul_right {m = over_accounts n (λ a. reward_at a minute past)} {n = shared_at minute past} {k = den}
      (omega (arith, each, times, all)) pos
    where
      positive : (a b : ℕ) → 0 < a → 0 < b → 0 < a * b
      positive a b h k = let more : 1 * b ≤ a * b = mul-le-mul_right b h in omega (arith, more, k)

      at_most : (a : ℕ) → reward_at a minute past * den_at minute past ≤ (share_at a minute past).rew
      at_most a =
          let scaled = (scaled_at a minute past).den in
          let plain = share_den a (events_of past) in
          let is : (share_at a minute past).share.den ≡ den_at minute past = scaled
          ∙ ap (λ d. d * (times_of past * times_by minute past)) plain in
          subst (λ d. reward_at a minute past * d ≤ (share_at a minute past).rew) is
          (within_allowance most served a minute past lawful).at_most
