-- What every account has earned along a lawful list, beside its exact share.
use Rattle.std.proofs.Common.{◌≡◌, ℕ, ◌+◌, ◌-◌, ◌*◌, ◌^◌, ◌≤◌, Bool, true, false, cond, List, [], ◌∷◌, refl, ap, sym, ◌∙◌, subst, arith, inr, Some, None, Option, length}
use Rattle.std.specs.Prelude.{◌==◌, ◌&&◌, not, nat_le}
use Rattle.std.proofs.Math.Nat.{mul-sub, mul-le-mul_right, le_of_mul-le-mul_right}
use Rattle.std.proofs.lemmas.Bool.Decides.{nat_tests}
use Rattle.std.proofs.lemmas.Grind.{div_ceil_times}
use Rattle.std.proofs.lemmas.List.Sums.{fold-append}
use Rattle.liq_num.specs.Quotient.{ceiling_of}
use Rattle.liq_types.specs.declared.amounts.TheConstants.{P_LEAST, RISES_MOST}
use Rattle.liq_types.specs.declared.events.PoolEvent.{PoolEvent}
use Rattle.liq_types.specs.declared.events.PoolEvent.TheVariants as event
use Rattle.liq_types.specs.Allowance.{balance_allowance, cost_of}
use Rattle.liq_types.specs.PlainLedger.{Share, no_share, share_after, exact_share, is_own_of, own_events_of, gains_paid_to, den_of, offsets_coll}
use Rattle.liq_types.specs.Product.{ScaledProduct, place_of, is_place}
use Rattle.liq_types.specs.State.{State, DepositEntry, After, opening}
use Rattle.liq_types.specs.Tables.{EpochScale, at}
use Rattle.liq_types.specs.WellFormed.{IsBefore}
use Rattle.liq_types.proofs.Accounts.{above_with, under_with}
use Rattle.liq_types.proofs.Places.{IsUpTo, up_to_before, before_not_place, list_reaches}
use Rattle.liq_types.proofs.Watching.{Watch, no_watch, watch_after, watched}
use Rattle.liq_stability.specs.Lawful.{IsLawfulUpTo}
use Rattle.liq_stability.specs.Own.{after_event, owned, offset, amount_after}
use Rattle.liq_stability.specs.Position.{balance_of, mark_of}
use Rattle.liq_stability.specs.Words.{words_of}
use Rattle.liq_stability.proofs.LawfulLists.{lawful_first}
use Rattle.liq_stability.proofs.Pool.{words-snoc, offset_now}
use Rattle.liq_stability.proofs.Promise.{whole_with, balance_at_least}
use Rattle.liq_stability.proofs.Standing.{StandsBy, bare_balance, deposit_other}
use Rattle.liq_stability.proofs.Whole.{Whole, balance_bare}
use Rattle.liq_rewards.specs.Timed.{Timed, events_of, state_of, total_of, place_at, due_at, is_shared_at}
use Rattle.liq_rewards.specs.declared.issuance.TheConstants.{SHARED_LEAST}
use Rattle.liq_rewards.specs.Earning.{rise_by, sum_of, sum_at, mark_sum, reading, earned_of, reward_at}
use Rattle.liq_rewards.specs.Exact.{RewardShare, with_units, with_event, share_of, share_at, withheld_of, withheld_at, amount_left, recorded, own_place, costs_of, costs_at, allowance_at, IsWithinAllowance}
use Rattle.liq_rewards.proofs.Steps.{EarnsNothing}
use Rattle.liq_rewards.proofs.Earning.{EarnsBy, earns_alike, IsScaled, shared_earns, offset_earns, read_of, reads_earned, own_earns, other_earns}

-- ---- one event more

pub state-more : (t : Timed) (past : List Timed) → state_of (t ∷ past) ≡ after_event (state_of past) t.event
state-more t past = fold-append after_event opening (events_of past) (t.event ∷ [])

plain-more : (account : ℕ) (t : Timed) (past : List Timed) → exact_share account (events_of (t ∷ past))
    ≡ share_after account (exact_share account (events_of past)) t.event
plain-more account t past = fold-append (share_after account) no_share (events_of past) (t.event ∷ [])

pub watched-more : (account : ℕ) (t : Timed) (past : List Timed) → watched account (events_of (t ∷ past))
    ≡ watch_after account (watched account (events_of past)) t.event
watched-more account t past = fold-append (watch_after account) no_watch (events_of past) (t.event ∷ [])

pub owns-more : (account : ℕ) (t : Timed) (past : List Timed) → own_events_of account (events_of (t ∷ past))
    ≡ own_events_of account (events_of past) + cond (is_own_of account t.event) 1 0
owns-more account t past = fold-append (λ n e. n + cond (is_own_of account e) 1 0) 0 (events_of past) (t.event ∷ [])

-- ---- nothing is shared past the place of now

event_reaches : (s : State) (e : PoolEvent) → IsUpTo (place_of (words_of s)) (place_of (words_of (after_event s e)))
event_reaches s (event.Own owner put_in out gain left) = inr (refl, omega arith)
event_reaches s (event.Offset debt coll total rise) =
    subst (λ (w : ScaledProduct). IsUpTo (place_of (words_of s)) (place_of w)) (sym (words-snoc s debt coll))
    (list_reaches (words_of s) (offset_now s debt coll ∷ []))

none_risen : (minute : ℕ) (past : List Timed) (q : EpochScale) (b : Bool) → is_place (place_at past) q ≡ false
    → cond b (cond (is_place (place_at past) q) (rise_by minute past) 0) 0 ≡ 0
none_risen minute past q true e = ap (λ c. cond c (rise_by minute past) 0) e
none_risen minute past q false e = refl

pub later_at : (minute : ℕ) (past : List Timed) (q : EpochScale) → IsBefore (place_at past) q → sum_of past q ≡ 0
    → sum_at minute past q ≡ 0
later_at minute past q before none = let idle = none_risen minute past q (is_shared_at minute past)
    (before_not_place (place_at past) q before) in omega (arith, none, idle)

pub later_of : (past : List Timed) (q : EpochScale) → IsBefore (place_at past) q → sum_of past q ≡ 0
later_of [] q h = refl
later_of (t ∷ past) q h =
    let here : IsBefore (place_of (words_of (after_event (state_of past) t.event))) q =
    subst (λ (s : State). IsBefore (place_of (words_of s)) q) (state-more t past) h in
    let before : IsBefore (place_at past) q =
    up_to_before (place_at past) (place_of (words_of (after_event (state_of past) t.event))) q
    (event_reaches (state_of past) t.event) here in
    later_at t.minute past q before (later_of past q before)

-- ---- one denominator

-- the totals of the issues that were shared, multiplied
abbrev pub times_by : ℕ → List Timed → ℕ
times_by minute past = cond (is_shared_at minute past) (total_of past) 1

unfoldable pub times_of : List Timed → ℕ
times_of [] = 1
times_of (t ∷ past) = times_of past * times_by t.minute past

due_scaled : (x : RewardShare) (plain : Share) (times units total : ℕ) (b : Bool) → IsScaled x plain times
    → IsScaled (cond b (with_units units total x) x) plain (times * cond b total 1)
due_scaled x plain times units total true h = record {
  den = (let more : x.share.den * total ≡ plain.den * times * total = ap (λ n. n * total) h.den in omega (arith, more));
  bal = (let more : x.share.bal * total ≡ plain.bal * times * total = ap (λ n. n * total) h.bal in omega (arith, more));
}
due_scaled x plain times units total false h = record { den = omega (arith, h.den); bal = omega (arith, h.bal) }

moved_scaled : (den bal plain_den plain_bal times put_in out : ℕ) → den ≡ plain_den * times → bal ≡ plain_bal * times
    → bal + put_in * den - out * den ≡ (plain_bal + put_in * plain_den - out * plain_den) * times
moved_scaled den bal plain_den plain_bal times put_in out d e =
    let first : put_in * den ≡ put_in * (plain_den * times) = ap (λ n. put_in * n) d in
    let second : out * den ≡ out * (plain_den * times) = ap (λ n. out * n) d in
    let cut : times * (plain_bal + put_in * plain_den - out * plain_den) ≡ times * (plain_bal + put_in * plain_den)
    - times * (out * plain_den) = mul-sub times (plain_bal + put_in * plain_den) (out * plain_den) in
    omega (arith, first, second, cut, e)

event_scaled : (account : ℕ) (e : PoolEvent) (x : RewardShare) (plain : Share) (times : ℕ) → IsScaled x plain times
    → IsScaled (with_event account e x) (share_after account plain e) times
event_scaled account (event.Own owner put_in out gain left) x plain times h = by (owner == account) where
  by : (b : Bool)
      → IsScaled (record x {
        share = cond b (record x.share {
          bal = x.share.bal + put_in * x.share.den
              - out * x.share.den;
        }) x.share;
      }) (cond b (record plain {
        bal = plain.bal + put_in * plain.den
            - out * plain.den;
      }) plain) times
  by true = record {
    den = h.den;
    bal = moved_scaled x.share.den x.share.bal plain.den plain.bal times put_in out
        h.den h.bal;
  }
  by false = record { den = h.den; bal = h.bal }
event_scaled account (event.Offset debt coll total rise) x plain times h = record {
  den = (let more : x.share.den * total ≡ plain.den * times * total = ap (λ n. n * total) h.den in omega (arith, more));
  bal = (let more : x.share.bal * (total - debt) ≡ plain.bal * times * (total - debt) = ap (λ n. n * (total - debt))
      h.bal in omega (arith, more));
}

pub scaled_of : (account : ℕ) (past : List Timed)
    → IsScaled (share_of account past) (exact_share account (events_of past)) (times_of past)
unfolding times_of
scaled_of account [] = record { den = refl; bal = refl }
scaled_of account (t ∷ past) =
    subst (λ (plain : Share). IsScaled (share_of account (t ∷ past)) plain (times_of (t ∷ past)))
    (sym (plain-more account t past))
    (event_scaled account t.event (share_at account t.minute past) (exact_share account (events_of past))
    (times_of past * times_by t.minute past)
    (due_scaled (share_of account past) (exact_share account (events_of past)) (times_of past) (due_at t.minute past)
    (total_of past) (is_shared_at t.minute past) (scaled_of account past)))

pub scaled_at : (account minute : ℕ) (past : List Timed)
    → IsScaled (share_at account minute past) (exact_share account (events_of past))
    (times_of past * times_by minute past)
scaled_at account minute past =
    due_scaled (share_of account past) (exact_share account (events_of past)) (times_of past) (due_at minute past)
    (total_of past) (is_shared_at minute past) (scaled_of account past)

-- ---- lawful lists

pub enough : (minute : ℕ) (past : List Timed) → is_shared_at minute past ≡ true → SHARED_LEAST ≤ total_of past
enough minute past e = by (due_at minute past) (total_of past) e where
  by : (units total : ℕ) → (not (units == 0) && nat_le SHARED_LEAST total) ≡ true → SHARED_LEAST ≤ total
  by units total e = grind (arith, nat_tests, e)

-- a deposit, beside what the events say of its account
pub record HasDeposit (account : ℕ) (past : List Timed) (d : DepositEntry) : Type 0 where
  pub amount : recorded account past ≡ d.amount
  pub some : 1 ≤ d.amount
  pub least : P_LEAST ≤ (mark_of (state_of past) d.mark).p
  pub epoch : (own_place account past).0 ≡ (mark_of (state_of past) d.mark).epoch
  pub scale : (own_place account past).1 ≡ (mark_of (state_of past) d.mark).scale
  pub within : mark_sum account past ≤ sum_of past (
    (mark_of (state_of past) d.mark).epoch,
    (mark_of (state_of past) d.mark).scale + 0,
  )

abbrev pub IsDeposited : ℕ → List Timed → Option DepositEntry → Type 0
IsDeposited account past None = recorded account past ≡ 0
IsDeposited account past (Some d) = HasDeposit account past d

module _ (most : ℕ) (served : most ≤ 10 ^ (9 * RISES_MOST)) (account : ℕ) where
  abbrev whole : (past : List Timed) → IsLawfulUpTo most opening (events_of past)
      → Whole (above_with account (events_of past)) (state_of past) (den_of (events_of past))
      (offsets_coll (events_of past)) (λ a. exact_share a (events_of past)) (λ a. watched a (events_of past))
      (λ a. gains_paid_to a (events_of past))
  whole past lawful = whole_with most served (events_of past) lawful account

  -- what is recorded of the account
  pub amount_is : (past : List Timed) → (watched account (events_of past)).amount ≡ recorded account past
  amount_is [] = refl
  amount_is (t ∷ past) = ap (λ (w : Watch). w.amount) (watched-more account t past)
      ∙ by t.event (watched account (events_of past)) (amount_is past) where
        either : (b : Bool) (w : Watch) (left now : ℕ) → w.amount ≡ now
            → (cond b (record w { amount = left; place = place_of w.now; own_events = w.own_events + 1 }) w).amount
            ≡ cond b left now
        either true w left now h = refl
        either false w left now h = h

        by : (e : PoolEvent) (w : Watch) → w.amount ≡ recorded account past → (watch_after account w e).amount
            ≡ cond (is_own_of account e) (amount_left e) (recorded account past)
        by (event.Own owner put_in out gain left) w h = either (owner == account) w left (recorded account past) h
        by (event.Offset debt coll total rise) w h = h

  pub place_is : (past : List Timed) → IsLawfulUpTo most opening (events_of past)
      → (watched account (events_of past)).place ≡ own_place account past
  place_is [] lawful = refl
  place_is (t ∷ past) lawful =
      let before = lawful_first most opening (events_of past) (t.event ∷ []) lawful in
      ap (λ (w : Watch). w.place) (watched-more account t past) ∙ by t.event (watched account (events_of past))
      (place_is past before) (ap place_of ((whole past before).now account)) where
        either : (b : Bool) (w : Watch) (left : ℕ) (here then : EpochScale) → place_of w.now ≡ here → w.place ≡ then
            → (cond b (record w { amount = left; place = place_of w.now; own_events = w.own_events + 1 }) w).place
            ≡ cond b here then
        either true w left here then k h = k
        either false w left here then k h = h

        by : (e : PoolEvent) (w : Watch) → w.place ≡ own_place account past → place_of w.now ≡ place_at past
            → (watch_after account w e).place ≡ cond (is_own_of account e) (place_at past) (own_place account past)
        by (event.Own owner put_in out gain left) w h k = either (owner == account) w left (place_at past)
            (own_place account past) k h
        by (event.Offset debt coll total rise) w h k = h

  -- what holds before what is due is shared, and then
  EarnsOf : List Timed → Type 0
  EarnsOf past = EarnsBy (state_of past) (own_events_of account (events_of past)) (share_of account past)
      (earned_of account past) (withheld_of account past) (costs_of account past) (mark_sum account past) (sum_of past)
      (at (state_of past).deposits account)

  EarnsAt : ℕ → List Timed → Type 0
  EarnsAt minute past = EarnsBy (state_of past) (own_events_of account (events_of past)) (share_at account minute past)
      (earned_of account past) (withheld_at account minute past) (costs_at account minute past) (mark_sum account past)
      (sum_at minute past) (at (state_of past).deposits account)

  due_earns : (minute : ℕ) (past : List Timed) → IsLawfulUpTo most opening (events_of past) → EarnsOf past
      → EarnsAt minute past
  unfolding EarnsOf EarnsAt
  due_earns minute past lawful h = by (is_shared_at minute past) refl where
    by : (b : Bool) → is_shared_at minute past ≡ b
        → EarnsBy (state_of past) (own_events_of account (events_of past)) (cond b (with_units (due_at minute past)
        (total_of past) (share_of account past)) (share_of account past)) (earned_of account past)
        (withheld_of account past + cond b (ceiling_of (due_at minute past) (balance_allowance account (events_of past))
        (total_of past)) 0)
        (costs_of account past + cond b (cost_of (recorded account past) (own_place account past) (place_at past)) 0)
        (mark_sum account past)
        (λ q. sum_of past q + cond b (cond (is_place (place_at past) q) (rise_by minute past) 0) 0)
        (at (state_of past).deposits account)
    by false e =
        earns_alike (state_of past) (own_events_of account (events_of past)) (share_of account past)
        (earned_of account past) (withheld_of account past) (withheld_of account past + 0) (costs_of account past)
        (costs_of account past + 0) (mark_sum account past)
        (λ q. sum_of past q + 0) (sum_of past) (at (state_of past).deposits account) (omega arith) (omega arith)
        (λ q. omega arith) h
    by true e =
        let s = state_of past in
        let plain = exact_share account (events_of past) in
        let w = watched account (events_of past) in
        let got = gains_paid_to account (events_of past) in
        let all = whole past lawful in
        let bare : balance_of s account ≡ bare_balance s (at s.deposits account) =
        balance_bare (above_with account (events_of past)) s (den_of (events_of past)) (offsets_coll (events_of past))
        (λ a. exact_share a (events_of past)) (λ a. watched a (events_of past)) (λ a. gains_paid_to a
        (events_of past)) all account (under_with account (events_of past)) in
        let more = balance_allowance account (events_of past) in
        let short : plain.bal ≤ (bare_balance s (at s.deposits account) + more) * plain.den =
        subst (λ b. plain.bal ≤ (b + more) * plain.den) bare (balance_at_least most served (events_of past) lawful
        account) in
        let cost_is : cost_of w.amount w.place (place_at past) ≡ cost_of (recorded account past)
        (own_place account past) (place_at past) =
        ap (λ a. cost_of a w.place (place_at past)) (amount_is past)
        ∙ ap (λ (q : EpochScale). cost_of (recorded account past) q (place_at past)) (place_is past lawful) in
        let least = enough minute past e in
        earns_alike s (own_events_of account (events_of past)) (with_units (due_at minute past) (total_of past)
        (share_of account past)) (earned_of account past)
        (withheld_of account past + ceiling_of (due_at minute past) more (total_of past)) _ (costs_of account past
        + cost_of w.amount w.place (place_at past)) _ (mark_sum account past) _ _ (at s.deposits account) refl
        (ap (λ c. costs_of account past + c) cost_is) (λ q. refl)
        (shared_earns s plain w got (own_events_of account (events_of past)) (share_of account past) (times_of past)
        (scaled_of account past) (earned_of account past) (withheld_of account past) (costs_of account past)
        (mark_sum account past) (due_at minute past) (total_of past) more
        (omega (arith, least)) (λ q. sum_of past q + cond (is_place (place_at past) q) (rise_by minute past) 0)
        (sum_of past) (λ q. refl) (at s.deposits account) (all.each account) short h)

  event_earns : (t : Timed) (past : List Timed) → IsLawfulUpTo most opening (events_of (t ∷ past))
      → EarnsAt t.minute past → EarnsOf (t ∷ past)
  unfolding EarnsOf EarnsAt
  event_earns t past lawful h =
      subst (λ (s : State). EarnsBy s (own_events_of account (events_of (t ∷ past))) (share_of account (t ∷ past))
      (earned_of account (t ∷ past)) (withheld_of account (t ∷ past)) (costs_of account (t ∷ past))
      (mark_sum account (t ∷ past)) (sum_of (t ∷ past)) (at s.deposits account)) (sym (state-more t past))
      (subst (λ n. EarnsBy (after_event (state_of past) t.event) n (share_of account (t ∷ past)) (earned_of account (t
      ∷ past)) (withheld_of account (t ∷ past)) (costs_of account (t ∷ past)) (mark_sum account (t ∷ past))
      (sum_of (t ∷ past)) (at (after_event (state_of past) t.event).deposits account))
      (sym (owns-more account t past))
      (by t.event (share_at account t.minute past) h)) where
        before : IsLawfulUpTo most opening (events_of past)
        before = lawful_first most opening (events_of past) (t.event ∷ []) lawful

        s : State
        s = state_of past

        stands : StandsBy (state_of past) (exact_share account (events_of past)) (watched account (events_of past))
            (gains_paid_to account (events_of past)) (at (state_of past).deposits account)
        stands = (whole past before).each account

        read_is : (o : Option DepositEntry) → read_of (state_of past) (mark_sum account past) (sum_at t.minute past) o
            ≡ reading account t.minute past o
        read_is None = refl
        read_is (Some d) = refl

        by : (e : PoolEvent) (x : RewardShare)
            → EarnsBy (state_of past) (own_events_of account (events_of past)) x (earned_of account past)
            (withheld_at account t.minute past) (costs_at account t.minute past) (mark_sum account past)
            (sum_at t.minute past) (at (state_of past).deposits account)
            → EarnsBy (after_event (state_of past) e) (own_events_of account (events_of past)
            + cond (is_own_of account e) 1 0) (with_event account e x)
            (cond (is_own_of account e) (earned_of account past + reading account t.minute past
            (at (state_of past).deposits account)) (earned_of account past)) (withheld_at account t.minute past)
            (costs_at account t.minute past)
            (cond (is_own_of account e) (sum_at t.minute past (place_at past)) (mark_sum account past))
            (sum_at t.minute past) (at (after_event (state_of past) e).deposits account)
        by (event.Offset debt coll total rise) x k =
            subst (λ n. EarnsBy (offset (state_of past) debt coll) n (with_event account
            (event.Offset debt coll total rise) x) (earned_of account past) (withheld_at account t.minute past)
            (costs_at account t.minute past) (mark_sum account past) (sum_at t.minute past)
            (at (state_of past).deposits account)) (plus_none (own_events_of account (events_of past)))
            (offset_earns (state_of past) account debt coll total rise (own_events_of account (events_of past)) x
            (earned_of account past) (withheld_at account t.minute past) (costs_at account t.minute past)
            (mark_sum account past) (sum_at t.minute past)
            (exact_share account (events_of past)) (watched account (events_of past)) (gains_paid_to account
            (events_of past)) (at (state_of past).deposits account) stands k)
          where
            plus_none : (n : ℕ) → n ≡ n + 0
            plus_none n = omega arith
        by (event.Own owner put_in out gain left) x k = own (owner == account) refl where
          plus_none : (n : ℕ) → n ≡ n + 0
          plus_none n = omega arith

          own : (b : Bool) → (owner == account) ≡ b
              → EarnsBy (owned (state_of past) owner put_in out) (own_events_of account (events_of past) + cond b 1 0)
              (record x {
                share = cond b (record x.share {
                  bal = x.share.bal + put_in * x.share.den
                      - out * x.share.den;
                }) x.share;
              })
              (cond b (earned_of account past + reading account t.minute past (at (state_of past).deposits account))
              (earned_of account past)) (withheld_at account t.minute past) (costs_at account t.minute past)
              (cond b (sum_at t.minute past (place_at past)) (mark_sum account past)) (sum_at t.minute past)
              (at (owned (state_of past) owner put_in out).deposits account)
          own false e =
              let there : at (owned (state_of past) owner put_in out).deposits account
              ≡ at (state_of past).deposits account =
              deposit_other (state_of past).deposits owner (record {
                amount = amount_after (state_of past) owner put_in
                    out;
                mark = After (length (state_of past).offsets);
              }) account e in
              subst (λ (o : Option DepositEntry). EarnsBy (owned (state_of past) owner put_in out)
              (own_events_of account (events_of past) + 0) x (earned_of account past)
              (withheld_at account t.minute past) (costs_at account t.minute past) (mark_sum account past)
              (sum_at t.minute past) o) (sym there)
              (subst (λ n. EarnsBy (owned (state_of past) owner put_in out) n x (earned_of account past)
              (withheld_at account t.minute past) (costs_at account t.minute past) (mark_sum account past)
              (sum_at t.minute past) (at (state_of past).deposits account))
              (plus_none (own_events_of account (events_of past)))
              (other_earns (state_of past) owner put_in out (own_events_of account (events_of past)) x
              (earned_of account past) (withheld_at account t.minute past) (costs_at account t.minute past)
              (mark_sum account past) (sum_at t.minute past) (at (state_of past).deposits account) k))
          own true e =
              let same : owner ≡ account = grind (arith, nat_tests, e) in
              let read = reads_earned (state_of past) (own_events_of account (events_of past)) x
              (earned_of account past) (withheld_at account t.minute past) (costs_at account t.minute past)
              (mark_sum account past) (sum_at t.minute past)
              (exact_share account (events_of past)) (watched account (events_of past)) (gains_paid_to account
              (events_of past)) (at (state_of past).deposits account) stands k in
              let earns : EarnsNothing x.share.den x.rew (earned_of account past + reading account t.minute past
              (at (state_of past).deposits account)) (withheld_at account t.minute past)
              (costs_at account t.minute past) (own_events_of account (events_of past)) =
              subst (λ n. EarnsNothing x.share.den x.rew (earned_of account past + n)
              (withheld_at account t.minute past) (costs_at account t.minute past) (own_events_of account
              (events_of past))) (read_is (at (state_of past).deposits account)) read in
              subst (λ q. EarnsBy (owned (state_of past) q put_in out) (own_events_of account (events_of past) + 1)
              (record x { share = record x.share { bal = x.share.bal + put_in * x.share.den - out * x.share.den } })
              (earned_of account past + reading account t.minute past (at (state_of past).deposits account))
              (withheld_at account t.minute past) (costs_at account t.minute past)
              (sum_at t.minute past (place_at past)) (sum_at t.minute past)
              (at (owned (state_of past) q put_in out).deposits account)) (sym same)
              (own_earns (state_of past) (whole past before).pool.ascends account put_in out (own_events_of account
              (events_of past)) x (earned_of account past + reading account t.minute past
              (at (state_of past).deposits account)) (withheld_at account t.minute past)
              (costs_at account t.minute past) (sum_at t.minute past)
              (λ q b. later_at t.minute past q b (later_of past q b)) earns)

  earns_of : (past : List Timed) → IsLawfulUpTo most opening (events_of past) → EarnsOf past
  unfolding EarnsOf
  earns_of [] lawful = record { upper = omega arith; lower = omega arith }
  earns_of (t ∷ past) lawful =
      let before = lawful_first most opening (events_of past) (t.event ∷ []) lawful in
      event_earns t past lawful (due_earns t.minute past before (earns_of past before))

  -- what is read of it
  read_at : (minute : ℕ) (past : List Timed) → IsLawfulUpTo most opening (events_of past)
      → EarnsNothing (share_at account minute past).share.den (share_at account minute past).rew
      (reward_at account minute past) (withheld_at account minute past) (costs_at account minute past)
      (own_events_of account (events_of past))
  unfolding EarnsAt
  read_at minute past lawful =
      let read = reads_earned (state_of past) (own_events_of account (events_of past)) (share_at account minute past)
      (earned_of account past) (withheld_at account minute past) (costs_at account minute past)
      (mark_sum account past) (sum_at minute past)
      (exact_share account (events_of past)) (watched account (events_of past)) (gains_paid_to account (events_of past))
      (at (state_of past).deposits account) ((whole past lawful).each account) (due_earns minute past lawful
      (earns_of past lawful)) in
      subst (λ n. EarnsNothing (share_at account minute past).share.den (share_at account minute past).rew
      (earned_of account past + n) (withheld_at account minute past) (costs_at account minute past)
      (own_events_of account (events_of past))) (read_is (at (state_of past).deposits account)) read where
        read_is : (o : Option DepositEntry) → read_of (state_of past) (mark_sum account past) (sum_at minute past) o
            ≡ reading account minute past o
        read_is None = refl
        read_is (Some d) = refl

  -- the cost in whole units; then cancel n
  allowed : (reward den rew held cost whole_cost events n : ℕ) → cost ≤ whole_cost * n
      → rew * n ≤ (reward * n + (held * n + cost + 4 * (n * events))) * den
      → rew * n ≤ (reward + (held + whole_cost + 4 * events)) * den * n
  allowed reward den rew held cost whole_cost events n up h =
      let first : cost * den ≤ whole_cost * n * den = mul-le-mul_right den up in
      omega arith

  pub within_allowance : (minute : ℕ) (past : List Timed) → IsLawfulUpTo most opening (events_of past)
      → IsWithinAllowance account minute past (reward_at account minute past) (allowance_at account minute past)
  within_allowance minute past lawful =
      let x = share_at account minute past in
      let read = read_at minute past lawful in
      let cost = costs_at account minute past in
      let up : cost * 1 ≤ ceiling_of cost 1 (10 ^ 9) * 10 ^ 9 = (div_ceil_times (cost * 1) (10 ^ 9) (omega arith)).0 in
      record {
        at_most = read.upper;
        at_least = le_of_mul-le-mul_right {k = 10 ^ 9}
            (allowed (reward_at account minute past) x.share.den x.rew (withheld_at account minute past) cost
            (ceiling_of cost 1 (10 ^ 9)) (own_events_of account (events_of past)) (10 ^ 9) (omega (
              arith,
              up,
            )) read.lower) (omega arith);
      }

  -- what is known of its deposit, if it has one
  pub deposited : (past : List Timed) → IsLawfulUpTo most opening (events_of past)
      → IsDeposited account past (at (state_of past).deposits account)
  unfolding EarnsOf
  deposited past lawful = by (at (state_of past).deposits account) ((whole past lawful).each account)
      (earns_of past lawful) where
        by : (o : Option DepositEntry) → StandsBy (state_of past) (exact_share account (events_of past))
            (watched account (events_of past)) (gains_paid_to account (events_of past)) o
            → EarnsBy (state_of past) (own_events_of account (events_of past)) (share_of account past)
            (earned_of account past) (withheld_of account past) (costs_of account past) (mark_sum account past)
            (sum_of past) o
            → IsDeposited account past o
        by None stands earns = sym (amount_is past) ∙ stands.0
        by (Some d) stands earns =
            let m = stands.1.1 in
            let place = place_is past lawful in
            record {
              amount = sym (amount_is past) ∙ m.amount_is;
              some = m.some;
              least = m.least_p;
              epoch = sym (ap (λ (q : EpochScale). q.0) place) ∙ m.epoch_is;
              scale = sym (ap (λ (q : EpochScale). q.1) place) ∙ m.scale_is;
              within = earns.1.within;
            }
