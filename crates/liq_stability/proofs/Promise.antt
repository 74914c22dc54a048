-- Lawful lists from the opening: what every account has beside its exact share, and what all accounts have together.
use Rattle.std.proofs.Common.{◌≡◌, ℕ, ◌+◌, ◌-◌, ◌*◌, ◌^◌, ◌≤◌, ◌<◌, Bool, true, false, cond, List, refl, ap, sym, ◌∙◌, subst, arith, inl, inr, Some}
use Rattle.std.specs.Prelude.{sum, map}
use Rattle.std.specs.Map.{keys_of}
use Rattle.std.specs.List.Sorted.{IsStrictlySortedBy}
use Rattle.std.proofs.Math.Nat.{le_of_mul-le-mul_right}
use Rattle.std.proofs.lemmas.Grind.{div_ceil_times}
use Rattle.liq_num.specs.Quotient.{ceiling_of}
use Rattle.liq_types.specs.declared.amounts.TheConstants.{OFFSET_MOST, P_OPENING, RISES_MOST}
use Rattle.liq_types.specs.declared.events.PoolEvent.{PoolEvent}
use Rattle.liq_types.specs.Allowance.{weight_of, balance_allowance, gain_allowance}
use Rattle.liq_types.specs.PlainLedger.{no_share, exact_share, den_of, offsets_coll, gains_paid_to, own_events_of, AreOwnedBelow, over_accounts}
use Rattle.liq_types.specs.Product.{is_place}
use Rattle.liq_types.specs.State.{DepositEntry, opening}
use Rattle.liq_types.specs.Tables.{EpochScale, at}
use Rattle.liq_types.specs.Totals.{pool_total, pool_coll}
use Rattle.liq_types.proofs.Accounts.{over-none, above_with, owned_with, under_with}
use Rattle.liq_types.proofs.Watching.{no_watch, watched, weight_is, own_events_are}
use Rattle.liq_types.proofs.Rounding.{balance_law, gain_law}
use Rattle.liq_stability.specs.Lawful.{IsLawfulUpTo}
use Rattle.liq_stability.specs.Own.{after_events}
use Rattle.liq_stability.specs.Position.{mark_of, balance_by, gain_by, sums_from, balance_of, gain_of}
use Rattle.liq_stability.specs.Promise.{IsWithinAllowance, gained_of}
use Rattle.liq_stability.specs.Words.{words_of, pool_words}
use Rattle.liq_stability.specs.Worth.{base_of, worth_of}
use Rattle.liq_stability.proofs.Holding.{IsRead}
use Rattle.liq_stability.proofs.Reading.{worth-live, worth-past}
use Rattle.liq_stability.proofs.Standing.{StandsBy, bare_balance, bare_gain}
use Rattle.liq_stability.proofs.Whole.{PoolStands, Whole, after_all, read, balance_bare, gain_bare, dust_balances, dust_gains}

-- ---- the opening

nothing_at : (q : EpochScale) (b : Bool) → cond b 0 0 + 0 ≤ OFFSET_MOST * P_OPENING
nothing_at q true = omega arith
nothing_at q false = omega arith

opening_pool : PoolStands opening
unfolding IsStrictlySortedBy
opening_pool = record {
  finished = tt;
  covered = (omega arith, omega arith);
  ascends = tt;
  range = record { least = omega arith; most = omega arith };
  sums = record { now = omega arith; all = λ q. nothing_at q (is_place (0, 0) q) };
}

opening_whole : (n : ℕ) → Whole n opening 1 0 (λ a. no_share) (λ a. no_watch) (λ a. 0)
opening_whole n = record {
  pool = opening_pool;
  owners = tt;
  now = λ a. refl;
  dens = λ a. refl;
  some = omega arith;
  each = λ a. (refl, record { upper = omega arith; balance = omega arith; gain = omega arith });
  balances = over-none n;
  gains = over-none n;
  paid = over-none n;
  colls_are = refl;
}

-- ---- lawful lists

module _ (most : ℕ) (served : most ≤ 10 ^ (9 * RISES_MOST)) (events : List PoolEvent)
    (lawful : IsLawfulUpTo most opening events) where
  pub whole : (n : ℕ) → AreOwnedBelow n events → Whole n (after_events events) (den_of events) (offsets_coll events)
      (λ a. exact_share a events) (λ a. watched a events) (λ a. gains_paid_to a events)
  whole n below = after_all most served n opening 1 0 (λ a. no_share) (λ a. no_watch) (λ a. 0) events below lawful
      (opening_whole n)

  pub whole_with : (account : ℕ) → Whole (above_with account events) (after_events events) (den_of events)
      (offsets_coll events) (λ a. exact_share a events) (λ a. watched a events) (λ a. gains_paid_to a events)
  whole_with account = whole (above_with account events) (owned_with account events)

  reads_of : (account : ℕ) → IsRead (exact_share account events) (watched account events).weight
      (watched account events).own_events (balance_of (after_events events) account) (gains_paid_to account events
      + gain_of (after_events events) account)
  reads_of account =
      read (above_with account events) (after_events events) (den_of events) (offsets_coll events)
      (λ a. exact_share a events) (λ a. watched a events) (λ a. gains_paid_to a events) (whole_with account) account
      (under_with account events)

  turned : (account : ℕ) → gains_paid_to account events + gain_of (after_events events) account
      ≡ gained_of (after_events events) account events
  turned account = plus (gains_paid_to account events) (gain_of (after_events events) account) where
    plus : (x y : ℕ) → x + y ≡ y + x
    plus x y = omega arith

  reads_turned : (account : ℕ) → IsRead (exact_share account events) (weight_of account events)
      (own_events_of account events) (balance_of (after_events events) account)
      (gained_of (after_events events) account events)
  reads_turned account =
      subst (λ m. IsRead (exact_share account events) (weight_of account events) m
      (balance_of (after_events events) account) (gained_of (after_events events) account events))
      (own_events_are account events)
      (subst (λ w. IsRead (exact_share account events) w (watched account events).own_events
      (balance_of (after_events events) account) (gained_of (after_events events) account events))
      (weight_is account events)
      (subst (λ g. IsRead (exact_share account events) (watched account events).weight
      (watched account events).own_events (balance_of (after_events events) account) g) (turned account)
      (reads_of account)))

  pub balance_at_most : (account : ℕ) → balance_of (after_events events) account * (exact_share account events).den
      ≤ (exact_share account events).bal
  balance_at_most account = (reads_turned account).upper_balance

  pub gain_at_most : (account : ℕ) → gained_of (after_events events) account events * (exact_share account events).den
      ≤ (exact_share account events).gain
  gain_at_most account = (reads_turned account).upper_gain

  pub balance_at_least : (account : ℕ) → (exact_share account events).bal
      ≤ (balance_of (after_events events) account + balance_allowance account events) * (exact_share account events).den
  balance_at_least account =
      let weight = weight_of account events in
      let share = exact_share account events in
      let up : weight * 1 ≤ ceiling_of weight 1 (10 ^ 9) * 10 ^ 9 =
      (div_ceil_times (weight * 1) (10 ^ 9) (omega arith)).0 in
      le_of_mul-le-mul_right {k = 10 ^ 9}
      (balance_law (balance_of (after_events events) account) share.den share.bal (10 ^ 9) weight (ceiling_of weight 1
      (10 ^ 9)) (own_events_of account events) (omega (arith, up)) (reads_turned account).balance)
      (omega arith)

  pub gain_at_least : (account : ℕ) → (exact_share account events).gain
      ≤ (gained_of (after_events events) account events + gain_allowance account events)
      * (exact_share account events).den
  gain_at_least account =
      let weight = weight_of account events in
      let share = exact_share account events in
      let up : 12 * weight ≤ ceiling_of 12 weight (10 ^ 9) * 10 ^ 9 =
      (div_ceil_times (12 * weight) (10 ^ 9) (omega arith)).0 in
      le_of_mul-le-mul_right {k = 10 ^ 9}
      (gain_law (balance_of (after_events events) account) (gained_of (after_events events) account events) share.den
      share.gain share.bal (10 ^ 9) weight (ceiling_of 12 weight (10 ^ 9)) (own_events_of account events) up
      (reads_turned account).upper_balance (reads_turned account).gain)
      (omega arith)

  pub within_allowance : (account : ℕ) → IsWithinAllowance (after_events events) account events
  within_allowance account = record {
    balance_at_most = balance_at_most account;
    gain_at_most = gain_at_most account;
    balance_at_least = balance_at_least account;
    gain_at_least = gain_at_least account;
  }

  -- before anything is rounded
  pub unrounded : (account : ℕ) (d : DepositEntry) → at (after_events events).deposits account ≡ Some d
      → d.amount * worth_of (mark_of (after_events events) d.mark) (words_of (after_events events))
      * (exact_share account events).den ≤ (exact_share account events).bal * base_of
      (mark_of (after_events events) d.mark)
  unrounded account d is =
      let s = after_events events in
      let mark = mark_of s d.mark in
      let share = exact_share account events in
      let stands : StandsBy s share (watched account events) (gains_paid_to account events) (Some d) =
      subst (StandsBy s share (watched account events) (gains_paid_to account events)) is
      ((whole_with account).each account) in
      elim stands.1.2 [
        | inl k ↦ subst (λ v. d.amount * v * share.den ≤ share.bal * base_of mark)
            (sym (worth-live (words_of s) mark k.0 k.1.live)) k.1.holds.worth
        | inr k ↦ subst (λ v. d.amount * v * share.den ≤ share.bal * base_of mark)
            (sym (worth-past (words_of s) mark k.past)) (omega arith)
      ]

  -- the caps never act
  pub balance_uncapped : (account : ℕ) (d : DepositEntry) → at (after_events events).deposits account ≡ Some d
      → balance_of (after_events events) account ≡ balance_by d.amount (mark_of (after_events events) d.mark)
      (words_of (after_events events))
  balance_uncapped account d is =
      balance_bare (above_with account events) (after_events events) (den_of events) (offsets_coll events)
      (λ a. exact_share a events) (λ a. watched a events) (λ a. gains_paid_to a events) (whole_with account) account
      (under_with account events)
      ∙ ap (bare_balance (after_events events)) is

  pub gain_uncapped : (account : ℕ) (d : DepositEntry) → at (after_events events).deposits account ≡ Some d
      → gain_of (after_events events) account ≡ gain_by d.amount (mark_of (after_events events) d.mark)
      (sums_from (after_events events) (mark_of (after_events events) d.mark))
  gain_uncapped account d is =
      gain_bare (above_with account events) (after_events events) (den_of events) (offsets_coll events)
      (λ a. exact_share a events) (λ a. watched a events) (λ a. gains_paid_to a events) (whole_with account) account
      (under_with account events)
      ∙ ap (bare_gain (after_events events)) is

  -- ---- all accounts

  pub all_balances_are : (n : ℕ) → AreOwnedBelow n events → over_accounts n (λ a. (exact_share a events).bal)
      ≡ pool_total (after_events events) * den_of events
  all_balances_are n below = (whole n below).balances

  pub all_gains_are : (n : ℕ) → AreOwnedBelow n events → over_accounts n (λ a. (exact_share a events).gain)
      ≡ offsets_coll events * den_of events
  all_gains_are n below = (whole n below).gains

  pub all_paid_are : (n : ℕ) → AreOwnedBelow n events
      → pool_coll (after_events events) + over_accounts n (λ a. gains_paid_to a events) ≡ offsets_coll events
  all_paid_are n below = let h = whole n below in omega (arith, h.paid, h.colls_are)

  pub one_den : (account : ℕ) → ((exact_share account events).den ≡ den_of events) × (0 < den_of events)
  one_den account = let h = whole_with account in (h.dens account, h.some)

  pub balances_held : sum (map (balance_of (after_events events)) (keys_of (after_events events).deposits))
      ≤ pool_total (after_events events)
  balances_held = dust_balances (above_with 0 events) (after_events events) (den_of events) (offsets_coll events)
      (λ a. exact_share a events) (λ a. watched a events) (λ a. gains_paid_to a events) (whole_with 0)

  pub gains_held : sum (map (gain_of (after_events events)) (keys_of (after_events events).deposits))
      ≤ pool_coll (after_events events)
  gains_held = dust_gains (above_with 0 events) (after_events events) (den_of events) (offsets_coll events)
      (λ a. exact_share a events) (λ a. watched a events) (λ a. gains_paid_to a events) (whole_with 0)

  -- ---- the pool

  pub pool_stands : PoolStands (after_events events)
  pool_stands = (whole_with 0).pool

  pub sum_beside : (pool_words (after_events events)).sum
      ≤ OFFSET_MOST * (P_OPENING - (pool_words (after_events events)).p)
  sum_beside = let h = pool_stands in omega (arith, h.sums.now, h.range.most)
