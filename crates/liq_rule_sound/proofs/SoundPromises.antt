-- What is promised of every state that is reached: depositors' shares, what is pending, dust and bounds.
use Rattle.std.proofs.Common.{◌≡◌, ℕ, ◌+◌, ◌*◌, ◌≤◌, List, ap, sym, ◌∙◌, subst, arith}
use Rattle.std.specs.Prelude.{Some, pos, ◌-ℤ◌, ◌≤ℤ◌, map, sum, sum_by}
use Rattle.std.specs.Map.{keys_of, values_of}
use Rattle.std.proofs.lemmas.Int.{ints}
use Rattle.liq_types.specs.declared.amounts.TheConstants.{ACCOUNTS, LIM}
use Rattle.liq_types.specs.declared.events.PoolEvent.{PoolEvent}
use Rattle.liq_types.specs.declared.figures.Trove.{Trove}
use Rattle.liq_types.specs.declared.requests.Request.{Request}
use Rattle.liq_types.specs.Allowance.{balance_allowance, gain_allowance}
use Rattle.liq_types.specs.declared.image.Image.{Image}
use Rattle.liq_types.specs.PlainLedger.{AreOwnedBelow, exact_share, den_of, offsets_coll, gains_paid_to, over_accounts}
use Rattle.liq_types.specs.Image.{IsLimit}
use Rattle.liq_types.specs.State.{State, DepositEntry, opening, opening_with}
use Rattle.liq_types.specs.Tables.{at}
use Rattle.liq_types.specs.Totals.{pool_total, pool_coll}
use Rattle.liq_types.specs.WellFormed.{IsWellFormed}
use Rattle.liq_types.proofs.MapRows.{map-sum}
use Rattle.liq_troves.specs.Rows.{pending}
use Rattle.liq_troves.specs.Standing.{books_of}
use Rattle.liq_troves.specs.StakeSums.{trove_row, pending_coll, pending_debt}
use Rattle.liq_troves.proofs.Standing.{pending_covered}
use Rattle.liq_stability.specs.Lawful.{IsLawful}
use Rattle.liq_stability.specs.Own.{after_events, pool_of}
use Rattle.liq_stability.specs.Position.{balance_of, gain_of}
use Rattle.liq_stability.specs.Promise.{IsWithinAllowance}
use Rattle.liq_stability.proofs.Promise.{within_allowance, all_balances_are, all_gains_are, all_paid_are, balance_uncapped, gain_uncapped, balances_held, gains_held}
use Rattle.liq_rule_step.specs.Dust.{IsCovered, dust}
use Rattle.liq_rule_step.specs.Events.{events}
use Rattle.liq_rule_step.specs.Image.{image}
use Rattle.liq_rule_sound.specs.Exact.{IsExactPool, IsUncapped}
use Rattle.liq_rule_sound.specs.SoundState.{IsSoundState}
use Rattle.liq_rule_step.specs.Step.{accepted, run}
use Rattle.liq_rule_step.proofs.Alike.{balance_row, gain_row, balance-image, gain-image}
use Rattle.liq_rule_sound.proofs.SoundEvents.{run_follows}
use Rattle.liq_rule_sound.proofs.SoundLimits.{under, under-events, lawful_from_under}
use Rattle.liq_rule_sound.proofs.SoundStart.{opening_sound}
use Rattle.liq_rule_sound.proofs.SoundStep.{run_sound}
use Rattle.liq_rule_sound.proofs.SoundTests.{sound_facts}

-- ---- what a run from the opening does to the pool

-- its events are as lawful under the greater limit, and the pool is what they leave of it but for the limit
pub record Reaches (limit : ℕ) (t : State) (es : List PoolEvent) : Type 0 where
  pub lawful : IsLawful opening es
  pub pool : pool_of t ≡ pool_of (under limit (after_events es))
  pub owners : AreOwnedBelow ACCOUNTS es

pub reached_pool : (limit : ℕ) → IsLimit limit → (requests : List Request)
    → Reaches limit (run (opening_with limit) requests).0 (events (opening_with limit)
    (accepted (opening_with limit) requests))
reached_pool limit known requests =
    let h = run_follows requests (opening_with limit) (opening_sound limit known) in
    let es = events (opening_with limit) (accepted (opening_with limit) requests) in
    record {
      lawful = lawful_from_under LIM limit es opening h.lawful;
      pool = h.pool ∙ ap pool_of (under-events limit es opening);
      owners = h.owners;
    }

-- ---- the shares of depositors

-- what is read of a depositor rests on balance and gain alone
allowance_same : (s t : State) (account : ℕ) (es : List PoolEvent) → balance_of s account ≡ balance_of t account
    → gain_of s account ≡ gain_of t account → IsWithinAllowance s account es → IsWithinAllowance t account es
allowance_same s t account es b g h =
    let share = exact_share account es in
    let den = share.den in
    record {
      balance_at_most = subst (λ n. n * share.den ≤ share.bal) b h.balance_at_most;
      gain_at_most = subst (λ n. (n + gains_paid_to account es) * share.den ≤ share.gain) g h.gain_at_most;
      balance_at_least = subst (λ n. share.bal ≤ (n + balance_allowance account es) * share.den) b h.balance_at_least;
      gain_at_least = subst (λ n. share.gain ≤ (n + gains_paid_to account es + gain_allowance account es) * share.den) g
          h.gain_at_least;
    }

balance_pool : (s t : State) (account : ℕ) → pool_of s ≡ pool_of t → balance_of s account ≡ balance_of t account
balance_pool s t account e = ap (λ (q : State). balance_of q account) e

gain_pool : (s t : State) (account : ℕ) → pool_of s ≡ pool_of t → gain_of s account ≡ gain_of t account
gain_pool s t account e = ap (λ (q : State). gain_of q account) e

pub reached_shares : (limit : ℕ) → IsLimit limit → (requests : List Request) (account : ℕ)
    → IsWithinAllowance (run (opening_with limit) requests).0 account (events (opening_with limit)
    (accepted (opening_with limit) requests))
reached_shares limit known requests account =
    let h = reached_pool limit known requests in
    let es = events (opening_with limit) (accepted (opening_with limit) requests) in
    allowance_same (after_events es) (run (opening_with limit) requests).0 account es
    (balance_pool (under limit (after_events es)) (run (opening_with limit) requests).0 account (sym h.pool))
    (gain_pool (under limit (after_events es)) (run (opening_with limit) requests).0 account (sym h.pool))
    (within_allowance LIM (omega arith) es h.lawful account)

pub same_shares : (limit : ℕ) → IsLimit limit → (requests : List Request) (s : State) → IsWellFormed s
    → image s ≡ image (run (opening_with limit) requests).0 → (account : ℕ)
    → IsWithinAllowance s account (events (opening_with limit) (accepted (opening_with limit) requests))
same_shares limit known requests s f e account =
    let t = (run (opening_with limit) requests).0 in
    let formed = (run_sound requests (opening_with limit) (opening_sound limit known)).formed in
    let balance = balance-image t account ∙ ap (λ (i : Image). balance_row i (at i.deposits account)) (sym e)
    ∙ sym (balance-image s account) in
    let gain = gain-image t formed account ∙ ap (λ (i : Image). gain_row i (at i.deposits account)) (sym e)
    ∙ sym (gain-image s f account) in
    allowance_same t s account (events (opening_with limit) (accepted (opening_with limit) requests)) balance gain
    (reached_shares limit known requests account)

-- ---- the pool and the plain ledger

reached_balances : (limit : ℕ) → IsLimit limit → (requests : List Request)
    → over_accounts ACCOUNTS (λ account. (exact_share account (events (opening_with limit)
    (accepted (opening_with limit) requests))).bal) ≡ pool_total (run (opening_with limit) requests).0 * den_of
    (events (opening_with limit) (accepted (opening_with limit) requests))
reached_balances limit known requests =
    let h = reached_pool limit known requests in
    let es = events (opening_with limit) (accepted (opening_with limit) requests) in
    subst (λ (q : State). over_accounts ACCOUNTS (λ account. (exact_share account es).bal) ≡ pool_total q * den_of es)
    (sym h.pool) (all_balances_are LIM (omega arith) es h.lawful ACCOUNTS h.owners)

reached_gains : (limit : ℕ) → IsLimit limit → (requests : List Request)
    → over_accounts ACCOUNTS (λ account. (exact_share account (events (opening_with limit)
    (accepted (opening_with limit) requests))).gain)
    ≡ offsets_coll (events (opening_with limit) (accepted (opening_with limit) requests)) * den_of
    (events (opening_with limit) (accepted (opening_with limit) requests))
reached_gains limit known requests =
    let h = reached_pool limit known requests in
    let es = events (opening_with limit) (accepted (opening_with limit) requests) in
    all_gains_are LIM (omega arith) es h.lawful ACCOUNTS h.owners

pub reached_paid : (limit : ℕ) → IsLimit limit → (requests : List Request)
    → pool_coll (run (opening_with limit) requests).0 + over_accounts ACCOUNTS (λ account. gains_paid_to account
    (events (opening_with limit) (accepted (opening_with limit) requests)))
    ≡ offsets_coll (events (opening_with limit) (accepted (opening_with limit) requests))
reached_paid limit known requests =
    let h = reached_pool limit known requests in
    let es = events (opening_with limit) (accepted (opening_with limit) requests) in
    subst (λ (q : State). pool_coll q + over_accounts ACCOUNTS (λ account. gains_paid_to account es) ≡ offsets_coll es)
    (sym h.pool) (all_paid_are LIM (omega arith) es h.lawful ACCOUNTS h.owners)

reached_uncapped : (limit : ℕ) → IsLimit limit → (requests : List Request) (account : ℕ) (d : DepositEntry)
    → at (run (opening_with limit) requests).0.deposits account ≡ Some d
    → IsUncapped (run (opening_with limit) requests).0 account d
reached_uncapped limit known requests account d there =
    let h = reached_pool limit known requests in
    let es = events (opening_with limit) (accepted (opening_with limit) requests) in
    subst (λ (q : State). at q.deposits account ≡ Some d → IsUncapped q account d) (sym h.pool)
    (λ is. (
      balance_uncapped LIM (omega arith) es h.lawful account d is,
      gain_uncapped LIM (omega arith) es h.lawful account d is,
    )) there

pub reached_exact : (limit : ℕ) → IsLimit limit → (requests : List Request)
    → IsExactPool (run (opening_with limit) requests).0 (events (opening_with limit)
    (accepted (opening_with limit) requests))
reached_exact limit known requests =
    record {
      balances = reached_balances limit known requests;
      gains = reached_gains limit known requests;
      paid = reached_paid limit known requests;
      caps = reached_uncapped limit known requests;
    }

-- ---- dust

default_covered : (s : State) → IsSoundState s → (sum_by (pending_coll s) (values_of s.troves) ≤ s.default_coll)
    × (sum_by (pending_debt s) (values_of s.troves) ≤ s.default_debt)
default_covered s h =
    let both = pending_covered (books_of s) (sound_facts s h).stands.troves in
    let coll = map-sum (trove_row s) (λ (t : Trove). pending t.stake (books_of s).sums.coll t.mark_coll) s.troves in
    let debt = map-sum (trove_row s) (λ (t : Trove). pending t.stake (books_of s).sums.debt t.mark_debt) s.troves in
    (omega (arith, both.0, coll), omega (arith, both.1, debt))

not_negative : (a b : ℕ) → b ≤ a → pos 0 ≤ℤ (pos a -ℤ pos b)
not_negative a b h = omega (arith, ints, h)

pub default_dust : (s : State) → IsSoundState s → (pos 0 ≤ℤ (dust s).default_coll) × (pos 0 ≤ℤ (dust s).default_debt)
default_dust s h =
    let both = default_covered s h in
    (not_negative _ _ both.0, not_negative _ _ both.1)

pub reached_covered : (limit : ℕ) → IsLimit limit → (requests : List Request)
    → IsCovered (dust (run (opening_with limit) requests).0)
reached_covered limit known requests =
    let s = (run (opening_with limit) requests).0 in
    let h = reached_pool limit known requests in
    let es = events (opening_with limit) (accepted (opening_with limit) requests) in
    let troves = default_dust s (run_sound requests (opening_with limit) (opening_sound limit known)) in
    record {
      pool_total = not_negative (pool_total s) (sum (map (balance_of s) (keys_of s.deposits)))
          (subst (λ (q : State). sum (map (balance_of q) (keys_of q.deposits)) ≤ pool_total q) (sym h.pool)
          (balances_held LIM (omega arith) es h.lawful));
      pool_coll = not_negative (pool_coll s) (sum (map (gain_of s) (keys_of s.deposits)))
          (subst (λ (q : State). sum (map (gain_of q) (keys_of q.deposits)) ≤ pool_coll q) (sym h.pool)
          (gains_held LIM (omega arith) es h.lawful));
      default_coll = troves.0;
      default_debt = troves.1;
    }
