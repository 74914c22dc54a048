-- The verbs that touch no trove leave what stands.
use Rattle.std.proofs.Common.{◌≡◌, ℕ, ◌+◌, ◌-◌, ◌≤◌, ◌<◌, false, refl, sym, subst, arith, nat_lt, None}
use Rattle.std.specs.Prelude.{◌||◌, min}
use Rattle.std.proofs.lemmas.Bool.Decides.{nat_tests}
use Rattle.liq_types.specs.declared.amounts.TheConstants.{ACCOUNTS, LIM, PRICE_LEAST, PRICE_MOST, MINUTE_MOST}
use Rattle.liq_types.specs.declared.requests.Call.{Call}
use Rattle.liq_types.specs.declared.requests.Call.TheVariants.{Price, Advance, Fund, Take, Send, Provide, Withdraw, Claim}
use Rattle.liq_types.specs.Image.{IsLimit}
use Rattle.liq_types.specs.Payments.{credited, charged, surplus_taken}
use Rattle.liq_types.specs.Rules.{first_refusal}
use Rattle.liq_types.specs.State.{State, wallet_of, surplus_of}
use Rattle.liq_types.specs.Tables.{at}
use Rattle.liq_types.specs.Totals.{pool_total}
use Rattle.liq_stability.specs.Own.{owned}
use Rattle.liq_stability.specs.Position.{balance_of, gain_of, words_of}
use Rattle.liq_rule_step.specs.Identities.{IsConserved}
use Rattle.liq_rule_sound.specs.SoundState.{AreSetSince}
use Rattle.liq_rule_step.specs.Rules.{rules, effect}
use Rattle.liq_rule_step.proofs.Allowed.{fund_within}
use Rattle.liq_rule_step.proofs.Conserving.{call_conserves}
use Rattle.liq_rule_step.proofs.Moving.{charged_lusd}
use Rattle.liq_rule_sound.proofs.SoundFacts.{conserved_by, Finds, InRange, Rest, rest_in_place, Leaves, homes_of, in_order, paid_stands, charged_stands, taken_stands, owned_keeps, words_stand}
use Rattle.liq_stability.proofs.Pool.{balance_within}
use Rattle.liq_types.proofs.Tests.{all_false}
use Rattle.std.proofs.lemmas.Bool.{ltb-false}

module _ (s : State) (f : Finds s) where
  -- what a verb that keeps the words of the pool and the ranges leaves, where no limit is passed
  plain_rest : (call : Call) → (t : State) → t ≡ effect s call → IsConserved t → t.brought ≤ s.limit
      → t.active_debt ≤ s.active_debt → t.default_debt ≤ s.default_debt → t.limit ≡ s.limit → InRange t
      → words_of t ≡ words_of s → t.generation ≡ s.generation → t.records ≡ s.records → t.clients ≡ s.clients
      → t.snap_coll ≡ s.snap_coll → t.troves ≡ s.troves → Rest 0 s t
  plain_rest call t e c coll active default same r w g n k snap troves =
      let limit = f.limited.debt in
      rest_in_place s t (homes_of t c) (omega (arith, coll, same)) (omega (arith, active, default, limit, same)) r w g n
      k snap (λ h. subst AreSetSince (sym troves) h)

  pub same_range : (t : State) → t.price ≡ s.price → t.minute ≡ s.minute → t.fee_minute ≡ s.fee_minute → t.base ≡ s.base
      → t.generation ≡ s.generation → t.limit ≡ s.limit → InRange t
  same_range t price minute fee_minute base generation limit =
      let r = f.ranges in
      record {
        price_least = omega (arith, price, r.price_least);
        price_most = omega (arith, price, r.price_most);
        minute = omega (arith, minute, r.minute);
        fee_minute = omega (arith, minute, fee_minute, r.fee_minute);
        base = omega (arith, base, r.base);
        first_generation = omega (arith, generation, r.first_generation);
        last_generation = omega (arith, generation, r.last_generation);
        limit = subst IsLimit (sym limit) r.limit;
      }

  price_range : (price : ℕ) → first_refusal (rules s (Price price)) ≡ None → (PRICE_LEAST ≤ price)
      × (price ≤ PRICE_MOST)
  price_range price h =
      let no : (nat_lt price PRICE_LEAST || nat_lt PRICE_MOST price) ≡ false =
      (all_false (rules s (Price price)) h).0 in
      (grind (arith, nat_tests, no), grind (arith, nat_tests, no))

  pub price_leaves : (price : ℕ) → first_refusal (rules s (Price price)) ≡ None → Leaves 0 s (effect s (Price price))
  price_leaves price h =
      let within = price_range price h in
      let r = f.ranges in
      record {
        stands = words_stand s price s.minute s.brought f.stands;
        rest = plain_rest (Price price) (effect s (Price price)) refl
            (call_conserves s (Price price) refl f.stands.formed (in_order s f.stands) h
            (conserved_by s f.stands f.balanced.homes)) f.limited.coll (omega arith) (omega arith) refl
            (record {
              price_least = within.0;
              price_most = within.1;
              minute = r.minute;
              fee_minute = r.fee_minute;
              base = r.base;
              first_generation = r.first_generation;
              last_generation = r.last_generation;
              limit =
                  r.limit;
            }) refl refl refl refl refl refl;
      }

  pub advance_leaves : (minutes : ℕ) → first_refusal (rules s (Advance minutes)) ≡ None
      → Leaves 0 s (effect s (Advance minutes))
  advance_leaves minutes h =
      let no : nat_lt MINUTE_MOST (s.minute + minutes) ≡ false = (all_false (rules s (Advance minutes)) h).1.0 in
      let within = ltb-false MINUTE_MOST (s.minute + minutes) no in
      let r = f.ranges in
      record {
        stands = words_stand s s.price (s.minute + minutes) s.brought f.stands;
        rest = plain_rest (Advance minutes) (effect s (Advance minutes)) refl (call_conserves s (Advance minutes) refl
            f.stands.formed (in_order s f.stands) h (conserved_by s f.stands f.balanced.homes)) f.limited.coll
            (omega arith) (omega arith) refl
            (record {
              price_least = r.price_least;
              price_most = r.price_most;
              minute = within;
              fee_minute = omega (arith, r.fee_minute);
              base = r.base;
              first_generation = r.first_generation;
              last_generation = r.last_generation;
              limit = r.limit;
            }) refl refl refl refl refl refl;
      }

  pub fund_leaves : (account coll : ℕ) → account < ACCOUNTS → first_refusal (rules s (Fund account coll)) ≡ None
      → Leaves 0 s (effect s (Fund account coll))
  fund_leaves account coll k h =
      let within = fund_within s account coll h in
      record {
        stands = words_stand (credited s account coll 0) s.price s.minute (s.brought + coll)
            (paid_stands s account k f.stands coll 0);
        rest = plain_rest (Fund account coll) (effect s (Fund account coll)) refl
            (call_conserves s (Fund account coll) refl f.stands.formed (in_order s f.stands) h
            (conserved_by s f.stands f.balanced.homes)) within (omega arith) (omega arith) refl
            (same_range (effect s (Fund account coll)) refl refl refl refl refl refl) refl refl refl refl refl refl;
      }

  pub take_leaves : (account coll : ℕ) → account < ACCOUNTS → first_refusal (rules s (Take account coll)) ≡ None
      → Leaves 0 s (effect s (Take account coll))
  take_leaves account coll k h =
      let limit = f.limited.coll in
      record {
        stands = words_stand (charged s account coll 0) s.price s.minute (s.brought - coll)
            (charged_stands s account k f.stands coll 0);
        rest = plain_rest (Take account coll) (effect s (Take account coll)) refl
            (call_conserves s (Take account coll) refl f.stands.formed (in_order s f.stands) h
            (conserved_by s f.stands f.balanced.homes)) (omega (arith, limit)) (omega arith) (omega arith) refl
            (same_range (effect s (Take account coll)) refl refl refl refl refl refl) refl refl refl refl refl refl;
      }

  pub send_leaves : (from to lusd : ℕ) → from < ACCOUNTS → to < ACCOUNTS → first_refusal (rules s (Send from to lusd))
      ≡ None → Leaves 0 s (effect s (Send from to lusd))
  send_leaves from to lusd k m h =
      record {
        stands = paid_stands (charged s from 0 lusd) to m (charged_stands s from k f.stands 0 lusd) 0 lusd;
        rest = plain_rest (Send from to lusd) (effect s (Send from to lusd)) refl
            (call_conserves s (Send from to lusd) refl f.stands.formed (in_order s f.stands) h
            (conserved_by s f.stands f.balanced.homes)) f.limited.coll (omega arith) (omega arith) refl
            (same_range (effect s (Send from to lusd)) refl refl refl refl refl refl) refl refl refl refl refl refl;
      }

  pub claim_leaves : (account : ℕ) → account < ACCOUNTS → first_refusal (rules s (Claim account)) ≡ None
      → Leaves 0 s (effect s (Claim account))
  claim_leaves account k h =
      record {
        stands = paid_stands (surplus_taken s account) account k (taken_stands s account k f.stands)
            (surplus_of s account) 0;
        rest = plain_rest (Claim account) (effect s (Claim account)) refl (call_conserves s (Claim account) refl
            f.stands.formed (in_order s f.stands) h (conserved_by s f.stands f.balanced.homes)) f.limited.coll
            (omega arith) (omega arith) refl
            (same_range (effect s (Claim account)) refl refl refl refl refl refl) refl refl refl refl refl refl;
      }

  -- what is in a wallet and what is in the pool are together within the limit
  pub pool_and_wallet : (account lusd : ℕ) → lusd ≤ (wallet_of s account).lusd → pool_total s + lusd ≤ LIM
  pool_and_wallet account lusd enough =
      let part = charged_lusd s account 0 lusd f.stands.wallets.ascend enough in
      let homes = f.balanced.homes.lusd in
      let limit = f.balanced.debt_limit in
      omega (arith, part, homes, limit)

  pub provide_leaves : (account lusd : ℕ) → account < ACCOUNTS → first_refusal (rules s (Provide account lusd)) ≡ None
      → Leaves 0 s (effect s (Provide account lusd))
  provide_leaves account lusd k h =
      let no : nat_lt (wallet_of s account).lusd lusd ≡ false = (all_false (rules s (Provide account lusd)) h).1.0 in
      let fits = pool_and_wallet account lusd (ltb-false (wallet_of s account).lusd lusd no) in
      let balance = balance_within s (at s.deposits account) in
      let own = owned_keeps s account lusd 0 k (omega arith) (omega (arith, fits, balance)) f.stands in
      record {
        stands = paid_stands (charged (owned s account lusd 0) account 0 lusd) account k
            (charged_stands (owned s account lusd 0) account k own 0 lusd) (gain_of s account) 0;
        rest = plain_rest (Provide account lusd) (effect s (Provide account lusd)) refl
            (call_conserves s (Provide account lusd) refl f.stands.formed (in_order s f.stands) h
            (conserved_by s f.stands f.balanced.homes)) f.limited.coll (omega arith) (omega arith) refl
            (same_range (effect s (Provide account lusd)) refl refl refl refl refl refl) refl refl refl refl refl refl;
      }

  pub withdraw_leaves : (account lusd : ℕ) → account < ACCOUNTS → first_refusal (rules s (Withdraw account lusd)) ≡ None
      → Leaves 0 s (effect s (Withdraw account lusd))
  withdraw_leaves account lusd k h =
      let out = min lusd (balance_of s account) in
      let fits = pool_and_wallet account 0 (omega arith) in
      let balance = balance_within s (at s.deposits account) in
      let own = owned_keeps s account 0 out k (omega arith) (omega (arith, fits, balance)) f.stands in
      record {
        stands = paid_stands (owned s account 0 out) account k own (gain_of s account) out;
        rest = plain_rest (Withdraw account lusd) (effect s (Withdraw account lusd)) refl
            (call_conserves s (Withdraw account lusd) refl f.stands.formed (in_order s f.stands) h
            (conserved_by s f.stands f.balanced.homes)) f.limited.coll (omega arith) (omega arith) refl
            (same_range (effect s (Withdraw account lusd)) refl refl refl refl refl refl) refl refl refl refl refl refl;
      }
