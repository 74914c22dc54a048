-- The verbs of a trove's owner leave what stands.
use Rattle.std.proofs.Common.{◌≡◌, ℕ, zero, suc, ◌+◌, ◌-◌, ◌*◌, ◌≤◌, ◌<◌, Bool, true, false, cond, refl, ap, sym, ◌∙◌, subst, arith, length, nat_lt, Some, None, Option}
use Rattle.std.specs.Prelude.{◌&&◌, ◌||◌, is_none, is_some, not, option_map}
use Rattle.std.proofs.Math.Nat.{mul-le-mul_left, div-le_of_le-mul}
use Rattle.liq_num.specs.Power.{power_of}
use Rattle.liq_num.proofs.Digits.{power_of-le}
use Rattle.liq_types.specs.declared.amounts.TheConstants.{ACCOUNTS, LIM, ONE, RESERVE, MIN_NET, DECAY, MCR, CCR}
use Rattle.liq_types.specs.declared.figures.Market.{Market}
use Rattle.liq_types.specs.declared.figures.Trove.{Trove}
use Rattle.liq_types.specs.declared.hints.HintWords.{HintWords}
use Rattle.liq_types.specs.declared.requests.Call.TheVariants.{Open, GainToTrove}
use Rattle.liq_types.specs.Image.{IsLimit}
use Rattle.liq_types.specs.Payments.{credited, charged}
use Rattle.liq_types.specs.Rules.{first_refusal}
use Rattle.liq_types.specs.State.{State, TroveEntry, After, wallet_of}
use Rattle.liq_types.specs.Tables.{at, without}
use Rattle.liq_types.specs.Totals.{market_of, or_nothing, is_recovery, is_normal, worth, asked}
use Rattle.liq_types.specs.WellFormed.{Ascends}
use Rattle.liq_types.proofs.Ascending.{wallet-ascends}
use Rattle.liq_types.proofs.Lookups.{at-without_same, length-without, length-put}
use Rattle.liq_types.proofs.MapRows.{at-map, all-put, all-without}
use Rattle.liq_rate.specs.Rate.{decayed, rate_left}
use Rattle.liq_rate.specs.declared.rate.Rate.{Rate}
use Rattle.liq_troves.specs.Own.{lifted_entry, lifted, placed, set_trove, stake_for}
use Rattle.liq_troves.specs.Rows.{entire_by}
use Rattle.liq_troves.specs.Standing.{books_of}
use Rattle.liq_troves.specs.StakeSums.{trove_row, trove_rows, sums_words, entire_of, pending_coll, pending_debt}
use Rattle.liq_troves.proofs.Standing.{IsWithinBooks, trove_within}
use Rattle.liq_stability.specs.Own.{owned}
use Rattle.liq_stability.specs.Position.{gain_of}
use Rattle.liq_stability.proofs.Pool.{owned-total, owned-coll, balance_within, gain_within}
use Rattle.liq_borrow.specs.declared.change.Change.{Change}
use Rattle.liq_borrow.specs.declared.change.Plan.{Plan}
use Rattle.liq_borrow.proofs.Allowed.{open_passes, change_passes, close_passes, gain_passes}
use Rattle.liq_borrow.specs.Allowed.{GainPasses}
use Rattle.liq_borrow.specs.Borrowing.{rate_borrowed, least_ratio, opening_terms, open_rules, adjusting_terms, adjust_rules, closing_terms, close_rules, gain_rules}
use Rattle.liq_rule_step.specs.Borrowing.{with_fee, opened, adjusted, closed}
use Rattle.liq_rule_sound.specs.SoundState.{IsSetSince, ChangeIsCovered}
use Rattle.liq_rule_step.specs.Pool.{no_deposit}
use Rattle.liq_rule_step.specs.Rules.{rules, effect}
use Rattle.liq_rule_step.proofs.Allowed.{none_first}
use Rattle.liq_rule_step.proofs.Moving.{paid_coll, paid_lusd, charged_coll, charged_lusd}
use Rattle.liq_rule_step.proofs.Opening.{opening_conserves}
use Rattle.liq_rule_sound.proofs.SoundCalls.{pool_and_wallet, same_range}
use Rattle.liq_rule_sound.proofs.SoundFacts.{conserved_by, Finds, Stands, Homes, InRange, Rest, rest_in_place, Leaves, homes_of, in_order, trove_table, paid_stands, charged_stands, lifted_stands, placed_stands, owned_keeps, fees_stand, reserve_stands}

-- ---- the base rate

pub decayed_within : (base fee_minute minute : ℕ) → decayed base fee_minute minute ≤ base
decayed_within base fee_minute minute =
    let part : base * power_of DECAY (minute - fee_minute) ≤ base * ONE =
    mul-le-mul_left base (power_of-le DECAY (minute - fee_minute) (omega arith)) in
    div-le_of_le-mul ONE (omega (arith, part))

pub record RateInRange (s : State) (r : Rate) : Type 0 where
  pub base : r.base ≤ ONE
  pub minute : r.minute ≤ s.minute

pub borrowed_in_range : (s : State) → InRange s → (borrow : ℕ) → RateInRange s (rate_borrowed (market_of s) borrow)
borrowed_in_range s h borrow = by (is_normal (market_of s) && nat_lt 0 borrow) where
  by : (b : Bool) → RateInRange s (cond b (record { base = rate_left (market_of s); minute = s.minute })
      (record { base = s.base; minute = s.fee_minute }))
  by true = let less = decayed_within s.base s.fee_minute s.minute
      in record { base = omega (arith, less, h.base); minute = omega arith }
  by false = record { base = h.base; minute = h.fee_minute }

pub ranges_with : (s t : State) → InRange s → (r : Rate) → RateInRange s r → t.price ≡ s.price → t.minute ≡ s.minute
    → t.fee_minute ≡ r.minute → t.base ≡ r.base → t.generation ≡ s.generation → t.limit ≡ s.limit → InRange t
ranges_with s t h r k price minute fee_minute base generation limit =
    record {
      price_least = omega (arith, price, h.price_least);
      price_most = omega (arith, price, h.price_most);
      minute = omega (arith, minute, h.minute);
      fee_minute = omega (arith, minute, fee_minute, k.minute);
      base = omega (arith, base, k.base);
      first_generation = omega (arith, generation, h.first_generation);
      last_generation = omega (arith, generation, h.last_generation);
      limit = subst IsLimit (sym limit) h.limit;
    }

-- ---- a trove that is there

-- the entry of an account whose entire amounts are told
pub record HasTrove (s : State) (account coll debt : ℕ) : Type 0 where
  pub entry : TroveEntry
  pub there : at s.troves account ≡ Some entry
  pub coll_is : coll ≡ entry.coll + pending_coll s entry
  pub debt_is : debt ≡ entry.debt + pending_debt s entry
  pub within : IsWithinBooks (books_of s) (trove_row s entry)
  pub some : 1 ≤ coll
  pub least : RESERVE + MIN_NET ≤ debt

has_by : (s : State) (account : ℕ) (own : ℕ × ℕ) → Stands LIM s → (o : Option TroveEntry) → at s.troves account ≡ o
    → option_map (entire_by (sums_words s)) (option_map (trove_row s) o) ≡ Some own → HasTrove s account own.0 own.1
has_by s account own h None e k = cc
has_by s account own h (Some t) e k =
    let same : entire_by (sums_words s) (trove_row s t) ≡ own = the k in
    let row : at (trove_rows s) account ≡ Some (trove_row s t) = at-map (trove_row s) s.troves account
    ∙ ap (λ (o : Option TroveEntry). option_map (trove_row s) o) e in
    let w = trove_within (books_of s) account (trove_row s t) row h.troves in
    let coll : own.0 ≡ t.coll + pending_coll s t = sym (ap (λ (p : ℕ × ℕ). p.0) same) in
    let debt : own.1 ≡ t.debt + pending_debt s t = sym (ap (λ (p : ℕ × ℕ). p.1) same) in
    record {
      entry = t;
      there = e;
      coll_is = coll;
      debt_is = debt;
      within = w;
      some = omega (
        arith,
        coll,
        w.stands.some,
        w.stands.within,
      );
      least = omega (arith, debt, w.stands.debt);
    }
  where
    the : (Some (entire_by (sums_words s) (trove_row s t))) ≡ Some own → entire_by (sums_words s) (trove_row s t) ≡ own
    the q = cc

pub has_trove : (s : State) (account : ℕ) (own : ℕ × ℕ) → Stands LIM s → entire_of s account ≡ Some own
    → HasTrove s account own.0 own.1
has_trove s account own h e =
    has_by s account own h (at s.troves account) refl
    (ap (λ (o : Option Trove). option_map (entire_by (sums_words s)) o) (sym (at-map (trove_row s) s.troves account))
    ∙ e)

-- the entire amounts, where the account has a trove
pub told : (o : Option (ℕ × ℕ)) → is_none o ≡ false → o ≡ Some (or_nothing o)
told None h = cc
told (Some own) h = refl

-- no row is left where a trove was lifted
pub lifted_none : (s : State) (account : ℕ) (o : Option TroveEntry) → at s.troves account ≡ o → Ascends s.troves
    → at (lifted_entry s account o).troves account ≡ None
lifted_none s account None e a = e
lifted_none s account (Some t) e a = at-without_same s.troves account a

pub set_stands : (s : State) (account coll debt : ℕ) → account < ACCOUNTS → 1 ≤ coll → RESERVE + MIN_NET ≤ debt
    → Stands LIM s → Stands LIM (set_trove s account coll debt)
set_stands s account coll debt k some enough h =
    placed_stands (lifted s account) account coll debt k (lifted_none s account (at s.troves account) refl
    (trove_table s h.troves.ascend)) some enough (lifted_stands s account h)

-- ---- open

ratio_some : (coll price percent debt : ℕ) → asked percent debt ≤ worth coll price → 1 ≤ percent * debt → 1 ≤ coll
ratio_some zero price percent debt h some =
    let none : 0 * price * 100 ≡ 0 = omega arith in
    absurd (omega (arith, h, none, some))
ratio_some (suc n) price percent debt h some = omega arith

some_percent : (m : Market) (debt : ℕ) → 1 ≤ debt → 1 ≤ least_ratio m * debt
some_percent m debt h = by (is_recovery m) where
  by : (b : Bool) → 1 ≤ cond b CCR MCR * debt
  by true = omega (arith, h)
  by false = omega (arith, h)

-- what an allowed opening is
pub record OpenAllows (s : State) (account coll borrow : ℕ) : Type 0 where
  pub absent : at s.troves account ≡ None
  pub enough : coll ≤ (wallet_of s account).coll
  pub limit : s.active_debt + s.default_debt + (opening_terms (market_of s) coll borrow).debt ≤ s.limit
  pub some : 1 ≤ coll
  pub least : RESERVE + MIN_NET ≤ (opening_terms (market_of s) coll borrow).debt

pub open_allows : (s : State) (account coll borrow bound : ℕ)
    → first_refusal (open_rules (market_of s) (wallet_of s account) (is_some (at s.troves account)) account coll borrow
    bound) ≡ None → OpenAllows s account coll borrow
open_allows s account coll borrow bound h =
    let m = market_of s in
    let plan = opening_terms m coll borrow in
    let passes = open_passes m (wallet_of s account) (is_some (at s.troves account)) account coll borrow bound h in
    let net = passes.net in
    record {
      absent = absent (at s.troves account) passes.absent;
      enough = passes.enough;
      limit = passes.limit;
      some = ratio_some coll s.price (least_ratio m) plan.debt passes.ratio (some_percent m plan.debt
          (omega (arith, net)));
      least = omega (arith, net);
    }
  where
    absent : (o : Option TroveEntry) → is_some o ≡ false → o ≡ None
    absent None e = refl
    absent (Some t) e = cc

pub open_leaves : (s : State) → Finds s → (account coll borrow bound : ℕ) (hint : HintWords) → account < ACCOUNTS
    → first_refusal (rules s (Open account coll borrow bound hint)) ≡ None
    → Leaves 0 s (effect s (Open account coll borrow bound hint))
open_leaves s f account coll borrow bound hint k h =
    let m = market_of s in
    let plan = opening_terms m coll borrow in
    let a = open_allows s account coll borrow bound h in
    let feed = with_fee s plan in
    let lent = credited (charged feed account coll 0) account 0 borrow in
    let fed : Stands LIM feed = fees_stand s plan.rate.base plan.rate.minute s.fee_coll (s.fee_lusd + plan.fee) f.stands
    in
    let moved : Stands LIM lent = paid_stands (charged feed account coll 0) account k
    (charged_stands feed account k fed coll 0) 0 borrow in
    let conserved = opening_conserves s account coll borrow bound (in_order s f.stands) h
    (conserved_by s f.stands f.balanced.homes) in
    record {
      stands = placed_stands (record lent { reserve = lent.reserve + RESERVE }) account coll plan.debt k a.absent a.some
          a.least (reserve_stands lent (lent.reserve + RESERVE) moved);
      rest = rest_in_place s (opened s account borrow plan) (homes_of _ conserved) f.limited.coll (omega (
        arith,
        a.limit,
      ))
          (ranges_with s (opened s account borrow plan) f.ranges plan.rate (borrowed_in_range s f.ranges borrow) refl
          refl refl refl refl refl) refl refl refl refl refl
          (λ h. all-put (λ (x : TroveEntry). IsSetSince x.mark) s.troves account (record {
            coll = coll;
            debt = plan.debt;
            stake = stake_for (record lent { reserve = lent.reserve + RESERVE }) coll;
            mark =
                After (length s.redistributions);
          }) tt h);
    }

-- ---- adjust

-- what an allowed change is
pub record Allows (s : State) (account coll debt : ℕ) (change : Change) (plan : Plan) : Type 0 where
  pub coll_in : change.coll_in ≤ (wallet_of s account).coll
  pub coll_out : change.coll_out ≤ coll
  pub repay : change.repay ≤ (wallet_of s account).lusd
  pub repays_part : change.repay ≤ debt
  pub limit : s.active_debt + s.default_debt + change.borrow + plan.fee ≤ s.limit
  pub coll_is : plan.coll ≡ coll + change.coll_in - change.coll_out
  pub debt_is : plan.debt ≡ debt + change.borrow + plan.fee - change.repay
  pub some : 1 ≤ plan.coll
  pub least : RESERVE + MIN_NET ≤ plan.debt

module _ (s : State) (f : Finds s) (account coll debt : ℕ) (change : Change) (bound : ℕ) (there : entire_of s account
    ≡ Some (coll, debt)) (h : first_refusal (adjust_rules (market_of s) (wallet_of s account) (entire_of s account)
    account change bound) ≡ None) where
  pub adjust_allows : Allows s account coll debt change (adjusting_terms (market_of s) (coll, debt) change)
  adjust_allows =
      let m = market_of s in
      let plan = adjusting_terms m (coll, debt) change in
      let has = has_trove s account (coll, debt) f.stands there in
      let passes = change_passes m (wallet_of s account) (Some (coll, debt)) change account bound
      (subst (λ (o : Option (ℕ × ℕ)). first_refusal (adjust_rules m (wallet_of s account) o account change bound)
      ≡ None) there h) in
      let kept = keeps_net change.repay passes.net has.least in
      let least : RESERVE + MIN_NET ≤ plan.debt = omega (arith, kept) in
      record {
        coll_in = passes.coll_in;
        coll_out = passes.coll_out;
        repay = passes.repay;
        repays_part = omega (arith, kept);
        limit = passes.limit;
        coll_is = refl;
        debt_is = refl;
        some = keeps_some (is_recovery m) (nat_lt 0 change.borrow) refl refl passes.normal passes.ratio passes.coll_out
            has.some (omega (arith, least));
        least = least;
      }
    where
      keeps_net : (repay : ℕ) → (0 < repay → MIN_NET ≤ debt - RESERVE - repay) → RESERVE + MIN_NET ≤ debt
          → RESERVE + MIN_NET + repay ≤ debt
      keeps_net zero net least = omega (arith, least)
      keeps_net (suc n) net least = let enough = net (omega arith) in omega (arith, enough)

      keeps_some : (r b : Bool) → is_recovery (market_of s) ≡ r → nat_lt 0 change.borrow ≡ b → (0 < change.coll_out
          → r ≡ false) → ((not r || b) ≡ true → asked (least_ratio (market_of s)) (adjusting_terms (market_of s) (
            coll,
            debt,
          ) change).debt ≤ worth (coll + change.coll_in - change.coll_out) s.price) → change.coll_out ≤ coll
          → 1 ≤ coll → 1 ≤ (adjusting_terms (market_of s) (coll, debt) change).debt
          → 1 ≤ coll + change.coll_in - change.coll_out
      keeps_some true true e g normal ratio out some debt_some =
          ratio_some (coll + change.coll_in - change.coll_out) s.price (least_ratio (market_of s)) _ (ratio refl)
          (some_percent (market_of s) _ debt_some)
      keeps_some false b e g normal ratio out some debt_some =
          ratio_some (coll + change.coll_in - change.coll_out) s.price (least_ratio (market_of s)) _ (ratio refl)
          (some_percent (market_of s) _ debt_some)
      keeps_some true false e g normal ratio out some debt_some = stays change.coll_out normal where
        stays : (n : ℕ) → (0 < n → true ≡ false) → 1 ≤ coll + change.coll_in - n
        stays zero normally = omega (arith, some)
        stays (suc n) normally = let never = normally (omega arith) in cc

  adjust_stands : account < ACCOUNTS
      → Stands LIM (adjusted s account change (adjusting_terms (market_of s) (coll, debt) change))
  adjust_stands k =
      let plan = adjusting_terms (market_of s) (coll, debt) change in
      let a = adjust_allows in
      let feed = with_fee s plan in
      let fed : Stands LIM feed = fees_stand s plan.rate.base plan.rate.minute s.fee_coll (s.fee_lusd + plan.fee)
      f.stands in
      let moved = paid_stands (charged feed account change.coll_in change.repay) account k
      (charged_stands feed account k fed change.coll_in change.repay) change.coll_out change.borrow in
      set_stands (credited (charged feed account change.coll_in change.repay) account change.coll_out change.borrow)
      account plan.coll plan.debt k a.some a.least moved

  adjust_rest : Rest 0 s (adjusted s account change (adjusting_terms (market_of s) (coll, debt) change))
  adjust_rest =
      let plan = adjusting_terms (market_of s) (coll, debt) change in
      let a = adjust_allows in
      let has = has_trove s account (coll, debt) f.stands there in
      let e = has.entry in
      let w = has.within in
      let c = f.balanced.homes in
      let feed = with_fee s plan in
      let mid = charged feed account change.coll_in change.repay in
      let moved = credited mid account change.coll_out change.borrow in
      let ordered = wallet-ascends s.wallets account (record {
        coll = (wallet_of s account).coll - change.coll_in;
        lusd = (wallet_of s account).lusd - change.repay;
      }) f.stands.wallets.ascend in
      let c1 = charged_coll feed account change.coll_in change.repay f.stands.wallets.ascend a.coll_in in
      let l1 = charged_lusd feed account change.coll_in change.repay f.stands.wallets.ascend a.repay in
      let c2 = paid_coll mid account change.coll_out change.borrow ordered in
      let l2 = paid_lusd mid account change.coll_out change.borrow ordered in
      let gone = length-without s.troves account e has.there in
      let back = length-put (without s.troves account) account (record {
        coll = plan.coll;
        debt = plan.debt;
        stake = stake_for moved plan.coll;
        mark = After (length s.redistributions);
      }) (at-without_same s.troves account
      (trove_table s f.stands.troves.ascend)) in
      let made = placed (lifted_entry moved account (Some e)) account plan.coll plan.debt in
      let homes : Homes made = record {
        coll = omega (arith, c1, c2, c.coll, a.coll_out, has.coll_is, w.coll, w.pending_coll);
        lusd = omega (arith, l1, l2, c.lusd, a.repays_part, has.debt_is, w.debt, w.pending_debt);
        reserve = omega (arith, gone, back, c.reserve);
        surplus = c.surplus;
      } in
      subst (λ (o : Option TroveEntry). Rest 0 s (placed (lifted_entry moved account o) account plan.coll plan.debt))
      (sym has.there)
      (rest_in_place s made homes f.limited.coll (omega (arith, a.limit, has.debt_is, w.debt, w.pending_debt))
      (ranges_with s made f.ranges plan.rate (borrowed_in_range s f.ranges change.borrow) refl refl refl refl refl refl)
      refl refl refl refl refl
      (λ n. all-put (λ (x : TroveEntry). IsSetSince x.mark) (without s.troves account) account
      (record {
        coll = plan.coll;
        debt = plan.debt;
        stake = stake_for moved plan.coll;
        mark = After (length s.redistributions);
      }) tt (all-without (λ (x : TroveEntry). IsSetSince x.mark) s.troves
      account n)))

-- the same, of the account's entire amounts
pub adjust_allows_own : (s : State) → Finds s → (account bound : ℕ) (change : Change)
    → first_refusal (adjust_rules (market_of s) (wallet_of s account) (entire_of s account) account change bound) ≡ None
    → Allows s account (or_nothing (entire_of s account)).0 (or_nothing (entire_of s account)).1 change
    (adjusting_terms (market_of s) (or_nothing (entire_of s account)) change)
adjust_allows_own s f account bound change h =
    let own = or_nothing (entire_of s account) in
    let passes = change_passes (market_of s) (wallet_of s account) (entire_of s account) change account bound h in
    adjust_allows s f account own.0 own.1 change bound (told (entire_of s account) passes.there) h

pub adjust_leaves : (s : State) → Finds s → (account bound : ℕ) (change : Change) → account < ACCOUNTS
    → first_refusal (adjust_rules (market_of s) (wallet_of s account) (entire_of s account) account change bound) ≡ None
    → Leaves 0 s (adjusted s account change (adjusting_terms (market_of s) (or_nothing (entire_of s account)) change))
adjust_leaves s f account bound change k h =
    let own = or_nothing (entire_of s account) in
    let there = told (entire_of s account) (change_passes (market_of s) (wallet_of s account) (entire_of s account)
    change account bound h).there in
    record {
      stands = adjust_stands s f account own.0 own.1 change bound there h k;
      rest = adjust_rest s f account own.0 own.1 change bound there h;
    }

-- ---- close

module _ (s : State) (f : Finds s) (account coll debt : ℕ) (there : entire_of s account ≡ Some (coll, debt))
    (enough : debt - RESERVE ≤ (wallet_of s account).lusd) where
  close_stands : account < ACCOUNTS → Stands LIM (closed s account (debt - RESERVE) coll)
  close_stands k =
      let repaid = debt - RESERVE in
      let settled = credited (charged s account 0 repaid) account coll 0 in
      let moved = paid_stands (charged s account 0 repaid) account k (charged_stands s account k f.stands 0 repaid)
      coll 0 in
      lifted_stands (record settled { reserve = settled.reserve - RESERVE }) account (reserve_stands settled
      (settled.reserve - RESERVE) moved)

  close_rest : Rest 0 s (closed s account (debt - RESERVE) coll)
  close_rest =
      let repaid = debt - RESERVE in
      let has = has_trove s account (coll, debt) f.stands there in
      let e = has.entry in
      let w = has.within in
      let c = f.balanced.homes in
      let mid = charged s account 0 repaid in
      let settled = credited mid account coll 0 in
      let burned = record settled { reserve = settled.reserve - RESERVE } in
      let ordered = wallet-ascends s.wallets account (record {
        coll = (wallet_of s account).coll - 0;
        lusd = (wallet_of s account).lusd - repaid;
      }) f.stands.wallets.ascend in
      let c1 = charged_coll s account 0 repaid f.stands.wallets.ascend (omega arith) in
      let l1 = charged_lusd s account 0 repaid f.stands.wallets.ascend enough in
      let c2 = paid_coll mid account coll 0 ordered in
      let l2 = paid_lusd mid account coll 0 ordered in
      let gone = length-without s.troves account e has.there in
      let left = lifted_entry burned account (Some e) in
      let homes : Homes left = record {
        coll = omega (arith, c1, c2, c.coll, has.coll_is, w.coll, w.pending_coll);
        lusd = omega (arith, l1, l2, c.lusd, has.debt_is, has.least, w.debt, w.pending_debt, c.reserve, gone);
        reserve = omega (arith, gone, c.reserve);
        surplus = c.surplus;
      } in
      let limit = f.limited.debt in
      subst (λ (o : Option TroveEntry). Rest 0 s (lifted_entry burned account o)) (sym has.there)
      (rest_in_place s left homes f.limited.coll (omega (arith, limit)) (same_range s f left refl refl refl refl refl
      refl) refl refl refl refl refl
      (λ n. all-without (λ (x : TroveEntry). IsSetSince x.mark) s.troves account n))

pub close_leaves : (s : State) → Finds s → (account : ℕ) → account < ACCOUNTS
    → first_refusal (close_rules (market_of s) (wallet_of s account) (entire_of s account) account) ≡ None
    → Leaves 0 s (closed s account (closing_terms (or_nothing (entire_of s account))).0
    (closing_terms (or_nothing (entire_of s account))).1)
close_leaves s f account k h =
    let own = or_nothing (entire_of s account) in
    let passes = close_passes (market_of s) (wallet_of s account) (entire_of s account) account h in
    let there = told (entire_of s account) passes.there in
    record {
      stands = close_stands s f account own.0 own.1 there passes.repaid k;
      rest = close_rest s f account own.0 own.1 there passes.repaid;
    }

-- ---- a gain that moves into the trove

pub gain_allows : (s : State) (account : ℕ) (hint : HintWords) → first_refusal (rules s (GainToTrove account hint))
    ≡ None → GainPasses (market_of s) (entire_of s account) (gain_of s account)
gain_allows s account hint h =
    let m = market_of s in
    let gain = gain_of s account in
    gain_passes m (entire_of s account) account gain (none_first (no_deposit s account)
    (gain_rules m (entire_of s account) account gain) h).1

module _ (s : State) (f : Finds s) (account coll debt : ℕ) (there : entire_of s account ≡ Some (coll, debt)) where
  gain_stands : account < ACCOUNTS
      → Stands LIM (set_trove (owned s account 0 0) account (coll + gain_of s account) debt)
  gain_stands k =
      let has = has_trove s account (coll, debt) f.stands there in
      let fits = pool_and_wallet s f account 0 (omega arith) in
      let balance = balance_within s (at s.deposits account) in
      let own = owned_keeps s account 0 0 k (omega arith) (omega (arith, fits, balance)) f.stands in
      set_stands (owned s account 0 0) account (coll + gain_of s account) debt k (omega (arith, has.some)) has.least own

  gain_rest : Rest 0 s (set_trove (owned s account 0 0) account (coll + gain_of s account) debt)
  gain_rest =
      let has = has_trove s account (coll, debt) f.stands there in
      let e = has.entry in
      let w = has.within in
      let c = f.balanced.homes in
      let pooled = owned s account 0 0 in
      let gain = gain_of s account in
      let total = owned-total s f.stands.formed.3 account 0 0 in
      let left = owned-coll s account 0 0 in
      let within = gain_within s (at s.deposits account) in
      let gone = length-without s.troves account e has.there in
      let back = length-put (without s.troves account) account (record {
        coll = coll + gain;
        debt = debt;
        stake = stake_for pooled (coll + gain);
        mark = After (length s.redistributions);
      })
      (at-without_same s.troves account (trove_table s f.stands.troves.ascend)) in
      let limit = f.limited.debt in
      let made = placed (lifted_entry pooled account (Some e)) account (coll + gain) debt in
      let homes : Homes made = record {
        coll = omega (arith, c.coll, left, within, has.coll_is, w.coll, w.pending_coll);
        lusd = omega (arith, c.lusd, total, has.debt_is, w.debt, w.pending_debt);
        reserve = omega (arith, gone, back, c.reserve);
        surplus = c.surplus;
      } in
      subst (λ (o : Option TroveEntry). Rest 0 s (placed (lifted_entry pooled account o) account (coll + gain) debt))
      (sym has.there)
      (rest_in_place s made homes f.limited.coll (omega (arith, limit, has.debt_is, w.debt, w.pending_debt))
      (same_range s f made refl refl refl refl refl refl) refl refl refl refl refl
      (λ n. all-put (λ (x : TroveEntry). IsSetSince x.mark) (without s.troves account) account
      (record {
        coll = coll + gain;
        debt = debt;
        stake = stake_for pooled (coll + gain);
        mark = After (length s.redistributions);
      }) tt (all-without (λ (x : TroveEntry). IsSetSince x.mark) s.troves
      account n)))

pub gain_leaves : (s : State) → Finds s → (account : ℕ) → account < ACCOUNTS → is_none (entire_of s account) ≡ false
    → Leaves 0 s (set_trove (owned s account 0 0) account ((or_nothing (entire_of s account)).0 + gain_of s account)
    (or_nothing (entire_of s account)).1)
gain_leaves s f account k h =
    let own = or_nothing (entire_of s account) in
    let there = told (entire_of s account) h in
    record { stands = gain_stands s f account own.0 own.1 there k; rest = gain_rest s f account own.0 own.1 there }

-- ---- what is changed

pub change_covered : (s : State) → Finds s → (account bound : ℕ) (change : Change) (own : ℕ × ℕ)
    → entire_of s account ≡ Some own
    → first_refusal (adjust_rules (market_of s) (wallet_of s account) (entire_of s account) account change bound) ≡ None
    → ChangeIsCovered own change (adjusting_terms (market_of s) own change)
change_covered s f account bound change own there h =
    let a = adjust_allows s f account own.0 own.1 change bound there h in
    record {
      coll_out = a.coll_out;
      repay = a.repays_part;
      coll = omega (arith, a.coll_is, a.coll_out);
      debt = omega (arith, a.debt_is, a.repays_part);
      some = a.some;
      least = a.least;
    }
