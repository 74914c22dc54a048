-- The events of every run of a sound state are a lawful list, and leave the Stability Pool that the run leaves.
use Rattle.std.proofs.Common.{◌≡◌, ℕ, zero, suc, ◌+◌, ◌-◌, ◌≤◌, ◌<◌, Bool, true, false, cond, List, [], ◌∷◌, ◌++◌, refl, ap, sym, ◌∙◌, subst, arith, Some, None, Option}
use Rattle.std.specs.Prelude.{◌==◌, fold, min, Result, Ok, Err}
use Rattle.std.specs.List.{AllByRecursion}
use Rattle.std.proofs.lemmas.Bool.Decides.{nat_tests}
use Rattle.std.proofs.lemmas.List.Sums.{fold-append}
use Rattle.liq_types.specs.declared.amounts.TheConstants.{ACCOUNTS, LIM, RESERVE}
use Rattle.liq_types.specs.declared.events.PoolEvent.{PoolEvent}
use Rattle.liq_types.specs.declared.events.PoolEvent.TheVariants as event
use Rattle.liq_types.specs.declared.figures.Wallet.{Wallet}
use Rattle.liq_types.specs.declared.replies.Refusal.{Refusal}
use Rattle.liq_types.specs.declared.requests.Call.{Call}
use Rattle.liq_types.specs.declared.requests.Call.TheVariants.{Price, Advance, Fund, Take, Send, Open, Adjust, Close, Provide, Withdraw, GainToTrove, Liquidate, LiquidateLowest, Redeem, Claim, Rotate}
use Rattle.liq_types.specs.declared.requests.Command.{Command}
use Rattle.liq_types.specs.declared.requests.Request.{Request}
use Rattle.liq_types.specs.declared.requests.Request.TheVariants.{Do, Ask}
use Rattle.liq_types.specs.PlainLedger.{AreOwnedBelow}
use Rattle.liq_types.specs.Payments.{credited, charged, surplus_added}
use Rattle.liq_types.specs.Product.{rise_of}
use Rattle.liq_types.specs.Rules.{first_refusal}
use Rattle.liq_types.specs.State.{State, TroveEntry, wallet_of}
use Rattle.liq_types.specs.Tables.{Table, at}
use Rattle.liq_types.specs.Totals.{pool_total, pool_coll, market_of, or_nothing}
use Rattle.liq_troves.specs.Own.{lifted_entry, set_trove, redistributed, snapped}
use Rattle.liq_troves.specs.StakeSums.{entire_of}
use Rattle.liq_stability.specs.Lawful.{IsWithinLimit, IsLawfulUpTo, IsLawful}
use Rattle.liq_stability.specs.Own.{owned, offset, after_event, amount_after, pool_of}
use Rattle.liq_stability.specs.Position.{balance_of, gain_of, words_of}
use Rattle.liq_stability.proofs.Pool.{owned-total, owned-coll, offset-total, offset-coll}
use Rattle.liq_borrow.specs.declared.change.Change.{Change}
use Rattle.liq_borrow.specs.Borrowing.{adjusting_terms, closing_terms}
use Rattle.liq_liquidation.specs.declared.one.One.{One}
use Rattle.liq_liquidation.specs.declared.one.Victim.{Victim}
use Rattle.liq_liquidation.specs.One.{one, struck, rewarded, liquidated}
use Rattle.liq_liquidation.specs.Lowest.{lowest, next_victim, victim_by}
use Rattle.liq_order.specs.Order.{last_trove}
use Rattle.liq_redemption.specs.declared.cut.Cut.{Cut}
use Rattle.liq_redemption.specs.Redemption.{closed_by, cut_entire, cut_down, redeeming_terms, visited}
use Rattle.liq_rule_step.specs.Borrowing.{with_fee}
use Rattle.liq_rule_step.specs.Events.{events}
use Rattle.liq_rule_step.specs.Liquidation.{victim_events, offset_events, listed, all_liquidated}
use Rattle.liq_rule_step.specs.Rules.{rules, effect, call_events}
use Rattle.liq_rule_sound.specs.SoundState.{IsSoundState}
use Rattle.liq_rule_step.specs.Step.{Ruling, Refused, Repeated, Allowed, ruling, after_ruling, is_allowed, accepted, accounts, after, run}
use Rattle.liq_rule_sound.proofs.SoundCalls.{pool_and_wallet}
use Rattle.liq_rule_sound.proofs.SoundFacts.{Finds, finds_after}
use Rattle.liq_rule_sound.proofs.SoundLiquidate.{Strikes, strikes, victim_leaves, found, with_pay, struck_paid, lowest_paid, lowest_by}
use Rattle.liq_rule_sound.proofs.SoundStep.{allowed_has, finds, after_sound}
use Rattle.liq_rule_sound.proofs.SoundTests.{sound_facts}
use Rattle.liq_stability.proofs.PoolPart.{event_to_pool, event_from_pool, pool-event}
use Rattle.liq_types.proofs.Tests.{all_false}
use Rattle.std.proofs.lemmas.Bool.{ltb-false}

-- ---- lawful lists rest on that part alone

module _ (most : ℕ) where
  lawful_to : (es : List PoolEvent) (s : State) → IsLawfulUpTo most s es → IsLawfulUpTo most (pool_of s) es
  lawful_to [] s h = record { total = h.total; coll = h.coll }
  lawful_to (e ∷ es) s h = (
    record { total = h.0.total; coll = h.0.coll },
    event_to_pool s e h.1,
    subst (λ (t : State). IsLawfulUpTo most t es) (pool-event s e) (lawful_to es (after_event s e) h.2),
  )

  lawful_from : (es : List PoolEvent) (s : State) → IsLawfulUpTo most (pool_of s) es → IsLawfulUpTo most s es
  lawful_from [] s h = record { total = h.total; coll = h.coll }
  lawful_from (e ∷ es) s h = (
    record { total = h.0.total; coll = h.0.coll },
    event_from_pool s e h.1,
    lawful_from es (after_event s e)
        (subst (λ (t : State). IsLawfulUpTo most t es) (sym (pool-event s e)) h.2),
  )

  pub lawful_same : (es : List PoolEvent) (s t : State) → pool_of s ≡ pool_of t → IsLawfulUpTo most s es
      → IsLawfulUpTo most t es
  lawful_same es s t e h = lawful_from es t (subst (λ (q : State). IsLawfulUpTo most q es) e (lawful_to es s h))

  pub lawful_then : (xs ys : List PoolEvent) (s : State) → IsLawfulUpTo most s xs
      → IsLawfulUpTo most (fold after_event s xs) ys → IsLawfulUpTo most s (xs ++ ys)
  lawful_then [] ys s h k = k
  lawful_then (x ∷ xs) ys s h k = (h.0, h.1, lawful_then xs ys (after_event s x) h.2 k)

pub pool_along : (es : List PoolEvent) (s t : State) → pool_of s ≡ pool_of t → pool_of (fold after_event s es)
    ≡ pool_of (fold after_event t es)
pool_along [] s t e = e
pool_along (x ∷ xs) s t e = pool_along xs (after_event s x) (after_event t x) (pool-event s x
    ∙ ap (λ (q : State). after_event q x) e ∙ sym (pool-event t x))

-- ---- what an allowed call does to the pool

pub record Follows (s t : State) (es : List PoolEvent) : Type 0 where
  pub lawful : IsLawful s es
  pub pool : pool_of t ≡ pool_of (fold after_event s es)
  pub owners : AreOwnedBelow ACCOUNTS es

within_limit : (s : State) → Finds s → IsWithinLimit LIM s
within_limit s f =
    let h = f.balanced.homes in
    let debt = f.balanced.debt_limit in
    let coll = f.balanced.coll_limit in
    record { total = omega (arith, h.lusd, debt); coll = omega (arith, h.coll, coll) }

nothing : (s t : State) → Finds s → pool_of t ≡ pool_of s → Follows s t []
nothing s t f e = record { lawful = within_limit s f; pool = e; owners = tt }

lifted_pool : (s : State) (account : ℕ) (o : Option TroveEntry) → pool_of (lifted_entry s account o) ≡ pool_of s
lifted_pool s account None = refl
lifted_pool s account (Some t) = refl

own_follows : (s t : State) → Finds s → (account put_in out : ℕ) → account < ACCOUNTS → out ≤ balance_of s account
    → pool_total s + put_in ≤ LIM → pool_of t ≡ pool_of (owned s account put_in out)
    → Follows s t (event.Own account put_in out (gain_of s account) (amount_after s account put_in out) ∷ [])
own_follows s t f account put_in out k within fits e =
    let total = owned-total s f.stands.formed.3 account put_in out in
    let coll = owned-coll s account put_in out in
    let limit = within_limit s f in
    record {
      lawful = (
        limit,
        record { gain_is = refl; paid_is = within; amount_is = refl },
        record { total = omega (arith, total, fits); coll = omega (arith, coll, limit.coll) },
      );
      pool = e;
      owners = (k, tt);
    }

-- ---- liquidations

-- what a victim's event does to the pool is what its liquidation does
victim_pool : (s : State) (liquidator : ℕ) (v : Victim) → pool_of (liquidated s liquidator v)
    ≡ pool_of (fold after_event s (victim_events s v.one))
victim_pool s liquidator v = by (at s.troves v.account) (v.one.offset_debt == 0) where
  by : (o : Option TroveEntry) (b : Bool)
      → pool_of (rewarded
      (surplus_added (snapped (redistributed (cond b (lifted_entry s v.account o)
      (offset (lifted_entry s v.account o) v.one.offset_debt v.one.offset_coll)) v.one.spread_coll v.one.spread_debt))
      v.account v.one.surplus) liquidator v.one.gas)
      ≡ pool_of (fold after_event s (cond b [] (event.Offset v.one.offset_debt v.one.offset_coll (pool_total s)
      (rise_of (words_of s).p (record { debt = v.one.offset_debt; coll = v.one.offset_coll; total = pool_total s }))
      ∷ [])))
  by None true = refl
  by None false = refl
  by (Some t) true = refl
  by (Some t) false = refl

victim_lawful : (s : State) → Finds s → (account : ℕ) (made : One) → Strikes s account made
    → IsLawful s (victim_events s made) × AreOwnedBelow ACCOUNTS (victim_events s made)
victim_lawful s f account made x = by (made.offset_debt == 0) refl where
  some_offset : (made.offset_debt == 0) ≡ false → 1 ≤ made.offset_debt
  some_offset e = grind (arith, nat_tests, e)

  -- collateral in the pool after the offset is still inside
  coll_fits : pool_coll s + made.offset_coll ≤ LIM
  coll_fits =
      let h = f.balanced.homes in
      let w = x.has.within in
      let p = x.parts in
      let limit = f.balanced.coll_limit in
      omega (arith, h.coll, limit, p.coll_is, x.has.coll_is, w.coll, w.pending_coll)

  by : (b : Bool) → (made.offset_debt == 0) ≡ b
      → IsLawful s (cond b [] (event.Offset made.offset_debt made.offset_coll (pool_total s) (rise_of (words_of s).p
      (record { debt = made.offset_debt; coll = made.offset_coll; total = pool_total s })) ∷ []))
      × AreOwnedBelow ACCOUNTS (cond b [] (event.Offset made.offset_debt made.offset_coll (pool_total s)
      (rise_of (words_of s).p (record {
        debt = made.offset_debt;
        coll = made.offset_coll;
        total = pool_total s;
      })) ∷ []))
  by true e = (within_limit s f, tt)
  by false e =
      let p = x.parts in
      let limit = within_limit s f in
      let total = offset-total s made.offset_debt made.offset_coll in
      let coll = offset-coll s f.stands.formed.3 made.offset_debt made.offset_coll in
      let fits = coll_fits in (
        (
          limit,
          record {
            some = some_offset e;
            within = p.served;
            total_is = refl;
            coll_is = p.worth_less;
            rise_is = refl;
          },
          record { total = omega (arith, total, limit.total); coll = omega (arith, coll, fits) },
        ),
        (tt, tt),
      )

pub offset_paid : (vs : List Victim) (s : State) (wallets : Table Wallet) (reserve : ℕ)
    → offset_events (with_pay s wallets reserve) vs ≡ offset_events s vs
offset_paid [] s wallets reserve = refl
offset_paid (v ∷ vs) s wallets reserve =
    ap (λ (es : List PoolEvent). victim_events s v.one ++ es)
    (ap (λ (t : State). offset_events t vs) (struck_paid s v wallets reserve)
    ∙ offset_paid vs (struck s v) wallets reserve)

both_owned : (xs ys : List PoolEvent) → AreOwnedBelow ACCOUNTS xs → AreOwnedBelow ACCOUNTS ys
    → AreOwnedBelow ACCOUNTS (xs ++ ys)
both_owned [] ys h k = k
both_owned (x ∷ xs) ys h k = (h.0, both_owned xs ys h.1 k)

-- one change of the pool after another
pub follows_then : (r s t : State) (xs ys : List PoolEvent) → Follows r s xs → Follows s t ys → Follows r t (xs ++ ys)
follows_then r s t xs ys h k =
    record {
      lawful = lawful_then LIM xs ys r h.lawful (lawful_same LIM ys s (fold after_event r xs) h.pool k.lawful);
      pool = k.pool ∙ pool_along ys s (fold after_event r xs) h.pool
          ∙ ap pool_of (sym (fold-append after_event r xs ys));
      owners = both_owned xs ys h.owners k.owners;
    }

victim_follows : (s : State) → Finds s → (liquidator : ℕ) (v : Victim) → one s v.account ≡ Ok v.one
    → Follows s (liquidated s liquidator v) (victim_events s v.one)
victim_follows s f liquidator v e =
    let lawful = victim_lawful s f v.account v.one (strikes s f v.account v.one e) in
    record { lawful = lawful.0; pool = victim_pool s liquidator v; owners = lawful.1 }

append_none : (xs : List PoolEvent) → xs ++ [] ≡ xs
append_none [] = refl
append_none (x ∷ xs) = ap (λ (es : List PoolEvent). x ∷ es) (append_none xs)

liquidate_follows : (s : State) → Finds s → (liquidator account : ℕ)
    → Follows s (all_liquidated s liquidator (listed (victim_by account (one s account))))
    (offset_events s (listed (victim_by account (one s account))))
liquidate_follows s f liquidator account = by (one s account) refl where
  by : (r : Result One Refusal) → one s account ≡ r
      → Follows s (all_liquidated s liquidator (listed (victim_by account r)))
      (offset_events s (listed (victim_by account r)))
  by (Ok made) e =
      let v : Victim = record { account = account; one = made } in
      subst (λ (es : List PoolEvent). Follows s (liquidated s liquidator v) es)
      (sym (append_none (victim_events s made))) (victim_follows s f liquidator v e)
  by (Err refusal) e = nothing s s f refl

lowest_follows : (n : ℕ) (s : State) → Finds s → (liquidator : ℕ) → liquidator < ACCOUNTS
    → Follows s (all_liquidated s liquidator (lowest s n)) (offset_events s (lowest s n))
lowest_follows zero s f liquidator k = nothing s s f refl
lowest_follows (suc n) s f liquidator k = by (next_victim s) (found s (last_trove s)) (λ v h. lowest_follows n
    (liquidated s liquidator v) h liquidator k) where
      by : (next : Option Victim) → ((v : Victim) → next ≡ Some v → one s v.account ≡ Ok v.one)
          → ((v : Victim) → Finds (liquidated s liquidator v)
          → Follows (liquidated s liquidator v) (all_liquidated (liquidated s liquidator v) liquidator
          (lowest (liquidated s liquidator v) n)) (offset_events (liquidated s liquidator v)
          (lowest (liquidated s liquidator v) n)))
          → Follows s (all_liquidated s liquidator (lowest_by n s next)) (offset_events s (lowest_by n s next))
      by None known later = nothing s s f refl
      by (Some v) known later =
          let next = liquidated s liquidator v in
          let first = victim_leaves s f liquidator k v.account v.one (strikes s f v.account v.one (known v refl)) in
          let rest = later v (finds_after s next first) in
          let same : lowest next n ≡ lowest (struck s v) n =
          lowest_paid n (struck s v) next.wallets ((struck s v).reserve - RESERVE) in
          let told =
          subst (λ (vs : List Victim). Follows next (all_liquidated next liquidator vs) (offset_events next vs)) same
          rest in
          let list = lowest (struck s v) n in
          let moved : offset_events next list ≡ offset_events (struck s v) list =
          offset_paid list (struck s v) next.wallets ((struck s v).reserve - RESERVE) in
          follows_then s next (all_liquidated next liquidator list) (victim_events s v.one)
          (offset_events (struck s v) list) (victim_follows s f liquidator v (known v refl))
          (subst (λ (es : List PoolEvent). Follows next (all_liquidated next liquidator list) es) moved told)

-- ---- redemption

cut_pool : (s : State) (cut : Cut) (o : Option (ℕ × ℕ)) → pool_of (cut_entire s cut o) ≡ pool_of s
cut_pool s cut None = refl
cut_pool s cut (Some own) = by cut.full where
  by : (b : Bool)
      → pool_of (cond b (closed_by s cut own) (set_trove s cut.account (own.0 - cut.draw) (own.1 - cut.lot)))
      ≡ pool_of s
  by true = lifted_pool s cut.account (at s.troves cut.account)
  by false = lifted_pool s cut.account (at s.troves cut.account)

cuts_pool : (made : List Cut) (s : State) → pool_of (fold cut_down s made) ≡ pool_of s
cuts_pool [] s = refl
cuts_pool (cut ∷ made) s = cuts_pool made (cut_down s cut) ∙ cut_pool s cut (entire_of s cut.account)

-- ---- each call

pub call_follows : (s : State) → Finds s → (call : Call) → AllByRecursion (λ a. a < ACCOUNTS) (accounts call)
    → first_refusal (rules s call) ≡ None → Follows s (effect s call) (call_events s call)
call_follows s f (Price price) k h = nothing s _ f refl
call_follows s f (Advance minutes) k h = nothing s _ f refl
call_follows s f (Fund account coll) k h = nothing s _ f refl
call_follows s f (Take account coll) k h = nothing s _ f refl
call_follows s f (Send from to lusd) k h = nothing s _ f refl
call_follows s f (Open account coll borrow bound hint) k h = nothing s _ f refl
call_follows s f (Adjust account coll_in coll_out borrow repay bound hint) k h =
    let change : Change = record { coll_in = coll_in; coll_out = coll_out; borrow = borrow; repay = repay } in
    let moved = credited (charged (with_fee s (adjusting_terms (market_of s) (or_nothing (entire_of s account)) change))
    account coll_in repay) account coll_out borrow in
    nothing s (effect s (Adjust account coll_in coll_out borrow repay bound hint)) f (lifted_pool moved account
    (at s.troves account))
call_follows s f (Close account) k h =
    let terms = closing_terms (or_nothing (entire_of s account)) in
    let settled = credited (charged s account 0 terms.0) account terms.1 0 in
    nothing s (effect s (Close account)) f (lifted_pool (record settled { reserve = settled.reserve - RESERVE }) account
    (at s.troves account))
call_follows s f (Provide account lusd) k h =
    let enough = ltb-false (wallet_of s account).lusd lusd (all_false (rules s (Provide account lusd)) h).1.0 in
    own_follows s (effect s (Provide account lusd)) f account lusd 0 k.0 (omega arith)
    (pool_and_wallet s f account lusd enough) refl
call_follows s f (Withdraw account lusd) k h =
    let out = min lusd (balance_of s account) in
    let limit = within_limit s f in
    own_follows s (effect s (Withdraw account lusd)) f account 0 out k.0 (omega arith) (omega (arith, limit.total)) refl
call_follows s f (GainToTrove account hint) k h =
    let limit = within_limit s f in
    own_follows s (effect s (GainToTrove account hint)) f account 0 0 k.0 (omega arith) (omega (arith, limit.total))
    (lifted_pool (owned s account 0 0) account (at s.troves account))
call_follows s f (Liquidate liquidator account) k h = liquidate_follows s f liquidator account
call_follows s f (LiquidateLowest liquidator count) k h = lowest_follows count s f liquidator k.0
call_follows s f (Redeem account lusd bound hint) k h =
    nothing s (effect s (Redeem account lusd bound hint)) f (cuts_pool (redeeming_terms (market_of s)
    (visited s) lusd).cuts s)
call_follows s f (Claim account) k h = nothing s _ f refl
call_follows s f Rotate k h = nothing s _ f refl

-- ---- whole runs

pub after_follows : (s : State) → IsSoundState s → (c : Command) → ruling s c ≡ Allowed
    → Follows s (after s c) (call_events s c.call)
after_follows s h c allowed =
    let a = allowed_has s c allowed in
    let made = call_follows s (finds s (sound_facts s h)) c.call a.accounts a.rules in
    record { lawful = made.lawful; pool = made.pool; owners = made.owners }

pub run_follows : (requests : List Request) (s : State) → IsSoundState s
    → Follows s (run s requests).0 (events s (accepted s requests))
run_follows [] s h = nothing s s (finds s (sound_facts s h)) refl
run_follows (Ask query ∷ requests) s h = run_follows requests s h
run_follows (Do c ∷ requests) s h = by (ruling s c) refl (run_follows requests s h) (λ k. run_follows requests
    (after s c) k) where
      by : (r : Ruling) → ruling s c ≡ r → Follows s (run s requests).0 (events s (accepted s requests))
          → (IsSoundState (after s c)
          → Follows (after s c) (run (after s c) requests).0 (events (after s c) (accepted (after s c) requests)))
          → Follows s (run (after_ruling s c r).0 requests).0 (events s (cond (is_allowed r) (c ∷ []) []
          ++ accepted (after_ruling s c r).0 requests))
      by (Refused refusal) e same later = same
      by (Repeated kept) e same later = same
      by Allowed e same later =
          follows_then s (after s c) (run (after s c) requests).0 (call_events s c.call)
          (events (after s c) (accepted (after s c) requests)) (after_follows s h c e) (later (after_sound s h c e))
