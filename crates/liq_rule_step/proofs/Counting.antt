-- How many values a reply shows, and how many pool events a command makes.
use Rattle.std.proofs.Common.{◌≡◌, ℕ, zero, suc, ◌*◌, ◌≤◌, Bool, true, false, cond, nat_lt, List, [], ◌∷◌, ◌++◌, Some, None, Option, length, length-append, refl, arith}
use Rattle.std.specs.Prelude.{Result, Ok, Err, ◌==◌, if◌then◌else◌}
use Rattle.std.proofs.lemmas.Bool.Decides.{nat_tests}
use Rattle.liq_types.specs.declared.amounts.TheConstants.{LOWEST_MOST}
use Rattle.liq_types.specs.declared.events.PoolEvent.{PoolEvent}
use Rattle.liq_types.specs.declared.events.PoolEvent.TheVariants.{Offset}
use Rattle.liq_types.specs.declared.replies.Refusal.{Refusal}
use Rattle.liq_types.specs.declared.replies.Refusal.TheVariants.{AmountZero, AmountLimit}
use Rattle.liq_types.specs.declared.requests.Call.{Call}
use Rattle.liq_types.specs.declared.requests.Call.TheVariants.{Price, Advance, Fund, Take, Send, Open, Adjust, Close, Provide, Withdraw, GainToTrove, Liquidate, LiquidateLowest, Redeem, Claim, Rotate}
use Rattle.liq_types.specs.declared.requests.Request.{Request}
use Rattle.liq_types.specs.declared.requests.Request.TheVariants.{Do, Ask}
use Rattle.liq_types.specs.Product.{rise_of}
use Rattle.liq_types.specs.Rules.{first_refusal}
use Rattle.liq_types.specs.State.{State}
use Rattle.liq_types.specs.Totals.{pool_total}
use Rattle.liq_stability.specs.Position.{words_of}
use Rattle.liq_liquidation.specs.declared.one.One.{One}
use Rattle.liq_liquidation.specs.declared.one.Victim.{Victim}
use Rattle.liq_liquidation.specs.Lowest.{lowest, lowest_rules, next_victim, refusal_of, victim_by}
use Rattle.liq_liquidation.specs.One.{one, struck}
use Rattle.liq_rule_step.specs.Events.{events}
use Rattle.liq_rule_step.specs.Liquidation.{one_values, listed, victim_events, offset_events}
use Rattle.liq_rule_step.specs.Rules.{rules, values, call_events}
use Rattle.liq_rule_step.specs.Step.{Ruling, Refused, Repeated, Allowed, after, after_ruling, ruling, accepted, is_allowed}
use Rattle.liq_rule_step.specs.Verbs.{kind}
use Rattle.liq_types.specs.Codes.{value_count}
use Rattle.liq_rule_step.proofs.AlikeLiquidation.{lowest_by}
use Rattle.liq_rule_step.proofs.Allowed.{allowed_rules, none_first}

-- ---- values

one_counts : (r : Result One Refusal) → first_refusal (refusal_of r) ≡ None → length (one_values r) ≡ 6
one_counts (Ok one) h = refl
one_counts (Err refusal) h = cc

pub values_count : (s : State) (call : Call) → first_refusal (rules s call) ≡ None
    → length (values s call) ≡ value_count (kind call)
values_count s (Price price) h = refl
values_count s (Advance minutes) h = refl
values_count s (Fund account coll) h = refl
values_count s (Take account coll) h = refl
values_count s (Send from to lusd) h = refl
values_count s (Open account coll borrow bound hint) h = refl
values_count s (Adjust account coll_in coll_out borrow repay bound hint) h = refl
values_count s (Close account) h = refl
values_count s (Provide account lusd) h = refl
values_count s (Withdraw account lusd) h = refl
values_count s (GainToTrove account hint) h = refl
values_count s (Liquidate liquidator account) h = one_counts (one s account) h
values_count s (LiquidateLowest liquidator count) h = refl
values_count s (Redeem account lusd bound hint) h = refl
values_count s (Claim account) h = refl
values_count s Rotate h = refl

-- ---- events

victim_count : (s : State) (one : One) → length (victim_events s one) ≤ 1
victim_count s one = by (one.offset_debt == 0) where
  event : PoolEvent
  event = Offset one.offset_debt one.offset_coll (pool_total s) (rise_of (words_of s).p
      (record { debt = one.offset_debt; coll = one.offset_coll; total = pool_total s }))

  by : (b : Bool) → length (cond b [] (event ∷ [])) ≤ 1
  by true = omega arith
  by false = omega arith

offset_count : (vs : List Victim) (s : State) → length (offset_events s vs) ≤ length vs
offset_count [] s = omega arith
offset_count (v ∷ vs) s =
    let here = victim_count s v.one in
    let later = offset_count vs (struck s v) in
    let all = length-append (victim_events s v.one) (offset_events (struck s v) vs) in
    omega (arith, here, later, all)

lowest_count_by : (more : ℕ) (s : State) (next : Option Victim) → ((v : Victim) → length (lowest (struck s v) more)
    ≤ more) → length (lowest_by more s next) ≤ suc more
lowest_count_by more s None later = omega arith
lowest_count_by more s (Some v) later = let h = later v in omega (arith, h)

pub lowest_count : (n : ℕ) (s : State) → length (lowest s n) ≤ n
lowest_count zero s = omega arith
lowest_count (suc more) s = lowest_count_by more s (next_victim s) (λ v. lowest_count more (struck s v))

pub listed_count : (account : ℕ) (r : Result One Refusal) → length (listed (victim_by account r)) ≤ 1
listed_count account (Ok one) = omega arith
listed_count account (Err refusal) = omega arith

pub lowest_within : (s : State) (liquidator count : ℕ) → first_refusal (rules s (LiquidateLowest liquidator count))
    ≡ None → count ≤ LOWEST_MOST
lowest_within s liquidator count h =
    let rest = lowest_rules s in
    let above : nat_lt LOWEST_MOST count ≡ false =
    (none_first (nat_lt LOWEST_MOST count, AmountLimit count LOWEST_MOST) rest (none_first (count == 0, AmountZero)
    ((nat_lt LOWEST_MOST count, AmountLimit count LOWEST_MOST) ∷ rest) h).1).0 in
    grind (arith, nat_tests, above)

pub events_count : (s : State) (call : Call) → first_refusal (rules s call) ≡ None → length (call_events s call)
    ≤ LOWEST_MOST
events_count s (Provide account lusd) h = omega arith
events_count s (Withdraw account lusd) h = omega arith
events_count s (GainToTrove account hint) h = omega arith
events_count s (Liquidate liquidator account) h =
    let made = listed_count account (one s account) in
    let told = offset_count (listed (victim_by account (one s account))) s in
    omega (arith, made, told)
events_count s (LiquidateLowest liquidator count) h =
    let most = lowest_within s liquidator count h in
    let made = lowest_count count s in
    let told = offset_count (lowest s count) s in
    omega (arith, most, made, told)
events_count s _ h = omega arith

pub run_events_count : (requests : List Request) (s : State) → length (events s (accepted s requests))
    ≤ LOWEST_MOST * length (accepted s requests)
run_events_count [] s = omega arith
run_events_count (Ask query ∷ requests) s = run_events_count requests s
run_events_count (Do c ∷ requests) s = by (run_events_count requests) (ruling s c) refl where
  by : ((t : State) → length (events t (accepted t requests)) ≤ LOWEST_MOST * length (accepted t requests))
      → (r : Ruling) → ruling s c ≡ r
      → length (events s ((if is_allowed r then c ∷ [] else []) ++ accepted (after_ruling s c r).0 requests))
      ≤ LOWEST_MOST * length ((if is_allowed r then c ∷ [] else []) ++ accepted (after_ruling s c r).0 requests)
  by rest (Refused refusal) is = rest s
  by rest (Repeated kept) is = rest s
  by rest Allowed is =
      let here = events_count s c.call (allowed_rules s c is) in
      let later = rest (after s c) in
      let all = length-append (call_events s c.call) (events (after s c) (accepted (after s c) requests)) in
      omega (arith, here, later, all)
