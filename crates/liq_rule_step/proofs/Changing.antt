-- Which commands change the ordered list.
use Rattle.std.proofs.Common.{◌≡◌, ℕ, zero, suc, ◌<◌, true, false, nat_le, nat_lt, List, [], ◌∷◌, Some, None, Option, length, refl, ap, sym, ◌∙◌, arith}
use Rattle.std.specs.Prelude.{◌≢◌, ◌==◌, Result, Ok, Err, map, reverse, sum_by}
use Rattle.std.proofs.lemmas.Bool.Decides.{nat_tests}
use Rattle.std.proofs.lemmas.List.{length-reverse}
use Rattle.std.proofs.lemmas.List.Sorted.{length_permutation}
use Rattle.liq_types.specs.declared.amounts.TheConstants.{LOWEST_MOST}
use Rattle.liq_types.specs.declared.replies.Refusal.{Refusal}
use Rattle.liq_types.specs.declared.replies.Refusal.TheVariants.{AmountZero, AmountLimit}
use Rattle.liq_types.specs.declared.requests.Call.{Call}
use Rattle.liq_types.specs.declared.requests.Call.TheVariants.{Price, Advance, Fund, Take, Send, Open, Adjust, Close, Provide, Withdraw, GainToTrove, Liquidate, LiquidateLowest, Redeem, Claim, Rotate}
use Rattle.liq_types.specs.Ranked.{Ranked, first_of, last_account}
use Rattle.liq_types.specs.Rules.{first_refusal, last_trove_stays}
use Rattle.liq_types.specs.State.{State, TroveEntry}
use Rattle.liq_types.specs.Tables.{Table, map_rows}
use Rattle.liq_types.specs.Totals.{market_of, trove_count}
use Rattle.liq_troves.specs.StakeSums.{trove_row, trove_rows}
use Rattle.liq_order.specs.Order.{ranks, trove_order, last_trove}
use Rattle.liq_order.proofs.Sorting.{sorted_same}
use Rattle.liq_liquidation.specs.declared.one.One.{One}
use Rattle.liq_liquidation.specs.declared.one.Victim.{Victim}
use Rattle.liq_liquidation.specs.Lowest.{lowest, lowest_rules, first_of_lowest, next_victim, victim_at, victim_by, refusal_of}
use Rattle.liq_liquidation.specs.One.{one, struck}
use Rattle.liq_redemption.specs.declared.cut.Cut.{Cut}
use Rattle.liq_redemption.specs.Redemption.{cuts_in}
use Rattle.liq_rule_step.specs.Liquidation.{listed, victim_changes}
use Rattle.liq_rule_step.specs.Rules.{rules, effect, call_changes}
use Rattle.liq_rule_step.specs.ListChanges.{stands}
use Rattle.liq_rule_step.specs.View.{changes_list}
use Rattle.liq_rule_step.proofs.AlikeLiquidation.{lowest_by}
use Rattle.liq_rule_step.proofs.Allowed.{none_first}
use Rattle.liq_types.proofs.Tests.{all_false}

pub unchanged : (s : State) (call : Call) → changes_list call ≡ false → call_changes s call ≡ []
unchanged s (Price price) h = refl
unchanged s (Advance minutes) h = refl
unchanged s (Fund account coll) h = refl
unchanged s (Take account coll) h = refl
unchanged s (Send from to lusd) h = refl
unchanged s (Provide account lusd) h = refl
unchanged s (Withdraw account lusd) h = refl
unchanged s (Claim account) h = refl
unchanged s Rotate h = refl
unchanged s _ h = cc

-- ---- some victim

some_change : (s : State) (v : Victim) (vs : List Victim) → victim_changes s (v ∷ vs) ≢ []
some_change s v vs e = cc

one_struck : (s : State) (account : ℕ) (r : Result One Refusal) → first_refusal (refusal_of r) ≡ None
    → victim_changes s (listed (victim_by account r)) ≢ []
one_struck s account (Ok done) h = some_change s (record { account = account; one = done }) []
one_struck s account (Err refusal) h = cc

order-length : (s : State) → length (trove_order s) ≡ trove_count s
order-length s =
    length_permutation (ranks (trove_rows s)) (trove_order s) (sorted_same (ranks (trove_rows s)))
    ∙ ranks-length s.troves where
      ranks-length : (table : Table TroveEntry) → length (ranks (map_rows (trove_row s) table)) ≡ length table
      ranks-length [] = refl
      ranks-length (e ∷ es) = ap suc (ranks-length es)

last_some : (list : List Ranked) → last_account list ≡ None → length list ≡ 0
last_some list h = by (reverse list) h (length-reverse list) where
  by : (back : List Ranked) → first_of (map (λ (e : Ranked). e.1) back) ≡ None → length back ≡ length list
      → length list ≡ 0
  by [] n e = sym e
  by (x ∷ xs) n e = cc

lowest_some : (s : State) (more : ℕ) (next : Option Victim) → next ≢ None
    → victim_changes s (lowest_by more s next) ≢ []
lowest_some s more None h = absurd (h refl)
lowest_some s more (Some v) h = some_change s v (lowest (struck s v) more)

victim_some : (account : ℕ) (r : Result One Refusal) → first_refusal (refusal_of r) ≡ None → victim_by account r ≢ None
victim_some account (Ok done) h e = cc
victim_some account (Err refusal) h e = cc

next_some : (s : State) (last : Option ℕ) → last ≢ None → first_refusal (first_of_lowest s last) ≡ None
    → victim_at s last ≢ None
next_some s None some h = absurd (some refl)
next_some s (Some account) some h = victim_some account (one s account) h

lowest_struck : (s : State) (count : ℕ) → (count == 0) ≡ false → first_refusal (lowest_rules s) ≡ None
    → victim_changes s (lowest s count) ≢ []
lowest_struck s zero n h = cc
lowest_struck s (suc more) n h =
    let stays = none_first (last_trove_stays (market_of s)) (first_of_lowest s (last_trove s)) h in
    let several : nat_le (trove_count s) 1 ≡ false = stays.0 in
    let length_is = order-length s in
    lowest_some s more (next_victim s)
    (next_some s (last_trove s)
    (λ e. let none = last_some (trove_order s) e in few (trove_count s) several (sym length_is ∙ none)) stays.1) where
      few : (n : ℕ) → nat_le n 1 ≡ false → n ≡ 0 → ⊥
      few n a b = clash (grind (arith, nat_tests, a)) where
        clash : 1 < n → ⊥
        clash k = omega (arith, k, b)

some_cut : (next : State) (cuts : List Cut) → (sum_by (λ (cut : Cut). cut.lot) cuts == 0) ≡ false
    → map (λ (cut : Cut). stands next cut.account) cuts ≢ []
some_cut next [] h = cc
some_cut next (cut ∷ cuts) h = λ e. cc

pub changed : (s : State) (call : Call) → first_refusal (rules s call) ≡ None → changes_list call ≡ true
    → call_changes s call ≢ []
changed s (Open account coll borrow bound hint) h k = λ e. cc
changed s (Adjust account coll_in coll_out borrow repay bound hint) h k = λ e. cc
changed s (Close account) h k = λ e. cc
changed s (GainToTrove account hint) h k = λ e. cc
changed s (Liquidate liquidator account) h k = one_struck s account (one s account) h
changed s (LiquidateLowest liquidator count) h k =
    let first = none_first (count == 0, AmountZero) ((nat_lt LOWEST_MOST count, AmountLimit count LOWEST_MOST)
    ∷ lowest_rules s) h in
    let second = none_first (nat_lt LOWEST_MOST count, AmountLimit count LOWEST_MOST) (lowest_rules s) first.1 in
    lowest_struck s count first.0 second.1
changed s (Redeem account lusd bound hint) h k =
    some_cut (effect s (Redeem account lusd bound hint)) (cuts_in s lusd)
    (all_false (rules s (Redeem account lusd bound hint)) h).1.1.1.1.1.0
changed s _ h k = cc
