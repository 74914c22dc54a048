-- What is known of a command that is allowed.
use Rattle.std.proofs.Common.{◌≡◌, ℕ, ◌+◌, ◌-◌, ◌≤◌, Bool, true, false, nat_lt, cond, List, [], ◌∷◌, ◌++◌, Some, None, Option, refl, ap, subst, ◌<◌, nat_le, ◌∙◌, arith}
use Rattle.std.specs.Prelude.{map, ◌==◌, fold}
use Rattle.std.proofs.lemmas.Bool.Decides.{nat_tests}
use Rattle.liq_types.specs.declared.amounts.TheConstants.{RESERVE, RECORDS_MOST, GENERATIONS_MOST, CHECKPOINT_BYTES_MOST}
use Rattle.liq_types.specs.declared.replies.Done.{Done}
use Rattle.liq_types.specs.declared.replies.Refusal.{Refusal}
use Rattle.liq_types.specs.declared.replies.Refusal.TheVariants.{AmountZero, AmountLimit, ShortCollateral, JournalFull}
use Rattle.liq_types.specs.declared.requests.Call.{Call}
use Rattle.liq_types.specs.declared.requests.Call.TheVariants.{Price, Advance, Fund, Take, Send, Open, Adjust, Close, Provide, Withdraw, GainToTrove, Liquidate, LiquidateLowest, Redeem, Claim, Rotate}
use Rattle.liq_types.specs.declared.requests.Command.{Command}
use Rattle.liq_types.specs.Rules.{Rule, first_refusal, where_above}
use Rattle.liq_rule_step.specs.Image.{image}
use Rattle.liq_types.specs.Length.{checkpoint_length}
use Rattle.liq_types.specs.Payments.{credited, charged}
use Rattle.liq_types.specs.State.{State, TroveEntry, wallet_of, client_of}
use Rattle.liq_types.specs.Tables.{at}
use Rattle.liq_types.specs.Totals.{market_of, or_nothing}
use Rattle.liq_troves.specs.Own.{lifted_entry, set_trove}
use Rattle.liq_troves.specs.StakeSums.{entire_of}
use Rattle.liq_stability.specs.Own.{owned, offset}
use Rattle.liq_borrow.specs.declared.change.Change.{Change}
use Rattle.liq_borrow.specs.Borrowing.{adjusting_terms, closing_terms}
use Rattle.liq_liquidation.specs.declared.one.Victim.{Victim}
use Rattle.liq_liquidation.specs.Lowest.{lowest, victim_by}
use Rattle.liq_liquidation.specs.One.{one, liquidated}
use Rattle.liq_redemption.specs.declared.cut.Cut.{Cut}
use Rattle.liq_redemption.specs.Redemption.{redeeming_terms, visited, closed_by, cut_entire, cut_down}
use Rattle.liq_rule_step.specs.Borrowing.{with_fee}
use Rattle.liq_rule_step.specs.Liquidation.{listed, all_liquidated}
use Rattle.liq_rule_step.specs.Step.{Ruling, Repeated, Allowed, unless_refused, ruling, rules, accounts, in_range, in_turn, is_repeated, after, tests, room_rules, effect}
use Rattle.liq_types.specs.Verbs.{is_rotate}

unless_allowed : (o : Option Refusal) (r : Ruling) → unless_refused o r ≡ Allowed → (o ≡ None) × (r ≡ Allowed)
unless_allowed None r h = (refl, h)
unless_allowed (Some refusal) r h = cc

not_repeated : (b : Bool) (kept : Done) (r : Ruling) → cond b (Repeated kept) r ≡ Allowed → r ≡ Allowed
not_repeated true kept r h = cc
not_repeated false kept r h = h

pub none_first : (rule : Rule) (more : List Rule) → first_refusal (rule ∷ more) ≡ None → (rule.0 ≡ false)
    × (first_refusal more ≡ None)
none_first rule more = by rule.0 where
  by : (b : Bool) → cond b (Some rule.1) (first_refusal more) ≡ None → (b ≡ false) × (first_refusal more ≡ None)
  by true h = cc
  by false h = (refl, h)

pub none_after : (first more : List Rule) → first_refusal (first ++ more) ≡ None → first_refusal more ≡ None
none_after [] more h = h
none_after (rule ∷ first) more h = none_after first more (none_first rule (first ++ more) h).1

none_before : (first more : List Rule) → first_refusal (first ++ more) ≡ None → first_refusal first ≡ None
none_before [] more h = refl
none_before (rule ∷ first) more h =
    let passed = none_first rule (first ++ more) h in
    ap (λ b. cond b (Some rule.1) (first_refusal first)) passed.0 ∙ none_before first more passed.1

-- its tests beside that of its client give no refusal
passes : (s : State) (c : Command) → ruling s c ≡ Allowed → first_refusal (tests s c) ≡ None
passes s c h =
    let later = (unless_allowed (first_refusal (in_range c.client ∷ [])) _ h).1 in
    (unless_allowed (first_refusal (tests s c)) Allowed (not_repeated (is_repeated s c) (client_of s c.client).kept _
    later)).0

-- what comes behind the test of its number
abbrev later_tests : State → Command → List Rule
later_tests s c = (map in_range (accounts c.call) ++ rules s c.call) ++ room_rules s c

pub allowed_number : (s : State) (c : Command) → ruling s c ≡ Allowed → c.number ≡ (client_of s c.client).last + 1
allowed_number s c h =
    let turn = (none_first (in_turn s c) (later_tests s c) (passes s c h)).0 in
    grind (arith, nat_tests, turn)

pub allowed_rules : (s : State) (c : Command) → ruling s c ≡ Allowed → first_refusal (rules s c.call) ≡ None
allowed_rules s c h =
    none_after (map in_range (accounts c.call)) (rules s c.call)
    (none_before (map in_range (accounts c.call) ++ rules s c.call) (room_rules s c)
    (none_first (in_turn s c) (later_tests s c) (passes s c h)).1)

-- a command that is no rotation has room in the journal
pub allowed_few : (s : State) (c : Command) → ruling s c ≡ Allowed → is_rotate c.call ≡ false → s.records < RECORDS_MOST
allowed_few s c h stays =
    let last = none_after (map in_range (accounts c.call) ++ rules s c.call) (room_rules s c) (none_first (in_turn s c)
    (later_tests s c) (passes s c h)).1 in
    let room = subst (λ b. first_refusal (cond b (where_above (s.generation + 1) GENERATIONS_MOST AmountLimit
    ∷ where_above (checkpoint_length (image (after s c))) CHECKPOINT_BYTES_MOST AmountLimit ∷ [])
    ((nat_le RECORDS_MOST s.records, JournalFull RECORDS_MOST) ∷ [])) ≡ None) stays last in
    let full : nat_le RECORDS_MOST s.records ≡ false =
    (none_first (nat_le RECORDS_MOST s.records, JournalFull RECORDS_MOST) [] room).0 in
    grind (arith, nat_tests, full)

pub second_false : (first second : Rule) → first_refusal (first ∷ second ∷ []) ≡ None → second.0 ≡ false
second_false first second h = (none_first second [] (none_first first (second ∷ []) h).1).0

pub fund_within : (s : State) (account coll : ℕ) → first_refusal (rules s (Fund account coll)) ≡ None
    → s.brought + coll ≤ s.limit
fund_within s account coll h =
    let fits : nat_lt s.limit (s.brought + coll) ≡ false =
    second_false (coll == 0, AmountZero) (nat_lt s.limit (s.brought + coll), AmountLimit (s.brought + coll) s.limit) h
    in
    grind (arith, nat_tests, fits)

pub take_enough : (s : State) (account coll : ℕ) → first_refusal (rules s (Take account coll)) ≡ None
    → coll ≤ (wallet_of s account).coll
take_enough s account coll h =
    let have = (wallet_of s account).coll in
    let enough : nat_lt have coll ≡ false = second_false (coll == 0, AmountZero) (
      nat_lt have coll,
      ShortCollateral coll have,
    ) h in
    grind (arith, nat_tests, enough)

pub lifted-records : (s : State) (account : ℕ) (o : Option TroveEntry) → (lifted_entry s account o).records ≡ s.records
lifted-records s account None = refl
lifted-records s account (Some t) = refl

cut-records : (s : State) (cut : Cut) (o : Option (ℕ × ℕ)) → (cut_entire s cut o).records ≡ s.records
cut-records s cut None = refl
cut-records s cut (Some own) = by cut.full where
  by : (b : Bool)
      → (cond b (closed_by s cut own) (set_trove s cut.account (own.0 - cut.draw) (own.1 - cut.lot))).records
      ≡ s.records
  by true = lifted-records s cut.account (at s.troves cut.account)
  by false = lifted-records s cut.account (at s.troves cut.account)

cuts-records : (cuts : List Cut) (s : State) → (fold cut_down s cuts).records ≡ s.records
cuts-records [] s = refl
cuts-records (cut ∷ cuts) s = cuts-records cuts (cut_down s cut) ∙ cut-records s cut (entire_of s cut.account)

liquidated-records : (s : State) (liquidator : ℕ) (v : Victim) → (liquidated s liquidator v).records ≡ s.records
liquidated-records s liquidator v = by (at s.troves v.account) (v.one.offset_debt == 0) where
  by : (o : Option TroveEntry) (b : Bool)
      → (cond b (lifted_entry s v.account o) (offset (lifted_entry s v.account o) v.one.offset_debt
      v.one.offset_coll)).records ≡ s.records
  by o true = lifted-records s v.account o
  by o false = lifted-records s v.account o

pub all-records : (vs : List Victim) (s : State) (liquidator : ℕ) → (all_liquidated s liquidator vs).records ≡ s.records
all-records [] s liquidator = refl
all-records (v ∷ vs) s liquidator = all-records vs (liquidated s liquidator v) liquidator
    ∙ liquidated-records s liquidator v

-- the effect of a call leaves the count of records
pub effect-records : (s : State) (call : Call) → (effect s call).records ≡ s.records
effect-records s (Price price) = refl
effect-records s (Advance minutes) = refl
effect-records s (Fund account coll) = refl
effect-records s (Take account coll) = refl
effect-records s (Send from to lusd) = refl
effect-records s (Open account coll borrow bound hint) = refl
effect-records s (Adjust account coll_in coll_out borrow repay bound hint) =
    let change : Change = record { coll_in = coll_in; coll_out = coll_out; borrow = borrow; repay = repay } in
    let plan = adjusting_terms (market_of s) (or_nothing (entire_of s account)) change in
    lifted-records (credited (charged (with_fee s plan) account coll_in repay) account coll_out borrow) account
    (at s.troves account)
effect-records s (Close account) =
    let terms = closing_terms (or_nothing (entire_of s account)) in
    let settled = credited (charged s account 0 terms.0) account terms.1 0 in
    lifted-records (record settled { reserve = settled.reserve - RESERVE }) account (at s.troves account)
effect-records s (Provide account lusd) = refl
effect-records s (Withdraw account lusd) = refl
effect-records s (GainToTrove account hint) = lifted-records (owned s account 0 0) account (at s.troves account)
effect-records s (Liquidate liquidator account) = all-records (listed (victim_by account (one s account))) s liquidator
effect-records s (LiquidateLowest liquidator count) = all-records (lowest s count) s liquidator
effect-records s (Redeem account lusd bound hint) = cuts-records (redeeming_terms (market_of s) (visited s) lusd).cuts s
effect-records s (Claim account) = refl
effect-records s Rotate = refl
