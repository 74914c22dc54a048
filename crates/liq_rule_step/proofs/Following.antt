-- Whoever follows the changes of the ordered list has the list of the state that they lead to.
use Rattle.std.proofs.Common.{◌≡◌, ℕ, ◌+◌, ◌-◌, Bool, true, false, cond, List, [], ◌∷◌, ◌++◌, refl, ap, sym, subst, ◌∙◌, Some, None, Option, length}
use Rattle.std.specs.Prelude.{◌≢◌, ◌==◌, fold, map, option_map, if◌then◌else◌}
use Rattle.std.proofs.lemmas.List.Sums.{fold-append}
use Rattle.std.specs.List.{AllByRecursion}
use Rattle.std.specs.List.Sorted.{IsStrictlySortedBy}
use Rattle.std.specs.Map.{keys_of}
use Rattle.std.specs.Ordering.{nat_cmp, is_eq}
use Rattle.liq_types.specs.declared.events.ListChange.{ListChange}
use Rattle.liq_types.specs.declared.events.ListChange.TheVariants.{Gone}
use Rattle.liq_types.specs.declared.figures.Trove.{Trove}
use Rattle.liq_types.specs.declared.figures.Wallet.{Wallet}
use Rattle.liq_types.specs.declared.requests.Call.{Call}
use Rattle.liq_types.specs.declared.requests.Call.TheVariants.{Price, Advance, Fund, Take, Send, Open, Adjust, Close, Provide, Withdraw, GainToTrove, Liquidate, LiquidateLowest, Redeem, Claim, Rotate}
use Rattle.liq_types.specs.declared.requests.Command.{Command}
use Rattle.liq_types.specs.declared.requests.Request.{Request}
use Rattle.liq_types.specs.declared.requests.Request.TheVariants.{Do, Ask}
use Rattle.liq_types.specs.State.{State, TroveEntry}
use Rattle.liq_types.specs.declared.amounts.TheConstants.{RESERVE}
use Rattle.liq_types.specs.Payments.{credited, charged, surplus_added}
use Rattle.liq_types.specs.Tables.{Table, at, put, without, map_rows}
use Rattle.liq_types.specs.Totals.{market_of, or_nothing, pool_total}
use Rattle.liq_types.specs.WellFormed.{Ascends, IsMoment, IsWellFormed, TrovesAreMarked}
use Rattle.liq_types.proofs.Ascending.{put-ascends, without-ascends}
use Rattle.liq_types.proofs.MapRows.{at-map, map-put, map-without, map-cong}
use Rattle.liq_troves.specs.Own.{lifted_entry, lifted, placed, set_trove, redistributed, snapped}
use Rattle.liq_troves.specs.StakeSums.{trove_row, trove_rows, sums_now, entire_of}
use Rattle.liq_types.specs.Ranked.{Ranked}
use Rattle.liq_order.specs.Order.{order_by}
use Rattle.liq_stability.specs.Own.{owned, offset}
use Rattle.liq_stability.specs.Position.{gain_of}
use Rattle.liq_borrow.specs.declared.change.Change.{Change}
use Rattle.liq_borrow.specs.Borrowing.{open_debt, adjusting_terms, closing_terms}
use Rattle.liq_liquidation.specs.declared.one.Victim.{Victim}
use Rattle.liq_liquidation.specs.Lowest.{lowest, victim_by}
use Rattle.liq_liquidation.specs.One.{one, offset_if_any, struck, liquidated}
use Rattle.liq_redemption.specs.declared.cut.Cut.{Cut}
use Rattle.liq_redemption.specs.Redemption.{cuts_in, cut_entire, cut_down, closed_by}
use Rattle.liq_rule_step.specs.Borrowing.{with_fee}
use Rattle.liq_rule_step.specs.Liquidation.{listed, all_liquidated, victim_changes}
use Rattle.liq_rule_step.specs.ListChanges.{stands, words_in}
use Rattle.liq_rule_step.specs.Rules.{effect, call_changes, done_of}
use Rattle.liq_rule_step.specs.Step.{Ruling, Refused, Repeated, Allowed, after, after_ruling, ruling, run, accepted, is_allowed}
use Rattle.liq_rule_step.specs.View.{View, view_of, followed, all_followed, changes}
use Rattle.liq_rule_step.proofs.AlikeChanges.{formed-lifted}
use Rattle.liq_rule_step.proofs.AlikeFollowed.{told, stands-image}
use Rattle.liq_rule_step.proofs.AlikeLiquidation.{Serves, single_serves, lowest_serves, struck_alike, struck-total}
use Rattle.liq_rule_step.proofs.AlikeReplies.{alike_itself}
use Rattle.liq_rule_step.proofs.Ascending.{Ordered, cut_entire-ascends, effect-ascends, liquidated-ascends, noted-ascends}
use Rattle.liq_rule_step.proofs.AlikeStep.{effect_alike}
use Rattle.liq_rule_step.proofs.Rows.{differ, at-put_same, at-put_other, at-without_same, at-without_other}
use Rattle.liq_troves.proofs.BooksOf.{row_grown}
use Rattle.liq_types.proofs.Lookups.{same_key}
use Rattle.liq_order.proofs.Ranking.{left_order, put_list}
use Rattle.liq_types.proofs.SameRows.{same_rows, without-absent}

-- ---- a table that is mended row by row

abbrev mended : Table Trove → ℕ → Option Trove → Table Trove
mended table account None = without table account
mended table account (Some row) = put (without table account) account row

mended-ascends : (table : Table Trove) (account : ℕ) (o : Option Trove) → Ascends table
    → Ascends (mended table account o)
mended-ascends table account None s = without-ascends table account s
mended-ascends table account (Some row) s = put-ascends (without table account) account row
    (without-ascends table account s)

mended_here : (table : Table Trove) (account : ℕ) (o : Option Trove) → Ascends table
    → at (mended table account o) account ≡ o
mended_here table account None s = at-without_same table account s
mended_here table account (Some row) s = at-put_same (without table account) account row

mended_other : (table : Table Trove) (account q : ℕ) (o : Option Trove) → q ≢ account → at (mended table account o) q
    ≡ at table q
mended_other table account q None n = at-without_other table account q n
mended_other table account q (Some row) n = at-put_other (without table account) account q row n
    ∙ at-without_other table account q n

-- the view with the list of a table
abbrev view_by : Table Trove → View → View
view_by table v = record v { list = order_by table }

mended_view : (table : Table Trove) (v : View) (account : ℕ) (o : Option Trove) → Ascends table
    → followed (view_by table v) (told account o) ≡ view_by (mended table account o) v
mended_view table v account None s = ap (λ (list : List Ranked). record v { list = list })
    (sym (left_order table account s))
mended_view table v account (Some row) s = ap (λ (list : List Ranked). record v { list = list })
    (sym (put_list table account row s))

abbrev pub IsAway : ℕ → List ℕ → Type 0
IsAway q accounts = AllByRecursion (λ account. q ≢ account) accounts

abbrev told_by : Table Trove → ℕ → ListChange
told_by table account = told account (at table account)

follow : (accounts : List ℕ) (old new : Table Trove) (v : View) → Ascends old → Ascends new
    → ((q : ℕ) → IsAway q accounts → at new q ≡ at old q) → all_followed (view_by old v) (map (told_by new) accounts)
    ≡ view_by new v
follow [] old new v s t h = ap (λ (table : Table Trove). view_by table v) (same_rows old new s t (λ q. sym (h q tt)))
follow (account ∷ accounts) old new v s t h =
    let o = at new account in
    ap (λ w. all_followed w (map (told_by new) accounts)) (mended_view old v account o s)
    ∙ follow accounts (mended old account o) new v (mended-ascends old account o s) t rest where
      rest : (q : ℕ) → IsAway q accounts → at new q ≡ at (mended old account (at new account)) q
      rest q away = by (is_eq (nat_cmp q account)) refl where
        by : (b : Bool) → is_eq (nat_cmp q account) ≡ b → at new q ≡ at (mended old account (at new account)) q
        by true is = subst (λ k. at new k ≡ at (mended old account (at new account)) k) (sym (same_key q account is))
            (sym (mended_here old account (at new account) s))
        by false is = h q (differ q account is, away)
            ∙ sym (mended_other old account q (at new account) (differ q account is))

-- ---- the troves of a state, as its image has them

abbrev pub troves_in : State → Table Trove
troves_in s = trove_rows s

keys_kept : {X Y : Type 0} (f : X → Y) (table : Table X) → keys_of (map_rows f table) ≡ keys_of table
keys_kept f [] = refl
keys_kept f (e ∷ es) = ap (λ (keys : List ℕ). e.0 ∷ keys) (keys_kept f es)

abbrev strictly : List ℕ → Type 0
strictly keys = IsStrictlySortedBy nat_cmp keys

pub troves-ascend : (s : State) → Ascends s.troves → Ascends (troves_in s)
troves-ascend s h = subst strictly (sym (keys_kept (trove_row s) s.troves)) h

abbrev pub key_words : State → ℕ × ℕ × ℕ
key_words s = (s.snap_stakes, s.snap_coll, (sums_now s).debt)

-- a state differs from another in the troves of these accounts
pub record Changed (s next : State) (accounts : List ℕ) : Type 0 where
  pub words : key_words next ≡ key_words s
  pub others : (q : ℕ) → IsAway q accounts → at (troves_in next) q ≡ at (troves_in s) q

abbrev with_words : View → ℕ × ℕ × ℕ → View
with_words v words = record { list = v.list; snap_stakes = words.0; snap_coll = words.1; sum_debt = words.2 }

follows : (s next : State) (accounts : List ℕ) → Ascends s.troves → Ascends next.troves → Changed s next accounts
    → all_followed (view_of s) (map (stands next) accounts) ≡ view_of next
follows s next accounts a b h =
    let told_all : stands next ≡ told_by (troves_in next) = λ i account. stands-image next account i in
    ap (λ (f : ℕ → ListChange). all_followed (view_of s) (map f accounts)) told_all
    ∙ follow accounts (troves_in s) (troves_in next) (view_of s) (troves-ascend s a) (troves-ascend next b) h.others
    ∙ ap (with_words (view_of next)) (sym h.words)

-- ---- one trove

lifted-troves_entry : (s : State) (account : ℕ) → Ascends s.troves → (o : Option TroveEntry) → at s.troves account ≡ o
    → troves_in (lifted_entry s account o) ≡ without (troves_in s) account
lifted-troves_entry s account h None is =
    sym (without-absent (troves_in s) account (troves-ascend s h) (at-map (trove_row s) s.troves account
    ∙ ap (option_map (trove_row s)) is))
lifted-troves_entry s account h (Some t) is = map-without (trove_row s) s.troves account

pub lifted-troves : (s : State) (account : ℕ) → Ascends s.troves → troves_in (lifted s account)
    ≡ without (troves_in s) account
lifted-troves s account h = lifted-troves_entry s account h (at s.troves account) refl

pub lifted-words_entry : (s : State) (account : ℕ) (o : Option TroveEntry) → key_words (lifted_entry s account o)
    ≡ key_words s
lifted-words_entry s account None = refl
lifted-words_entry s account (Some t) = refl

lifted_changes : (s : State) (account : ℕ) → Ascends s.troves → Changed s (lifted s account) (account ∷ [])
lifted_changes s account h =
    record {
      words = lifted-words_entry s account (at s.troves account);
      others = λ q away. ap (λ (t : Table Trove). at t q) (lifted-troves s account h)
          ∙ at-without_other (troves_in s) account q away.0;
    }

lifted_stands : (s : State) (account : ℕ) → Ascends s.troves → Gone account ≡ stands (lifted s account) account
lifted_stands s account h =
    sym
    (stands-image (lifted s account) account
    ∙ ap (told account) (ap (λ (t : Table Trove). at t account) (lifted-troves s account h)
    ∙ at-without_same (troves_in s) account (troves-ascend s h)))

placed_other : (s : State) (account coll debt q : ℕ) → q ≢ account → at (troves_in (placed s account coll debt)) q
    ≡ at (troves_in s) q
placed_other s account coll debt q n =
    ap (λ (t : Table Trove). at t q) (map-put (trove_row s) s.troves account _)
    ∙ at-put_other (troves_in s) account q _ n

set_changes : (s : State) (account coll debt : ℕ) → Ascends s.troves
    → Changed s (set_trove s account coll debt) (account ∷ [])
set_changes s account coll debt h =
    let left = lifted_changes s account h in
    record {
      words = left.words;
      others = λ q away. placed_other (lifted s account) account coll debt q away.0
          ∙ left.others q away;
    }

-- ---- redemption

pub cut_changes_entire : (s : State) (cut : Cut) → Ascends s.troves → (o : Option (ℕ × ℕ))
    → Changed s (cut_entire s cut o) (cut.account ∷ [])
cut_changes_entire s cut h None = record { words = refl; others = λ q away. refl }
cut_changes_entire s cut h (Some own) = by cut.full where
  by : (b : Bool)
      → Changed s (cond b (closed_by s cut own) (set_trove s cut.account (own.0 - cut.draw) (own.1 - cut.lot)))
      (cut.account ∷ [])
  by true = let left = lifted_changes s cut.account h in record { words = left.words; others = left.others }
  by false = set_changes s cut.account (own.0 - cut.draw) (own.1 - cut.lot) h

abbrev pub accounts_of : List Cut → List ℕ
accounts_of cuts = map (λ (cut : Cut). cut.account) cuts

pub all_cut_changes : (cuts : List Cut) (s : State) → Ordered s → Changed s (fold cut_down s cuts) (accounts_of cuts)
all_cut_changes [] s h = record { words = refl; others = λ q away. refl }
all_cut_changes (cut ∷ cuts) s h =
    let first = cut_changes_entire s cut h.tables.1 (entire_of s cut.account) in
    let rest = all_cut_changes cuts (cut_down s cut) (cut_entire-ascends s cut (entire_of s cut.account) h) in
    record { words = rest.words ∙ first.words; others = λ q away. rest.others q away.1 ∙ first.others q (away.0, tt) }

map-twice : {X : Type 0} (f : ℕ → ListChange) (g : X → ℕ) (xs : List X) → map (λ x. f (g x)) xs ≡ map f (map g xs)
map-twice f g [] = refl
map-twice f g (x ∷ xs) = ap (λ (rest : List ListChange). f (g x) ∷ rest) (map-twice f g xs)

redeem_follows : (s : State) (account lusd bound : ℕ) → Ordered s → (next : State) → Ascends next.troves
    → Changed s next (accounts_of (cuts_in s lusd))
    → all_followed (view_of s) (map (λ (cut : Cut). stands next cut.account) (cuts_in s lusd)) ≡ view_of next
redeem_follows s account lusd bound h next asc changed =
    ap (all_followed (view_of s)) (map-twice (stands next) (λ (cut : Cut). cut.account) (cuts_in s lusd))
    ∙ follows s next (accounts_of (cuts_in s lusd)) h.tables.1 asc changed

-- ---- liquidation

if_any-troves : (s : State) (debt coll : ℕ) → troves_in (offset_if_any s debt coll) ≡ troves_in s
if_any-troves s debt coll = by (debt == 0) where
  by : (b : Bool) → troves_in (cond b s (offset s debt coll)) ≡ troves_in s
  by true = refl
  by false = refl

if_any-marked : (s : State) (debt coll : ℕ) → TrovesAreMarked (length s.redistributions) s.troves
    → TrovesAreMarked (length (offset_if_any s debt coll).redistributions) (offset_if_any s debt coll).troves
if_any-marked s debt coll h = by (debt == 0) where
  by : (b : Bool) → TrovesAreMarked (length (cond b s (offset s debt coll)).redistributions)
      (cond b s (offset s debt coll)).troves
  by true = h
  by false = h

struck-troves : (s : State) (v : Victim) → IsWellFormed s → Ascends s.troves
    → troves_in (struck s v) ≡ without (troves_in s) v.account
struck-troves s v w h =
    let left = lifted s v.account in
    let pooled = offset_if_any left v.one.offset_debt v.one.offset_coll in
    map-cong (trove_row (redistributed pooled v.one.spread_coll v.one.spread_debt)) (trove_row pooled)
    (λ (t : TroveEntry). IsMoment (length pooled.redistributions) t.mark)
    (row_grown pooled v.one.spread_coll v.one.spread_debt) pooled.troves
    (if_any-marked left v.one.offset_debt v.one.offset_coll (formed-lifted s v.account w).1)
    ∙ if_any-troves left v.one.offset_debt v.one.offset_coll
    ∙ lifted-troves s v.account h

struck_view : (s : State) (v : Victim) → IsWellFormed s → Ascends s.troves
    → followed (followed (view_of s) (Gone v.account)) (words_in (struck s v)) ≡ view_of (struck s v)
struck_view s v w h =
    ap (λ (list : List Ranked). record (view_of (struck s v)) { list = list })
    (sym (left_order (troves_in s) v.account (troves-ascend s h))
    ∙ sym (ap (λ (t : Table Trove). order_by t) (struck-troves s v w h)))

-- the same but for the reserve and the wallets
abbrev with_purse : State → ℕ → Table Wallet → State
with_purse s reserve wallets = record s { reserve = reserve; wallets = wallets }

lifted-purse : (s : State) (account reserve : ℕ) (wallets : Table Wallet) (o : Option TroveEntry)
    → lifted_entry (with_purse s reserve wallets) account o ≡ with_purse (lifted_entry s account o) reserve wallets
lifted-purse s account reserve wallets None = refl
lifted-purse s account reserve wallets (Some t) = refl

if_any-purse : (s : State) (debt coll reserve : ℕ) (wallets : Table Wallet)
    → offset_if_any (with_purse s reserve wallets) debt coll ≡ with_purse (offset_if_any s debt coll) reserve wallets
if_any-purse s debt coll reserve wallets = by (debt == 0) where
  by : (b : Bool) → cond b (with_purse s reserve wallets) (offset (with_purse s reserve wallets) debt coll)
      ≡ with_purse (cond b s (offset s debt coll)) reserve wallets
  by true = refl
  by false = refl

struck-purse : (s : State) (v : Victim) (reserve : ℕ) (wallets : Table Wallet) → struck (with_purse s reserve wallets) v
    ≡ with_purse (struck s v) reserve wallets
struck-purse s v reserve wallets =
    ap (λ left. rest (offset_if_any left v.one.offset_debt v.one.offset_coll)) (lifted-purse s v.account reserve wallets
    (at s.troves v.account))
    ∙ ap rest (if_any-purse (lifted s v.account) v.one.offset_debt v.one.offset_coll reserve wallets) where
      rest : State → State
      rest pooled = surplus_added (snapped (redistributed pooled v.one.spread_coll v.one.spread_debt)) v.account
          v.one.surplus

changes-purse : (vs : List Victim) (s : State) (reserve : ℕ) (wallets : Table Wallet)
    → victim_changes (with_purse s reserve wallets) vs ≡ victim_changes s vs
changes-purse [] s reserve wallets = refl
changes-purse (v ∷ vs) s reserve wallets =
    ap (λ next. Gone v.account ∷ words_in next ∷ victim_changes next vs) (struck-purse s v reserve wallets)
    ∙ ap (λ (rest : List ListChange). Gone v.account ∷ words_in (struck s v) ∷ rest)
    (changes-purse vs (struck s v) reserve wallets)

liquidations_follow : (vs : List Victim) (liquidator : ℕ) (s : State) → IsWellFormed s → Ordered s
    → Serves (pool_total s) vs → all_followed (view_of s) (victim_changes s vs)
    ≡ view_of (all_liquidated s liquidator vs)
liquidations_follow [] liquidator s w h served = refl
liquidations_follow (v ∷ vs) liquidator s w h served =
    let next = liquidated s liquidator v in
    ap (λ view. all_followed view (victim_changes (struck s v) vs)) (struck_view s v w h.tables.1)
    ∙ ap (all_followed (view_of next)) (sym (changes-purse vs (struck s v) next.reserve next.wallets))
    ∙ liquidations_follow vs liquidator next (struck_alike (alike_itself s w) v served.0).left
    (liquidated-ascends s liquidator v h)
    (subst (λ n. Serves n vs) (sym (struck-total s v)) served.1)

-- ---- every verb, and whole runs

pub call_follows : (s : State) (call : Call) → IsWellFormed s → Ordered s
    → all_followed (view_of s) (call_changes s call) ≡ view_of (effect s call)
call_follows s (Price price) w h = refl
call_follows s (Advance minutes) w h = refl
call_follows s (Fund account coll) w h = refl
call_follows s (Take account coll) w h = refl
call_follows s (Send from to lusd) w h = refl
call_follows s (Open account coll borrow bound hint) w h =
    let call = Open account coll borrow bound hint in
    follows s (effect s call) (account ∷ []) h.tables.1 (effect-ascends s call h).tables.1
    (record { words = refl; others = λ q away. placed_other s account coll (open_debt (market_of s) borrow) q away.0 })
call_follows s (Adjust account coll_in coll_out borrow repay bound hint) w h =
    let call = Adjust account coll_in coll_out borrow repay bound hint in
    let change : Change = record { coll_in = coll_in; coll_out = coll_out; borrow = borrow; repay = repay } in
    let plan = adjusting_terms (market_of s) (or_nothing (entire_of s account)) change in
    let moved = credited (charged (with_fee s plan) account coll_in repay) account coll_out borrow in
    let changed = set_changes moved account plan.coll plan.debt h.tables.1 in
    follows s (effect s call) (account ∷ []) h.tables.1 (effect-ascends s call h).tables.1
    (record { words = changed.words; others = changed.others })
call_follows s (Close account) w h =
    let terms = closing_terms (or_nothing (entire_of s account)) in
    let settled = credited (charged s account 0 terms.0) account terms.1 0 in
    let before = record settled { reserve = settled.reserve - RESERVE } in
    let changed = lifted_changes before account h.tables.1 in
    ap (λ (change : ListChange). followed (view_of s) change) (lifted_stands before account h.tables.1)
    ∙ follows s (effect s (Close account)) (account ∷ []) h.tables.1 (effect-ascends s (Close account) h).tables.1
    (record { words = changed.words; others = changed.others })
call_follows s (Provide account lusd) w h = refl
call_follows s (Withdraw account lusd) w h = refl
call_follows s (GainToTrove account hint) w h =
    let had = or_nothing (entire_of s account) in
    let changed = set_changes (owned s account 0 0) account (had.0 + gain_of s account) had.1 h.tables.1 in
    follows s (effect s (GainToTrove account hint)) (account ∷ []) h.tables.1
    (effect-ascends s (GainToTrove account hint) h).tables.1 (record {
      words = changed.words;
      others = changed.others;
    })
call_follows s (Liquidate liquidator account) w h =
    liquidations_follow (listed (victim_by account (one s account))) liquidator s w h (single_serves s account
    (one s account) refl)
call_follows s (LiquidateLowest liquidator count) w h = liquidations_follow (lowest s count) liquidator s w h
    (lowest_serves count s)
call_follows s (Redeem account lusd bound hint) w h =
    let call = Redeem account lusd bound hint in
    let changed = all_cut_changes (cuts_in s lusd) s h in
    redeem_follows s account lusd bound h (effect s call) (effect-ascends s call h).tables.1
    (record { words = changed.words; others = changed.others })
call_follows s (Claim account) w h = refl
call_follows s Rotate w h = refl

pub after_follows : (s : State) (c : Command) → IsWellFormed s → Ordered s
    → all_followed (view_of s) (call_changes s c.call) ≡ view_of (after s c)
after_follows s c w h = call_follows s c.call w h

pub run_follows : (requests : List Request) (s : State) → IsWellFormed s → Ordered s
    → all_followed (view_of s) (changes s (accepted s requests)) ≡ view_of (run s requests).0
run_follows [] s w h = refl
run_follows (Ask query ∷ requests) s w h = run_follows requests s w h
run_follows (Do c ∷ requests) s w h = by (run_follows requests) (ruling s c) refl where
  by : ((t : State) → IsWellFormed t → Ordered t → all_followed (view_of t) (changes t (accepted t requests))
      ≡ view_of (run t requests).0) → (r : Ruling) → ruling s c ≡ r
      → all_followed (view_of s) (changes s ((if is_allowed r then c ∷ [] else [])
      ++ accepted (after_ruling s c r).0 requests)) ≡ view_of (run (after_ruling s c r).0 requests).0
  by rest (Refused refusal) is = rest s w h
  by rest (Repeated kept) is = rest s w h
  by rest Allowed is =
      let next = after s c in
      fold-append followed (view_of s) (call_changes s c.call) (changes next (accepted next requests))
      ∙ ap (λ view. all_followed view (changes next (accepted next requests))) (after_follows s c w h)
      ∙ rest next (effect_alike (alike_itself s w) c.call).left (noted-ascends (effect s c.call) c (done_of s c.call)
      (effect-ascends s c.call h))
