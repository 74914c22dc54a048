-- States with the same image and records give the same reply to every request, also over whole runs.
use Rattle.std.proofs.Common.{◌≡◌, ℕ, ◌+◌, Bool, true, false, List, [], ◌∷◌, ◌++◌, refl, ap, sym, ◌∙◌, subst, Some, None, Option, nat_lt, nat_le}
use Rattle.std.specs.Prelude.{is_some, is_none, option_map, min, map, ◌==◌, ◌&&◌, not, if◌then◌else◌}
use Rattle.liq_types.specs.declared.amounts.TheConstants.{MCR, LOWEST_MOST, MINUTE_MOST, GENERATIONS_MOST, RECORDS_MOST, CHECKPOINT_BYTES_MOST, NUMBER_MOST}
use Rattle.liq_types.specs.declared.figures.Client.{Client}
use Rattle.liq_types.specs.declared.figures.Market.{Market}
use Rattle.liq_types.specs.declared.figures.Trove.{Trove}
use Rattle.liq_types.specs.declared.figures.Wallet.{Wallet}
use Rattle.liq_types.specs.declared.replies.Done.{Done}
use Rattle.liq_types.specs.declared.replies.Info.{Info}
use Rattle.liq_types.specs.declared.replies.Info.TheVariants as info
use Rattle.liq_types.specs.declared.replies.Refusal.TheVariants.{AmountLimit, NoDeposit, ShortCollateral, ShortTokens, NoSurplus, TroveUnder, OutOfTurn, JournalFull}
use Rattle.liq_types.specs.declared.replies.Reply.{Reply}
use Rattle.liq_types.specs.declared.replies.Reply.TheVariants.{Said, Told}
use Rattle.liq_types.specs.declared.requests.Call.{Call}
use Rattle.liq_types.specs.declared.requests.Call.TheVariants.{Price, Advance, Fund, Take, Send, Open, Adjust, Close, Provide, Withdraw, GainToTrove, Liquidate, LiquidateLowest, Redeem, Claim, Rotate}
use Rattle.liq_types.specs.declared.requests.Command.{Command}
use Rattle.liq_types.specs.declared.requests.Query.{Query}
use Rattle.liq_types.specs.declared.requests.Query.TheVariants as query
use Rattle.liq_types.specs.declared.requests.Request.{Request}
use Rattle.liq_types.specs.declared.requests.Request.TheVariants.{Do, Ask}
use Rattle.liq_types.specs.declared.image.Image.{Image}
use Rattle.liq_types.specs.Rules.{Rule, where_below, where_short, where_above, first_refusal, last_trove_stays}
use Rattle.liq_types.specs.State.{State, wallet_of, client_of, TroveEntry, DepositEntry}
use Rattle.liq_types.specs.Tables.{at, put}
use Rattle.liq_types.specs.Totals.{market_of, worth, asked, is_recovery, trove_count}
use Rattle.liq_troves.specs.StakeSums.{entire_of, trove_row, pending}
use Rattle.liq_order.specs.Order.{last_trove}
use Rattle.liq_stability.specs.Position.{balance_of, gain_of}
use Rattle.liq_borrow.specs.declared.change.Change.{Change}
use Rattle.liq_borrow.specs.Borrowing.{or_nothing, open_rules, adjust_rules, close_rules, gain_rules}
use Rattle.liq_liquidation.specs.Lowest.{refusal_of, first_of_lowest}
use Rattle.liq_redemption.specs.Redemption.{redeem_rules, visited, Visit}
use Rattle.liq_rule_step.specs.Image.{image}
use Rattle.liq_types.specs.Length.{checkpoint_length}
use Rattle.liq_rule_step.specs.Queries.{trove_info, deposit_info, pools, system, answer, unless_out_of_range}
use Rattle.liq_rule_step.specs.Pool.{no_deposit, trove_under}
use Rattle.liq_rule_step.specs.Row.{not_zero}
use Rattle.liq_rule_step.specs.Rules.{rules}
use Rattle.liq_rule_step.specs.Step.{Ruling, Refused, Repeated, Allowed, in_range, in_turn, records_after, noted, after, room_rules, tests, unless_refused, ruling, after_ruling, step, run, accounts, is_allowed, newly_accepted, accepted}
use Rattle.liq_types.specs.Verbs.{is_rotate}
use Rattle.liq_types.specs.WellFormed.{IsWellFormed}
use Rattle.liq_types.proofs.MapRows.{at-map}
use Rattle.liq_rule_step.proofs.AlikeReads.{Alike, wallet_alike, client_alike, surplus_alike, market_alike, entire_alike, exists_alike, last_alike, balance_alike, gain_alike, no_deposit_alike, count_alike}
use Rattle.liq_rule_step.proofs.AlikeLiquidation.{one_alike}
use Rattle.liq_rule_step.proofs.AlikeRedemption.{visited_alike}
use Rattle.liq_rule_step.proofs.AlikeStep.{effect_alike, done_alike}

-- ---- refusals

under_alike : {s t : State} → Alike s t → (last : Option ℕ) → trove_under s last ≡ trove_under t last
under_alike h None = refl
under_alike {s} {t} h (Some account) =
    ap (λ (o : Option (ℕ × ℕ)). where_below (worth (or_nothing o).0 s.price) (asked MCR (or_nothing o).1)
    (TroveUnder account) ∷ []) (entire_alike h account)
    ∙ ap (λ (i : Image). where_below (worth (or_nothing (entire_of t account)).0 i.price)
    (asked MCR (or_nothing (entire_of t account)).1) (TroveUnder account) ∷ []) h.image

lowest_rule_alike : {s t : State} → Alike s t → (last : Option ℕ) → first_of_lowest s last ≡ first_of_lowest t last
lowest_rule_alike h None = refl
lowest_rule_alike h (Some account) = ap refusal_of (one_alike h account)

redeem_rules_alike : {s t : State} → Alike s t → (account amount bound : ℕ)
    → redeem_rules (market_of s) (wallet_of s account) (visited s) amount bound
    ≡ redeem_rules (market_of t) (wallet_of t account) (visited t) amount bound
redeem_rules_alike {s} {t} h account amount bound =
    ap (λ (m : Market). redeem_rules m (wallet_of s account) (visited s) amount bound) (market_alike h)
    ∙ ap (λ (w : Wallet). redeem_rules (market_of t) w (visited s) amount bound) (wallet_alike h account)
    ∙ ap (λ (visits : List Visit). redeem_rules (market_of t) (wallet_of t account) visits amount bound)
    (visited_alike h)

pub rules_alike : {s t : State} → Alike s t → (call : Call) → rules s call ≡ rules t call
rules_alike h (Price price) = refl
rules_alike h (Advance minutes) = ap (λ (i : Image). not_zero minutes ∷ where_above (i.minute + minutes) MINUTE_MOST
    AmountLimit ∷ []) h.image
rules_alike h (Fund account coll) =
    ap (λ (i : Image). not_zero coll ∷ where_above (i.brought + coll) i.limit AmountLimit ∷ []) h.image
rules_alike h (Take account coll) = ap (λ (w : Wallet). not_zero coll ∷ where_short coll w.coll ShortCollateral ∷ [])
    (wallet_alike h account)
rules_alike h (Send from to lusd) = ap (λ (w : Wallet). not_zero lusd ∷ where_short lusd w.lusd ShortTokens ∷ [])
    (wallet_alike h from)
rules_alike {s} {t} h (Open account coll borrow bound hint) =
    ap (λ (m : Market). open_rules m (wallet_of s account) (is_some (at s.troves account)) account coll borrow bound)
    (market_alike h)
    ∙ ap (λ (w : Wallet). open_rules (market_of t) w (is_some (at s.troves account)) account coll borrow bound)
    (wallet_alike h account)
    ∙ ap (λ b. open_rules (market_of t) (wallet_of t account) b account coll borrow bound) (exists_alike h account)
rules_alike {s} {t} h (Adjust account coll_in coll_out borrow repay bound hint) =
    let change : Change = record { coll_in = coll_in; coll_out = coll_out; borrow = borrow; repay = repay } in
    ap (λ (m : Market). adjust_rules m (wallet_of s account) (entire_of s account) account change bound)
    (market_alike h)
    ∙ ap (λ (w : Wallet). adjust_rules (market_of t) w (entire_of s account) account change bound)
    (wallet_alike h account)
    ∙ ap (λ (o : Option (ℕ × ℕ)). adjust_rules (market_of t) (wallet_of t account) o account change bound)
    (entire_alike h account)
rules_alike {s} {t} h (Close account) =
    ap (λ (m : Market). close_rules m (wallet_of s account) (entire_of s account) account) (market_alike h)
    ∙ ap (λ (w : Wallet). close_rules (market_of t) w (entire_of s account) account) (wallet_alike h account)
    ∙ ap (λ (o : Option (ℕ × ℕ)). close_rules (market_of t) (wallet_of t account) o account) (entire_alike h account)
rules_alike h (Provide account lusd) = ap (λ (w : Wallet). not_zero lusd ∷ where_short lusd w.lusd ShortTokens ∷ [])
    (wallet_alike h account)
rules_alike {s} {t} h (Withdraw account lusd) =
    ap (λ b. (b, NoDeposit account) ∷ (if nat_lt 0 lusd then trove_under s (last_trove s) else []))
    (no_deposit_alike h account)
    ∙ ap (λ (rest : List Rule). no_deposit t account ∷ (if nat_lt 0 lusd then rest else []))
    (ap (trove_under s) (last_alike h) ∙ under_alike h (last_trove t))
rules_alike {s} {t} h (GainToTrove account hint) =
    ap (λ b. (b, NoDeposit account) ∷ gain_rules (market_of s) (entire_of s account) account (gain_of s account))
    (no_deposit_alike h account)
    ∙ ap (λ (m : Market). no_deposit t account ∷ gain_rules m (entire_of s account) account (gain_of s account))
    (market_alike h)
    ∙ ap (λ (o : Option (ℕ × ℕ)). no_deposit t account ∷ gain_rules (market_of t) o account (gain_of s account))
    (entire_alike h account)
    ∙ ap (λ n. no_deposit t account ∷ gain_rules (market_of t) (entire_of t account) account n) (gain_alike h account)
rules_alike h (Liquidate liquidator account) = ap refusal_of (one_alike h account)
rules_alike {s} {t} h (LiquidateLowest liquidator count) =
    ap (λ (m : Market). not_zero count ∷ where_above count LOWEST_MOST AmountLimit ∷ last_trove_stays m
    ∷ first_of_lowest s (last_trove s)) (market_alike h)
    ∙ ap (λ (rest : List Rule). not_zero count ∷ where_above count LOWEST_MOST AmountLimit
    ∷ last_trove_stays (market_of t) ∷ rest) (ap (first_of_lowest s) (last_alike h)
    ∙ lowest_rule_alike h (last_trove t))
rules_alike h (Redeem account lusd bound hint) = redeem_rules_alike h account lusd bound
rules_alike h (Claim account) = ap (λ n. (n == 0, NoSurplus account) ∷ []) (surplus_alike h account)
rules_alike h Rotate = refl

-- ---- what a command leaves

records_alike : {s t : State} → Alike s t → (call : Call) → records_after s call ≡ records_after t call
records_alike h call = ap (λ n. if is_rotate call then 0 else n + 1) h.records

noted_alike : {s t : State} → Alike s t → (c : Command) (d e : Done) → d ≡ e → Alike (noted s c d) (noted t c e)
noted_alike {s} {t} h c d e same =
    record {
      image =
          ap (λ (i : Image). record i {
            clients = put i.clients c.client (record { last = c.number; kept = d });
          }) h.image
          ∙ ap (λ (x : Done). record (image t) {
            clients = put t.clients c.client (record { last = c.number; kept = x });
          }) same;
      records = records_alike h c.call;
      left = h.left;
      right = h.right;
    }

pub after_alike : {s t : State} → Alike s t → (c : Command) → Alike (after s c) (after t c)
after_alike h c = noted_alike (effect_alike h c.call) c _ _ (done_alike h c.call)

room_by : Command → ℕ → ℕ → ℕ → List Rule
room_by c generation bytes records =
    if is_rotate c.call
    then where_above (generation + 1) GENERATIONS_MOST AmountLimit ∷ where_above bytes CHECKPOINT_BYTES_MOST
    AmountLimit ∷ []
    else (nat_le RECORDS_MOST records, JournalFull RECORDS_MOST) ∷ []

room_alike : {s t : State} → Alike s t → (c : Command) → room_rules s c ≡ room_rules t c
unfolding room_by
room_alike {s} {t} h c =
    ap (λ n. room_by c n (checkpoint_length (image (after s c))) s.records) (ap (λ (i : Image). i.generation) h.image)
    ∙ ap (λ n. room_by c t.generation n s.records) (ap checkpoint_length (after_alike h c).image)
    ∙ ap (λ n. room_by c t.generation (checkpoint_length (image (after t c))) n) h.records

tests_alike : {s t : State} → Alike s t → (c : Command) → tests s c ≡ tests t c
tests_alike {s} {t} h c =
    ap (λ (k : Client). (not (c.number == k.last + 1), OutOfTurn (min (k.last + 1) NUMBER_MOST))
    ∷ map in_range (accounts c.call) ++ rules s c.call ++ room_rules s c) (client_alike h c.client)
    ∙ ap (λ (rs : List Rule). in_turn t c ∷ map in_range (accounts c.call) ++ rs ++ room_rules s c)
    (rules_alike h c.call)
    ∙ ap (λ (rs : List Rule). in_turn t c ∷ map in_range (accounts c.call) ++ rules t c.call ++ rs) (room_alike h c)

ruling_by : Command → Client → List Rule → Ruling
ruling_by c k testing =
    unless_refused (first_refusal (in_range c.client ∷ []))
    (if c.number == k.last && not (c.number == 0) then Repeated k.kept
    else unless_refused (first_refusal testing) Allowed)

pub ruling_alike : {s t : State} → Alike s t → (c : Command) → ruling s c ≡ ruling t c
unfolding ruling_by
ruling_alike {s} {t} h c =
    ap (λ (k : Client). ruling_by c k (tests s c)) (client_alike h c.client)
    ∙ ap (ruling_by c (client_of t c.client)) (tests_alike h c)

-- ---- queries

unfoldable pub trove_told : Image → Option Trove → Info
trove_told i None = info.NoTrove
trove_told i (Some t) = info.Trove (t.coll + pending t.stake i.sum_coll t.mark_coll)
    (t.debt + pending t.stake i.sum_debt t.mark_debt) t.stake

trove_info-image : (s : State) (o : Option TroveEntry)
    → trove_info s o ≡ trove_told (image s) (option_map (trove_row s) o)
unfolding trove_told
trove_info-image s None = refl
trove_info-image s (Some t) = refl

pub trove_told_at : (s : State) (account : ℕ) → trove_info s (at s.troves account)
    ≡ trove_told (image s) (at (image s).troves account)
trove_told_at s account = trove_info-image s (at s.troves account)
    ∙ ap (trove_told (image s)) (sym (at-map (trove_row s) s.troves account))

told : Bool → ℕ → ℕ → Info
told true balance gain = info.NoDeposit
told false balance gain = info.Deposit balance gain

deposit_told : (s : State) (account : ℕ) (o : Option DepositEntry) → deposit_info s account o
    ≡ told (is_none o) (balance_of s account) (gain_of s account)
unfolding told
deposit_told s account None = refl
deposit_told s account (Some d) = refl

deposit_alike : {s t : State} → Alike s t → (account : ℕ) → deposit_info s account (at s.deposits account)
    ≡ deposit_info t account (at t.deposits account)
deposit_alike {s} {t} h account =
    deposit_told s account (at s.deposits account)
    ∙ ap (λ b. told b (balance_of s account) (gain_of s account)) (no_deposit_alike h account)
    ∙ ap (λ n. told (is_none (at t.deposits account)) n (gain_of s account)) (balance_alike h account)
    ∙ ap (λ n. told (is_none (at t.deposits account)) (balance_of t account) n) (gain_alike h account)
    ∙ sym (deposit_told t account (at t.deposits account))

pools_alike : {s t : State} → Alike s t → pools s ≡ pools t
pools_alike h = ap (λ (i : Image). i.active_coll ∷ i.active_debt ∷ i.default_coll ∷ i.default_debt ∷ i.reserve
    ∷ i.surplus ∷ i.fee_coll ∷ i.fee_lusd ∷ i.total ∷ i.pool_coll ∷ []) h.image

system_by : Image → Market → ℕ → ℕ → List ℕ
system_by i m troves records =
    i.price ∷ i.minute ∷ i.base ∷ i.fee_minute ∷ (if is_recovery m then 1 else 0) ∷ troves ∷ i.stakes
    ∷ (i.active_coll + i.default_coll) ∷ (i.active_debt + i.default_debt) ∷ records ∷ []

system_alike : {s t : State} → Alike s t → system s ≡ system t
unfolding system_by
system_alike {s} {t} h =
    ap (λ (i : Image). system_by i (market_of s) (trove_count s) s.records) h.image
    ∙ ap (λ (m : Market). system_by (image t) m (trove_count s) s.records) (market_alike h)
    ∙ ap (λ n. system_by (image t) (market_of t) n s.records) (count_alike h)
    ∙ ap (λ n. system_by (image t) (market_of t) (trove_count t) n) h.records

pub answer_alike : {s t : State} → Alike s t → (q : Query) → answer s q ≡ answer t q
answer_alike h (query.Wallet account) =
    ap (λ (w : Wallet). unless_out_of_range account (Told (info.Wallet w.coll w.lusd))) (wallet_alike h account)
answer_alike {s} {t} h (query.Trove account) =
    ap (λ (x : Info). unless_out_of_range account (Told x))
    (trove_told_at s account ∙ ap (λ (i : Image). trove_told i (at i.troves account)) h.image
    ∙ sym (trove_told_at t account))
answer_alike h (query.Deposit account) = ap (λ (x : Info). unless_out_of_range account (Told x))
    (deposit_alike h account)
answer_alike h query.Pools = ap (λ (ns : List ℕ). Told (info.Pools ns)) (pools_alike h)
answer_alike h query.System = ap (λ (ns : List ℕ). Told (info.System ns)) (system_alike h)
answer_alike h (query.NextNumber client) =
    ap (λ (k : Client). unless_out_of_range client (Told (info.Next (min (k.last + 1) NUMBER_MOST))))
    (client_alike h client)

-- ---- the step

after_ruling_alike : {s t : State} → Alike s t → (c : Command) (r : Ruling)
    → Alike (after_ruling s c r).0 (after_ruling t c r).0
after_ruling_alike h c (Refused refusal) = h
after_ruling_alike h c (Repeated kept) = h
after_ruling_alike h c Allowed = after_alike h c

after_ruling_reply : {s t : State} → Alike s t → (c : Command) (r : Ruling)
    → (after_ruling s c r).1 ≡ (after_ruling t c r).1
after_ruling_reply h c (Refused refusal) = refl
after_ruling_reply h c (Repeated kept) = refl
after_ruling_reply h c Allowed = ap Said (done_alike h c.call)

pub step_alike : {s t : State} → Alike s t → (request : Request) → Alike (step s request).0 (step t request).0
step_alike {s} {t} h (Do c) = subst (λ (r : Ruling). Alike (step s (Do c)).0 (after_ruling t c r).0) (ruling_alike h c)
    (after_ruling_alike h c (ruling s c))
step_alike h (Ask q) = h

pub reply_alike : {s t : State} → Alike s t → (request : Request) → (step s request).1 ≡ (step t request).1
reply_alike {s} {t} h (Do c) = after_ruling_reply h c (ruling s c)
    ∙ ap (λ (r : Ruling). (after_ruling t c r).1) (ruling_alike h c)
reply_alike h (Ask q) = answer_alike h q

pub run_alike : (requests : List Request) {s t : State} → Alike s t → Alike (run s requests).0 (run t requests).0
run_alike [] h = h
run_alike (request ∷ requests) h = run_alike requests (step_alike h request)

pub replies_alike : (requests : List Request) {s t : State} → Alike s t → (run s requests).1 ≡ (run t requests).1
replies_alike [] h = refl
replies_alike (request ∷ requests) {s} {t} h =
    ap (λ (r : Reply). r ∷ (run (step s request).0 requests).1) (reply_alike h request)
    ∙ ap (λ (rs : List Reply). (step t request).1 ∷ rs) (replies_alike requests (step_alike h request))

newly_alike : {s t : State} → Alike s t → (request : Request) → newly_accepted s request ≡ newly_accepted t request
newly_alike h (Do c) = ap (λ (r : Ruling). if is_allowed r then c ∷ [] else []) (ruling_alike h c)
newly_alike h (Ask q) = refl

pub accepted_alike : (requests : List Request) {s t : State} → Alike s t → accepted s requests ≡ accepted t requests
accepted_alike [] h = refl
accepted_alike (request ∷ requests) {s} {t} h =
    ap (λ (cs : List Command). cs ++ accepted (step s request).0 requests) (newly_alike h request)
    ∙ ap (λ (cs : List Command). newly_accepted t request ++ cs) (accepted_alike requests (step_alike h request))

pub alike_itself : (s : State) → IsWellFormed s → Alike s s
alike_itself s h = record { image = refl; records = refl; left = h; right = h }
