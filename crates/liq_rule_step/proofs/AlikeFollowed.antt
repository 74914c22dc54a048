-- States with the same image do the same to the Stability Pool and to the ordered list.
use Rattle.std.proofs.Common.{◌≡◌, ℕ, List, [], ◌∷◌, ◌++◌, refl, ap, sym, ◌∙◌, subst, Some, None, Option}
use Rattle.std.specs.Prelude.{pos, ◌-ℤ◌, ◌==◌, option_map, map, min, Result, if◌then◌else◌}
use Rattle.liq_num.specs.Quotient.{floor_of}
use Rattle.liq_types.specs.declared.amounts.TheConstants.{ONE}
use Rattle.liq_types.specs.declared.events.ListChange.{ListChange}
use Rattle.liq_types.specs.declared.events.ListChange.TheVariants.{Put, Gone, Words}
use Rattle.liq_types.specs.declared.events.PoolEvent.{PoolEvent}
use Rattle.liq_types.specs.declared.events.PoolEvent.TheVariants.{Own, Offset}
use Rattle.liq_types.specs.declared.figures.Trove.{Trove}
use Rattle.liq_types.specs.declared.replies.Refusal.{Refusal}
use Rattle.liq_types.specs.declared.requests.Call.{Call}
use Rattle.liq_types.specs.declared.requests.Call.TheVariants.{Open, Adjust, Provide, Withdraw, GainToTrove, Liquidate, LiquidateLowest, Redeem}
use Rattle.liq_types.specs.declared.requests.Command.{Command}
use Rattle.liq_types.specs.declared.image.Image.{Image}
use Rattle.liq_types.specs.Product.{rise_of}
use Rattle.liq_types.specs.State.{State, TroveEntry}
use Rattle.liq_types.specs.Tables.{at}
use Rattle.liq_types.specs.Totals.{market_of, pool_total}
use Rattle.liq_types.proofs.MapRows.{at-map}
use Rattle.liq_troves.specs.StakeSums.{trove_row}
use Rattle.liq_stability.specs.Own.{amount_after}
use Rattle.liq_stability.specs.Position.{balance_of, gain_of}
use Rattle.liq_liquidation.specs.declared.one.One.{One}
use Rattle.liq_liquidation.specs.declared.one.Victim.{Victim}
use Rattle.liq_liquidation.specs.Lowest.{lowest, victim_by}
use Rattle.liq_liquidation.specs.One.{one, struck}
use Rattle.liq_redemption.specs.declared.cut.Cut.{Cut}
use Rattle.liq_redemption.specs.Redemption.{RedeemTerms, redeeming_terms, visited}
use Rattle.liq_rule_step.specs.Events.{events}
use Rattle.liq_rule_step.specs.Image.{image}
use Rattle.liq_rule_step.specs.Liquidation.{listed, victim_events, offset_events, victim_changes}
use Rattle.liq_rule_step.specs.ListChanges.{standing, stands, words_in}
use Rattle.liq_rule_step.specs.Rules.{effect, call_events, call_changes}
use Rattle.liq_rule_step.specs.Step.{after}
use Rattle.liq_rule_step.proofs.AlikeReads.{Alike, balance_alike, gain_alike, amount_alike}
use Rattle.liq_rule_step.proofs.AlikeLiquidation.{Serves, one_alike, lowest_alike, single_serves, lowest_serves, struck_alike, struck-total}
use Rattle.liq_rule_step.proofs.AlikeRedemption.{terms_alike}
use Rattle.liq_rule_step.proofs.AlikeReplies.{after_alike}
use Rattle.liq_rule_step.proofs.AlikeStep.{effect_alike}

-- ---- pool events

own_event : ℕ → ℕ → ℕ → ℕ → ℕ → List PoolEvent
own_event account put_in out gain amount = Own account put_in out gain amount ∷ []

own_event_alike : {s t : State} → Alike s t → (account put_in out : ℕ)
    → own_event account put_in out (gain_of s account) (amount_after s account put_in out)
    ≡ own_event account put_in out (gain_of t account) (amount_after t account put_in out)
own_event_alike {s} {t} h account put_in out =
    ap (λ n. own_event account put_in out n (amount_after s account put_in out)) (gain_alike h account)
    ∙ ap (own_event account put_in out (gain_of t account)) (amount_alike h account put_in out)

victim_events_by : One → ℕ → ℕ → List PoolEvent
victim_events_by one total p =
    if one.offset_debt == 0
    then []
    else Offset one.offset_debt one.offset_coll total (rise_of p (record {
      debt = one.offset_debt;
      coll = one.offset_coll;
      total = total;
    })) ∷ []

victim_events_alike : {s t : State} → Alike s t → (one : One) → victim_events s one ≡ victim_events t one
unfolding victim_events_by
victim_events_alike {s} {t} h one =
    ap (λ (i : Image). victim_events_by one i.total i.p) h.image

offset_events_alike : (vs : List Victim) {s t : State} → Alike s t → Serves (pool_total s) vs
    → offset_events s vs ≡ offset_events t vs
offset_events_alike [] h served = refl
offset_events_alike (v ∷ vs) {s} {t} h served =
    ap (λ (es : List PoolEvent). es ++ offset_events (struck s v) vs) (victim_events_alike h v.one)
    ∙ ap (λ (es : List PoolEvent). victim_events t v.one ++ es)
    (offset_events_alike vs (struck_alike h v served.0) (subst (λ n. Serves n vs) (sym (struck-total s v)) served.1))

withdraw_event : State → ℕ → ℕ → List PoolEvent
withdraw_event s account out = Own account 0 out (gain_of s account) (amount_after s account 0 out) ∷ []

withdraw_event_alike : {s t : State} → Alike s t → (account out : ℕ) → withdraw_event s account out
    ≡ withdraw_event t account out
unfolding withdraw_event own_event
withdraw_event_alike h account out = own_event_alike h account 0 out

pub call_events_alike : {s t : State} → Alike s t → (call : Call) → call_events s call ≡ call_events t call
unfolding own_event withdraw_event
call_events_alike h (Provide account lusd) = own_event_alike h account lusd 0
call_events_alike {s} {t} h (Withdraw account lusd) =
    withdraw_event_alike h account (min lusd (balance_of s account)) ∙ ap (λ n. withdraw_event t account (min lusd n))
    (balance_alike h account)
call_events_alike h (GainToTrove account hint) = own_event_alike h account 0 0
call_events_alike {s} {t} h (Liquidate liquidator account) =
    offset_events_alike (listed (victim_by account (one s account))) h (single_serves s account (one s account) refl)
    ∙ ap (λ (r : Result One Refusal). offset_events t (listed (victim_by account r))) (one_alike h account)
call_events_alike {s} {t} h (LiquidateLowest liquidator count) =
    offset_events_alike (lowest s count) h (lowest_serves count s) ∙ ap (offset_events t) (lowest_alike count h)
call_events_alike h _ = refl

pub events_alike : (commands : List Command) {s t : State} → Alike s t → events s commands ≡ events t commands
events_alike [] h = refl
events_alike (c ∷ cs) {s} {t} h =
    ap (λ (es : List PoolEvent). es ++ events (after s c) cs) (call_events_alike h c.call)
    ∙ ap (λ (es : List PoolEvent). call_events t c.call ++ es) (events_alike cs (after_alike h c))

-- ---- changes of the ordered list

abbrev pub told : ℕ → Option Trove → ListChange
told account None = Gone account
told account (Some t) = Put (pos (floor_of t.debt ONE t.stake) -ℤ pos t.mark_debt) account

standing-image : (s : State) (account : ℕ) (o : Option TroveEntry)
    → standing s account o ≡ told account (option_map (trove_row s) o)
standing-image s account None = refl
standing-image s account (Some t) = refl

pub stands-image : (s : State) (account : ℕ) → stands s account ≡ told account (at (image s).troves account)
stands-image s account = standing-image s account (at s.troves account)
    ∙ ap (told account) (sym (at-map (trove_row s) s.troves account))

pub stands_alike : {s t : State} → Alike s t → (account : ℕ) → stands s account ≡ stands t account
stands_alike {s} {t} h account =
    stands-image s account ∙ ap (λ (i : Image). told account (at i.troves account)) h.image
    ∙ sym (stands-image t account)

pub words_in_alike : {s t : State} → Alike s t → words_in s ≡ words_in t
words_in_alike h = ap (λ (i : Image). Words i.snap_stakes i.snap_coll i.sum_debt) h.image

victim_changes_alike : (vs : List Victim) {s t : State} → Alike s t → Serves (pool_total s) vs
    → victim_changes s vs ≡ victim_changes t vs
victim_changes_alike [] h served = refl
victim_changes_alike (v ∷ vs) {s} {t} h served =
    let next = struck_alike h v served.0 in
    ap (λ (w : ListChange). Gone v.account ∷ w ∷ victim_changes (struck s v) vs) (words_in_alike next)
    ∙ ap (λ (rest : List ListChange). Gone v.account ∷ words_in (struck t v) ∷ rest)
    (victim_changes_alike vs next (subst (λ n. Serves n vs) (sym (struck-total s v)) served.1))

stands_in : State → Cut → ListChange
stands_in s cut = stands s cut.account

stands_in_alike : {s t : State} → Alike s t → stands_in s ≡ stands_in t
unfolding stands_in
stands_in_alike h = λ i cut. stands_alike h cut.account i

pub call_changes_alike : {s t : State} → Alike s t → (call : Call) → call_changes s call ≡ call_changes t call
unfolding stands_in
call_changes_alike h (Open account coll borrow bound hint) =
    ap (λ (e : ListChange). e ∷ []) (stands_alike (effect_alike h (Open account coll borrow bound hint)) account)
call_changes_alike h (Adjust account coll_in coll_out borrow repay bound hint) =
    ap (λ (e : ListChange). e ∷ []) (stands_alike (effect_alike h (Adjust account coll_in coll_out borrow repay bound
    hint)) account)
call_changes_alike h (GainToTrove account hint) =
    ap (λ (e : ListChange). e ∷ []) (stands_alike (effect_alike h (GainToTrove account hint)) account)
call_changes_alike {s} {t} h (Liquidate liquidator account) =
    victim_changes_alike (listed (victim_by account (one s account))) h (single_serves s account (one s account) refl)
    ∙ ap (λ (r : Result One Refusal). victim_changes t (listed (victim_by account r))) (one_alike h account)
call_changes_alike {s} {t} h (LiquidateLowest liquidator count) =
    victim_changes_alike (lowest s count) h (lowest_serves count s) ∙ ap (victim_changes t) (lowest_alike count h)
call_changes_alike {s} {t} h (Redeem account lusd bound hint) =
    ap (λ (f : Cut → ListChange). map f (redeeming_terms (market_of s) (visited s) lusd).cuts)
    (stands_in_alike (effect_alike h (Redeem account lusd bound hint)))
    ∙ ap (λ (terms : RedeemTerms). map (stands_in (effect t (Redeem account lusd bound hint))) terms.cuts)
    (terms_alike h lusd)
call_changes_alike h _ = refl
