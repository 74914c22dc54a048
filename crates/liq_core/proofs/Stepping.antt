-- What a planned command puts into the list, and the steps that it takes.
use Rattle.std.proofs.Common.{◌≡◌, ℕ, arith, List, [], ◌∷◌, map, refl, sym, ap, subst, ◌∙◌, Some, None, Option}
use Rattle.std.specs.Prelude.{false, option_map}
use Rattle.std.specs.Option.{option_or}
use Rattle.liq_types.specs.declared.figures.Trove.{Trove}
use Rattle.liq_types.specs.declared.hints.Hint.{Hint}
use Rattle.liq_types.specs.declared.requests.Call.{Call}
use Rattle.liq_types.specs.declared.requests.Call.TheVariants as calls
use Rattle.liq_types.specs.Ranked.{Ranked, key_in}
use Rattle.liq_types.specs.State.{State}
use Rattle.liq_types.specs.Tables.{Table, at}
use Rattle.liq_types.specs.Totals.{market_of}
use Rattle.liq_types.specs.WellFormed.{Ascends}
use Rattle.liq_types.proofs.SameRows.{put-back}
use Rattle.liq_troves.specs.Rows.{key_by}
use Rattle.liq_troves.specs.StakeSums.{trove_rows}
use Rattle.liq_order.specs.Order.{order_by, trove_order}
use Rattle.liq_order.proofs.Found.{absent_from_key}
use Rattle.liq_order.proofs.Listing.{key_without}
use Rattle.liq_order.proofs.Ranking.{put_list, unlisted}
use Rattle.liq_trove_moves.specs.Steps.{TakesFew, entry_in}
use Rattle.liq_trove_moves.proofs.Entries.{key_with_own}
use Rattle.liq_redemption.specs.declared.cut.Cut.{Cut}
use Rattle.liq_redemption.specs.Last.{last_entry}
use Rattle.liq_redemption.specs.Redemption.{RedeemTerms, redeeming_terms, visited}
use Rattle.liq_rule_step.specs.ListChanges.{stands}
use Rattle.liq_rule_step.specs.Rules.{effect, call_changes}
use Rattle.liq_types.specs.Verbs.{is_rotate}
use Rattle.liq_rule_step.specs.Verbs.{accounts}
use Rattle.liq_rule_step.proofs.AlikeFollowed.{told, stands-image}
use Rattle.liq_rule_step.proofs.Ascending.{Ordered, effect-ascends}
use Rattle.liq_rule_step.proofs.Following.{troves-ascend}
use Rattle.liq_rule_sound.proofs.SoundFacts.{in_order}
use Rattle.liq_core.specs.declared.effects.Move.{Move}
use Rattle.liq_core.specs.declared.effects.Move.TheVariants as moves
use Rattle.liq_types.specs.Soundness.{IsSoundImage}
use Rattle.liq_core.specs.Core.{Core, state_of}
use Rattle.liq_core.proofs.SoundCores.{core_finds}
use Rattle.liq_core.specs.Effects.{IsMadeBy, IsMove, room_to_move, words_in}
use Rattle.liq_core.specs.Steps.{entry_put, last_put, put_of, words_of}

-- ---- no steps

pub takes_none : (list : List Ranked) (hint : Hint) (o : Option Ranked) (n : ℕ) → TakesFew list hint o n n
takes_none list hint None n = refl
takes_none list hint (Some e) n = λ tight. omega arith

pub takes_same : (list : List Ranked) (hint : Hint) (o : Option Ranked) (old new : ℕ) → new ≡ old
    → TakesFew list hint o old new
takes_same list hint o old new e = subst (λ n. TakesFew list hint o old n) (sym e) (takes_none list hint o old)

takes_or : (list : List Ranked) (hint : Hint) (o p : Option Ranked) (old new : ℕ) → TakesFew list hint o old new
    → TakesFew list hint (option_or o p) old new
takes_or list hint None p old new h = takes_same list hint p old new h
takes_or list hint (Some e) p old new h = h

-- ---- what is told of an account is its entry

listed_at : (rows : Table Trove) (account : ℕ) (row : Trove) → Ascends rows → at rows account ≡ Some row
    → key_in (order_by rows) account ≡ Some (key_by row)
listed_at rows account row s is =
    ap (λ (t : Table Trove). key_in (order_by t) account) (put-back rows account row s is)
    ∙ ap (λ (l : List Ranked). key_in l account) (put_list rows account row s)
    ∙ key_with_own _ (key_by row, account) (absent_from_key _ account (key_without (order_by rows) account))

told_put : (rows : Table Trove) (account : ℕ) → Ascends rows → put_of (told account (at rows account))
    ≡ entry_in (order_by rows) account
told_put rows account s = by (at rows account) refl where
  by : (o : Option Trove) → at rows account ≡ o → put_of (told account o) ≡ entry_in (order_by rows) account
  by None is = sym (ap (option_map (λ k. (k, account))) (unlisted rows account is))
  by (Some row) is = sym (ap (option_map (λ k. (k, account))) (listed_at rows account row s is))

module _ (s : State) (ascend : Ascends (trove_rows s)) where
  stands_put : (account : ℕ) → put_of (stands s account) ≡ entry_in (trove_order s) account
  stands_put account = ap put_of (stands-image s account) ∙ told_put (trove_rows s) account ascend

  module _ (hint : Hint) (old new : ℕ) where
    one_put : (account : ℕ) → TakesFew (trove_order s) hint (entry_in (trove_order s) account) old new
        → TakesFew (trove_order s) hint (last_put (stands s account ∷ [])) old new
    one_put account h = subst (λ (o : Option Ranked). TakesFew (trove_order s) hint o old new)
        (sym (stands_put account)) h

    cuts_put : (cuts : List Cut) → TakesFew (trove_order s) hint (last_entry (trove_order s) cuts) old new
        → TakesFew (trove_order s) hint (last_put (map (λ (cut : Cut). stands s cut.account) cuts)) old new
    cuts_put [] h = h
    cuts_put (cut ∷ []) h = one_put cut.account h
    cuts_put (cut ∷ next ∷ more) h =
        takes_or (trove_order s) hint (last_put (map (λ (c : Cut). stands s c.account) (next ∷ more)))
        (put_of (stands s cut.account)) old new (cuts_put (next ∷ more) h)

-- what a move put into the list is what is told of the call that makes it
abbrev Puts : State → Move → Hint → ℕ → ℕ → Call → Type 0
Puts s moved hint old new call = Ascends (trove_rows (effect s call))
    → TakesFew (trove_order (effect s call)) hint (entry_put moved (trove_order (effect s call))) old new
    → TakesFew (trove_order (effect s call)) hint (last_put (call_changes s call)) old new

move_puts : (s : State) (call : Call) (moved : Move) (hint : Hint) (old new : ℕ) → IsMove s call moved
    → Puts s moved hint old new call
move_puts s call (moves.Open account borrow plan words) hint old new is =
    let made = calls.Open account plan.coll borrow is.0 words in
    subst (Puts s (moves.Open account borrow plan words) hint old new) (sym is.1)
    (λ ascend h. one_put (effect s made) ascend hint old new account h)
move_puts s call (moves.Adjust account change plan words) hint old new is =
    let made = calls.Adjust account change.coll_in change.coll_out change.borrow change.repay is.0 words in
    subst (Puts s (moves.Adjust account change plan words) hint old new) (sym is.1)
    (λ ascend h. one_put (effect s made) ascend hint old new account h)
move_puts s call (moves.GainToTrove account plan words) hint old new is =
    let made = calls.GainToTrove account words in
    subst (Puts s (moves.GainToTrove account plan words) hint old new) (sym is.0)
    (λ ascend h. one_put (effect s made) ascend hint old new account h)
move_puts s call (moves.Redeem account plan words) hint old new is =
    let made = calls.Redeem account is.0 is.1 words in
    let next = effect s made in
    subst (Puts s (moves.Redeem account plan words) hint old new) (sym is.2)
    (λ ascend h. cuts_put next ascend hint old new (redeeming_terms (market_of s) (visited s) is.0).cuts
    (subst (λ (p : RedeemTerms). TakesFew (trove_order next) hint (last_entry (trove_order next) p.cuts) old new) is.3
    h))
move_puts s call (moves.Close account repaid coll) hint old new is =
    subst (Puts s (moves.Close account repaid coll) hint old new) (sym is.0) (λ ascend h. h)
move_puts s call moved hint old new is = subst (Puts s moved hint old new) (sym is) (λ ascend h. h)

-- the same of a list that is the trove order after the call
pub planned_puts : (core : Core) → IsSoundImage core.image core.records
    → (call : Call) (moved : Move) (list : List Ranked) (hint : Hint) (old new : ℕ)
    → IsMove (state_of core) call moved → list ≡ trove_order (effect (state_of core) call)
    → TakesFew list hint (entry_put moved list) old new
    → TakesFew list hint (last_put (call_changes (state_of core) call)) old new
planned_puts core sound call moved list hint old new made is h =
    let s = state_of core in
    let ordered : Ordered s = record { tables = in_order s (core_finds core sound).stands } in
    let ascend = troves-ascend (effect s call) (effect-ascends s call ordered).tables.1 in
    subst (λ (l : List Ranked). TakesFew l hint (last_put (call_changes s call)) old new) (sym is)
    (move_puts s call moved hint old new made ascend (subst (λ (l : List Ranked). TakesFew l hint
    (entry_put moved l) old new) is h))

-- ---- the call of a move

-- it has the move's hint words, is no rotation, and names just the accounts whose wallets are written
pub record Makes (moved : Move) (call : Call) : Type 0 where
  pub words : words_of call ≡ words_in moved
  pub stays : is_rotate call ≡ false
  pub names : accounts call ≡ (room_to_move moved).wallets

pub move_makes : (s : State) (call : Call) (moved : Move) → IsMove s call moved → Makes moved call
move_makes s call (moves.Open account borrow plan words) is = subst (Makes (moves.Open account borrow plan words))
    (sym is.1) (record { words = refl; stays = refl; names = refl })
move_makes s call (moves.Adjust account change plan words) is = subst (Makes (moves.Adjust account change plan words))
    (sym is.1) (record { words = refl; stays = refl; names = refl })
move_makes s call (moves.Close account repaid coll) is = subst (Makes (moves.Close account repaid coll)) (sym is.0)
    (record { words = refl; stays = refl; names = refl })
move_makes s call (moves.GainToTrove account plan words) is = subst (Makes (moves.GainToTrove account plan words))
    (sym is.0) (record { words = refl; stays = refl; names = refl })
move_makes s call (moves.Redeem account plan words) is = subst (Makes (moves.Redeem account plan words)) (sym is.2)
    (record { words = refl; stays = refl; names = refl })
move_makes s call moved is = subst (Makes moved) (sym is) (record { words = refl; stays = refl; names = refl })

-- what holds of one call that makes the move
pub made_so : (s : State) (call : Call) (moved : Move) → IsMove s call moved → (Is : Call → Type 0) → Is call
    → IsMadeBy s moved Is
made_so s call (moves.Open account borrow plan words) is Is so = (is.0, subst Is is.1 so, is.2)
made_so s call (moves.Adjust account change plan words) is Is so = (is.0, subst Is is.1 so, is.2)
made_so s call (moves.Close account repaid coll) is Is so = (subst Is is.0 so, is.1)
made_so s call (moves.GainToTrove account plan words) is Is so = (subst Is is.0 so, is.1)
made_so s call (moves.Redeem account plan words) is Is so = (is.0, is.1, subst Is is.2 so, is.3)
made_so s call _ is Is so = subst Is is so
