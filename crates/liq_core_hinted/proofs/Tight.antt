-- Between whom the entry stands that changes put last: what a guide says of it is tight.
use Rattle.std.proofs.Common.{◌≡◌, ℕ, ◌+◌, ◌≤◌, Bool, true, false, cond, List, [], ◌∷◌, ◌++◌}
use Rattle.std.proofs.Common.{refl, sym, ap, subst, ◌∙◌, Some, None, Option, Result, Ok, Err, arith}
use Rattle.std.specs.Prelude.{◌==◌, IfOk, not, filter, filter_map, reverse, option_map}
use Rattle.std.specs.List.{AllByRecursion}
use Rattle.std.specs.Option.{option_or}
use Rattle.std.specs.Ordering.{is_lt}
use Rattle.std.specs.declared.cmp.Ordering.{Ordering}
use Rattle.std.specs.declared.cmp.Ordering.TheVariants.{Less, Equal, Greater}
use Rattle.std.proofs.lemmas.Bool.{eq-eqb}
use Rattle.std.proofs.lemmas.List.{reverse-append}
use Rattle.std.proofs.lemmas.List.Elements.{filter_map-append}
use Rattle.liq_types.specs.declared.events.ListChange.{ListChange}
use Rattle.liq_types.specs.declared.events.ListChange.TheVariants.{Put, Gone, Words}
use Rattle.liq_types.specs.declared.hints.Hint.{Hint}
use Rattle.liq_types.specs.declared.hints.HintWords.{HintWords}
use Rattle.liq_types.specs.declared.requests.Call.{Call}
use Rattle.liq_types.specs.declared.requests.Call.TheVariants.{Price, Advance, Fund, Take, Send, Open, Adjust, Close}
use Rattle.liq_types.specs.declared.requests.Call.TheVariants.{Provide, Withdraw, GainToTrove, Liquidate}
use Rattle.liq_types.specs.declared.requests.Call.TheVariants.{LiquidateLowest, Redeem, Claim, Rotate}
use Rattle.liq_types.specs.declared.requests.Command.{Command}
use Rattle.liq_types.specs.Ranked.{Ranked, IsAscending, IsTight, rank_order, first_of}
use Rattle.liq_types.specs.Ranked.{before_entry, after_entry, neighbours, with_ranked, without_ranked}
use Rattle.liq_types.proofs.RankedLists.{Behind, behind_more, ascending_kept}
use Rattle.liq_list_chunks.proofs.Lists.{exact_rank, first_appended, is_less, last_appended, nothing_before, turned, whole_after}
use Rattle.liq_order.specs.Listed.{IsAbsent}
use Rattle.liq_order.proofs.Sorting.{with_strict}
use Rattle.liq_list_index.specs.Followed.{all_listed, put_by, hint_at, hint_of_last, last_put as last_followed}
use Rattle.liq_trove_moves.specs.Steps.{TakesFew}
use Rattle.liq_core.specs.Plan.{Plan}
use Rattle.liq_core.specs.Steps.{last_put, put_of, used_hint, words_of}
use Rattle.liq_rule_step.specs.Verbs.{no_hint, unhinted, unhinted_call}
use Rattle.liq_core_hinted.specs.declared.hints.Hints.{Hints}
use Rattle.liq_core_hinted.specs.Hints.{IsExact, guides_alone, hint_used}

-- ---- the entry that is put last

one_put : (change : ListChange) → first_of (filter_map put_by (change ∷ [])) ≡ put_of change
one_put (Put key account) = refl
one_put (Gone account) = refl
one_put (Words snap_stakes snap_coll sum_debt) = refl

pub last_same : (changes : List ListChange) → last_put changes ≡ last_followed changes
last_same [] = refl
last_same (change ∷ changes) =
    sym (ap (λ (l : List ListChange). first_of (filter_map put_by l)) (reverse-append (change ∷ []) changes)
    ∙ ap (λ (l : List Ranked). first_of l) (filter_map-append put_by (reverse changes) (change ∷ []))
    ∙ first_appended (filter_map put_by (reverse changes)) (filter_map put_by (change ∷ []))
    ∙ ap (option_or (last_followed changes)) (one_put change)
    ∙ ap (λ o. option_or o (put_of change)) (sym (last_same changes)))

-- ---- changes keep a list ascending

absent_without : (list : List Ranked) (account : ℕ) → IsAbsent account (without_ranked list account)
absent_without [] account = tt
absent_without (f ∷ fs) account = by (f.1 == account) refl (absent_without fs account) where
  by : (b : Bool) → (f.1 == account) ≡ b → IsAbsent account (without_ranked fs account)
      → IsAbsent account (cond (not b) (f ∷ without_ranked fs account) (without_ranked fs account))
  by true is more = more
  by false is more = ((λ same. clash (sym (eq-eqb f.1 account same) ∙ is)), more) where
    clash : true ≡ false → ⊥
    clash e = cc

pub all_ascend : (changes : List ListChange) (list : List Ranked)
    → IsAscending list → IsAscending (all_listed list changes)
all_ascend [] list h = h
all_ascend (Put key account ∷ changes) list h =
    let others = without_ranked list account in
    let kept = ascending_kept (λ (e : Ranked). not (e.1 == account)) list h in
    all_ascend changes (with_ranked others (key, account))
    (with_strict others (key, account) (absent_without list account) kept)
all_ascend (Gone account ∷ changes) list h =
    all_ascend changes (without_ranked list account) (ascending_kept (λ (e : Ranked). not (e.1 == account)) list h)
all_ascend (Words snap_stakes snap_coll sum_debt ∷ changes) list h = all_ascend changes list h

-- ---- the two parts of a list

parted : (list : List Ranked) (e : Ranked) → IsAscending list → IsAbsent e.1 list
    → list ≡ before_entry list e ++ after_entry list e
parted [] e asc other = refl
parted (f ∷ fs) e asc other = by (rank_order f e) refl (parted fs e asc.1 other.1) where
  by : (o : Ordering) → rank_order f e ≡ o → fs ≡ before_entry fs e ++ after_entry fs e
      → f ∷ fs ≡ before_entry (f ∷ fs) e ++ after_entry (f ∷ fs) e
  by Less is more =
      let before = before_entry fs e in
      let after = after_entry fs e in
      ap (λ (l : List Ranked). f ∷ l) more
      ∙ ap (λ (o : Ordering). (f ∷ before) ++ cond (is_lt o) (f ∷ after) after) (sym (turned e f Less is))
      ∙ ap (λ (o : Ordering). cond (is_lt o) (f ∷ before) before ++ after_entry (f ∷ fs) e) (sym is)
  by Equal is more = absurd (other.0 (ap (λ (x : Ranked). x.1) (exact_rank f e is)))
  by Greater is more =
      let first = turned e f Greater is in
      let behind : Behind e (f ∷ fs) = (first, behind_more e f fs first asc.0) in
      sym (ap (λ (l : List Ranked). l ++ after_entry (f ∷ fs) e) (nothing_before (f ∷ fs) e behind)
      ∙ whole_after (f ∷ fs) e behind)

passed : (q : Ranked → Bool) (list : List Ranked) → AllByRecursion (λ f. q f ≡ true) (filter q list)
passed q [] = tt
passed q (f ∷ fs) = by (q f) refl (passed q fs) where
  by : (b : Bool) → q f ≡ b → AllByRecursion (λ g. q g ≡ true) (filter q fs)
      → AllByRecursion (λ g. q g ≡ true) (cond b (f ∷ filter q fs) (filter q fs))
  by true is more = (is, more)
  by false is more = more

first_passes : (P : Ranked → Type 0) (list : List Ranked) (f : Ranked)
    → AllByRecursion P list → first_of list ≡ Some f → P f
first_passes P [] f h is = absurd (clash is) where
  clash : None ≡ Some f → ⊥
  clash e = cc
first_passes P (g ∷ gs) f h is = subst P (the is) h.0 where
  the : Some g ≡ Some f → g ≡ f
  the e = cc

last_passes : (P : Ranked → Type 0) (list : List Ranked) (f : Ranked)
    → AllByRecursion P list → first_of (reverse list) ≡ Some f → P f
last_passes P [] f h is = absurd (clash is) where
  clash : None ≡ Some f → ⊥
  clash e = cc
last_passes P (g ∷ gs) f h is =
    by (first_of (reverse gs)) refl (λ k. last_passes P gs f h.1 k) (sym (last_appended (g ∷ []) gs) ∙ is) where
      the : (x : Ranked) → Some x ≡ Some f → x ≡ f
      the x e = cc

      by : (o : Option Ranked) → first_of (reverse gs) ≡ o → (first_of (reverse gs) ≡ Some f → P f)
          → option_or (first_of (reverse gs)) (Some g) ≡ Some f → P f
      by None none more last = subst P (the g (sym (ap (λ p. option_or p (Some g)) none) ∙ last)) h.0
      by (Some x) some more last = more (some ∙ sym (ap (λ p. option_or p (Some g)) some) ∙ last)

abbrev is_ahead : Ranked → Ranked → Bool
is_ahead e f = is_lt (rank_order f e)

abbrev is_behind : Ranked → Ranked → Bool
is_behind e f = is_lt (rank_order e f)

neighbours_tight : (list : List Ranked) (e : Ranked) → IsAscending list
    → IsTight (without_ranked list e.1) e (neighbours list e).0 (neighbours list e).1
neighbours_tight list e asc =
    let others = without_ranked list e.1 in
    let before = before_entry others e in
    let after = after_entry others e in
    let ahead = passed (is_ahead e) others in
    let behind = passed (is_behind e) others in
    record {
      before = before;
      after = after;
      whole = parted others e (ascending_kept (λ (f : Ranked). not (f.1 == e.1)) list asc) (absent_without list e.1);
      prev_is = refl;
      next_is = refl;
      above_prev =
          λ f is. is_less (rank_order f e) (last_passes (λ g. is_ahead e g ≡ true) before f ahead is);
      below_next =
          λ f is. is_less (rank_order e f) (first_passes (λ g. is_behind e g ≡ true) after f behind is);
    }

-- ---- what a guide says

exact_at : (list : List Ranked) → IsAscending list → (o : Option Ranked) → IsExact list o (option_map (hint_at list) o)
exact_at list asc None = refl
exact_at list asc (Some e) = neighbours_tight list e asc

exact_hint : (list : List Ranked) (changes : List ListChange) (hint : Option Hint)
    → IsAscending list → hint ≡ hint_of_last list changes → IsExact list (last_put changes) hint
exact_hint list changes hint asc is =
    subst (λ (o : Option Ranked). IsExact list o hint) (sym (last_same changes))
    (subst (IsExact list (last_followed changes)) (sym is) (exact_at list asc (last_followed changes)))

pub exact_if_ok : {E : Type 0} (r : Result (Option Hint) E) (list old : List Ranked) (changes : List ListChange)
    → list ≡ old → IsAscending old
    → IfOk r (λ hint. hint ≡ hint_of_last (all_listed list changes) changes)
    → IfOk r (IsExact (all_listed old changes) (last_put changes))
exact_if_ok (Ok hint) list old changes same asc is =
    exact_hint (all_listed old changes) changes hint (all_ascend changes old asc)
    (is ∙ ap (λ (l : List Ranked). hint_of_last (all_listed l changes) changes) same)
exact_if_ok (Err e) list old changes same asc is = tt

few_steps : (list : List Ranked) (o : Option Ranked) (exact : Option Hint) (old new : ℕ) → IsExact list o exact
    → TakesFew list (hint_used (guides_alone exact)) o old new → new ≤ old + 4
few_steps list None exact old new tight took = omega (arith, took)
few_steps list (Some e) (Some hint) old new tight took = took tight
few_steps list (Some e) None old new tight took = absurd tight

words_gone : (call : Call) → words_of (unhinted_call call) ≡ no_hint
words_gone (Price price) = refl
words_gone (Advance minutes) = refl
words_gone (Fund account coll) = refl
words_gone (Take account coll) = refl
words_gone (Send from to lusd) = refl
words_gone (Open account coll borrow bound hint) = refl
words_gone (Adjust account coll_in coll_out borrow repay bound hint) = refl
words_gone (Close account) = refl
words_gone (Provide account lusd) = refl
words_gone (Withdraw account lusd) = refl
words_gone (GainToTrove account hint) = refl
words_gone (Liquidate liquidator account) = refl
words_gone (LiquidateLowest liquidator count) = refl
words_gone (Redeem account lusd bound hint) = refl
words_gone (Claim account) = refl
words_gone Rotate = refl

-- a command without its own words that is made with the guide's hint alone
pub few_taken : (list made : List Ranked) (plan : Plan) (c : Command) (exact : Option Hint) (hints : Hints)
    (old new : ℕ)
    → plan.command ≡ unhinted c → hints ≡ guides_alone exact → made ≡ list → IsExact list (last_put plan.changes) exact
    → TakesFew made (used_hint (words_of plan.command.call) (hint_used hints)) (last_put plan.changes) old new
    → new ≤ old + 4
few_taken list made plan c exact hints old new own alone is tight took =
    let e = last_put plan.changes in
    let none = ap (λ (k : Command). words_of k.call) own ∙ words_gone c.call in
    few_steps list e exact old new tight
    (subst (λ (l : List Ranked). TakesFew l (hint_used (guides_alone exact)) e old new) is
    (subst (λ (h : Hints). TakesFew made (hint_used h) e old new) alone
    (subst (λ (w : HintWords). TakesFew made (used_hint w (hint_used hints)) e old new) none took)))
