-- The walk along the order from its end: after each victim the troves that are left are a beginning of the list.
use Rattle.std.proofs.Common.{◌≡◌, ℕ, zero, suc, ◌+◌, ◌-◌, ◌≤◌, ◌<◌, Bool, true, false, cond, List, [], ◌∷◌, ◌++◌, length, map, refl, ap, sym, ◌∙◌, subst, arith, Some, None, Option, append_assoc, append-nil}
use Rattle.std.specs.Prelude.{◌≢◌, ◌==◌, not, find, option_map, is_some, Result, Ok, Err, IfSome, IsSome}
use Rattle.std.proofs.lemmas.List.{reverse-append}
use Rattle.std.proofs.lemmas.List.Elements.{filter-append}
use Rattle.liq_types.specs.declared.figures.Trove.{Trove}
use Rattle.liq_types.specs.declared.replies.Refusal.{Refusal}
use Rattle.liq_types.specs.Ranked.{Ranked, key_in, without_ranked, before_in, first_of, last_account}
use Rattle.liq_types.specs.Tables.{Table, at, without}
use Rattle.liq_types.proofs.Lookups.{at-without_other}
use Rattle.liq_troves.specs.Rows.{stakes_in}
use Rattle.liq_order.specs.Listed.{IsAbsent, AreDistinct}
use Rattle.liq_order.specs.Order.{order_by}
use Rattle.liq_order.proofs.Found.{before_found, absent_middle, distinct_back, distinct_front, without_absent}
use Rattle.liq_liquidation.specs.declared.figures.Figures.{Figures}
use Rattle.liq_liquidation.specs.declared.one.One.{One}
use Rattle.liq_liquidation.specs.declared.one.Victim.{Victim}
use Rattle.liq_liquidation.specs.Given.{IsStruckOf}
use Rattle.liq_liquidation.specs.Moment.{Moment, moment_after, figures_after, victim_from, with_account, next_at, lowest_from, plan_from, books_at, IsSoundMoment}
use Rattle.liq_liquidation.specs.One.{one_by, one_in}
use Rattle.liq_liquidation.proofs.Struck.{sound_after, stakes_left, struck_of, held}
use Rattle.std.proofs.lemmas.Bool.{ne_eqb, eq-eqb}
use Rattle.liq_order.proofs.Ranking.{left_order, order_absent}

-- ---- lists with each account once

absent_back : (account : ℕ) (front back : List Ranked) → IsAbsent account (front ++ back) → IsAbsent account back
absent_back account [] back h = h
absent_back account (f ∷ fs) back h = absent_back account fs back h.1

-- without its last account
without_last : (front : List Ranked) (e : Ranked) → IsAbsent e.1 front → without_ranked (front ++ e ∷ []) e.1 ≡ front
without_last front e h =
    let own : without_ranked (e ∷ []) e.1 ≡ [] = ap (λ b. cond (not b) (e ∷ []) []) (eq-eqb e.1 e.1 refl) in
    filter-append (λ (f : Ranked). not (f.1 == e.1)) front (e ∷ [])
    ∙ ap (λ (l : List Ranked). l ++ without_ranked (e ∷ []) e.1) (without_absent front e.1 h)
    ∙ ap (λ (l : List Ranked). front ++ l) own
    ∙ append-nil front

-- an account of the list has a key
listed : (front back : List Ranked) (e : Ranked) (account : ℕ) → (e.1 == account) ≡ true
    → IsSome (key_in (front ++ e ∷ back) account)
listed [] back e account same =
    ap (λ b. is_some (option_map (λ (f : Ranked). f.0) (cond b (Some e) (find (λ (f : Ranked). f.1
    == account) back)))) same
listed (f ∷ fs) back e account same = by (f.1 == account) (listed fs back e account same) where
  by : (b : Bool) → IsSome (key_in (fs ++ e ∷ back) account)
      → IsSome (option_map (λ (g : Ranked). g.0) (cond b (Some f) (find (λ (g : Ranked). g.1 == account) (fs ++ e
      ∷ back))))
  by true more = refl
  by false more = more

-- ---- the end of a list

-- a list that ends with the account's entry
pub record EndsWith (list : List Ranked) (account : ℕ) : Type 0 where
  pub front : List Ranked
  pub entry : Ranked
  pub whole : list ≡ front ++ entry ∷ []
  pub same : entry.1 ≡ account

last_of : (front : List Ranked) (e : Ranked) → last_account (front ++ e ∷ []) ≡ Some e.1
last_of front e = ap (λ (l : List Ranked). first_of (map (λ (f : Ranked). f.1) l)) (reverse-append front (e ∷ []))

-- a list is empty or has an end
pub data Ended (list : List Ranked) : Type 0 where
  nothing : list ≡ [] → Ended list
  ended : (front : List Ranked) (e : Ranked) → list ≡ front ++ e ∷ [] → Ended list

end_of : (list : List Ranked) → Ended list
end_of [] = nothing refl
end_of (e ∷ es) = elim (end_of es) [
  | nothing is ↦ ended [] e (ap (λ (l : List Ranked). e ∷ l) is)
  | ended front f is ↦ ended (e ∷ front) f (ap (λ (l : List Ranked). e ∷ l) is)
]

the : {a b : ℕ} → Some a ≡ Some b → a ≡ b
the e = cc

pub ends_with : (list : List Ranked) (account : ℕ) → last_account list ≡ Some account → EndsWith list account
ends_with list account h = elim (end_of list) [
  | nothing is ↦ absurd (never (sym (ap last_account is) ∙ h))
  | ended front e is ↦ record {
    front = front;
    entry = e;
    whole = is;
    same = the (sym (last_of front e)
        ∙ sym (ap last_account is) ∙ h);
  }
] where
  never : {a : ℕ} → None ≡ Some a → ⊥
  never e = cc

pub no_end : (list : List Ranked) → last_account list ≡ None → list ≡ []
no_end list h = elim (end_of list) [
  | nothing is ↦ is
  | ended front e is ↦ absurd (never (sym (last_of front e) ∙ sym (ap last_account is) ∙ h))
] where
  never : {a : ℕ} → Some a ≡ None → ⊥
  never e = cc

-- the last trove of the order has a row
pub last_has_row : (troves : Table Trove) (account : ℕ) → last_account (order_by troves) ≡ Some account
    → at troves account ≢ None
last_has_row troves account h none =
    let e = ends_with (order_by troves) account h in
    let absent = subst (IsAbsent account) e.whole (order_absent troves account none) in
    absent_middle account e.front [] e.entry absent e.same

-- ---- the next victim

-- what is known of it
pub record Found (now : Moment) (v : Victim) : Type 0 where
  pub last : last_account (order_by now.troves) ≡ Some v.account
  pub trove : Trove
  pub there : at now.troves v.account ≡ Some trove
  pub made : one_by now.figures.market now.figures.sums trove now.figures.pool_total ≡ Ok v.one

pub found : (now : Moment) (v : Victim) → next_at now ≡ Ok v → Found now v
found now v h = by (last_account (order_by now.troves)) refl h where
  by_row : (account : ℕ) → last_account (order_by now.troves) ≡ Some account → (o : Option Trove)
      → at now.troves account ≡ o
      → with_account account (one_in now.figures.market now.figures.sums now.figures.pool_total account o) ≡ Ok v
      → Found now v
  by_row account is None there k = cc
  by_row account is (Some t) there k = made (one_by now.figures.market now.figures.sums t now.figures.pool_total)
      refl k where
        made : (r : Result One Refusal) → one_by now.figures.market now.figures.sums t now.figures.pool_total ≡ r
            → with_account account r ≡ Ok v → Found now v
        made (Err refusal) of k = cc
        made (Ok one) of k =
            let alike : (record { account = account; one = one }) ≡ v = same k in
            subst (λ (x : Victim). Found now x) alike (record { last = is; trove = t; there = there; made = of })
          where
            same : {a : Victim} → with_account a.account (Ok a.one) ≡ Ok v → a ≡ v
            same e = cc

  by : (o : Option ℕ) → last_account (order_by now.troves) ≡ o → victim_from now.figures now.troves o ≡ Ok v
      → Found now v
  by None is k = cc
  by (Some account) is k = by_row account is (at now.troves account) refl k

pub lowest_more : (now : Moment) (v : Victim) (more : ℕ) → next_at now ≡ Ok v → lowest_from now (suc more)
    ≡ v ∷ lowest_from (moment_after now v) more
lowest_more now v more h = ap (λ (r : Result Victim Refusal). elim r [
  | Err refusal ↦ []
  | Ok x ↦ x ∷ lowest_from (moment_after now x) more
]) h

pub lowest_ends : (now : Moment) (refusal : Refusal) (count : ℕ) → next_at now ≡ Err refusal
    → lowest_from now count ≡ []
lowest_ends now refusal zero h = refl
lowest_ends now refusal (suc more) h = ap (λ (r : Result Victim Refusal). elim r [
  | Err refusal ↦ []
  | Ok x ↦ x ∷ lowest_from (moment_after now x) more
]) h

-- whichever trove it is, it may be struck
pub row_struck : (now : Moment) (account : ℕ) → IsSoundMoment now
    → IfSome (at now.troves account) (IsStruckOf now.figures)
row_struck now account s = by (at now.troves account) refl where
  by : (o : Option Trove) → at now.troves account ≡ o → IfSome o (IsStruckOf now.figures)
  by None there = tt
  by (Some t) there = struck_of now.figures.market (books_at now) now.figures.pool_total account t there
      (held now s) s.counted s.coll_limit s.debt_limit

-- ---- the walk

-- after so many victims: the figures and the troves that are left, the list before and behind the place that was
-- reached
pub record Walk (start : Moment) (list : List Ranked) (count taken : ℕ) (figures : Figures) (victims : List Victim) :
    Type 0 where
  pub troves : Table Trove
  pub sound : IsSoundMoment (record { figures = figures; troves = troves })
  pub front : List Ranked
  pub back : List Ranked
  pub whole : list ≡ front ++ back
  pub ordered : order_by troves ≡ front
  pub same : (account : ℕ) → IsAbsent account back → at troves account ≡ at start.troves account
  pub planned : lowest_from start count ≡ victims ++ lowest_from (record { figures = figures; troves = troves })
      (count - taken)

pub walk_begins : (start : Moment) (list : List Ranked) (count : ℕ) → list ≡ order_by start.troves → IsSoundMoment start
    → Walk start list count 0 start.figures []
walk_begins start list count is s =
    record {
      troves = start.troves;
      sound = s;
      front = list;
      back = [];
      whole = sym (append-nil list);
      ordered = sym is;
      same = λ account absent. refl;
      planned = ap (lowest_from start) (all count);
    }
  where
    all : (n : ℕ) → n ≡ n - 0
    all n = omega arith

module _ (start : Moment) (list : List Ranked) (count taken : ℕ) (figures : Figures) (victims : List Victim)
    (w : Walk start list count taken figures victims) (d : AreDistinct list) where
  abbrev now : Moment
  now = record { figures = figures; troves = w.troves }

  -- the next victim is told by the troves of the start
  pub next_told : victim_from figures start.troves (last_account w.front)
      ≡ next_at (record { figures = figures; troves = w.troves })
  next_told = by (last_account w.front) refl ∙ ap (λ (l : List Ranked). victim_from figures w.troves (last_account l))
      (sym w.ordered) where
        by : (o : Option ℕ) → last_account w.front ≡ o
            → victim_from figures start.troves o ≡ victim_from figures w.troves o
        by None is = refl
        by (Some account) is =
            let e = ends_with w.front account is in
            let behind : list ≡ e.front ++ e.entry ∷ w.back = w.whole ∙ ap (λ (l : List Ranked). l ++ w.back) e.whole
            ∙ append_assoc e.front (e.entry ∷ []) w.back in
            let absent = subst (λ a. IsAbsent a w.back) e.same (distinct_back e.front w.back e.entry
            (subst AreDistinct behind d)) in
            ap (λ (o : Option Trove).
            with_account account (one_in figures.market figures.sums figures.pool_total account o))
            (sym (w.same account absent))

  -- the entry before the one that was reached
  pub before_is : (last : ℕ) (e : Ranked) (es : List Ranked) → w.back ≡ e ∷ es → e.1 ≡ last
      → before_in list last ≡ last_account w.front
  before_is last e es back same =
      let whole : list ≡ w.front ++ e ∷ es = w.whole ∙ ap (λ (l : List Ranked). w.front ++ l) back in
      let test : (e.1 == last) ≡ true = subst (λ a. (e.1 == a) ≡ true) same (eq-eqb e.1 e.1 refl) in
      let first = subst (λ a. IsAbsent a w.front) same (distinct_front w.front es e (subst AreDistinct whole d)) in
      before_found list last (length w.front) (record {
        front = w.front;
        entry = e;
        back = es;
        whole = whole;
        place = refl;
        same = test;
        first = first;
      }) d

  -- and may be struck by the figures of the moment
  pub walk_struck : (account : ℕ) → last_account w.front ≡ Some account
      → IfSome (at start.troves account) (IsStruckOf figures)
  walk_struck account is =
      let e = ends_with w.front account is in
      let behind : list ≡ e.front ++ e.entry ∷ w.back = w.whole ∙ ap (λ (l : List Ranked). l ++ w.back) e.whole
      ∙ append_assoc e.front (e.entry ∷ []) w.back in
      let absent = subst (λ a. IsAbsent a w.back) e.same (distinct_back e.front w.back e.entry
      (subst AreDistinct behind d)) in
      subst (λ (o : Option Trove). IfSome o (IsStruckOf figures)) (w.same account absent)
      (row_struck (record { figures = figures; troves = w.troves }) account w.sound)

-- a walk that has reached an account
pub record Reached (start : Moment) (list : List Ranked) (count taken : ℕ) (figures : Figures) (victims : List Victim)
    (last : ℕ) : Type 0 where
  pub walk : Walk start list count taken figures victims
  pub entry : Ranked
  pub rest : List Ranked
  pub back_is : walk.back ≡ entry ∷ rest
  pub same : entry.1 ≡ last

module _ (start : Moment) (list : List Ranked) (count taken : ℕ) (figures after : Figures) (victims : List Victim)
    (w : Walk start list count taken figures victims) (d : AreDistinct list) (v : Victim) where
  pub walk_on : taken < count → next_at (record { figures = figures; troves = w.troves }) ≡ Ok v
      → IfSome (at start.troves v.account) (λ t. after ≡ figures_after figures (figures.sums.stakes - t.stake) v.one)
      → Reached start list count (taken + 1) after (victims ++ v ∷ []) v.account
  walk_on more is passed =
      let now : Moment = record { figures = figures; troves = w.troves } in
      let f = found now v is in
      let e = ends_with w.front v.account (sym (ap last_account w.ordered) ∙ f.last) in
      let whole : list ≡ e.front ++ e.entry ∷ w.back = w.whole ∙ ap (λ (l : List Ranked). l ++ w.back) e.whole
      ∙ append_assoc e.front (e.entry ∷ []) w.back in
      let apart = subst AreDistinct whole d in
      let behind = subst (λ a. IsAbsent a w.back) e.same (distinct_back e.front w.back e.entry apart) in
      let before = distinct_front e.front w.back e.entry apart in
      let row : at start.troves v.account ≡ Some f.trove = sym (w.same v.account behind) ∙ f.there in
      let step : after ≡ figures_after figures (figures.sums.stakes - f.trove.stake) v.one =
      subst (λ (o : Option Trove). IfSome o (λ t. after ≡ figures_after figures (figures.sums.stakes - t.stake)
      v.one)) row passed in
      let stakes = stakes_left figures.market (books_at now) figures.pool_total v.account f.trove f.there
      (held now w.sound) in
      let exact : after ≡ figures_after figures (stakes_in (without w.troves v.account)) v.one = step
      ∙ ap (λ n. figures_after figures n v.one) (sym stakes) in
      let later : (record { figures = after; troves = without w.troves v.account }) ≡ moment_after now v =
      ap (λ (x : Figures). record { figures = x; troves = without w.troves v.account }) exact in
      let left : order_by (without w.troves v.account) ≡ e.front =
      left_order w.troves v.account w.sound.troves.ascend
      ∙ ap (λ (l : List Ranked). without_ranked l v.account) (w.ordered ∙ e.whole)
      ∙ ap (λ a. without_ranked (e.front ++ e.entry ∷ []) a) (sym e.same)
      ∙ without_last e.front e.entry before in
      let sum : count - taken ≡ suc (count - (taken + 1)) = omega (arith, more) in
      record {
        walk = record {
          troves = without w.troves v.account;
          sound = subst (λ (x : Moment). IsSoundMoment x) (sym later) (sound_after now v.account f.trove v.one w.sound
              f.there f.made);
          front = e.front;
          back = e.entry ∷ w.back;
          whole = whole;
          ordered = left;
          same = λ account absent. at-without_other w.troves v.account account (ne_eqb v.account account
              (λ same. absent.0 (e.same ∙ same))) ∙ w.same account absent.1;
          planned =
              w.planned
              ∙ ap (λ k. victims ++ lowest_from now k) sum
              ∙ ap (λ (l : List Victim). victims ++ l) (lowest_more now v (count - (taken + 1)) is
              ∙ ap (λ (x : Moment). v ∷ lowest_from x (count - (taken + 1))) (sym later))
              ∙ sym (append_assoc victims (v ∷ []) (lowest_from (record {
                figures = after;
                troves = without w.troves v.account;
              }) (count - (taken + 1))));
        };
        entry = e.entry;
        rest = w.back;
        back_is = refl;
        same = e.same;
      }

-- a walk goes on behind its first victim
pub walk_first : (start : Moment) (list : List Ranked) (count : ℕ) (after : Figures) (is : list ≡ order_by start.troves)
    (s : IsSoundMoment start) (d : AreDistinct list) (v : Victim) → 1 ≤ count → next_at start ≡ Ok v
    → IfSome (at start.troves v.account) (λ t. after ≡ figures_after start.figures (start.figures.sums.stakes - t.stake)
    v.one) → Reached start list count 1 after (v ∷ []) v.account
unfolding walk_begins
walk_first start list count after is s d v some next passed =
    walk_on start list count 0 start.figures after [] (walk_begins start list count is s) d v (omega (
      arith,
      some,
    )) next passed

module _ (start : Moment) (list : List Ranked) (count taken : ℕ) (figures : Figures) (victims : List Victim) (last : ℕ)
    (r : Reached start list count taken figures victims last) (d : AreDistinct list) where
  pub reached_listed : IsSome (key_in list last)
  reached_listed =
      let whole : list ≡ r.walk.front ++ r.entry ∷ r.rest = r.walk.whole
      ∙ ap (λ (l : List Ranked). r.walk.front ++ l) r.back_is in
      subst (λ (l : List Ranked). IsSome (key_in l last)) (sym whole) (listed r.walk.front r.rest r.entry last
      (subst (λ a. (r.entry.1 == a) ≡ true) r.same (eq-eqb r.entry.1 r.entry.1 refl)))

  pub reached_before : before_in list last ≡ last_account r.walk.front
  reached_before = before_is start list count taken figures victims r.walk d last r.entry r.rest r.back_is r.same

  -- the trove before it, told by the troves of the start
  pub reached_next : victim_from figures start.troves (before_in list last)
      ≡ next_at (record { figures = figures; troves = r.walk.troves })
  reached_next = ap (victim_from figures start.troves) reached_before
      ∙ next_told start list count taken figures victims r.walk d

-- ---- the plan

pub plan_made : (start : Moment) (count : ℕ) (v : Victim) (victims : List Victim) → next_at start ≡ Ok v
    → lowest_from start count ≡ victims → plan_from start count ≡ Ok victims
plan_made start count v victims h e =
    ap (λ (r : Result Victim Refusal). elim r [ Err refusal ↦ Err refusal | Ok x ↦ Ok (lowest_from start count) ]) h
    ∙ ap (λ (l : List Victim). Ok l) e

-- nothing is left to take, or the next one may not be liquidated
pub walk_ends : (start : Moment) (list : List Ranked) (count taken : ℕ) (figures : Figures) (victims : List Victim)
    (w : Walk start list count taken figures victims) → count ≤ taken → lowest_from start count ≡ victims
walk_ends start list count taken figures victims w all =
    let none : count - taken ≡ 0 = omega (arith, all) in
    w.planned ∙ ap (λ k. victims ++ lowest_from (record { figures = figures; troves = w.troves }) k) none
    ∙ append-nil victims

pub walk_stops : (start : Moment) (list : List Ranked) (count taken : ℕ) (figures : Figures) (victims : List Victim)
    (w : Walk start list count taken figures victims) (refusal : Refusal)
    → next_at (record { figures = figures; troves = w.troves }) ≡ Err refusal → lowest_from start count ≡ victims
walk_stops start list count taken figures victims w refusal is =
    w.planned ∙ ap (λ (l : List Victim). victims ++ l) (lowest_ends (record { figures = figures; troves = w.troves })
    refusal (count - taken) is) ∙ append-nil victims
