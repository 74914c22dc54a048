-- The lowest troves of a state are those of its moment.
use Rattle.std.proofs.Common.{◌≡◌, ℕ, zero, suc, ◌+◌, ◌-◌, Bool, true, false, cond, List, [], ◌∷◌, length, refl, ap, sym, ◌∙◌, subst, arith, Some, None, Option}
use Rattle.std.specs.Prelude.{◌==◌, nat_le, Result, Ok, Err}
use Rattle.std.proofs.lemmas.Bool.Decides.{nat_tests}
use Rattle.std.proofs.lemmas.List.{length-map}
use Rattle.std.proofs.lemmas.List.Sorted.{length_permutation}
use Rattle.liq_types.specs.declared.figures.Market.{Market}
use Rattle.liq_types.specs.declared.figures.Trove.{Trove}
use Rattle.liq_types.specs.declared.replies.Refusal.{Refusal}
use Rattle.liq_types.specs.declared.replies.Refusal.TheVariants.{LastTrove}
use Rattle.liq_types.specs.Payments.{surplus_added}
use Rattle.liq_types.specs.Rules.{Rule, first_refusal, outcome, last_trove_stays}
use Rattle.liq_types.specs.State.{State, TroveEntry}
use Rattle.liq_types.specs.Tables.{Table, at}
use Rattle.liq_types.specs.Totals.{market_of, pool_total, total_coll, total_debt, trove_count, stakes_of}
use Rattle.liq_types.specs.WellFormed.{IsMoment, TrovesAreMarked}
use Rattle.liq_types.proofs.MapRows.{map-length, all-without, all-weaken}
use Rattle.liq_troves.specs.Own.{lifted_entry, redistributed, snapped}
use Rattle.liq_troves.specs.Rows.{entire_by, key_by}
use Rattle.liq_troves.specs.Standing.{Books, TrovesStand, books_of, spread, snap}
use Rattle.liq_troves.specs.StakeSums.{trove_row, trove_rows, sums_words}
use Rattle.liq_troves.proofs.BooksOf.{lift_books, spread_books, snap_books}
use Rattle.liq_order.specs.Order.{last_trove, last_account, order_by, ranks, Ranked}
use Rattle.liq_order.proofs.Sorting.{sorted_same}
use Rattle.liq_stability.specs.Own.{offset}
use Rattle.liq_stability.proofs.Pool.{offset-total, moment-more, length-more}
use Rattle.liq_liquidation.specs.declared.one.One.{One}
use Rattle.liq_liquidation.specs.declared.one.Victim.{Victim}
use Rattle.liq_liquidation.specs.Lowest.{lowest, lowest_plan, next_victim, victim_at, victim_by, refusal_of, first_of_lowest}
use Rattle.liq_liquidation.specs.Moment.{Moment, moment_of, moment_after, with_account, victim_from, next_at, lowest_from, plan_from, TrovesAreSound}
use Rattle.liq_liquidation.specs.One.{one, one_in, one_by, one_rules, treated, treatment, without_stake, struck, struck_books}
use Rattle.liq_liquidation.proofs.Planned.{IsPlanned, planned}
use Rattle.liq_liquidation.proofs.Struck.{Hold, moment_with, left_market, struck_hold, after_is, rows_left}
use Rattle.liq_liquidation.proofs.Walking.{Found, found, last_has_row, no_end}

-- ---- a state after a liquidation

module _ (s : State) (v : Victim) where
  -- by the trove that leaves, if there is one, and whether the pool takes over nothing
  abbrev left_by : Option TroveEntry → Bool → State
  left_by o b = cond b (lifted_entry s v.account o) (offset (lifted_entry s v.account o) v.one.offset_debt
      v.one.offset_coll)

  abbrev struck_by : Option TroveEntry → Bool → State
  struck_by o b = surplus_added (snapped (redistributed (left_by o b) v.one.spread_coll v.one.spread_debt)) v.account
      v.one.surplus

  market_by : (o : Option TroveEntry) (b : Bool) → market_of (struck_by o b)
      ≡ record (market_of s) {
        total_coll = total_coll (struck_by o b);
        total_debt = total_debt (struck_by o b);
        troves = trove_count (struck_by o b);
      }
  market_by None true = refl
  market_by None false = refl
  market_by (Some t) true = refl
  market_by (Some t) false = refl

  total_alike : (o : Option TroveEntry) → pool_total (lifted_entry s v.account o) ≡ pool_total s
  total_alike None = refl
  total_alike (Some t) = refl

  total_by : (o : Option TroveEntry) (b : Bool) → (v.one.offset_debt == 0) ≡ b → pool_total (left_by o b)
      ≡ pool_total s - v.one.offset_debt
  total_by o true is = let none : v.one.offset_debt ≡ 0 = grind (arith, nat_tests, is)
      in omega (arith, none, total_alike o)
  total_by o false is = let law = offset-total (lifted_entry s v.account o) v.one.offset_debt v.one.offset_coll
      in omega (arith, law, total_alike o)

  books_by : (o : Option TroveEntry) (b : Bool) → books_of (left_by o b) ≡ books_of (lifted_entry s v.account o)
  books_by o true = refl
  books_by o false = refl

  marked_by : (o : Option TroveEntry) (b : Bool) → TrovesAreMarked (length s.redistributions) s.troves
      → TrovesAreMarked (length (left_by o b).redistributions) (left_by o b).troves
  marked_by None true h = h
  marked_by None false h = h
  marked_by (Some t) true h = all-without (λ (e : TroveEntry). IsMoment (length s.redistributions) e.mark) s.troves
      v.account h
  marked_by (Some t) false h = all-without (λ (e : TroveEntry). IsMoment (length s.redistributions) e.mark) s.troves
      v.account h

  -- the books after it
  pub books_struck : TrovesAreMarked (length s.redistributions) s.troves
      → books_of (struck s v) ≡ struck_books (books_of s) v
  books_struck h =
      let o = at s.troves v.account in
      let b = v.one.offset_debt == 0 in
      let pooled = left_by o b in
      snap_books (redistributed pooled v.one.spread_coll v.one.spread_debt)
      ∙ ap (λ (x : Books). snap x) (spread_books pooled v.one.spread_coll v.one.spread_debt (marked_by o b h))
      ∙ ap (λ (x : Books). snap (spread x v.one.spread_coll v.one.spread_debt)) (books_by o b ∙ lift_books s v.account)

  marked_more : TrovesAreMarked (length s.redistributions) s.troves
      → TrovesAreMarked (length (struck s v).redistributions) (struck s v).troves
  marked_more h =
      let pooled = left_by (at s.troves v.account) (v.one.offset_debt == 0) in
      let more = length-more pooled.redistributions (record {
        coll = v.one.spread_coll;
        debt = v.one.spread_debt;
        stakes = stakes_of pooled;
      }) in
      all-weaken (λ (e : TroveEntry). IsMoment (length pooled.redistributions) e.mark)
      (λ e. IsMoment (length (struck s v).redistributions) e.mark)
      (λ e k. moment-more (length pooled.redistributions) (length (struck s v).redistributions) more e.mark k)
      pooled.troves
      (marked_by (at s.troves v.account) (v.one.offset_debt == 0) h)

  module _ (sound : TrovesAreSound s) (f : Found (moment_of s) v) where
    hold : Hold (market_of s) (books_of s)
    hold = record { stands = sound.troves; coll = refl; debt = refl }

    plan : IsPlanned (market_of s) (sums_words s) f.trove (pool_total s) v.one
    plan = planned (market_of s) (sums_words s) f.trove (pool_total s) v.one f.made

    counted : trove_count s ≡ length (trove_rows s)
    counted = sym (map-length (trove_row s) s.troves)

    struck_holds : Hold (left_market (market_of s) v.one) (struck_books (books_of s) v)
    struck_holds = struck_hold (market_of s) (books_of s) (pool_total s) v.account f.trove f.there hold v.one
        plan counted

    -- and its troves are sound
    pub sound_struck : TrovesAreSound (struck s v)
    sound_struck = record {
      troves = subst (λ (x : Books). TrovesStand x) (sym (books_struck sound.marked))
          struck_holds.stands;
      marked = marked_more sound.marked;
    }

    market_struck : market_of (struck s v) ≡ left_market (market_of s) v.one
    market_struck =
        let books = books_struck sound.marked in
        let coll : total_coll (struck s v) ≡ (left_market (market_of s) v.one).total_coll =
        ap (λ (x : Books). x.active_coll + x.default_coll) books ∙ struck_holds.coll in
        let debt : total_debt (struck s v) ≡ (left_market (market_of s) v.one).total_debt =
        ap (λ (x : Books). x.active_debt + x.default_debt) books ∙ struck_holds.debt in
        let rows : trove_count (struck s v) ≡ trove_count s - 1 =
        sym (map-length (trove_row (struck s v)) (struck s v).troves) ∙ ap (λ (x : Books). length x.troves) books
        ∙ rows_left (market_of s) (books_of s) (pool_total s) v.account f.trove f.there hold v.one plan counted in
        market_by (at s.troves v.account) (v.one.offset_debt == 0)
        ∙ ap (λ n. record (market_of s) {
          total_coll = n;
          total_debt = total_debt (struck s v);
          troves = trove_count (struck s v);
        }) coll
        ∙ ap (λ n. record (left_market (market_of s) v.one) { total_debt = n; troves = trove_count (struck s v) }) debt
        ∙ ap (λ n. record (left_market (market_of s) v.one) { troves = n }) rows

    -- its moment is the one after the state's
    pub moment_struck : moment_of (struck s v) ≡ moment_after (moment_of s) v
    moment_struck =
        ap (λ (m : Market). moment_with m (books_of (struck s v)) (pool_total (struck s v))) market_struck
        ∙ ap (λ (x : Books). moment_with (left_market (market_of s) v.one) x (pool_total (struck s v)))
        (books_struck sound.marked)
        ∙ ap (moment_with (left_market (market_of s) v.one) (struck_books (books_of s) v))
        (total_by (at s.troves v.account) (v.one.offset_debt == 0) refl)
        ∙ sym (after_is (market_of s) (books_of s) (pool_total s) v.account f.trove f.there hold v.one plan counted)

-- ---- the lowest troves

-- the victim that an answer gives
abbrev told : Result Victim Refusal → Option Victim
told (Ok v) = Some v
told (Err refusal) = None

next_is : (s : State) → next_victim s ≡ told (next_at (moment_of s))
next_is s = by (last_trove s) where
  by_one : (account : ℕ) (r : Result One Refusal) → victim_by account r ≡ told (with_account account r)
  by_one account (Ok made) = refl
  by_one account (Err refusal) = refl

  by : (o : Option ℕ) → victim_at s o ≡ told (victim_from (moment_of s).figures (moment_of s).troves o)
  by None = refl
  by (Some account) = by_one account (one s account)

-- along the lowest ones of a state and of its moment
abbrev state_by : ℕ → State → Option Victim → List Victim
state_by more s next = elim next [ None ↦ [] | Some v ↦ v ∷ lowest (struck s v) more ]

abbrev moment_by : ℕ → Moment → Result Victim Refusal → List Victim
moment_by more now next = elim next [ Err refusal ↦ [] | Ok v ↦ v ∷ lowest_from (moment_after now v) more ]

pub lowest_is : (count : ℕ) (s : State) → TrovesAreSound s → lowest s count ≡ lowest_from (moment_of s) count
lowest_is zero s h = refl
lowest_is (suc more) s h = ap (state_by more s) (next_is s)
    ∙ by (next_at (moment_of s)) refl (λ v k. lowest_is more (struck s v) k) where
      by : (r : Result Victim Refusal) → next_at (moment_of s) ≡ r → ((v : Victim) → TrovesAreSound (struck s v)
          → lowest (struck s v) more ≡ lowest_from (moment_of (struck s v)) more) → state_by more s (told r)
          ≡ moment_by more (moment_of s) r
      by (Err refusal) is later = refl
      by (Ok v) is later =
          let f = found (moment_of s) v is in
          ap (λ (l : List Victim). v ∷ l) (later v (sound_struck s v h f)
          ∙ ap (λ (x : Moment). lowest_from x more) (moment_struck s v h f))

-- ---- what is planned

-- all rules but the first
abbrev rest_of : List Rule → List Rule
rest_of [] = []
rest_of (rule ∷ rules) = rules

-- nothing is last where there is no trove
none_left : (troves : Table Trove) → last_account (order_by troves) ≡ None → length troves ≡ 0
none_left troves h =
    let empty = no_end (order_by troves) h in
    let same = length_permutation (ranks troves) (order_by troves) (sorted_same (ranks troves)) in
    let rows = length-map {B = Ranked} troves (λ (row : ℕ × Trove). (key_by row.1, row.0)) in
    let zero : length (order_by troves) ≡ 0 = ap (λ (l : List Ranked). length l) empty in
    omega (arith, same, rows, zero)

-- the rules that the lowest are refused by, with the first one's outcome
abbrev refused_by : Market → Result One Refusal → Option Refusal
refused_by m r = first_refusal (last_trove_stays m ∷ refusal_of r)

pub plan_is : (s : State) (count : ℕ) → TrovesAreSound s → lowest_plan s count ≡ plan_from (moment_of s) count
plan_is s count h = by (last_trove s) refl where
  m : Market
  m = market_of s

  now : Moment
  now = moment_of s

  counted : trove_count s ≡ length (trove_rows s)
  counted = sym (map-length (trove_row s) s.troves)

  made : (account : ℕ) (r : Result One Refusal) → (nat_le (trove_count s) 1 ≡ true
      → r ≡ Err (LastTrove (trove_count s))) → (b : Bool) → nat_le (trove_count s) 1 ≡ b
      → outcome (cond b (Some (LastTrove (trove_count s))) (first_refusal (refusal_of r))) (lowest s count)
      ≡ elim (with_account account r) [ Err refusal ↦ Err refusal | Ok v ↦ Ok (lowest_from (moment_of s) count) ]
  made account r last true is =
      ap (λ (x : Result One Refusal). elim (with_account account x) [
        | Err refusal ↦ Err refusal
        | Ok v ↦ Ok (lowest_from (moment_of s) count)
      ]) (sym (last is))
  made account (Ok one) last false is = ap (λ (l : List Victim). Ok l) (lowest_is count s h)
  made account (Err refusal) last false is = refl

  by_row : (account : ℕ) → last_trove s ≡ Some account → (o : Option Trove) → at (trove_rows s) account ≡ o
      → outcome (first_refusal (last_trove_stays (market_of s) ∷ refusal_of (one_in (market_of s) (sums_words s)
      (pool_total s) account o))) (lowest s count)
      ≡ elim (with_account account (one_in (market_of s) (sums_words s) (pool_total s) account o))
      [ Err refusal ↦ Err refusal | Ok v ↦ Ok (lowest_from (moment_of s) count) ]
  by_row account last None there = absurd (last_has_row (trove_rows s) account last there)
  by_row account last (Some t) there = made account (one_by (market_of s) (sums_words s) t (pool_total s))
      (refused_first t) (nat_le (trove_count s) 1) refl where
        refused_first : (t : Trove) → nat_le (trove_count s) 1 ≡ true
            → one_by (market_of s) (sums_words s) t (pool_total s) ≡ Err (LastTrove (trove_count s))
        refused_first t is =
            let own = entire_by (sums_words s) t in
            let rest = first_refusal (rest_of (one_rules (market_of s) (without_stake (sums_words s) t) own.0 own.1
            (pool_total s))) in
            ap (λ b. outcome (cond b (Some (LastTrove (trove_count s))) rest)
            (treated (treatment (market_of s) own.0 own.1) s.price own.0 own.1 (pool_total s))) is

  by : (o : Option ℕ) → last_trove s ≡ o
      → outcome (first_refusal (last_trove_stays (market_of s) ∷ first_of_lowest s o)) (lowest s count)
      ≡ elim (victim_from (moment_of s).figures (moment_of s).troves o) [
        | Err refusal ↦ Err refusal
        | Ok v ↦ Ok (lowest_from (moment_of s) count)
      ]
  by None last =
      let none = none_left (trove_rows s) last in
      let few : nat_le (trove_count s) 1 ≡ true = grind (arith, nat_tests, none, counted) in
      ap (λ b. outcome (cond b (Some (LastTrove (trove_count s))) None) (lowest s count)) few
  by (Some account) last = by_row account last (at (trove_rows s) account) refl
