-- What is told of liquidations, one after the other.
use Rattle.std.proofs.Common.{◌≡◌, ℕ, zero, suc, ◌+◌, ◌-◌, ◌*◌, ◌^◌, ◌≤◌, ◌<◌, Bool, true, false, cond, List, [], ◌∷◌, ◌++◌, refl, ap, sym, ◌∙◌, subst, arith, take, get_or, length, Some, None, Option, append_assoc, append-nil, add-one}
use Rattle.std.specs.Prelude.{◌==◌, Ok, option_map, sum_by, unwrap_or}
use Rattle.std.proofs.lemmas.List.{take_more}
use Rattle.std.proofs.lemmas.List.Sums.{sum_by-cons}
use Rattle.std.proofs.lemmas.Bool.Decides.{nat_tests}
use Rattle.liq_types.specs.declared.amounts.TheConstants.{ACCOUNTS, LOWEST_MOST}
use Rattle.liq_types.specs.declared.events.ListChange.{ListChange}
use Rattle.liq_types.specs.declared.events.ListChange.TheVariants.{Gone}
use Rattle.liq_types.specs.declared.events.PoolEvent.{PoolEvent}
use Rattle.liq_types.specs.declared.events.PoolEvent.TheVariants.{Offset}
use Rattle.liq_types.specs.declared.figures.Trove.{Trove}
use Rattle.liq_types.specs.declared.figures.Wallet.{Wallet}
use Rattle.liq_types.specs.Product.{rise_of}
use Rattle.liq_types.specs.State.{State, TroveEntry}
use Rattle.liq_types.specs.Tables.{Table, at, without}
use Rattle.liq_types.specs.Totals.{stakes_of, total_coll, total_debt}
use Rattle.liq_types.specs.WellFormed.{Ascends}
use Rattle.liq_types.proofs.Lookups.{at-without_same, at-without_other}
use Rattle.liq_types.proofs.MapRows.{at-map}
use Rattle.liq_troves.specs.Rows.{sum_after}
use Rattle.liq_troves.specs.Standing.{Books, books_of, lifted_row, spread, snap, added_up}
use Rattle.liq_troves.specs.StakeSums.{sums_now, trove_row, trove_rows}
use Rattle.liq_troves.proofs.Added.{sum_taken}
use Rattle.liq_order.specs.Order.{last_trove}
use Rattle.liq_stability.specs.declared.words.PoolWords.{PoolWords}
use Rattle.liq_stability.specs.Position.{words_of}
use Rattle.liq_stability.specs.Words.{pool_words, offset_in}
use Rattle.liq_liquidation.specs.declared.one.One.{One}
use Rattle.liq_liquidation.specs.declared.one.Victim.{Victim}
use Rattle.liq_liquidation.specs.Applied.{words_left}
use Rattle.liq_liquidation.specs.Lowest.{lowest, next_victim}
use Rattle.liq_liquidation.specs.One.{one, liquidated, struck}
use Rattle.liq_liquidation.proofs.Left.{left_books, left_words}
use Rattle.liq_core_lowest.specs.declared.course.Course.{Course}
use Rattle.liq_rule_step.specs.Liquidation.{all_liquidated, offset_events, victim_changes, victim_events}
use Rattle.liq_rule_step.specs.ListChanges.{words_in}
use Rattle.liq_core_lowest.specs.Victims.{told_of}
use Rattle.liq_core_lowest.specs.Victims.{AreVictims, IsNext, course_of, course_after, course_words, offset_told}
use Rattle.liq_rule_sound.proofs.SoundFacts.{Finds, finds_after}
use Rattle.liq_rule_sound.proofs.SoundLiquidate.{Strikes, strikes, victim_leaves, found, lowest_by, lowest_paid, some_left, stakes_left, with_pay, struck_paid}
use Rattle.liq_rule_sound.specs.SoundState.{IsSoundState}
use Rattle.liq_rule_sound.proofs.SoundStep.{finds}
use Rattle.liq_rule_sound.proofs.SoundTests.{sound_facts}
use Rattle.liq_core_lowest.proofs.Striking.{no_victim, walked, victim_there, one_more, places_fit}
use Rattle.std.proofs.lemmas.Bool.{and_from, le-leb}
use Rattle.liq_rule_sound.proofs.SoundEvents.{offset_paid}

-- ---- one trove

module _ (t : State) (f : Finds t) (v : Victim) (made : one t v.account ≡ Ok v.one) where
  abbrev pub x : Strikes t v.account v.one
  x = strikes t f v.account v.one made

  none : 0 < ACCOUNTS
  none = omega arith

  pub next_told : (words_of t).scale ≤ 2 ^ 64 - 4 → (words_of t).epoch ≤ 2 ^ 64 - 4 → IsNext (course_of t) v.one
  next_told scale epoch =
      let c = f.balanced.homes in
      let w = x.has.within in
      let p = x.parts in
      let s = f.stands.pool in
      let limit = f.balanced.coll_limit in
      let sums = f.stands.troves.sum_debt in
      record {
        product = and_from _ _ (le-leb _ _ s.least) (le-leb _ _ s.highest);
        sum = le-leb _ _ (omega (arith, s.sum));
        total = omega (arith, c.lusd, f.balanced.debt_limit);
        scale = scale;
        epoch = epoch;
        served = p.served;
        worth = p.worth_less;
        limit = omega (arith, c.coll, limit, p.coll_is, x.has.coll_is, w.coll, w.pending_coll);
        coll = omega (arith, p.coll_is, x.has.coll_is, w.coll, w.pending_coll);
        sum_debt = sums;
      }

  pub row_here : at (trove_rows t) v.account ≡ Some (trove_row t x.has.entry)
  row_here = at-map (trove_row t) t.troves v.account
      ∙ ap (λ (o : Option TroveEntry). option_map (trove_row t) o) x.has.there

  pub others_stake : x.has.entry.stake < stakes_of t
  others_stake =
      let some = some_left t f 0 none v.account v.one x in
      let left = stakes_left t f 0 none v.account v.one x in
      omega (arith, some, left)

  module _ (liquidator : ℕ) where
    books_left : books_of (liquidated t liquidator v)
        ≡ snap (spread (lifted_row (books_of t) v.account (Some (trove_row t x.has.entry))) v.one.spread_coll
        v.one.spread_debt)
    books_left =
        left_books t v liquidator f.stands.formed.1
        ∙ ap (λ (o : Option Trove). snap (spread (lifted_row (books_of t) v.account o) v.one.spread_coll
        v.one.spread_debt)) row_here

    stakes_are : added_up (λ (r : Trove). r.stake) (without (trove_rows t) v.account) ≡ stakes_of t - x.has.entry.stake
    stakes_are =
        let law = sum_taken (λ (r : Trove). r.stake) (trove_rows t) v.account (trove_row t x.has.entry) row_here in
        let all = f.stands.troves.stakes in
        omega (arith, law, all)

    stakes_next : stakes_of (liquidated t liquidator v) ≡ stakes_of t - x.has.entry.stake
    stakes_next = ap (λ (b : Books). b.sums.stakes) books_left ∙ stakes_are

    pub coll_next : total_coll (liquidated t liquidator v) ≡ total_coll t - (v.one.gas + v.one.offset_coll
        + v.one.surplus)
    coll_next =
        let w = x.has.within in
        let is = ap (λ (b : Books). b.active_coll + b.default_coll) books_left in
        omega (arith, is, x.parts.coll_is, x.has.coll_is, w.coll, w.pending_coll)

    pub debts_next : total_debt (liquidated t liquidator v) ≡ total_debt t - v.one.offset_debt
    debts_next =
        let w = x.has.within in
        let is = ap (λ (b : Books). b.active_debt + b.default_debt) books_left in
        omega (arith, is, x.parts.debt_is, x.has.debt_is, w.debt, w.pending_debt)

    debt_next : (sums_now (liquidated t liquidator v)).debt ≡ sum_after (sums_now t).debt v.one.spread_debt
        (stakes_of t - x.has.entry.stake)
    debt_next = ap (λ (b : Books). b.sums.debt) books_left
        ∙ ap (λ n. sum_after (sums_now t).debt v.one.spread_debt n) stakes_are

    -- the trove leaves the rows, and the others stay
    pub rows_next : trove_rows (liquidated t liquidator v) ≡ without (trove_rows t) v.account
    rows_next = ap (λ (b : Books). b.troves) books_left

    pub course_next : course_after (course_of t) x.has.entry.stake v.one ≡ course_of (liquidated t liquidator v)
    course_next =
        let now = course_of (liquidated t liquidator v) in
        let stakes = stakes_of t - x.has.entry.stake in
        sym (
        ap (λ (w : PoolWords). record now { words = w }) (left_words t v liquidator f.stands.formed.0 f.stands.formed.3)
        ∙ ap (λ n. record now { words = words_left (pool_words t) v.one; stakes = n }) stakes_next
        ∙ ap (λ n. record now { words = words_left (pool_words t) v.one; stakes = stakes; coll = n }) coll_next
        ∙ ap (λ n. record (course_after (course_of t) x.has.entry.stake v.one) { sum_debt = n }) debt_next
        )

-- what the Stability Pool takes over is the event that is told
pub event_told : (t : State) (made : One) → told_of (offset_told (pool_words t) made) ≡ victim_events t made
event_told t made = by (made.offset_debt == 0) where
  event : PoolEvent
  event = Offset made.offset_debt made.offset_coll (pool_words t).total (rise_of (pool_words t).p
      (offset_in (pool_words t) made.offset_debt made.offset_coll))

  by : (b : Bool)
      → told_of (cond b None (Some (Offset made.offset_debt made.offset_coll (pool_words t).total
      (rise_of (pool_words t).p (offset_in (pool_words t) made.offset_debt made.offset_coll)))))
      ≡ cond b [] (Offset made.offset_debt made.offset_coll (pool_words t).total (rise_of (pool_words t).p
      (offset_in (pool_words t) made.offset_debt made.offset_coll)) ∷ [])
  by true = refl
  by false = refl

-- ---- several

changes_paid : (vs : List Victim) (s : State) (wallets : Table Wallet) (reserve : ℕ)
    → victim_changes (with_pay s wallets reserve) vs ≡ victim_changes s vs
changes_paid [] s wallets reserve = refl
changes_paid (v ∷ vs) s wallets reserve =
    ap (λ (t : State). Gone v.account ∷ words_in t ∷ victim_changes t vs) (struck_paid s v wallets reserve)
    ∙ ap (λ (l : List ListChange). Gone v.account ∷ words_in (struck s v) ∷ l)
    (changes_paid vs (struck s v) wallets reserve)

-- told along the states in which the liquidator is paid
pub events_more : (vs : List Victim) (s : State) (v : Victim) → offset_events s (vs ++ v ∷ []) ≡ offset_events s vs
    ++ victim_events (all_liquidated s 0 vs) v.one
events_more [] s v = append-nil (victim_events s v.one)
events_more (u ∷ us) s v =
    let next = liquidated s 0 u in
    let here = victim_events s u.one in
    ap (λ (l : List PoolEvent). here ++ l) (sym (offset_paid (us ++ v ∷ []) (struck s u) next.wallets next.reserve)
    ∙ events_more us next v)
    ∙ ap (λ (l : List PoolEvent). here ++ (l ++ victim_events (all_liquidated next 0 us) v.one))
    (offset_paid us (struck s u) next.wallets next.reserve)
    ∙ sym (append_assoc here (offset_events (struck s u) us) (victim_events (all_liquidated next 0 us) v.one))

pub changes_more : (vs : List Victim) (s : State) (v : Victim) → victim_changes s (vs ++ v ∷ []) ≡ victim_changes s vs
    ++ Gone v.account ∷ words_in (liquidated (all_liquidated s 0 vs) 0 v) ∷ []
changes_more [] s v = refl
changes_more (u ∷ us) s v =
    let next = liquidated s 0 u in
    ap (λ (l : List ListChange). Gone u.account ∷ words_in (struck s u) ∷ l)
    (sym (changes_paid (us ++ v ∷ []) (struck s u) next.wallets next.reserve) ∙ changes_more us next v
    ∙ ap (λ (l : List ListChange). l ++ Gone v.account ∷ words_in (liquidated (all_liquidated next 0 us) 0 v) ∷ [])
    (changes_paid us (struck s u) next.wallets next.reserve))

-- a row that is left stands among those before
still : (table : Table Trove) (key account : ℕ) (row : Trove) → Ascends table → at (without table key) account
    ≡ Some row → at table account ≡ Some row
still table key account row a h = by (key == account) refl where
  by : (b : Bool) → (key == account) ≡ b → at table account ≡ Some row
  by true is =
      let same : key ≡ account = grind (arith, nat_tests, is) in
      let gone = subst (λ k. at (without table key) k ≡ None) same (at-without_same table key a) in
      cc
  by false is = sym (at-without_other table key account is) ∙ h

pub rows_before : (vs : List Victim) (s : State) → Finds s → AreVictims s 0 vs → (i account : ℕ) (row : Trove)
    → at (trove_rows (all_liquidated s 0 (take i vs))) account ≡ Some row → at (trove_rows s) account ≡ Some row
rows_before vs s f h zero account row there = there
rows_before [] s f h (suc i) account row there = there
rows_before (v ∷ vs) s f h (suc i) account row there =
    let next = liquidated s 0 v in
    let f2 = finds_after s next (victim_leaves s f 0 (omega arith) v.account v.one (strikes s f v.account v.one h.0)) in
    let later = rows_before vs next f2 h.1 i account row there in
    still (trove_rows s) v.account account row f.stands.troves.ascend (subst (λ (t : Table Trove). at t account
    ≡ Some row) (rows_next s f v h.0 0) later)

-- ---- the victim at an index

module _ (s : State) (h : IsSoundState s) (vs : List Victim) (victims : AreVictims s 0 vs) (few : length vs
    ≤ LOWEST_MOST) (i : ℕ) (within : i < length vs) where
  nobody : 0 < ACCOUNTS
  nobody = omega arith

  abbrev pub now : State
  now = all_liquidated s 0 (take i vs)

  abbrev pub here : Victim
  here = get_or vs i no_victim

  f : Finds now
  f = finds_after s now (walked 0 nobody vs s (finds s (sound_facts s h)) victims i)

  made : one now here.account ≡ Ok here.one
  made = victim_there 0 nobody vs s victims i within

  pub next_at : (c : Course) → c ≡ course_of now → IsNext c here.one
  next_at c is =
      let facts = sound_facts s h in
      let fit = places_fit s facts now (3 * i) (omega (arith, few, within)) (walked 0 nobody vs s
      (finds s facts) victims i) in
      subst (λ (d : Course). IsNext d here.one) (sym is) (next_told now f here made fit.0 fit.1)

  stake_at : (stake : ℕ) → stake ≡ unwrap_or (option_map (λ (r : Trove). r.stake) (at (trove_rows s) here.account)) 0
      → stake ≡ (x now f here made).has.entry.stake
  stake_at stake is =
      let there = rows_before vs s (finds s (sound_facts s h)) victims i here.account
      (trove_row now (x now f here made).has.entry) (row_here now f here made) in
      is ∙ ap (λ (o : Option Trove). unwrap_or (option_map (λ (r : Trove). r.stake) o) 0) there

  pub others_at : (stake : ℕ) → stake ≡ unwrap_or (option_map (λ (r : Trove). r.stake) (at (trove_rows s) here.account))
      0 → (c : Course) → c ≡ course_of now → stake < c.stakes
  others_at stake is c at_now =
      let same = stake_at stake is in
      let left = others_stake now f here made in
      let all = ap (λ (d : Course). d.stakes) at_now in
      omega (arith, same, left, all)

  next_is : all_liquidated s 0 (take (i + 1) vs) ≡ liquidated now 0 here
  next_is = ap (λ n. all_liquidated s 0 (take n vs)) (add-one i) ∙ one_more 0 nobody vs s i within

  pub course_at : (stake : ℕ) → stake ≡ unwrap_or (option_map (λ (r : Trove). r.stake) (at (trove_rows s) here.account))
      0 → (c d : Course) → c ≡ course_of now → d ≡ course_after c stake here.one
      → d ≡ course_of (all_liquidated s 0 (take (i + 1) vs))
  course_at stake is c d at_now after =
      after
      ∙ ap (λ (e : Course). course_after e stake here.one) at_now
      ∙ ap (λ n. course_after (course_of now) n here.one) (stake_at stake is)
      ∙ course_next now f here made 0
      ∙ sym (ap (λ (t : State). course_of t) next_is)

  more : take (i + 1) vs ≡ take i vs ++ here ∷ []
  more = take_more vs i no_victim within

  pub events_at : (c : Course) → c ≡ course_of now → (event : Option PoolEvent) → event ≡ offset_told c.words here.one
      → (old new : List PoolEvent) → old ≡ offset_events s (take i vs) → new ≡ old ++ told_of event
      → new ≡ offset_events s (take (i + 1) vs)
  events_at c at_now event is old new before added =
      added
      ∙ ap (λ (o : Option PoolEvent). old ++ told_of o) (is ∙ ap (λ (d : Course). offset_told d.words here.one) at_now)
      ∙ ap (λ (l : List PoolEvent). old ++ l) (event_told now here.one)
      ∙ ap (λ (l : List PoolEvent). l ++ victim_events now here.one) before
      ∙ sym (events_more (take i vs) s here)
      ∙ sym (ap (λ (l : List Victim). offset_events s l) more)

  pub changes_at : (d : Course) → d ≡ course_of (all_liquidated s 0 (take (i + 1) vs)) → (words : ListChange)
      → words ≡ course_words d → (old new : List ListChange) → old ≡ victim_changes s (take i vs)
      → new ≡ old ++ Gone here.account ∷ words ∷ [] → new ≡ victim_changes s (take (i + 1) vs)
  changes_at d at_later words is old new before added =
      added
      ∙ ap (λ (w : ListChange). old ++ Gone here.account ∷ w ∷ []) (is ∙ ap course_words (at_later
      ∙ ap (λ (t : State). course_of t) next_is))
      ∙ ap (λ (l : List ListChange). l ++ Gone here.account ∷ words_in (liquidated now 0 here) ∷ []) before
      ∙ sym (changes_more (take i vs) s here)
      ∙ sym (ap (λ (l : List Victim). victim_changes s l) more)

-- ---- the lowest troves

-- each of the lowest troves may be liquidated after those before it
pub lowest_victims : (n : ℕ) (s : State) → Finds s → (liquidator : ℕ) → liquidator < ACCOUNTS
    → AreVictims s liquidator (lowest s n)
lowest_victims zero s f liquidator k = tt
lowest_victims (suc n) s f liquidator k = by (next_victim s) (found s (last_trove s)) (λ v h. lowest_victims n
    (liquidated s liquidator v) h liquidator k) where
      by : (next : Option Victim) → ((v : Victim) → next ≡ Some v → one s v.account ≡ Ok v.one)
          → ((v : Victim) → Finds (liquidated s liquidator v)
          → AreVictims (liquidated s liquidator v) liquidator (lowest (liquidated s liquidator v) n))
          → AreVictims s liquidator (lowest_by n s next)
      by None known later = tt
      by (Some v) known later =
          let next = liquidated s liquidator v in
          let first = victim_leaves s f liquidator k v.account v.one (strikes s f v.account v.one (known v refl)) in
          let same : lowest next n ≡ lowest (struck s v) n = lowest_paid n (struck s v) next.wallets next.reserve in (
            known v refl,
            subst (λ (vs : List Victim). AreVictims next liquidator vs) same
                (later v (finds_after s next first)),
          )

-- what they come to is within what all troves have
pub record SumsWithin (s : State) (vs : List Victim) : Type 0 where
  pub coll : sum_by (λ (v : Victim). v.one.gas) vs + sum_by (λ (v : Victim). v.one.offset_coll) vs ≤ total_coll s
  pub debt : sum_by (λ (v : Victim). v.one.offset_debt) vs ≤ total_debt s

pub sums_within : (vs : List Victim) (s : State) → Finds s → AreVictims s 0 vs → SumsWithin s vs
sums_within [] s f h = record { coll = omega arith; debt = omega arith }
sums_within (v ∷ vs) s f h =
    let next = liquidated s 0 v in
    let y = strikes s f v.account v.one h.0 in
    let p = y.parts in
    let w = y.has.within in
    let later = sums_within vs next (finds_after s next (victim_leaves s f 0 (omega arith) v.account v.one y)) h.1 in
    let gas = sum_by-cons (λ (u : Victim). u.one.gas) v vs in
    let coll = sum_by-cons (λ (u : Victim). u.one.offset_coll) v vs in
    let debt = sum_by-cons (λ (u : Victim). u.one.offset_debt) v vs in
    let colls = coll_next s f v h.0 0 in
    let debts = debts_next s f v h.0 0 in
    record {
      coll = omega (arith, later.coll, gas, coll, colls, p.coll_is, y.has.coll_is, w.coll, w.pending_coll);
      debt = omega (arith, later.debt, debt, debts, p.debt_is, y.has.debt_is, w.debt, w.pending_debt);
    }
