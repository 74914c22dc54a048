-- States with the same image liquidate alike.
use Rattle.std.proofs.Common.{◌≡◌, ℕ, zero, suc, ◌-◌, ◌≤◌, Bool, true, false, cond, List, [], ◌∷◌, refl, ap, sym, ◌∙◌, subst, arith, Some, None, Option, nat_lt}
use Rattle.std.specs.Prelude.{Result, Ok, Err, ◌==◌, ◌&&◌}
use Rattle.std.proofs.lemmas.Bool.Decides.{nat_tests}
use Rattle.liq_types.specs.declared.amounts.TheConstants.{RESERVE}
use Rattle.liq_types.specs.declared.figures.Market.{Market}
use Rattle.liq_types.specs.declared.figures.Trove.{Trove}
use Rattle.liq_types.specs.declared.image.Image.{Image}
use Rattle.liq_types.specs.declared.replies.Refusal.{Refusal}
use Rattle.liq_types.specs.declared.replies.Refusal.TheVariants.{NotLiquidatable, PoolTooSmall}
use Rattle.liq_types.specs.Rules.{Rule, first_refusal, last_trove_stays}
use Rattle.liq_types.specs.State.{State, TroveEntry}
use Rattle.liq_types.specs.Tables.{at}
use Rattle.liq_types.specs.Totals.{market_of, pool_total}
use Rattle.liq_troves.specs.Own.{lifted_entry, lifted}
use Rattle.liq_troves.specs.declared.sums.Sums.{Sums}
use Rattle.liq_troves.specs.Rows.{entire_by, spread_rules}
use Rattle.liq_troves.specs.StakeSums.{sums_words, trove_rows}
use Rattle.liq_order.specs.Order.{last_trove}
use Rattle.liq_stability.specs.Own.{offset}
use Rattle.liq_liquidation.specs.declared.one.One.{One}
use Rattle.liq_liquidation.specs.declared.one.Victim.{Victim}
use Rattle.liq_liquidation.specs.One.{Treatment, Plain, Redistributed, Capped, Kept, treatment, treated, is_capped, is_kept, without_stake, one_rules, one_of, one_in, one, offset_if_any, struck, liquidated}
use Rattle.liq_liquidation.specs.Lowest.{lowest, next_victim, victim_at, victim_by}
use Rattle.liq_rule_step.specs.Liquidation.{listed, all_liquidated}
use Rattle.liq_rule_step.proofs.Allowed.{none_first}
use Rattle.liq_rule_step.proofs.AlikeReads.{Alike, sums_by, market_alike, pool_total_alike, last_alike}
use Rattle.liq_rule_step.proofs.AlikeChanges.{alike_by, lifted_alike, offset_alike, redistributed_alike, snapped_alike, surplus_added_alike, paid_alike}
use Rattle.liq_types.proofs.Tests.{made_by}
use Rattle.liq_stability.proofs.Pool.{offset-total}

-- ---- what becomes of a trove

pub one_alike : {s t : State} → Alike s t → (account : ℕ) → one s account ≡ one t account
one_alike {s} {t} h account =
    ap (λ (m : Market). one_in m (sums_words s) (pool_total s) account (at (trove_rows s) account)) (market_alike h)
    ∙ ap (λ (i : Image). one_in (market_of t) (sums_by i) i.total account (at i.troves account)) h.image

-- ---- the pool takes over no more than it has

pool_serves : (t : Treatment) (price coll debt total : ℕ) → (is_capped t && nat_lt total debt) ≡ false
    → (treated t price coll debt total).offset_debt ≤ total
pool_serves Plain price coll debt total h = omega arith
pool_serves Redistributed price coll debt total h = omega arith
pool_serves Capped price coll debt total h = grind (arith, nat_tests, h)
pool_serves Kept price coll debt total h = omega arith

third : (a b c : Rule) (more : List Rule) → first_refusal (a ∷ b ∷ c ∷ more) ≡ None → c.0 ≡ false
third a b c more h = (none_first c more (none_first b (c ∷ more) (none_first a (b ∷ c ∷ more) h).1).1).0

one_of_serves : (m : Market) (others : Sums) (coll debt total : ℕ) (made : One) → one_of m others coll debt total
    ≡ Ok made → made.offset_debt ≤ total
one_of_serves m others coll debt total made h =
    let ok = made_by (first_refusal (one_rules m others coll debt total)) (treated (treatment m coll debt) m.price coll
    debt total) made h in
    let kind = treatment m coll debt in
    let made_by = treated kind m.price coll debt total in
    let room : (is_capped (treatment m coll debt) && nat_lt total debt) ≡ false =
    third (last_trove_stays m) (is_kept kind, NotLiquidatable coll debt m.price m.total_coll m.total_debt)
    (is_capped kind && nat_lt total debt, PoolTooSmall total debt)
    (spread_rules others made_by.spread_coll made_by.spread_debt) ok.0 in
    subst (λ (x : One). x.offset_debt ≤ total) ok.1 (pool_serves (treatment m coll debt) m.price coll debt total room)

one_in_serves : (m : Market) (sums : Sums) (total account : ℕ) (o : Option Trove) (made : One)
    → one_in m sums total account o ≡ Ok made → made.offset_debt ≤ total
one_in_serves m sums total account None made h = cc
one_in_serves m sums total account (Some t) made h =
    let own = entire_by sums t in
    one_of_serves m (without_stake sums t) own.0 own.1 total made h

pub one_serves : (s : State) (account : ℕ) (made : One) → one s account ≡ Ok made → made.offset_debt ≤ pool_total s
one_serves s account made h = one_in_serves (market_of s) (sums_words s) (pool_total s) account
    (at (trove_rows s) account) made h

-- ---- what a liquidation does

lifted_entry-total : (s : State) (account : ℕ) (o : Option TroveEntry) → pool_total (lifted_entry s account o)
    ≡ pool_total s
lifted_entry-total s account None = refl
lifted_entry-total s account (Some t) = refl

lifted-total : (s : State) (account : ℕ) → pool_total (lifted s account) ≡ pool_total s
lifted-total s account = lifted_entry-total s account (at s.troves account)

if_any-total : (s : State) (debt coll : ℕ) → pool_total (offset_if_any s debt coll) ≡ pool_total s - debt
if_any-total s debt coll = by (debt == 0) refl where
  by : (b : Bool) → (debt == 0) ≡ b → pool_total (cond b s (offset s debt coll)) ≡ pool_total s - debt
  by true e = let none : debt ≡ 0 = grind (arith, nat_tests, e) in omega (arith, none)
  by false e = offset-total s debt coll

pub struck-total : (s : State) (v : Victim) → pool_total (struck s v) ≡ pool_total s - v.one.offset_debt
struck-total s v =
    if_any-total (lifted s v.account) v.one.offset_debt v.one.offset_coll
    ∙ ap (λ n. n - v.one.offset_debt) (lifted-total s v.account)

if_any_alike : {s t : State} → Alike s t → (debt coll : ℕ) → debt ≤ pool_total s
    → Alike (offset_if_any s debt coll) (offset_if_any t debt coll)
if_any_alike {s} {t} h debt coll within = by (debt == 0) where
  by : (b : Bool) → Alike (cond b s (offset s debt coll)) (cond b t (offset t debt coll))
  by true = h
  by false = offset_alike h debt coll within (subst (λ n. debt ≤ n) (pool_total_alike h) within)

pub struck_alike : {s t : State} → Alike s t → (v : Victim) → v.one.offset_debt ≤ pool_total s
    → Alike (struck s v) (struck t v)
struck_alike {s} {t} h v within =
    let left = lifted_alike h v.account in
    let pooled = if_any_alike left v.one.offset_debt v.one.offset_coll (subst (λ n. v.one.offset_debt
    ≤ n) (sym (lifted-total s v.account)) within) in
    surplus_added_alike (snapped_alike (redistributed_alike pooled v.one.spread_coll v.one.spread_debt)) v.account
    v.one.surplus v.one.surplus refl

pub without_reserve_alike : {s t : State} → Alike s t
    → Alike (record s { reserve = s.reserve - RESERVE }) (record t { reserve = t.reserve - RESERVE })
without_reserve_alike {s} {t} h =
    alike_by (λ i. record i { reserve = i.reserve - RESERVE }) s t (record s { reserve = s.reserve - RESERVE })
    (record t { reserve = t.reserve - RESERVE }) h refl refl refl refl h.left h.right

liquidated_alike : {s t : State} → Alike s t → (liquidator : ℕ) (v : Victim) → v.one.offset_debt ≤ pool_total s
    → Alike (liquidated s liquidator v) (liquidated t liquidator v)
liquidated_alike h liquidator v within =
    paid_alike (without_reserve_alike (struck_alike h v within)) liquidator v.one.gas v.one.gas RESERVE RESERVE
    refl refl

-- ---- several

-- the pool, with so much in it, serves one victim after the other
abbrev pub Serves : ℕ → List Victim → Type 0
Serves total [] = Unit {0}
Serves total (v ∷ vs) = (v.one.offset_debt ≤ total) × Serves (total - v.one.offset_debt) vs

pub all_liquidated_alike : (vs : List Victim) (liquidator : ℕ) {s t : State} → Alike s t → Serves (pool_total s) vs
    → Alike (all_liquidated s liquidator vs) (all_liquidated t liquidator vs)
all_liquidated_alike [] liquidator h served = h
all_liquidated_alike (v ∷ vs) liquidator {s} {t} h served =
    all_liquidated_alike vs liquidator (liquidated_alike h liquidator v served.0)
    (subst (λ n. Serves n vs) (sym (struck-total s v)) served.1)

pub single_serves : (s : State) (account : ℕ) (r : Result One Refusal) → one s account ≡ r
    → Serves (pool_total s) (listed (victim_by account r))
single_serves s account (Ok made) h = (one_serves s account made h, tt)
single_serves s account (Err refusal) h = tt

victim_by_serves : (s : State) (account : ℕ) (r : Result One Refusal) (v : Victim) → one s account ≡ r
    → victim_by account r ≡ Some v → v.one.offset_debt ≤ pool_total s
victim_by_serves s account (Ok made) v h e =
    let same : (record { account = account; one = made }) ≡ v = cc in
    subst (λ (x : Victim). x.one.offset_debt ≤ pool_total s) same (one_serves s account made h)
victim_by_serves s account (Err refusal) v h e = cc

victim_at_serves : (s : State) (last : Option ℕ) (v : Victim) → victim_at s last ≡ Some v
    → v.one.offset_debt ≤ pool_total s
victim_at_serves s None v e = cc
victim_at_serves s (Some account) v e = victim_by_serves s account (one s account) v refl e

abbrev pub lowest_by : ℕ → State → Option Victim → List Victim
lowest_by more s next = elim next [ None ↦ [] | Some v ↦ v ∷ lowest (struck s v) more ]

lowest_by_serves : (more : ℕ) (s : State) (next : Option Victim) → ((v : Victim) → next ≡ Some v
    → v.one.offset_debt ≤ pool_total s) → ((v : Victim) → Serves (pool_total (struck s v)) (lowest (struck s v) more))
    → Serves (pool_total s) (lowest_by more s next)
lowest_by_serves more s None first later = tt
lowest_by_serves more s (Some v) first later = (
  first v refl,
  subst (λ n. Serves n (lowest (struck s v) more))
      (struck-total s v) (later v),
)

pub lowest_serves : (n : ℕ) (s : State) → Serves (pool_total s) (lowest s n)
lowest_serves zero s = tt
lowest_serves (suc more) s = lowest_by_serves more s (next_victim s) (victim_at_serves s (last_trove s))
    (λ v. lowest_serves more (struck s v))

victim_at_alike : {s t : State} → Alike s t → (last : Option ℕ) → victim_at s last ≡ victim_at t last
victim_at_alike h None = refl
victim_at_alike h (Some account) = ap (victim_by account) (one_alike h account)

next_alike : {s t : State} → Alike s t → next_victim s ≡ next_victim t
next_alike {s} {t} h = ap (victim_at s) (last_alike h) ∙ victim_at_alike h (last_trove t)

lowest_by_alike : (more : ℕ) (s t : State) (next : Option Victim) → ((v : Victim) → next ≡ Some v
    → lowest (struck s v) more ≡ lowest (struck t v) more) → lowest_by more s next ≡ lowest_by more t next
lowest_by_alike more s t None h = refl
lowest_by_alike more s t (Some v) h = ap (λ (vs : List Victim). v ∷ vs) (h v refl)

pub lowest_alike : (n : ℕ) {s t : State} → Alike s t → lowest s n ≡ lowest t n
lowest_alike zero h = refl
lowest_alike (suc more) {s} {t} h =
    lowest_by_alike more s t (next_victim s) (λ v e. lowest_alike more
    (struck_alike h v (victim_at_serves s (last_trove s) v e)))
    ∙ ap (lowest_by more t) (next_alike h)
