-- Liquidations leave what stands: of one trove, and of the lowest ones, one after the other.
use Rattle.std.proofs.Common.{◌≡◌, ℕ, zero, suc, ◌+◌, ◌-◌, ◌*◌, ◌^◌, ◌≤◌, ◌<◌, Bool, true, false, cond, List, [], ◌∷◌, refl, ap, sym, ◌∙◌, subst, arith, nat_lt, nat_le, min, Some, None, Option}
use Rattle.std.specs.Prelude.{◌==◌, ◌&&◌, option_map, Result, Ok, Err}
use Rattle.std.proofs.Math.Nat.{mul-le-mul_left, div-le_of_le-mul, div-mul-le_self, le_of_mul-le-mul_right}
use Rattle.std.proofs.lemmas.Bool.Decides.{nat_tests}
use Rattle.liq_num.specs.Quotient.{floor_of}
use Rattle.liq_types.specs.declared.amounts.TheConstants.{ACCOUNTS, LIM, RESERVE, MCR, CAP_WORTH, OFFSET_MOST, PRICE_LEAST, SUM_MOST, RISES_MOST}
use Rattle.liq_types.specs.declared.figures.Market.{Market}
use Rattle.liq_types.specs.declared.figures.Trove.{Trove}
use Rattle.liq_types.specs.declared.figures.Wallet.{Wallet}
use Rattle.liq_types.specs.declared.replies.Refusal.{Refusal}
use Rattle.liq_types.specs.Payments.{surplus_added}
use Rattle.liq_types.specs.Product.{IsWithinRange, place_of}
use Rattle.liq_types.specs.Rules.{first_refusal}
use Rattle.liq_types.specs.State.{State, TroveEntry, PoolOffset}
use Rattle.liq_types.specs.Tables.{Table, at}
use Rattle.liq_types.specs.Totals.{is_below_percent, is_at_most_whole, is_ratio_below, is_normal, market_of, pool_total, pool_coll, stakes_of, trove_count, worth, asked}
use Rattle.liq_types.proofs.MapRows.{at-map, map-length, all-without}
use Rattle.liq_troves.specs.Own.{lifted_entry, redistributed, snapped}
use Rattle.liq_troves.specs.Rows.{entire_by, sum_after}
use Rattle.liq_troves.specs.Standing.{TrovesStand, books_of}
use Rattle.liq_troves.specs.StakeSums.{trove_row, trove_rows, sums_words, sums_now, pending_coll, pending_debt, entire_of}
use Rattle.liq_troves.proofs.Added.{sum_taken}
use Rattle.liq_troves.proofs.Standing.{some_stake, trove_within}
use Rattle.liq_order.specs.Order.{last_trove}
use Rattle.liq_stability.specs.Own.{offset}
use Rattle.liq_stability.specs.Position.{words_of}
use Rattle.liq_stability.proofs.Pool.{offset-total, offset-coll}
use Rattle.liq_liquidation.specs.declared.one.One.{One}
use Rattle.liq_liquidation.specs.declared.one.Victim.{Victim}
use Rattle.liq_liquidation.specs.One.{Treatment, Plain, Redistributed, Capped, Kept, treatment, treated, gas_of, cap_of, plain, capped, is_capped, is_kept, without_stake, one_rules, one_in, one, offset_if_any, struck, rewarded, liquidated}
use Rattle.liq_liquidation.specs.Lowest.{lowest, next_victim, victim_at, victim_by}
use Rattle.liq_rule_sound.specs.SoundState.{IsSetSince, StruckStand, OneIsCovered}
use Rattle.liq_rule_step.specs.Liquidation.{listed, all_liquidated}
use Rattle.liq_rule_step.proofs.Moving.{paid_coll, paid_lusd}
use Rattle.liq_rule_sound.proofs.SoundBorrow.{HasTrove, has_trove}
use Rattle.liq_rule_sound.proofs.SoundFacts.{Finds, Stands, Leaves, paid_stands, added_stands, lifted_stands, redistributed_stands, snapped_stands, offset_keeps, reserve_stands, key_below, surplus_sum, finds_after, leaves_itself, leaves_more, leaves_then}
use Rattle.liq_rule_sound.proofs.SoundPool.{MovesFew, offset_moves}
use Rattle.liq_types.proofs.Tests.{all_false, made_by}
use Rattle.liq_types.proofs.Lookups.{length-without}
use Rattle.std.proofs.lemmas.Bool.{ltb-false}
use Rattle.liq_liquidation.proofs.Parts.{gas_within}
use Rattle.liq_liquidation.proofs.Planned.{plain_below, plain_worth}

-- ---- what becomes of a trove

pub record Parts (coll debt total : ℕ) (one : One) : Type 0 where
  pub coll_is : one.gas + one.offset_coll + one.spread_coll + one.surplus ≡ coll
  pub debt_is : one.offset_debt + one.spread_debt ≡ debt
  pub served : one.offset_debt ≤ total
  pub worth_less : one.offset_coll ≤ OFFSET_MOST * one.offset_debt

plain_parts : (coll debt total price : ℕ) → 1 ≤ debt → PRICE_LEAST ≤ price → is_below_percent coll debt price MCR ≡ true
    → Parts coll debt total (plain coll debt total)
plain_parts coll debt total price some least below =
    let gas = gas_within coll in
    let offset_debt = min debt total in
    let rest = coll - gas_of coll in
    let offset_coll = floor_of rest offset_debt debt in
    let part : rest * offset_debt ≤ rest * debt = mul-le-mul_left rest (omega arith) in
    let within : offset_coll ≤ rest = div-le_of_le-mul debt (omega (arith, part)) in
    record {
      coll_is = omega (arith, gas, within);
      debt_is = omega arith;
      served = omega arith;
      worth_less = plain_worth coll debt total price least below;
    }

capped_parts : (coll debt total price : ℕ) → 1 ≤ debt → PRICE_LEAST ≤ price → is_below_percent coll debt price MCR
    ≡ false → debt ≤ total → Parts coll debt total (capped price coll debt)
capped_parts coll debt total price some least above serves =
    let cap = cap_of price debt in
    let gas = gas_within cap in
    let low : cap * price ≤ debt * CAP_WORTH = div-mul-le_self (debt * CAP_WORTH) price in
    let more : cap * PRICE_LEAST ≤ cap * price = mul-le-mul_left cap least in
    let enough : asked MCR debt ≤ worth coll price = ltb-false (worth coll price) (asked MCR debt) above in
    let fits : cap ≤ coll = le_of_mul-le-mul_right {m = cap} {n = coll} {k = price} (omega (arith, low, enough))
    (omega (arith, least)) in
    record {
      coll_is = omega (arith, gas, fits);
      debt_is = omega arith;
      served = serves;
      worth_less = omega (
        arith,
        low,
        more,
      );
    }

capped_above : (n w b r : Bool) → cond n (cond b Plain Kept) (cond w Redistributed (cond b Plain (cond r Capped Kept)))
    ≡ Capped → b ≡ false
capped_above true w true r h = cc
capped_above true w false r h = cc
capped_above false true b r h = cc
capped_above false false true r h = cc
capped_above false false false true h = refl
capped_above false false false false h = cc

treated_parts : (m : Market) (coll debt total : ℕ) (kind : Treatment) → treatment m coll debt ≡ kind
    → is_kept kind ≡ false → (is_capped kind && nat_lt total debt) ≡ false → 1 ≤ debt → PRICE_LEAST ≤ m.price
    → Parts coll debt total (treated kind m.price coll debt total)
treated_parts m coll debt total Plain is kept room some least =
    plain_parts coll debt total m.price some least (plain_below (is_normal m) (is_at_most_whole coll debt m.price)
    (is_below_percent coll debt m.price MCR) (is_ratio_below coll debt m.total_coll m.total_debt) is)
treated_parts m coll debt total Redistributed is kept room some least =
    let gas = gas_within coll in
    record { coll_is = omega (arith, gas); debt_is = omega arith; served = omega arith; worth_less = omega arith }
treated_parts m coll debt total Capped is kept room some least =
    capped_parts coll debt total m.price some least (capped_above (is_normal m) (is_at_most_whole coll debt m.price)
    (is_below_percent coll debt m.price MCR) (is_ratio_below coll debt m.total_coll m.total_debt) is)
    (ltb-false total debt room)
treated_parts m coll debt total Kept is kept room some least = cc

-- ---- what an allowed liquidation finds

pub record Strikes (s : State) (account : ℕ) (made : One) : Type 0 where
  pub coll : ℕ
  pub debt : ℕ
  pub has : HasTrove s account coll debt
  pub several : 2 ≤ trove_count s
  pub parts : Parts coll debt (pool_total s) made
  pub coll_fits : sum_after (sums_now s).coll made.spread_coll (stakes_of s - has.entry.stake) ≤ SUM_MOST
  pub debt_fits : sum_after (sums_now s).debt made.spread_debt (stakes_of s - has.entry.stake) ≤ SUM_MOST

strikes_by : (s : State) → Finds s → (account : ℕ) (made : One) (o : Option TroveEntry) → at s.troves account ≡ o
    → one_in (market_of s) (sums_words s) (pool_total s) account (option_map (trove_row s) o) ≡ Ok made
    → Strikes s account made
strikes_by s f account made None there h = cc
strikes_by s f account made (Some e) there h =
    let m = market_of s in
    let own = entire_by (sums_words s) (trove_row s e) in
    let total = pool_total s in
    let others = without_stake (sums_words s) (trove_row s e) in
    let kind = treatment m own.0 own.1 in
    let ok = made_by (first_refusal (one_rules m others own.0 own.1 total)) (treated kind m.price own.0 own.1 total)
    made h in
    let rules = all_false (one_rules m others own.0 own.1 total) ok.0 in
    let row : at (trove_rows s) account ≡ Some (trove_row s e) = at-map (trove_row s) s.troves account
    ∙ ap (λ (o : Option TroveEntry). option_map (trove_row s) o) there in
    let w = trove_within (books_of s) account (trove_row s e) row f.stands.troves in
    let has : HasTrove s account own.0 own.1 = record {
      entry = e;
      there = there;
      coll_is = refl;
      debt_is = refl;
      within = w;
      some = omega (arith, w.stands.some, w.stands.within);
      least = omega (arith, w.stands.debt);
    } in
    let several : 2 ≤ trove_count s = many (trove_count s) rules.0 in
    let parts = treated_parts m own.0 own.1 total kind refl rules.1.0 rules.1.1.0 (omega (arith, has.least))
    f.ranges.price_least in
    let same = ok.1 in
    record {
      coll = own.0;
      debt = own.1;
      has = has;
      several = several;
      parts = subst (λ (x : One). Parts own.0 own.1 total x) same parts;
      coll_fits = ltb-false SUM_MOST _ (subst (λ (x : One). nat_lt SUM_MOST (sum_after (sums_now s).coll x.spread_coll
          (stakes_of s - e.stake)) ≡ false) same rules.1.1.1.0);
      debt_fits = ltb-false SUM_MOST _ (subst (λ (x : One). nat_lt SUM_MOST (sum_after (sums_now s).debt x.spread_debt
          (stakes_of s - e.stake)) ≡ false) same rules.1.1.1.1.0);
    }
  where
    many : (n : ℕ) → nat_le n 1 ≡ false → 2 ≤ n
    many n h = grind (arith, nat_tests, h)

pub strikes : (s : State) → Finds s → (account : ℕ) (made : One) → one s account ≡ Ok made → Strikes s account made
strikes s f account made h =
    strikes_by s f account made (at s.troves account) refl
    (ap (λ (o : Option Trove). one_in (market_of s) (sums_words s) (pool_total s) account o)
    (sym (at-map (trove_row s) s.troves account)) ∙ h)

-- ---- one victim

pub served_limit : LIM ≤ 10 ^ (9 * RISES_MOST)
served_limit = omega arith

module _ (s : State) (f : Finds s) (liquidator : ℕ) (k : liquidator < ACCOUNTS) (account : ℕ) (made : One)
    (x : Strikes s account made) where
  abbrev victim : Victim
  victim = record { account = account; one = made }

  pool_within : pool_total s ≤ LIM
  pool_within =
      let homes = f.balanced.homes.lusd in
      let limit = f.balanced.debt_limit in
      omega (arith, homes, limit)

  -- the trove has left
  abbrev gone : State
  gone = lifted_entry s account (Some x.has.entry)

  gone_stands : Stands LIM gone
  gone_stands = subst (λ (o : Option TroveEntry). Stands LIM (lifted_entry s account o)) x.has.there
      (lifted_stands s account f.stands)

  pub stakes_left : stakes_of gone ≡ stakes_of s - x.has.entry.stake
  stakes_left = let law = sum_taken (λ (t : TroveEntry). t.stake) s.troves account x.has.entry x.has.there
      in omega (arith, law)

  pub some_left : 1 ≤ stakes_of gone
  some_left =
      let rows = length-without s.troves account x.has.entry x.has.there in
      let count = map-length (trove_row gone) gone.troves in
      let some = some_stake (books_of gone) (omega (arith, rows, count, x.several)) gone_stands.troves in
      some

  -- the rest of the liquidation, from the state in which the pool has taken over its part
  abbrev after : State → State
  after left = rewarded (surplus_added (snapped (redistributed left made.spread_coll made.spread_debt)) account
      made.surplus) liquidator made.gas

  some_offset : (made.offset_debt == 0) ≡ false → 1 ≤ made.offset_debt
  some_offset e = grind (arith, nat_tests, e)

  no_offset : (made.offset_debt == 0) ≡ true → made.offset_debt ≡ 0
  no_offset e = grind (arith, nat_tests, e)

  coll_fits : sum_after (sums_now gone).coll made.spread_coll (stakes_of gone) ≤ SUM_MOST
  coll_fits = subst (λ n. sum_after (sums_now s).coll made.spread_coll n ≤ SUM_MOST) (sym stakes_left) x.coll_fits

  debt_fits : sum_after (sums_now gone).debt made.spread_debt (stakes_of gone) ≤ SUM_MOST
  debt_fits = subst (λ n. sum_after (sums_now s).debt made.spread_debt n ≤ SUM_MOST) (sym stakes_left) x.debt_fits

  rewarded_stands : (t : State) → Stands LIM t
      → Stands LIM (rewarded (surplus_added t account made.surplus) liquidator made.gas)
  rewarded_stands t h =
      let added = added_stands t account (key_below s.troves account x.has.entry x.has.there f.stands.trove_keys) h
      made.surplus in
      let given = surplus_added t account made.surplus in
      paid_stands (record given { reserve = given.reserve - RESERVE }) liquidator k (reserve_stands given (given.reserve
      - RESERVE) added) made.gas RESERVE

  -- the pool has taken over its part
  record IsServed (left : State) : Type 0 where
    stands : Stands LIM left
    total : pool_total left ≡ pool_total s - made.offset_debt
    coll : pool_coll left ≡ pool_coll s + made.offset_coll
    moves : MovesFew (place_of (words_of s)) (place_of (words_of left))

  none_served : (made.offset_debt == 0) ≡ true → IsServed gone
  none_served e =
      let none = no_offset e in
      let nothing = x.parts.worth_less in
      record {
        stands = gone_stands;
        total = omega (arith, none);
        coll = omega (arith, none, nothing);
        moves = record { scale = omega arith; epoch = omega arith };
      }

  some_served : (made.offset_debt == 0) ≡ false → IsServed (offset gone made.offset_debt made.offset_coll)
  some_served e = record {
    stands = offset_keeps served_limit gone made.offset_debt made.offset_coll (some_offset e) x.parts.served pool_within
        x.parts.worth_less gone_stands;
    total = offset-total gone made.offset_debt made.offset_coll;
    coll = offset-coll gone gone_stands.formed.3 made.offset_debt made.offset_coll;
    moves = offset_moves LIM served_limit gone made.offset_debt made.offset_coll gone_stands.formed (some_offset e)
        x.parts.served pool_within gone_stands.pool;
  }

  -- a pool that took over something differs in its offsets alone
  leaves_after : (offsets : List PoolOffset) → IsServed (record gone { offsets = offsets })
      → Leaves 3 s (after (record gone { offsets = offsets }))
  leaves_after offsets served =
      let left = record gone { offsets = offsets } in
      let c = f.balanced.homes in
      let w = x.has.within in
      let p = x.parts in
      let limit = f.limited.debt in
      let total = served.total in
      let coll = served.coll in
      let moves = served.moves in
      let shared = redistributed_stands left made.spread_coll made.spread_debt some_left coll_fits debt_fits
      served.stands in
      let counted = snapped (redistributed left made.spread_coll made.spread_debt) in
      let before = surplus_added counted account made.surplus in
      let burned = record before { reserve = before.reserve - RESERVE } in
      let c1 = paid_coll burned liquidator made.gas RESERVE f.stands.wallets.ascend in
      let l1 = paid_lusd burned liquidator made.gas RESERVE f.stands.wallets.ascend in
      let rows = length-without s.troves account x.has.entry x.has.there in
      let surplus = surplus_sum s.surplus_rows account made.surplus f.stands.surplus.ascend in
      record {
        stands = rewarded_stands counted
            (snapped_stands (redistributed left made.spread_coll made.spread_debt) some_left shared);
        rest = record {
          homes = record {
            coll = omega (arith, c1, c.coll, coll, p.coll_is, x.has.coll_is, w.coll, w.pending_coll);
            lusd = omega (
              arith,
              l1,
              c.lusd,
              total,
              p.served,
              p.debt_is,
              x.has.debt_is,
              w.debt,
              w.pending_debt,
              c.reserve,
              x.several,
            );
            reserve = omega (arith, rows, c.reserve);
            surplus = omega (arith, surplus, c.surplus);
          };
          limited = record {
            coll = f.limited.coll;
            debt = omega (arith, limit, p.debt_is, x.has.debt_is, w.debt, w.pending_debt);
          };
          ranges = f.ranges;
          scale = omega (arith, moves.scale);
          epoch = omega (arith, moves.epoch);
          generation = refl;
          records = refl;
          clients = refl;
          snap = λ n. omega (arith, c.coll, f.balanced.coll_limit, p.coll_is, x.has.coll_is, w.coll, w.pending_coll);
          marks = λ n. all-without (λ (x : TroveEntry). IsSetSince x.mark) s.troves account n;
        };
      }

  leaves_by : (b : Bool) → (made.offset_debt == 0) ≡ b
      → Leaves 3 s (after (cond b gone (offset gone made.offset_debt made.offset_coll)))
  leaves_by true e = leaves_after gone.offsets (none_served e)
  leaves_by false e = leaves_after (offset gone made.offset_debt made.offset_coll).offsets (some_served e)

  pub victim_leaves : Leaves 3 s (liquidated s liquidator victim)
  victim_leaves =
      subst (λ (o : Option TroveEntry). Leaves 3 s
      (after (offset_if_any (lifted_entry s account o) made.offset_debt made.offset_coll))) (sym x.has.there)
      (leaves_by (made.offset_debt == 0) refl)

-- ---- one trove

pub liquidate_leaves : (s : State) → Finds s → (liquidator account : ℕ) → liquidator < ACCOUNTS
    → Leaves 3 s (all_liquidated s liquidator (listed (victim_by account (one s account))))
liquidate_leaves s f liquidator account k = by (one s account) refl where
  by : (r : Result One Refusal) → one s account ≡ r
      → Leaves 3 s (all_liquidated s liquidator (listed (victim_by account r)))
  by (Ok made) e = victim_leaves s f liquidator k account made (strikes s f account made e)
  by (Err refusal) e = leaves_more 0 3 s s (omega arith) (leaves_itself s f)

-- ---- several: planned along the states that are struck, and applied along those in which the liquidator was paid too

abbrev pub with_pay : State → Table Wallet → ℕ → State
with_pay s wallets reserve = record s { wallets = wallets; reserve = reserve }

pub struck_paid : (s : State) (v : Victim) (wallets : Table Wallet) (reserve : ℕ)
    → struck (with_pay s wallets reserve) v ≡ with_pay (struck s v) wallets reserve
struck_paid s v wallets reserve = by (at s.troves v.account) (v.one.offset_debt == 0) where
  by : (o : Option TroveEntry) (b : Bool)
      → surplus_added (snapped (redistributed (cond b (lifted_entry (with_pay s wallets reserve) v.account o)
      (offset (lifted_entry (with_pay s wallets reserve) v.account o) v.one.offset_debt v.one.offset_coll))
      v.one.spread_coll v.one.spread_debt)) v.account v.one.surplus
      ≡ with_pay (surplus_added (snapped (redistributed (cond b (lifted_entry s v.account o)
      (offset (lifted_entry s v.account o) v.one.offset_debt v.one.offset_coll)) v.one.spread_coll v.one.spread_debt))
      v.account v.one.surplus) wallets reserve
  by None true = refl
  by None false = refl
  by (Some t) true = refl
  by (Some t) false = refl

abbrev pub lowest_by : ℕ → State → Option Victim → List Victim
lowest_by more s next = elim next [ None ↦ [] | Some v ↦ v ∷ lowest (struck s v) more ]

pub lowest_paid : (n : ℕ) (s : State) (wallets : Table Wallet) (reserve : ℕ) → lowest (with_pay s wallets reserve) n
    ≡ lowest s n
lowest_paid zero s wallets reserve = refl
lowest_paid (suc n) s wallets reserve = by (next_victim s) (λ v. lowest_paid n (struck s v) wallets reserve) where
  by : (next : Option Victim) → ((v : Victim) → lowest (with_pay (struck s v) wallets reserve) n
      ≡ lowest (struck s v) n) → lowest_by n (with_pay s wallets reserve) next ≡ lowest_by n s next
  by None later = refl
  by (Some v) later = ap (λ (vs : List Victim). v ∷ vs) (ap (λ (t : State). lowest t n)
      (struck_paid s v wallets reserve) ∙ later v)

-- a victim is one that may be liquidated
pub found : (s : State) (last : Option ℕ) (v : Victim) → victim_at s last ≡ Some v → one s v.account ≡ Ok v.one
found s None v e = cc
found s (Some account) v e = by (one s account) refl e where
  by : (r : Result One Refusal) → one s account ≡ r → victim_by account r ≡ Some v → one s v.account ≡ Ok v.one
  by (Ok made) is e =
      let same : (record { account = account; one = made }) ≡ v = the e in
      subst (λ (x : Victim). one s x.account ≡ Ok x.one) same is
    where
      the : (Some (record { account = account; one = made })) ≡ Some v → (record { account = account; one = made }) ≡ v
      the k = cc
  by (Err refusal) is e = cc

pub lowest_leaves : (n : ℕ) (s : State) → Finds s → (liquidator : ℕ) → liquidator < ACCOUNTS
    → Leaves (3 * n) s (all_liquidated s liquidator (lowest s n))
lowest_leaves zero s f liquidator k = leaves_itself s f
lowest_leaves (suc n) s f liquidator k = by (next_victim s) (found s (last_trove s)) (λ v h. lowest_leaves n
    (liquidated s liquidator v) h liquidator k) where
      by : (next : Option Victim) → ((v : Victim) → next ≡ Some v → one s v.account ≡ Ok v.one)
          → ((v : Victim) → Finds (liquidated s liquidator v)
          → Leaves (3 * n) (liquidated s liquidator v) (all_liquidated (liquidated s liquidator v) liquidator
          (lowest (liquidated s liquidator v) n)))
          → Leaves (3 * suc n) s (all_liquidated s liquidator (lowest_by n s next))
      by None known later = leaves_more 0 (3 * suc n) s s (omega arith) (leaves_itself s f)
      by (Some v) known later =
          let first = victim_leaves s f liquidator k v.account v.one (strikes s f v.account v.one (known v refl)) in
          let rest = later v (finds_after s (liquidated s liquidator v) first) in
          let same : lowest (liquidated s liquidator v) n ≡ lowest (struck s v) n =
          lowest_paid n (struck s v) (liquidated s liquidator v).wallets ((struck s v).reserve - RESERVE) in
          leaves_then 3 (3 * n) (3 * suc n) s (liquidated s liquidator v) (all_liquidated (liquidated s liquidator v)
          liquidator (lowest (struck s v) n)) (omega arith) first
          (subst (λ (vs : List Victim). Leaves (3 * n) (liquidated s liquidator v)
          (all_liquidated (liquidated s liquidator v) liquidator vs)) same rest)

-- ---- what is struck

one_covered : (s : State) (account : ℕ) (made : One) (x : Strikes s account made) (own : ℕ
    × ℕ) (h : HasTrove s account own.0 own.1) → OneIsCovered s own made
one_covered s account made x own h =
    let same : x.has.entry ≡ h.entry = the (sym x.has.there ∙ h.there) in
    let coll : x.coll ≡ own.0 = x.has.coll_is ∙ ap (λ (e : TroveEntry). e.coll + pending_coll s e) same
    ∙ sym h.coll_is in
    let debt : x.debt ≡ own.1 = x.has.debt_is ∙ ap (λ (e : TroveEntry). e.debt + pending_debt s e) same
    ∙ sym h.debt_is in
    record {
      coll = omega (arith, x.parts.coll_is, coll);
      debt = omega (arith, x.parts.debt_is, debt);
      served = x.parts.served;
      worth = x.parts.worth_less;
    }
  where
    the : {a b : TroveEntry} → Some a ≡ Some b → a ≡ b
    the e = cc

pub ones_covered : (s : State) → Finds s → (account : ℕ) (made : One) (own : ℕ × ℕ) → one s account ≡ Ok made
    → entire_of s account ≡ Some own → OneIsCovered s own made
ones_covered s f account made own e there = one_covered s account made (strikes s f account made e) own
    (has_trove s account own f.stands there)

struck_stands_paid : (vs : List Victim) (s : State) (wallets : Table Wallet) (reserve : ℕ)
    → StruckStand (with_pay s wallets reserve) vs → StruckStand s vs
struck_stands_paid [] s wallets reserve h = tt
struck_stands_paid (v ∷ vs) s wallets reserve h =
    let e = struck_paid s v wallets reserve in
    let troves = subst (λ (t : State). TrovesStand (books_of t)) e h.1 in
    let words = subst (λ (t : State). IsWithinRange (words_of t)) e h.2 in
    let later = subst (λ (t : State). StruckStand t vs) e h.3 in
    (h.0, troves, words, struck_stands_paid vs (struck s v) wallets reserve later)

pub lowest_stand : (n : ℕ) (s : State) → Finds s → StruckStand s (lowest s n)
lowest_stand zero s f = tt
lowest_stand (suc n) s f = by (next_victim s) (found s (last_trove s)) (λ v h. lowest_stand n
    (liquidated s 0 v) h) where
      by : (next : Option Victim) → ((v : Victim) → next ≡ Some v → one s v.account ≡ Ok v.one)
          → ((v : Victim) → Finds (liquidated s 0 v) → StruckStand (liquidated s 0 v) (lowest (liquidated s 0 v) n))
          → StruckStand s (lowest_by n s next)
      by None known later = tt
      by (Some v) known later =
          let next = liquidated s 0 v in
          let first = victim_leaves s f 0 (omega arith) v.account v.one (strikes s f v.account v.one (known v refl)) in
          let rest = later v (finds_after s next first) in
          let same : lowest next n ≡ lowest (struck s v) n =
          lowest_paid n (struck s v) next.wallets ((struck s v).reserve - RESERVE) in
          let told = subst (λ (vs : List Victim). StruckStand next vs) same rest in (
            known v refl,
            first.stands.troves,
            record { least = first.stands.pool.least; most = first.stands.pool.highest },
            struck_stands_paid (lowest (struck s v) n) (struck s v) next.wallets ((struck s v).reserve - RESERVE) told,
          )
