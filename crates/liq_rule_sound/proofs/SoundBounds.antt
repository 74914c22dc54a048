-- Bounds of every sound state, and of those that are reached from the opening.
use Rattle.std.proofs.Common.{◌≡◌, ℕ, ◌+◌, ◌-◌, ◌*◌, ◌≤◌, ◌<◌, Bool, true, false, cond, List, [], ◌∷◌, refl, ap, sym, ◌∙◌, subst, arith, drop, length, Some, None, Option, inl, inr, ◌^◌}
use Rattle.std.specs.Prelude.{◌⊎◌, ◌==◌, sum, sum_by, unwrap_or, option_map}
use Rattle.std.specs.List.{AllByRecursion}
use Rattle.std.specs.Map.{values_of, lookup}
use Rattle.std.proofs.Math.Nat.{mul-le-mul_left, mul-le-mul_right, div-lt_iff_lt-mul}
use Rattle.std.proofs.lemmas.Bool.{cases_lt}
use Rattle.std.proofs.lemmas.Bool.Decides.{nat_tests}
use Rattle.std.proofs.lemmas.List.Sums.{sum_by-cons}
use Rattle.liq_types.specs.declared.amounts.TheConstants.{ACCOUNTS, LIM, ONE, OFFSET_MOST, P_OPENING}
use Rattle.liq_types.specs.declared.figures.Deposit.{Deposit}
use Rattle.liq_types.specs.declared.figures.Trove.{Trove}
use Rattle.liq_types.specs.declared.figures.Wallet.{Wallet}
use Rattle.liq_types.specs.declared.requests.Call.{Call}
use Rattle.liq_types.specs.declared.requests.Command.{Command}
use Rattle.liq_types.specs.declared.requests.Request.{Request}
use Rattle.liq_types.specs.declared.requests.Request.TheVariants.{Do, Ask}
use Rattle.liq_types.specs.Product.{is_place, place_of, sumat, IsWithinRange, TakesPartUpTo, product_after, rise_of}
use Rattle.liq_types.specs.Rules.{first_refusal}
use Rattle.liq_types.specs.Image.{IsLimit}
use Rattle.liq_types.specs.State.{State, Mark, AtStart, After, StakeSums, TroveEntry, DepositEntry, Redistribution, opening_with, wallet_of, surplus_of, no_wallet}
use Rattle.liq_types.specs.Tables.{EpochScale, Table, at, map_rows}
use Rattle.liq_types.specs.Totals.{pool_total}
use Rattle.liq_types.specs.WellFormed.{IsWellFormed}
use Rattle.liq_types.proofs.Lookups.{all-at, length-without}
use Rattle.liq_types.proofs.MapRows.{at-map, map-sum}
use Rattle.liq_types.proofs.Ranges.{offset_within, rise_no_more}
use Rattle.liq_types.proofs.Sums.{leaves_part}
use Rattle.liq_types.proofs.Places.{IsUpTo, sum_shown}
use Rattle.liq_troves.specs.Rows.{pending}
use Rattle.liq_troves.specs.Standing.{books_of, coll_due, debt_due}
use Rattle.liq_troves.specs.StakeSums.{trove_row, trove_rows, sums_now, sums_at, pending_coll, pending_debt, exact_part, somethings, IsShortOf}
use Rattle.liq_troves.proofs.Added.{one_within}
use Rattle.liq_troves.proofs.Parts.{pending_near_part}
use Rattle.liq_troves.proofs.Standing.{trove_within, entire_within, stakes_within}
use Rattle.liq_stability.specs.Position.{words_of, mark_of, deposit_row, sums_from}
use Rattle.liq_stability.proofs.Pool.{offset_now}
use Rattle.liq_stability.proofs.Rising.{raised_below}
use Rattle.liq_rule_step.specs.Image.{image}
use Rattle.liq_rule_step.specs.Rules.{rules, effect}
use Rattle.liq_rule_sound.specs.SoundState.{IsSoundState, IsSetSince, AreSetSince, AmountsWithin, SnapshotWithin, WordsWithin, TroveIsCovered, DepositIsCovered, PoolIsWhole}
use Rattle.liq_rule_step.specs.Step.{Ruling, Refused, Repeated, Allowed, ruling, after_ruling, accounts, after, run}
use Rattle.liq_types.specs.Verbs.{is_rotate}
use Rattle.liq_rule_sound.proofs.SoundFacts.{Finds}
use Rattle.liq_rule_sound.proofs.SoundLiquidate.{served_limit}
use Rattle.liq_rule_sound.proofs.SoundPool.{FinishedStands, DepositStands, sum_in}
use Rattle.liq_rule_sound.proofs.SoundStart.{opening_sound}
use Rattle.liq_rule_sound.proofs.SoundStep.{allowed_has, effect_leaves, finds, after_sound, run_sound, rotate_of}
use Rattle.liq_rule_sound.proofs.SoundTests.{SoundFacts, sound_facts}

-- ---- rows within their sum

rows_within : {X : Type 0} (f : X → ℕ) (most : ℕ) (xs : List X) → sum_by f xs ≤ most
    → AllByRecursion (λ x. f x ≤ most) xs
rows_within f most [] h = tt
rows_within f most (x ∷ xs) h =
    let law = sum_by-cons f x xs in
    (omega (arith, law, h), rows_within f most xs (omega (arith, law, h)))

deposits_within : (s : State) (table : Table DepositEntry) (most : ℕ) (now : EpochScale) (sum : ℕ)
    (finished : List (EpochScale × ℕ))
    → AllByRecursion (λ (row : ℕ × Deposit). DepositStands most now sum finished row.1) (map_rows (deposit_row s) table)
    → AllByRecursion (λ (d : DepositEntry). d.amount ≤ most) (values_of table)
deposits_within s [] most now sum finished h = tt
deposits_within s (e ∷ es) most now sum finished h = (h.0.amount, deposits_within s es most now sum finished h.1)

pub amounts_within : (s : State) → IsSoundState s → AmountsWithin LIM s
amounts_within s h =
    let f = sound_facts s h in
    let b = f.balanced in
    let c = b.homes.coll in
    let l = b.homes.lusd in
    let t = f.stands.troves in
    let stakes = stakes_within (books_of s) t in
    let troves_coll = map-sum (trove_row s) (λ (x : Trove). x.coll) s.troves in
    let troves_debt = map-sum (trove_row s) (λ (x : Trove). x.debt) s.troves in
    record {
      brought = b.coll_limit;
      total_coll = omega (arith, c, b.coll_limit);
      total_debt = b.debt_limit;
      active_coll = omega (arith, c, b.coll_limit);
      active_debt = omega (arith, b.debt_limit);
      default_coll = omega (arith, c, b.coll_limit);
      default_debt = omega (arith, b.debt_limit);
      reserve = omega (arith, l, b.debt_limit);
      surplus = omega (arith, c, b.coll_limit);
      fee_coll = omega (arith, c, b.coll_limit);
      fee_lusd = omega (arith, l, b.debt_limit);
      pool_total = omega (arith, l, b.debt_limit);
      pool_coll = omega (arith, c, b.coll_limit);
      stakes = omega (arith, stakes, c, b.coll_limit);
      wallets_coll = rows_within (λ (w : Wallet). w.coll) LIM (values_of s.wallets) (omega (arith, c, b.coll_limit));
      wallets_lusd = rows_within (λ (w : Wallet). w.lusd) LIM (values_of s.wallets) (omega (arith, l, b.debt_limit));
      troves_coll = rows_within (λ (x : TroveEntry). x.coll) LIM (values_of s.troves) (omega (
        arith,
        troves_coll,
        t.active_coll,
        c,
        b.coll_limit,
      ));
      troves_debt = rows_within (λ (x : TroveEntry). x.debt) LIM (values_of s.troves) (omega (
        arith,
        troves_debt,
        t.active_debt,
        b.debt_limit,
      ));
      troves_stake = rows_within (λ (x : TroveEntry). x.stake) LIM (values_of s.troves) (omega (
        arith,
        stakes,
        c,
        b.coll_limit,
      ));
      surplus_rows = rows_within (λ (n : ℕ). n) LIM (values_of s.surplus_rows) (omega (
        arith,
        b.homes.surplus,
        c,
        b.coll_limit,
      ));
      deposits = deposits_within s s.deposits LIM _ _ _ f.stands.pool.deposits;
    }

-- ---- the words of the pool

finished_within : (now : EpochScale) (table : List (EpochScale × ℕ)) (q : EpochScale) → AllByRecursion
    (FinishedStands now) table
    → unwrap_or (lookup (is_place q) table) 0 ≤ OFFSET_MOST * P_OPENING
finished_within now [] q h = omega arith
finished_within now (e ∷ es) q h = by (is_place q e.0) (finished_within now es q h.1) where
  by : (b : Bool) → unwrap_or (lookup (is_place q) es) 0 ≤ OFFSET_MOST * P_OPENING
      → unwrap_or (cond b (Some e.1) (lookup (is_place q) es)) 0 ≤ OFFSET_MOST * P_OPENING
  by true later = h.0.most
  by false later = later

pub words_within : (s : State) → IsSoundState s → WordsWithin s
words_within s h =
    let f = sound_facts s h in
    let p = f.stands.pool in
    let t = f.stands.troves in
    record {
      product = record { least = p.least; most = p.highest };
      sum = omega (arith, p.sum, p.highest);
      sums = λ q. subst (λ n. n ≤ OFFSET_MOST * P_OPENING) (sum_shown s.start s.offsets f.stands.formed.0 q)
          (shown q (is_place (place_of (words_of s)) q));
      scale = f.scale;
      epoch = f.epoch;
      sum_coll = t.sum_coll;
      sum_debt = t.sum_debt;
    }
  where
    shown : (q : EpochScale) (b : Bool) → cond b (sumat s.start s.offsets (place_of (words_of s)))
        (unwrap_or (lookup (is_place q) (image s).finished) 0) ≤ OFFSET_MOST * P_OPENING
    shown q true = let p = (sound_facts s h).stands.pool in omega (arith, p.sum)
    shown q false = finished_within ((image s).epoch, (image s).scale) (image s).finished q
        (sound_facts s h).stands.pool.finished

-- ---- beside the pools

some_row : {X : Type 0} (table : Table X) (key : ℕ) (x : X) → at table key ≡ Some x → 1 ≤ length table
some_row table key x e = let rows = length-without table key x e in omega (arith, rows)

pub trove_covered : (s : State) → IsSoundState s → (account : ℕ) (t : TroveEntry) → at s.troves account ≡ Some t
    → TroveIsCovered s t
trove_covered s h account t there =
    let f = sound_facts s h in
    let row : at (trove_rows s) account ≡ Some (trove_row s t) = at-map (trove_row s) s.troves account
    ∙ ap (λ (o : Option TroveEntry). option_map (trove_row s) o) there in
    let w = trove_within (books_of s) account (trove_row s t) row f.stands.troves in
    let own = entire_within (books_of s) account (trove_row s t) row f.stands.troves in
    let some = some_row s.troves account t there in
    let stakes = one_within (λ (x : TroveEntry). x.stake) s.troves account t there in
    record {
      mark_coll = w.stands.mark_coll;
      mark_debt = w.stands.mark_debt;
      coll = w.coll;
      debt = w.debt;
      pending_coll = w.pending_coll;
      pending_debt = w.pending_debt;
      stake = stakes;
      some_coll = own.some;
      least_debt = own.least;
      entire_coll = own.coll;
      entire_debt = own.debt;
      reserve = omega (arith, f.balanced.homes.reserve, some);
    }

-- what stands of the row of a deposit
deposit_stands : (s : State) → SoundFacts s → (account : ℕ) (d : DepositEntry) → at s.deposits account ≡ Some d
    → DepositStands LIM ((image s).epoch, (image s).scale) (image s).sum (image s).finished (deposit_row s d)
deposit_stands s f account d there =
    let i = image s in
    let row : at i.deposits account ≡ Some (deposit_row s d) = at-map (deposit_row s) s.deposits account
    ∙ ap (λ (o : Option DepositEntry). option_map (deposit_row s) o) there in
    all-at (DepositStands LIM (i.epoch, i.scale) i.sum i.finished) i.deposits account (deposit_row s d)
    f.stands.pool.deposits row

pub deposit_covered : (s : State) → IsSoundState s → (account : ℕ) (d : DepositEntry) → at s.deposits account ≡ Some d
    → DepositIsCovered s d
deposit_covered s h account d there =
    let f = sound_facts s h in
    let i = image s in
    let stands = deposit_stands s f account d there in
    let mark = mark_of s d.mark in
    let shown : sum_in (i.epoch, i.scale) i.sum i.finished (mark.epoch, mark.scale)
    ≡ sumat s.start s.offsets (mark.epoch, mark.scale) = sum_shown s.start s.offsets f.stands.formed.0 (
      mark.epoch,
      mark.scale,
    ) in
    let here : sumat s.start s.offsets (mark.epoch, mark.scale) ≡ sums_from s mark 0 =
    ap (λ n. sumat s.start s.offsets (mark.epoch, n)) (none_more mark.scale) in
    let place = up_to (mark.epoch, mark.scale) (i.epoch, i.scale) stands.place in
    record {
      sum = omega (arith, stands.within, shown, here);
      product = stands.least_p;
      epoch = place.0;
      scale = place.1;
    }
  where
    none_more : (n : ℕ) → n ≡ n + 0
    none_more n = omega arith

    up_to : (a b : EpochScale) → IsUpTo a b → (a.0 ≤ b.0) × (a.0 ≡ b.0 → a.1 ≤ b.1)
    up_to a b (inl less) = (omega (arith, less), λ same. omega (arith, less, same))
    up_to a b (inr same) = (omega (arith, same.0), λ e. same.1)

pub pool_whole : (s : State) → IsWellFormed s → PoolIsWhole s
pool_whole s h =
    let covered = h.3 in
    record { lusd = omega (arith, covered.0); coll = omega (arith, covered.1) }

pub wallet_covered : (s : State) → IsSoundState s → (account : ℕ) → ((wallet_of s account).coll ≤ s.brought)
    × ((wallet_of s account).lusd ≤ LIM)
wallet_covered s h account = by (at s.wallets account) refl where
  by : (o : Option Wallet) → at s.wallets account ≡ o → ((unwrap_or o no_wallet).coll ≤ s.brought)
      × ((unwrap_or o no_wallet).lusd ≤ LIM)
  by None e = (omega arith, omega arith)
  by (Some w) e =
      let b = (sound_facts s h).balanced in
      let coll = one_within (λ (x : Wallet). x.coll) s.wallets account w e in
      let lusd = one_within (λ (x : Wallet). x.lusd) s.wallets account w e in
      (omega (arith, coll, b.homes.coll), omega (arith, lusd, b.homes.lusd, b.debt_limit))

pub surplus_covered : (s : State) → IsSoundState s → (account : ℕ) → surplus_of s account ≤ s.surplus
surplus_covered s h account = by (at s.surplus_rows account) refl where
  by : (o : Option ℕ) → at s.surplus_rows account ≡ o → unwrap_or o 0 ≤ s.surplus
  by None e = omega arith
  by (Some coll) e =
      let own = one_within (λ (x : ℕ). x) s.surplus_rows account coll e in
      let all = (sound_facts s h).balanced.homes.surplus in
      omega (arith, own, all)

pub fee_minute_past : (s : State) → IsSoundState s → s.fee_minute ≤ s.minute
fee_minute_past s h = (sound_facts s h).ranges.fee_minute

-- ---- what is pending

pub pending_short : (s : State) → IsSoundState s → (t : TroveEntry) (n : ℕ) → t.mark ≡ After n
    → IsShortOf (pending_coll s t) t.stake (somethings (λ (r : Redistribution). r.coll) (drop n s.redistributions))
    (exact_part (λ (r : Redistribution). r.coll) t.stake (drop n s.redistributions))
    × IsShortOf (pending_debt s t) t.stake (somethings (λ (r : Redistribution). r.debt) (drop n s.redistributions))
    (exact_part (λ (r : Redistribution). r.debt) t.stake (drop n s.redistributions))
pending_short s h t n e =
    let coll = λ (r : Redistribution). r.coll in
    let debt = λ (r : Redistribution). r.debt in (
      subst (λ (m : Mark StakeSums). IsShortOf (pending t.stake (sums_now s).coll (sums_at s m).coll) t.stake
          (somethings coll (drop n s.redistributions)) (exact_part coll t.stake (drop n s.redistributions))) (sym e)
          (pending_near_part coll t.stake s.start.sum_coll n s.redistributions h.spread),
      subst (λ (m : Mark StakeSums). IsShortOf (pending t.stake (sums_now s).debt (sums_at s m).debt) t.stake
          (somethings debt (drop n s.redistributions)) (exact_part debt t.stake (drop n s.redistributions))) (sym e)
          (pending_near_part debt t.stake s.start.sum_debt n s.redistributions h.spread),
    )

-- ---- what a run from the opening keeps beside

pub record Keeps (s t : State) : Type 0 where
  pub snap : s.snap_coll ≤ LIM → t.snap_coll ≤ LIM
  pub marks : AreSetSince s.troves → AreSetSince t.troves

effect_keeps : (s : State) → Finds s → (call : Call) (b : Bool) → is_rotate call ≡ b
    → AllByRecursion (λ a. a < ACCOUNTS) (accounts call) → first_refusal (rules s call) ≡ None → Keeps s (effect s call)
effect_keeps s f call true e k h = subst (λ (c : Call). Keeps s (effect s c)) (sym (rotate_of call e))
    (record { snap = λ n. n; marks = λ n. n })
effect_keeps s f call false e k h = let left = effect_leaves s f call e k h
    in record { snap = left.rest.snap; marks = left.rest.marks }

after_keeps : (s : State) → IsSoundState s → (c : Command) → ruling s c ≡ Allowed → Keeps s (after s c)
after_keeps s h c allowed =
    let a = allowed_has s c allowed in
    let k = effect_keeps s (finds s (sound_facts s h)) c.call (is_rotate c.call) refl a.accounts a.rules in
    record { snap = k.snap; marks = k.marks }

pub run_keeps : (requests : List Request) (s : State) → IsSoundState s → Keeps s (run s requests).0
run_keeps [] s h = record { snap = λ n. n; marks = λ n. n }
run_keeps (Ask query ∷ requests) s h = run_keeps requests s h
run_keeps (Do c ∷ requests) s h = by (ruling s c) refl (run_keeps requests s h) (λ k. run_keeps requests
    (after s c) k) where
      by : (r : Ruling) → ruling s c ≡ r → Keeps s (run s requests).0 → (IsSoundState (after s c)
          → Keeps (after s c) (run (after s c) requests).0) → Keeps s (run (after_ruling s c r).0 requests).0
      by (Refused refusal) e same later = same
      by (Repeated kept) e same later = same
      by Allowed e same later =
          let first = after_keeps s h c e in
          let rest = later (after_sound s h c e) in
          record { snap = λ n. rest.snap (first.snap n); marks = λ n. rest.marks (first.marks n) }

pub reached_snapshot : (limit : ℕ) → IsLimit limit → (requests : List Request)
    → SnapshotWithin LIM (run (opening_with limit) requests).0
reached_snapshot limit known requests =
    let k = run_keeps requests (opening_with limit) (opening_sound limit known) in
    let f = sound_facts (run (opening_with limit) requests).0 (run_sound requests (opening_with limit)
    (opening_sound limit known)) in
    let coll = k.snap (omega arith) in
    record { stakes = omega (arith, f.stands.troves.snap, coll); coll = coll }

set_since : (m : Mark StakeSums) → IsSetSince m → (n : ℕ) × (m ≡ After n)
set_since (AtStart fields) h = absurd h
set_since (After n) h = (n, refl)

pub reached_marks : (limit : ℕ) → IsLimit limit → (requests : List Request) (account : ℕ) (t : TroveEntry)
    → at (run (opening_with limit) requests).0.troves account ≡ Some t → (n : ℕ) × (t.mark ≡ After n)
reached_marks limit known requests account t there =
    let k = run_keeps requests (opening_with limit) (opening_sound limit known) in
    set_since t.mark (all-at (λ (x : TroveEntry). IsSetSince x.mark) (run (opening_with limit) requests).0.troves
    account t (k.marks tt) there)

-- ---- products

-- what is due to a trove fits 128 bits
pub due_fits : (s : State) → IsSoundState s → (account : ℕ) (t : TroveEntry) → at s.troves account ≡ Some t
    → (t.stake * ((sums_now s).coll - (sums_at s t.mark).coll) ≤ ONE * LIM)
    × (t.stake * ((sums_now s).debt - (sums_at s t.mark).debt) ≤ ONE * LIM)
due_fits s h account t there =
    let f = sound_facts s h in
    let row : at (trove_rows s) account ≡ Some (trove_row s t) = at-map (trove_row s) s.troves account
    ∙ ap (λ (o : Option TroveEntry). option_map (trove_row s) o) there in
    let coll = one_within (coll_due (sums_now s).coll) (trove_rows s) account (trove_row s t) row in
    let debt = one_within (debt_due (sums_now s).debt) (trove_rows s) account (trove_row s t) row in
    let a = amounts_within s h in (
      omega (arith, coll, f.stands.troves.due_coll, a.default_coll),
      omega (
        arith,
        debt,
        f.stands.troves.due_debt,
        a.default_debt,
      ),
    )

-- so do the products of a deposit
pub deposit_fits : (s : State) → IsSoundState s → (account : ℕ) (d : DepositEntry) → at s.deposits account ≡ Some d
    → (d.amount * (words_of s).p ≤ P_OPENING * LIM) × ((place : EpochScale) → d.amount * sumat s.start s.offsets place
    ≤ OFFSET_MOST * P_OPENING * LIM)
deposit_fits s h account d there =
    let stands = deposit_stands s (sound_facts s h) account d there in
    let w = words_within s h in (
      product d.amount (words_of s).p P_OPENING stands.amount w.product.most,
      λ place. product d.amount (sumat s.start s.offsets place) (OFFSET_MOST * P_OPENING) stands.amount (w.sums place),
    )
  where
    product : (a b top : ℕ) → a ≤ LIM → b ≤ top → a * b ≤ top * LIM
    product a b top m n =
        let first : a * b ≤ LIM * b = mul-le-mul_right b m in
        let second : LIM * b ≤ LIM * top = mul-le-mul_left LIM n in
        omega (arith, first, second)

-- so does what an offset makes of the product, for each rise that is tried up to the one that is reached
pub rise_fits : (s : State) → IsWithinRange (words_of s) → pool_total s ≤ LIM → (debt coll : ℕ) → 1 ≤ debt
    → debt < pool_total s → (steps : ℕ) → steps ≤ rise_of (words_of s).p (offset_now s debt coll)
    → (words_of s).p * ((pool_total s - debt) * 10 ^ (9 * steps)) < (P_OPENING + 1) * LIM
rise_fits s range limit debt coll some less steps few =
    by (cases_lt steps (rise_of (words_of s).p (offset_now s debt coll))) where
      takes : TakesPartUpTo LIM (offset_now s debt coll)
      takes = record { some = some; within = omega (arith, less); limit = limit }

      under : (top : ℕ) → top ≤ P_OPENING → product_after (words_of s).p (offset_now s debt coll) steps ≤ top
          → (words_of s).p * ((pool_total s - debt) * 10 ^ (9 * steps)) < (P_OPENING + 1) * LIM
      under top small low =
          let most = (words_of s).p * ((pool_total s - debt) * 10 ^ (9 * steps)) in
          let below : most < (top + 1) * pool_total s =
          (div-lt_iff_lt-mul {k = pool_total s} {x = most} {y = top + 1} (omega (arith, less))).0 (omega (arith, low))
          in
          let first : (top + 1) * pool_total s ≤ (P_OPENING + 1) * pool_total s =
          mul-le-mul_right (pool_total s) (omega (arith, small)) in
          omega (arith, below, first, limit)

      reached : steps ≡ rise_of (words_of s).p (offset_now s debt coll)
          → product_after (words_of s).p (offset_now s debt coll) steps ≤ P_OPENING
      reached e =
          let part = leaves_part (words_of s) (offset_now s debt coll) takes.within (not_all less) in
          let after = offset_within LIM served_limit (words_of s) (offset_now s debt coll) range takes in
          let same : product_after (words_of s).p (offset_now s debt coll) steps
          ≡ product_after (words_of s).p (offset_now s debt coll) (rise_of (words_of s).p (offset_now s debt coll)) =
          ap (product_after (words_of s).p (offset_now s debt coll)) e in
          omega (arith, part.p, after.most, same)
        where
          not_all : debt < pool_total s → (debt == pool_total s) ≡ false
          not_all n = grind (arith, nat_tests, n)

      by : (steps < rise_of (words_of s).p (offset_now s debt coll)) ⊎ (rise_of (words_of s).p (offset_now s debt coll)
          ≤ steps) → (words_of s).p * ((pool_total s - debt) * 10 ^ (9 * steps)) < (P_OPENING + 1) * LIM
      by (inl earlier) =
          let low = rise_no_more LIM served_limit (words_of s) (offset_now s debt coll) range takes steps earlier in
          under P_OPENING (omega arith) (omega (arith, low))
      by (inr last) = under P_OPENING (omega arith) (reached (omega (arith, last, few)))

-- where the scale rises it is below the whole of all that the pool has
pub raised_fits : (s : State) → IsSoundState s → (debt coll : ℕ) → 1 ≤ debt → debt < pool_total s → (steps : ℕ)
    → 1 ≤ steps → steps ≤ rise_of (words_of s).p (offset_now s debt coll)
    → (words_of s).p * ((pool_total s - debt) * 10 ^ (9 * steps)) < P_OPENING * pool_total s
raised_fits s h debt coll some less =
    raised_below LIM served_limit (words_of s) (offset_now s debt coll) (words_within s h).product
    (record { some = some; within = omega (arith, less); limit = (amounts_within s h).pool_total }) less

pub product_fits : (s : State) → IsSoundState s → (debt coll : ℕ) → 1 ≤ debt → debt < pool_total s → (steps : ℕ)
    → steps ≤ rise_of (words_of s).p (offset_now s debt coll)
    → (words_of s).p * ((pool_total s - debt) * 10 ^ (9 * steps)) < (P_OPENING + 1) * LIM
product_fits s h debt coll some less steps few = rise_fits s (words_within s h).product (amounts_within s h).pool_total
    debt coll some less steps few
