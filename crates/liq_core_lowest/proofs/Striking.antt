-- Troves that are liquidated one after the other: what stands at each of them, and what is kept of the state meanwhile.
use Rattle.std.proofs.Common.{◌≡◌, ℕ, zero, suc, ◌+◌, ◌-◌, ◌*◌, ◌^◌, ◌≤◌, ◌<◌, Bool, true, false, cond, List, [], ◌∷◌, refl, ap, sym, ◌∙◌, subst, arith, take, get_or, length, Some, None, Option}
use Rattle.std.specs.Prelude.{◌==◌, IsSome, Ok, option_map, unwrap_or}
use Rattle.std.specs.BTreeMap.{is_at}
use Rattle.std.specs.List.{AllByRecursion}
use Rattle.std.specs.Ordering.{nat_cmp}
use Rattle.std.proofs.lemmas.Map.Entries.{sum_by-remove_entry}
use Rattle.liq_types.specs.declared.amounts.TheConstants.{ACCOUNTS, RESERVE, LOWEST_MOST}
use Rattle.liq_types.specs.declared.figures.Deposit.{Deposit}
use Rattle.liq_types.specs.declared.figures.Trove.{Trove}
use Rattle.liq_types.specs.declared.figures.Wallet.{Wallet}
use Rattle.liq_types.specs.Payments.{credited_in, surplus_added_in}
use Rattle.liq_types.specs.Ranked.{Ranked, key_in, without_ranked}
use Rattle.liq_types.specs.State.{State, TroveEntry, wallet_in, surplus_in}
use Rattle.liq_types.specs.Tables.{EpochScale, Table, at}
use Rattle.liq_types.specs.Totals.{market_of, pool_total}
use Rattle.liq_types.specs.WellFormed.{IsWellFormed}
use Rattle.liq_types.proofs.MapRows.{at-map, map-length}
use Rattle.liq_tables.specs.WithRoom.{WithRoom}
use Rattle.liq_ledger.specs.declared.pools.Pools.{Pools}
use Rattle.liq_troves.proofs.Added.{one_within}
use Rattle.liq_troves.specs.declared.sums.Sums.{Sums}
use Rattle.liq_troves.specs.Kept as troves
use Rattle.liq_troves.specs.Own.{lifted_entry}
use Rattle.liq_troves.specs.Standing.{Books, books_of}
use Rattle.liq_troves.specs.StakeSums.{trove_row, trove_rows, sums_words}
use Rattle.liq_order.specs.Listed.{Listed}
use Rattle.liq_order.specs.Order.{trove_order}
use Rattle.liq_order.proofs.Present.{order_has_each}
use Rattle.liq_stability.specs.Kept as stability
use Rattle.liq_stability.specs.Kept.{room_for}
use Rattle.liq_types.specs.declared.image.FinishedSum.{FinishedSum}
use Rattle.liq_stability.specs.declared.words.PoolWords.{PoolWords}
use Rattle.liq_stability.specs.Own.{offset}
use Rattle.liq_stability.specs.Position.{words_of, deposit_rows}
use Rattle.liq_stability.specs.Words.{pool_words, finished_with}
use Rattle.liq_liquidation.specs.declared.one.One.{One}
use Rattle.liq_liquidation.specs.declared.one.Victim.{Victim}
use Rattle.liq_liquidation.specs.Applied.{IsPlannedOn, StayWithin, finished_in, pools_left, words_left}
use Rattle.liq_liquidation.specs.One.{one, liquidated, struck_books}
use Rattle.liq_liquidation.proofs.Left.{left_beside, left_books, left_words, left_sums, left_list}
use Rattle.liq_rule_step.specs.Liquidation.{all_liquidated}
use Rattle.liq_core_lowest.specs.Victims.{AreVictims, AreKept}
use Rattle.liq_rule_step.proofs.AlikeChanges.{formed-lifted}
use Rattle.liq_rule_step.proofs.Moving.{read_or}
use Rattle.liq_rule_sound.proofs.SoundFacts.{Finds, Leaves, finds_after, leaves_itself, leaves_more, leaves_then}
use Rattle.liq_rule_sound.proofs.SoundLiquidate.{Strikes, strikes, victim_leaves}
use Rattle.liq_rule_sound.proofs.SoundPool.{PoolPart, part_offset}
use Rattle.liq_rule_sound.proofs.SoundTests.{SoundFacts}
use Rattle.liq_trove_moves.specs.Books.{pools_of, books_kept}

abbrev pub no_one : One
no_one = record { gas = 0; offset_debt = 0; offset_coll = 0; spread_debt = 0; spread_coll = 0; surplus = 0 }

abbrev pub no_victim : Victim
no_victim = record { account = 0; one = no_one }

-- what holds of all holds at each index
pub all_at : (P : Victim → Type 0) (vs : List Victim) → AllByRecursion P vs → (i : ℕ) → i < length vs
    → P (get_or vs i no_victim)
all_at P [] h i within = absurd (none within) where
  none : i < 0 → ⊥
  none k = omega (arith, k)
all_at P (v ∷ vs) h zero within = h.0
all_at P (v ∷ vs) h (suc i) within = all_at P vs h.1 i (omega (arith, within))

-- ---- along the victims

module _ (liquidator : ℕ) (k : liquidator < ACCOUNTS) where
  -- the state before the victim at an index
  abbrev pub before : State → List Victim → ℕ → State
  before s vs i = all_liquidated s liquidator (take i vs)

  first_leaves : (s : State) → Finds s → (v : Victim) → one s v.account ≡ Ok v.one
      → Leaves 3 s (liquidated s liquidator v)
  first_leaves s f v made = victim_leaves s f liquidator k v.account v.one (strikes s f v.account v.one made)

  pub walked : (vs : List Victim) (s : State) → Finds s → AreVictims s liquidator vs → (i : ℕ)
      → Leaves (3 * i) s (before s vs i)
  walked vs s f h zero = leaves_itself s f
  walked [] s f h (suc i) = leaves_more 0 (3 * suc i) s s (omega arith) (leaves_itself s f)
  walked (v ∷ vs) s f h (suc i) =
      let next = liquidated s liquidator v in
      let first = first_leaves s f v h.0 in
      leaves_then 3 (3 * i) (3 * suc i) s next (before next vs i) (omega arith) first
      (walked vs next (finds_after s next first) h.1 i)

  pub victim_there : (vs : List Victim) (s : State) → AreVictims s liquidator vs → (i : ℕ) → i < length vs
      → one (before s vs i) (get_or vs i no_victim).account ≡ Ok (get_or vs i no_victim).one
  victim_there [] s h i within = absurd (omega arith)
  victim_there (v ∷ vs) s h zero within = h.0
  victim_there (v ∷ vs) s h (suc i) within = victim_there vs (liquidated s liquidator v) h.1 i (omega (arith, within))

  pub one_more : (vs : List Victim) (s : State) (i : ℕ) → i < length vs
      → before s vs (suc i) ≡ liquidated (before s vs i) liquidator (get_or vs i no_victim)
  one_more [] s i within = absurd (omega arith)
  one_more (v ∷ vs) s zero within = refl
  one_more (v ∷ vs) s (suc i) within = one_more vs (liquidated s liquidator v) i (omega (arith, within))

-- ---- the place of the Stability Pool

pub places_fit : (s : State) → SoundFacts s → (t : State) (few : ℕ) → few ≤ 3 * LOWEST_MOST → Leaves few s t
    → ((words_of t).scale ≤ 2 ^ 64 - 4) × ((words_of t).epoch ≤ 2 ^ 64 - 4)
places_fit s h t few least l =
    let r = l.rest in
    let last = h.ranges.last_generation in
    (omega (arith, r.scale, h.scale, h.records, last, least), omega (arith, r.epoch, h.epoch, h.records, last, least))

-- ---- what is asked of the next victim

module _ (t : State) (f : Finds t) (v : Victim) (made : one t v.account ≡ Ok v.one) where
  x : Strikes t v.account v.one
  x = strikes t f v.account v.one made

  pub planned_here : IsPlannedOn (books_of t) (pool_total t) v
  planned_here =
      record {
        stands = f.stands.troves;
        market = market_of t;
        price = f.ranges.price_least;
        counted = sym (map-length (trove_row t) t.troves);
        planned = made;
      }

  pub listed_here : IsSome (key_in (trove_order t) v.account)
  listed_here = order_has_each (trove_rows t) v.account (subst IsSome (sym (at-map (trove_row t) t.troves v.account
      ∙ ap (λ (o : Option TroveEntry). option_map (trove_row t) o) x.has.there)) refl)

  pub within_here : (liquidator : ℕ) → (words_of t).scale ≤ 2 ^ 64 - 4 → (words_of t).epoch ≤ 2 ^ 64 - 4
      → StayWithin v (wallet_in t.wallets liquidator) (surplus_in t.surplus_rows v.account) (pools_of t) (pool_words t)
  within_here liquidator scale epoch =
      let c = f.balanced.homes in
      let w = x.has.within in
      let p = x.parts in
      let colls = sum_by-remove_entry (λ (y : Wallet). y.coll) (is_at (nat_cmp liquidator)) t.wallets in
      let lusds = sum_by-remove_entry (λ (y : Wallet). y.lusd) (is_at (nat_cmp liquidator)) t.wallets in
      let had_coll = read_or (λ (y : Wallet). y.coll) refl (at t.wallets liquidator) in
      let had_lusd = read_or (λ (y : Wallet). y.lusd) refl (at t.wallets liquidator) in
      let owned = owner_covered in
      let limit = f.balanced.coll_limit in
      record {
        coll = omega (arith, c.coll, limit);
        debt = f.balanced.debt_limit;
        wallet_coll = omega (arith, colls, had_coll, c.coll, limit, p.coll_is, x.has.coll_is, w.coll, w.pending_coll);
        wallet_lusd = omega (arith, lusds, had_lusd, c.lusd, f.balanced.debt_limit, c.reserve, x.several);
        claim = omega (arith, owned, c.coll, c.surplus, limit, p.coll_is, x.has.coll_is, w.coll, w.pending_coll);
        surplus = omega (arith, c.coll, limit, p.coll_is, x.has.coll_is, w.coll, w.pending_coll);
        pool = omega (arith, c.coll, limit, p.coll_is, x.has.coll_is, w.coll, w.pending_coll);
        reserve = omega (arith, c.reserve, x.several);
        scale = scale;
        epoch = epoch;
      }
    where
      owner_covered : surplus_in t.surplus_rows v.account ≤ t.surplus
      owner_covered = by (at t.surplus_rows v.account) refl where
        by : (o : Option ℕ) → at t.surplus_rows v.account ≡ o → unwrap_or o 0 ≤ t.surplus
        by None e = omega arith
        by (Some coll) e = let own = one_within (λ (n : ℕ). n) t.surplus_rows v.account coll e
            in omega (arith, own, f.balanced.homes.surplus)

-- an offset finishes one sum at most
pub room_few : (o : Option FinishedSum) → room_for o ≤ 1
room_few None = omega arith
room_few (Some sum) = omega arith

-- ---- what is kept

module _ (t : State) (f : Finds t) (v : Victim) (made : one t v.account ≡ Ok v.one) (liquidator : ℕ)
    (wallets : WithRoom Wallet) (pools : Pools) (surplus : WithRoom ℕ) (kept : troves.Kept) (order : Listed)
    (pool : stability.Kept)
    (h : AreKept t wallets pools surplus kept order pool) where
  books_are : books_kept kept pools ≡ books_of t
  books_are =
      ap (λ (s : Sums). books_kept (record kept { sums = s }) pools) h.sums_are
      ∙ ap (λ (r : Table Trove). books_kept (record kept {
        sums = sums_words t;
        table = record kept.table { rows = r };
      }) pools) h.troves_are
      ∙ ap (λ (p : Pools). books_kept (record kept {
        sums = sums_words t;
        table = record kept.table { rows = trove_rows t };
      }) p) h.pools_are

  pub planned_kept : IsPlannedOn (books_kept kept pools) pool.words.total v
  planned_kept =
      subst (λ n. IsPlannedOn (books_kept kept pools) n v) (sym (ap (λ (w : PoolWords). w.total) h.pool_is.words))
      (subst (λ (b : Books). IsPlannedOn b (pool_total t) v) (sym books_are) (planned_here t f v made))

  pub within_kept : (words_of t).scale ≤ 2 ^ 64 - 4 → (words_of t).epoch ≤ 2 ^ 64 - 4
      → StayWithin v (wallet_in wallets.rows liquidator) (surplus_in surplus.rows v.account) pools pool.words
  within_kept scale epoch =
      subst (λ (w : PoolWords). StayWithin v (wallet_in wallets.rows liquidator) (surplus_in surplus.rows v.account)
      pools w) (sym h.pool_is.words)
      (subst (λ (p : Pools). StayWithin v (wallet_in wallets.rows liquidator) (surplus_in surplus.rows v.account) p
      (pool_words t)) (sym h.pools_are)
      (subst (λ (r : Table ℕ). StayWithin v (wallet_in wallets.rows liquidator) (surplus_in r v.account) (pools_of t)
      (pool_words t)) (sym h.owners_are)
      (subst (λ (r : Table Wallet). StayWithin v (wallet_in r liquidator) (surplus_in t.surplus_rows v.account)
      (pools_of t) (pool_words t)) (sym h.wallets_are)
      (within_here t f v made liquidator scale epoch))))

  pub listed_kept : IsSome (key_in order.entries v.account)
  listed_kept = subst (λ (l : List Ranked). IsSome (key_in l v.account)) (sym h.order_is) (listed_here t f v made)

  -- no deposit changes
  deposits_left : deposit_rows (liquidated t liquidator v) ≡ deposit_rows t
  deposits_left = by (at t.troves v.account) (v.one.offset_debt == 0) (formed-lifted t v.account f.stands.formed) where
    by : (o : Option TroveEntry) (b : Bool) → IsWellFormed (lifted_entry t v.account o)
        → deposit_rows (cond b (lifted_entry t v.account o) (offset (lifted_entry t v.account o) v.one.offset_debt
        v.one.offset_coll)) ≡ deposit_rows t
    by None true formed = refl
    by (Some e) true formed = refl
    by None false formed = ap (λ (w : PoolPart). w.deposits) (part_offset t formed v.one.offset_debt v.one.offset_coll)
    by (Some e) false formed = ap (λ (w : PoolPart). w.deposits) (part_offset (lifted_entry t v.account (Some e)) formed
        v.one.offset_debt v.one.offset_coll)

  module _ (wallets2 : WithRoom Wallet) (pools2 : Pools) (surplus2 : WithRoom ℕ) (kept2 : troves.Kept) (order2 : Listed)
      (pool2 : stability.Kept)
      (paid : wallets2.rows ≡ credited_in wallets.rows liquidator v.one.gas RESERVE)
      (books : books_kept kept2 pools2 ≡ struck_books (books_kept kept pools) v)
      (rest : pools2 ≡ pools_left pools (books_kept kept2 pools2) v.one)
      (owners : surplus2.rows ≡ surplus_added_in surplus.rows v.account v.one.surplus)
      (list : order2.entries ≡ without_ranked order.entries v.account)
      (words : pool2.words ≡ words_left pool.words v.one)
      (finished : pool2.finished ≡ finished_with pool.finished (finished_in pool.words v.one))
      (deposits : pool2.deposits ≡ pool.deposits) where
    next : State
    next = liquidated t liquidator v

    books_next : books_kept kept2 pools2 ≡ books_of (liquidated t liquidator v)
    books_next = books ∙ ap (λ (b : Books). struck_books b v) books_are
        ∙ sym (left_books t v liquidator f.stands.formed.1)

    pools_next : pools2 ≡ pools_of (liquidated t liquidator v)
    pools_next =
        let left = left_beside t v liquidator in
        rest
        ∙ ap (λ (b : Books). pools_left pools b v.one) books_next
        ∙ ap (λ (p : Pools). pools_left p (books_of (liquidated t liquidator v)) v.one) h.pools_are
        ∙ sym (others left.reserve left.surplus left.fee_coll left.fee_lusd)
      where
        others : (liquidated t liquidator v).reserve ≡ t.reserve - RESERVE → (liquidated t liquidator v).surplus
            ≡ t.surplus + v.one.surplus → (liquidated t liquidator v).fee_coll ≡ t.fee_coll
            → (liquidated t liquidator v).fee_lusd ≡ t.fee_lusd
            → pools_of (liquidated t liquidator v)
            ≡ pools_left (pools_of t) (books_of (liquidated t liquidator v)) v.one
        others a b c d =
            let p = pools_of (liquidated t liquidator v) in
            ap (λ n. record p { reserve = n }) a
            ∙ ap (λ n. record p { reserve = t.reserve - RESERVE; surplus = n }) b
            ∙ ap (λ n. record p { reserve = t.reserve - RESERVE; surplus = t.surplus + v.one.surplus; fee_coll = n }) c
            ∙ ap (λ n. record p {
              reserve = t.reserve - RESERVE;
              surplus = t.surplus + v.one.surplus;
              fee_coll = t.fee_coll;
              fee_lusd = n;
            }) d

    pub kept_next : AreKept (liquidated t liquidator v) wallets2 pools2 surplus2 kept2 order2 pool2
    kept_next =
        let left = left_beside t v liquidator in
        record {
          wallets_are = paid ∙ ap (λ (r : Table Wallet). credited_in r liquidator v.one.gas RESERVE) h.wallets_are
              ∙ sym left.wallets;
          pools_are = pools_next;
          owners_are = owners ∙ ap (λ (r : Table ℕ). surplus_added_in r v.account v.one.surplus) h.owners_are
              ∙ sym left.surplus_rows;
          sums_are = ap (λ (b : Books). b.sums) books_next;
          troves_are = ap (λ (b : Books). b.troves) books_next;
          order_is = list ∙ ap (λ (l : List Ranked). without_ranked l v.account) h.order_is
              ∙ sym (left_list t v liquidator f.stands.formed.1 f.stands.troves.ascend made);
          pool_is = record {
            words = words ∙ ap (λ (w : PoolWords). words_left w v.one) h.pool_is.words
                ∙ sym (left_words t v liquidator f.stands.formed.0 f.stands.formed.3);
            finished =
                finished ∙ ap (λ (w : PoolWords). finished_with pool.finished (finished_in w v.one)) h.pool_is.words
                ∙ ap (λ (l : List (EpochScale × ℕ)). finished_with l (finished_in
                (pool_words t) v.one)) h.pool_is.finished
                ∙ sym (left_sums t v liquidator);
            deposits = ap (λ (d : WithRoom Deposit). d.rows) deposits ∙ h.pool_is.deposits ∙ sym deposits_left;
          };
        }
