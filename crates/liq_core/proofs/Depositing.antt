-- What depositors' operations, and claims, make of a protocol.
use Rattle.std.proofs.Common.{◌≡◌, ℕ, ◌+◌, ◌-◌, ◌≤◌, ◌<◌, List, refl, ap, sym, ◌∙◌, subst, arith, false, cond, None, Some}
use Rattle.std.specs.Prelude.{is_none, min, IfOk, IsSome, Result, Ok, Err}
use Rattle.liq_types.specs.declared.amounts.TheConstants.{ACCOUNTS, LIM, RESERVE, MIN_NET}
use Rattle.liq_types.specs.declared.figures.Deposit.{Deposit}
use Rattle.liq_types.specs.declared.figures.Trove.{Trove}
use Rattle.liq_types.specs.declared.figures.Wallet.{Wallet}
use Rattle.liq_types.specs.declared.hints.HintWords.{HintWords}
use Rattle.liq_types.specs.declared.requests.Call.{Call}
use Rattle.liq_types.specs.declared.requests.Call.TheVariants.{Provide, Withdraw, GainToTrove, Claim}
use Rattle.liq_types.specs.declared.image.Image.{Image}
use Rattle.liq_types.specs.Payments.{credited_in, charged_in, surplus_taken_in}
use Rattle.liq_types.specs.declared.replies.Refusal.{Refusal}
use Rattle.liq_types.specs.declared.replies.Refusal.TheVariants.{NoDeposit}
use Rattle.liq_types.specs.Rules.{first_refusal, outcome}
use Rattle.liq_types.proofs.MapRows.{at-map}
use Rattle.liq_types.specs.State.{State, wallet_in, wallet_of, surplus_in}
use Rattle.liq_types.specs.Tables.{EpochScale, Table, at}
use Rattle.liq_types.specs.Totals.{market_of, or_nothing}
use Rattle.liq_tables.specs.WithRoom.{WithRoom}
use Rattle.liq_ledger.specs.declared.pools.Pools.{Pools}
use Rattle.liq_troves.specs.Kept.{Kept as Troves}
use Rattle.liq_troves.specs.Own.{set_trove}
use Rattle.liq_troves.specs.Standing.{Books, lift, place}
use Rattle.liq_troves.specs.StakeSums.{entire_of}
use Rattle.liq_order.specs.Listed.{Listed}
use Rattle.liq_order.specs.Order.{order_by}
use Rattle.liq_borrow.specs.declared.change.Plan.{Plan}
use Rattle.liq_borrow.specs.Borrowing.{gaining_terms}
use Rattle.liq_stability.specs.declared.words.PoolWords.{PoolWords}
use Rattle.liq_stability.specs.Kept.{Kept, IsPoolOf, position_at, words_owned, left_in, withdrawing}
use Rattle.liq_stability.specs.Own.{owned, amount_after}
use Rattle.liq_stability.specs.Position.{balance_of, gain_of, deposit_row}
use Rattle.liq_stability.specs.Words.{pool_words}
use Rattle.liq_stability.proofs.Following.{position_follows, owned_follows}
use Rattle.liq_core.specs.declared.engine.Protocol.TheInside.{Inside}
use Rattle.liq_trove_moves.specs.Books.{books_kept, SameOthers}
use Rattle.liq_core.specs.Core.{Core, Changes, state_of}
use Rattle.liq_rule_step.specs.Image.{image}
use Rattle.liq_rule_step.specs.Rules.{rules, effect}
use Rattle.liq_core.specs.Sound.{IsSound, core_of}
use Rattle.liq_rule_step.proofs.AlikeReads.{none-map}
use Rattle.liq_core.specs.Parts.{words_by}
use Rattle.liq_core.proofs.Answered.{if_value}
use Rattle.liq_core.proofs.Images.{with_pool}
use Rattle.liq_core.proofs.Lending.{IsWithin, within, with_books, same_others, set_image, books_are, rows_are, there_row, pay_within, charged-ascends}
use Rattle.liq_rule_sound.proofs.SoundBorrow.{gain_allows, gain_leaves, has_trove, told}
use Rattle.liq_rule_sound.proofs.SoundBounds.{surplus_covered}
use Rattle.liq_rule_sound.proofs.SoundCalls.{pool_and_wallet, provide_leaves, withdraw_leaves, claim_leaves}
use Rattle.liq_core.proofs.SoundCores.{core_finds, image_back, sound_after}
use Rattle.liq_rule_sound.proofs.SoundFacts.{Finds, Leaves, finds_after}
use Rattle.liq_rule_sound.proofs.SoundStart.{started_with}
use Rattle.liq_types.proofs.Tests.{all_false, not_zero}
use Rattle.std.proofs.lemmas.Bool.{ltb-false}

-- ---- a protocol's pool

pub pool_image : (t : State) (pool : Kept) → IsPoolOf t pool
    → image t ≡ with_pool (image t) pool.words pool.finished pool.deposits.rows
pool_image t pool h =
    ap (λ (w : PoolWords). with_pool (image t) w (image t).finished (image t).deposits) (sym h.words)
    ∙ ap (λ (f : List (EpochScale × ℕ)). with_pool (image t) pool.words f (image t).deposits) (sym h.finished)
    ∙ ap (λ (d : Table Deposit). with_pool (image t) pool.words pool.finished d) (sym h.deposits)

module _ (p : Inside) (sound : IsSound p) where
  pub pool_is : IsPoolOf (state_of (core_of p)) p.pool
  pool_is =
      let back = image_back (core_of p) sound.image in
      record {
        words = sym (ap words_by back);
        finished = sym (ap (λ (i : Image). i.finished) back);
        deposits = sym (ap (λ (i : Image). i.deposits) back);
      }

  pub position_is : (account : ℕ) → position_at p.pool account ≡ (
    balance_of (state_of (core_of p)) account,
    gain_of (state_of (core_of p)) account,
  )
  position_is account =
      position_follows (state_of (core_of p)) p.pool (core_finds (core_of p) sound.image).stands.formed.0
      pool_is account

  -- the pool after an own operation
  pub owned_pool : (account put_in out : ℕ) (next : Kept)
      → next.words ≡ words_owned p.pool.words put_in out (gain_of (state_of (core_of p)) account)
      → next.finished ≡ p.pool.finished → next.deposits.rows ≡ left_in p.pool.deposits.rows p.pool.words account
      (amount_after (state_of (core_of p)) account put_in out)
      → IsPoolOf (owned (state_of (core_of p)) account put_in out) next
  owned_pool account put_in out next words finished rows =
      owned_follows (state_of (core_of p)) p.pool next (core_finds (core_of p) sound.image).stands.formed.3 pool_is
      account put_in out words finished rows

  -- a protocol that is given a state's pool and wallets
  pub pooled_into : (call : Call) (t : State) (pool : Kept) (wallets : WithRoom Wallet) (paid : Table Wallet)
      → IsPoolOf t pool → wallets.rows ≡ paid
      → image t ≡ with_pool (image (state_of (core_of p))) (pool_words t) (image t).finished (image t).deposits
      → effect (state_of (core_of p)) call ≡ record t { wallets = paid }
      → Changes (core_of p) call (core_of (record p { pool = pool; wallets = wallets }))
  pooled_into call t pool wallets paid of moved same is =
      let i = (core_of p).image in
      record {
        image =
            ap (λ (w : Table Wallet). with_pool (record i { wallets = w }) pool.words pool.finished
            pool.deposits.rows) moved
            ∙ ap (λ (x : Image). with_pool (record x { wallets = paid }) pool.words pool.finished pool.deposits.rows)
            (sym (image_back (core_of p) sound.image))
            ∙ sym
            (ap image is
            ∙ ap (λ (x : Image). record x { wallets = paid }) (pool_image t pool of)
            ∙ ap (λ (x : Image). with_pool (record x { wallets = paid }) pool.words pool.finished
            pool.deposits.rows) same);
        records = refl;
        clients = refl;
      }

-- ---- provide

-- what providing finds in a protocol
pub record MayProvide (p : Inside) (account lusd gain : ℕ) : Type 0 where
  pub enough : lusd ≤ (wallet_in p.wallets.rows account).lusd
  pub some : 1 ≤ lusd
  pub total : p.pool.words.total + lusd ≤ LIM
  pub coll_limit : (wallet_in (charged_in p.wallets.rows account 0 lusd) account).coll + gain ≤ LIM
  pub lusd_limit : (wallet_in (charged_in p.wallets.rows account 0 lusd) account).lusd ≤ LIM

module _ (p : Inside) (sound : IsSound p) (account lusd gain : ℕ) (k : account
    < ACCOUNTS) (h : first_refusal (rules (state_of (core_of p)) (Provide account lusd)) ≡ None) (gain_is :
    gain ≡ (position_at p.pool account).1) where
  provide_left : Leaves 0 (state_of (core_of p)) (effect (state_of (core_of p)) (Provide account lusd))
  provide_left = provide_leaves (state_of (core_of p)) (core_finds (core_of p) sound.image) account lusd k h

  provide_gain : gain ≡ gain_of (state_of (core_of p)) account
  provide_gain = gain_is ∙ ap (λ (t : ℕ × ℕ). t.1) (position_is p sound account)

  may_provide : MayProvide p account lusd gain
  may_provide =
      let s = state_of (core_of p) in
      let f = core_finds (core_of p) sound.image in
      let rules_hold = all_false (rules s (Provide account lusd)) h in
      let enough = ltb-false (wallet_of s account).lusd lusd rules_hold.1.0 in
      let fits = pool_and_wallet s f account lusd enough in
      let total = ap (λ (w : PoolWords). w.total) (pool_is p sound).words in
      let n = finds_after s (effect s (Provide account lusd)) provide_left in
      let paid = pay_within (effect s (Provide account lusd)) n (charged_in p.wallets.rows account 0 lusd) account gain
      0 (charged-ascends p.wallets.rows account 0 lusd f.stands.wallets.ascend)
      (ap (λ g. credited_in (charged_in p.wallets.rows account 0 lusd) account g 0) (sym provide_gain)) in
      record {
        enough = enough;
        some = not_zero lusd rules_hold.0;
        total = omega (arith, fits, total);
        coll_limit = paid.0;
        lusd_limit = omega (arith, paid.1);
      }

  provided_changes : (pool : Kept) (wallets : WithRoom Wallet)
      → pool.words ≡ words_owned p.pool.words lusd 0 gain → pool.finished ≡ p.pool.finished
      → pool.deposits.rows ≡ left_in p.pool.deposits.rows p.pool.words account ((position_at p.pool account).0 + lusd)
      → wallets.rows ≡ credited_in (charged_in p.wallets.rows account 0 lusd) account gain 0
      → Changes (core_of p) (Provide account lusd) (core_of (record p { pool = pool; wallets = wallets }))
  provided_changes pool wallets words finished rows moved =
      let s = state_of (core_of p) in
      let balance = ap (λ (t : ℕ × ℕ). t.0) (position_is p sound account) in
      let left : (position_at p.pool account).0 + lusd ≡ amount_after s account lusd 0 = omega (arith, balance) in
      pooled_into p sound (Provide account lusd) (owned s account lusd 0) pool wallets
      (credited_in (charged_in p.wallets.rows account 0 lusd) account (gain_of s account) 0)
      (owned_pool p sound account lusd 0 pool (words ∙ ap (words_owned p.pool.words lusd 0) provide_gain) finished (rows
      ∙ ap (left_in p.pool.deposits.rows p.pool.words account) left))
      (moved ∙ ap (λ g. credited_in (charged_in p.wallets.rows account 0 lusd) account g 0) provide_gain) refl refl

-- ---- withdraw

-- a deposit that is there is in the pool
pub deposit_there : (p : Inside) → IsSound p → (account : ℕ) → is_none (at p.pool.deposits.rows account)
    ≡ is_none (at (state_of (core_of p)).deposits account)
deposit_there p sound account =
    let s = state_of (core_of p) in
    ap (λ (t : Table Deposit). is_none (at t account)) (pool_is p sound).deposits
    ∙ ap is_none (at-map (deposit_row s) s.deposits account) ∙ none-map (deposit_row s) (at s.deposits account)

-- what withdrawing answers, where there is a deposit
pub withdrawn : (p : Inside) → IsSound p → (account most : ℕ) → is_none (at (state_of (core_of p)).deposits account)
    ≡ false → withdrawing p.pool account most ≡ Ok (
      min most (balance_of (state_of (core_of p)) account),
      gain_of (state_of (core_of p)) account,
    )
withdrawn p sound account most there =
    let own = position_at p.pool account in
    ap (λ b. outcome (cond b (Some (NoDeposit account)) None) (min most own.0, own.1)) (deposit_there p sound account
    ∙ there)
    ∙ ap (λ (t : ℕ × ℕ). Ok (min most t.0, t.1)) (position_is p sound account)

abbrev paid_by : Result (ℕ × ℕ) Refusal → ℕ × ℕ
paid_by (Ok paid) = paid
paid_by (Err refusal) = (0, 0)

-- what withdrawing finds in a protocol
pub record MayWithdraw (p : Inside) (account : ℕ) (paid gain : ℕ) : Type 0 where
  pub coll_limit : (wallet_in p.wallets.rows account).coll + gain ≤ LIM
  pub lusd_limit : (wallet_in p.wallets.rows account).lusd + paid ≤ LIM

module _ (p : Inside) (sound : IsSound p) (account lusd paid gain : ℕ) (k : account
    < ACCOUNTS) (h : first_refusal (rules (state_of (core_of p)) (Withdraw account lusd)) ≡ None) (paid_out :
    paid ≡ min lusd (balance_of (state_of (core_of p)) account)) (gained :
    gain ≡ gain_of (state_of (core_of p)) account) where
  withdraw_left : Leaves 0 (state_of (core_of p)) (effect (state_of (core_of p)) (Withdraw account lusd))
  withdraw_left = withdraw_leaves (state_of (core_of p)) (core_finds (core_of p) sound.image) account lusd k h

  may_withdraw : MayWithdraw p account paid gain
  may_withdraw =
      let s = state_of (core_of p) in
      let f = core_finds (core_of p) sound.image in
      let n = finds_after s (effect s (Withdraw account lusd)) withdraw_left in
      let fits = pay_within (effect s (Withdraw account lusd)) n p.wallets.rows account gain paid
      f.stands.wallets.ascend (ap (λ n. credited_in p.wallets.rows account (gain_of s account) n) (sym paid_out)
      ∙ ap (λ n. credited_in p.wallets.rows account n paid) (sym gained)) in
      record { coll_limit = fits.0; lusd_limit = fits.1 }

  withdrawn_changes : (pool : Kept) (wallets : WithRoom Wallet)
      → pool.words ≡ words_owned p.pool.words 0 paid gain → pool.finished ≡ p.pool.finished
      → pool.deposits.rows ≡ left_in p.pool.deposits.rows p.pool.words account ((position_at p.pool account).0 - paid)
      → wallets.rows ≡ credited_in p.wallets.rows account gain paid
      → Changes (core_of p) (Withdraw account lusd) (core_of (record p { pool = pool; wallets = wallets }))
  withdrawn_changes pool wallets words finished rows moved =
      let s = state_of (core_of p) in
      let out = min lusd (balance_of s account) in
      let balance = ap (λ (t : ℕ × ℕ). t.0) (position_is p sound account) in
      let left : (position_at p.pool account).0 - paid ≡ amount_after s account 0 out =
      omega (arith, balance, paid_out) in
      pooled_into p sound (Withdraw account lusd) (owned s account 0 out) pool wallets
      (credited_in p.wallets.rows account (gain_of s account) out)
      (owned_pool p sound account 0 out pool (words ∙ ap (λ n. words_owned p.pool.words 0 n gain) paid_out
      ∙ ap (words_owned p.pool.words 0 out) gained) finished (rows
      ∙ ap (left_in p.pool.deposits.rows p.pool.words account) left))
      (moved ∙ ap (credited_in p.wallets.rows account gain) paid_out
      ∙ ap (λ n. credited_in p.wallets.rows account n out) gained) refl refl

-- ---- of the core that a protocol is seen as

module _ (p : Inside) (old : Core) (view : core_of p ≡ old) (sound : IsSound p) (account lusd : ℕ) (k : account
    < ACCOUNTS) where
  module _ (h : first_refusal (rules (state_of old) (Provide account lusd)) ≡ None) (gain : ℕ) (gain_is : gain
      ≡ (position_at p.pool account).1) where
    provide_passes : first_refusal (rules (state_of (core_of p)) (Provide account lusd)) ≡ None
    provide_passes = subst (λ (core : Core). first_refusal (rules (state_of core) (Provide account lusd))
        ≡ None) (sym view) h

    pub provides_so : MayProvide p account lusd gain
    provides_so = may_provide p sound account lusd gain k provide_passes gain_is

    module _ (pool : Kept) (wallets : WithRoom Wallet)
        (words : pool.words ≡ words_owned p.pool.words lusd 0 gain) (finished : pool.finished ≡ p.pool.finished)
        (rows : pool.deposits.rows ≡ left_in p.pool.deposits.rows p.pool.words account ((position_at p.pool account).0
        + lusd))
        (moved : wallets.rows ≡ credited_in (charged_in p.wallets.rows account 0 lusd) account gain 0) where
      provide_made : Changes (core_of p) (Provide account lusd) (core_of (record p { pool = pool; wallets = wallets }))
      provide_made = provided_changes p sound account lusd gain k provide_passes gain_is pool wallets words finished
          rows moved

      pub provide_changes : Changes old (Provide account lusd) (core_of (record p { pool = pool; wallets = wallets }))
      provide_changes = subst (λ (core : Core). Changes core (Provide account lusd) (core_of (record p {
        pool = pool;
        wallets = wallets;
      }))) view provide_made

      pub provide_sound : IsSound (record p { pool = pool; wallets = wallets })
      provide_sound =
          sound_after p (record p { pool = pool; wallets = wallets }) (core_of p) (Provide account lusd) refl sound
          (provide_left p sound account lusd gain k provide_passes gain_is) provide_made sound.order

  module _ (h : first_refusal (rules (state_of old) (Withdraw account lusd)) ≡ None) where
    withdraw_passes : first_refusal (rules (state_of (core_of p)) (Withdraw account lusd)) ≡ None
    withdraw_passes = subst (λ (core : Core). first_refusal (rules (state_of core) (Withdraw account lusd))
        ≡ None) (sym view) h

    -- what the pool answers
    pub withdraw_answer : withdrawing p.pool account lusd ≡ Ok (
      min lusd (balance_of (state_of (core_of p)) account),
      gain_of (state_of (core_of p)) account,
    )
    withdraw_answer = withdrawn p sound account lusd (all_false (rules (state_of (core_of p)) (Withdraw account lusd))
        withdraw_passes).0

    -- what is paid of its LUSD, and of its gain
    module _ (answer : Result (ℕ × ℕ) Refusal) (paid : ℕ × ℕ) (ok : answer ≡ Ok paid) (answered : answer
        ≡ withdrawing p.pool account lusd) where
      withdraw_paid : paid.0 ≡ min lusd (balance_of (state_of (core_of p)) account)
      withdraw_paid = ap (λ (r : Result (ℕ × ℕ) Refusal). (paid_by r).0) (sym ok ∙ answered ∙ withdraw_answer)

      withdraw_gain : paid.1 ≡ gain_of (state_of (core_of p)) account
      withdraw_gain = ap (λ (r : Result (ℕ × ℕ) Refusal). (paid_by r).1) (sym ok ∙ answered ∙ withdraw_answer)

      pub withdraws_so : MayWithdraw p account paid.0 paid.1
      withdraws_so = may_withdraw p sound account lusd paid.0 paid.1 k withdraw_passes withdraw_paid withdraw_gain

      module _ (pool : Kept) (wallets : WithRoom Wallet)
          (words : IfOk answer (λ (out : ℕ × ℕ). pool.words ≡ words_owned p.pool.words 0 out.0 out.1))
          (finished : pool.finished ≡ p.pool.finished)
          (rows : IfOk answer (λ (out : ℕ × ℕ). pool.deposits.rows
          ≡ left_in p.pool.deposits.rows p.pool.words account ((position_at p.pool account).0 - out.0)))
          (moved : wallets.rows ≡ credited_in p.wallets.rows account paid.1 paid.0) where
        withdraw_made : Changes (core_of p) (Withdraw account lusd) (core_of (record p {
          pool = pool;
          wallets = wallets;
        }))
        withdraw_made = withdrawn_changes p sound account lusd paid.0 paid.1 k withdraw_passes withdraw_paid
            withdraw_gain pool wallets (if_value _ answer paid ok words) finished (if_value _ answer paid ok rows) moved

        pub withdraw_changes : Changes old (Withdraw account lusd) (core_of (record p {
          pool = pool;
          wallets = wallets;
        }))
        withdraw_changes = subst (λ (core : Core). Changes core (Withdraw account lusd)
            (core_of (record p { pool = pool; wallets = wallets }))) view withdraw_made

        pub withdraw_sound : IsSound (record p { pool = pool; wallets = wallets })
        withdraw_sound =
            sound_after p (record p { pool = pool; wallets = wallets }) (core_of p) (Withdraw account lusd) refl sound
            (withdraw_left p sound account lusd paid.0 paid.1 k withdraw_passes withdraw_paid withdraw_gain)
            withdraw_made
            sound.order

-- ---- a gain that moves into the trove

-- what it finds in a protocol
pub record MayMove (p : Inside) (account : ℕ) (plan : Plan) : Type 0 where
  pub there : IsSome (at p.troves.table.rows account)
  pub some : 1 ≤ plan.coll
  pub least : RESERVE + MIN_NET ≤ plan.debt
  pub active_coll : (lift (books_kept p.troves p.pools) account).active_coll + plan.coll ≤ LIM
  pub active_debt : (lift (books_kept p.troves p.pools) account).active_debt + plan.debt ≤ LIM

module _ (p : Inside) (sound : IsSound p) (account : ℕ) (plan : Plan) (words : HintWords) (k : account
    < ACCOUNTS) (is : plan ≡ gaining_terms (market_of (state_of (core_of p)))
    (or_nothing (entire_of (state_of (core_of p)) account)) (gain_of (state_of (core_of p)) account)) (h :
    first_refusal (rules (state_of (core_of p)) (GainToTrove account words)) ≡ None) where
  gain_told : entire_of (state_of (core_of p)) account ≡ Some (or_nothing (entire_of (state_of (core_of p)) account))
  gain_told = told (entire_of (state_of (core_of p)) account) (gain_allows (state_of (core_of p)) account words h).there

  gain_effect : effect (state_of (core_of p)) (GainToTrove account words)
      ≡ set_trove (owned (state_of (core_of p)) account 0 0) account plan.coll plan.debt
  gain_effect = ap (λ (x : Plan). set_trove (owned (state_of (core_of p)) account 0 0) account x.coll x.debt) (sym is)

  gain_left : Leaves 0 (state_of (core_of p)) (effect (state_of (core_of p)) (GainToTrove account words))
  gain_left =
      gain_leaves (state_of (core_of p)) (core_finds (core_of p) sound.image) account k
      (gain_allows (state_of (core_of p)) account words h).there

  gain_image : image (set_trove (owned (state_of (core_of p)) account 0 0) account plan.coll plan.debt)
      ≡ with_books (image (owned (state_of (core_of p)) account 0 0))
      (place (lift (books_kept p.troves p.pools) account) account plan.coll plan.debt)
  gain_image =
      let t = owned (state_of (core_of p)) account 0 0 in
      set_image t account plan.coll plan.debt
      ∙ ap (λ (b : Books). with_books (image t) (place (lift b account) account plan.coll plan.debt))
      (books_are p sound)

  may_move : MayMove p account plan
  may_move =
      let s = state_of (core_of p) in
      let f = core_finds (core_of p) sound.image in
      let has = has_trove s account (or_nothing (entire_of s account)) f.stands gain_told in
      let n = subst Finds gain_effect (finds_after s (effect s (GainToTrove account words)) gain_left) in
      let w = subst IsWithin gain_image (within (set_trove (owned s account 0 0) account plan.coll plan.debt) n) in
      record {
        there = subst (λ (t : Table Trove). IsSome (at t account)) (rows_are p sound) (there_row s f account gain_told);
        some = subst (λ (x : Plan). 1 ≤ x.coll) (sym is) (omega (arith, has.some));
        least = subst (λ (x : Plan). RESERVE + MIN_NET ≤ x.debt) (sym is) has.least;
        active_coll = omega (arith, w.coll, w.coll_limit);
        active_debt = omega (arith, w.debt_limit);
      }

  moved_changes : (pool : Kept) (pools : Pools) (troves : Troves) (order : Listed)
      → IsPoolOf (owned (state_of (core_of p)) account 0 0) pool
      → books_kept troves pools ≡ place (lift (books_kept p.troves p.pools) account) account plan.coll plan.debt
      → SameOthers p.pools pools
      → Changes (core_of p) (GainToTrove account words) (core_of (record p {
        pool = pool;
        pools = pools;
        troves = troves;
        order = order;
      }))
  moved_changes pool pools troves order of kept others =
      let s = state_of (core_of p) in
      let i = (core_of p).image in
      let b = place (lift (books_kept p.troves p.pools) account) account plan.coll plan.debt in
      record {
        image =
            same_others (with_pool i pool.words pool.finished pool.deposits.rows) p.rate p.pools pools p.wallets.rows
            (books_kept troves pools) others
            ∙ ap (with_books (with_pool i pool.words pool.finished pool.deposits.rows)) kept
            ∙ ap (λ (x : Image). with_books (with_pool x pool.words pool.finished pool.deposits.rows) b)
            (sym (image_back (core_of p) sound.image))
            ∙ sym (ap image gain_effect ∙ gain_image
            ∙ ap (λ (x : Image). with_books x b) (pool_image (owned s account 0 0) pool of));
        records = refl;
        clients = refl;
      }

module _ (p : Inside) (old : Core) (view : core_of p ≡ old) (sound : IsSound p) (account : ℕ) (plan : Plan) (k : account
    < ACCOUNTS) (is : plan ≡ gaining_terms (market_of (state_of old)) (or_nothing (entire_of (state_of old) account))
    (gain_of (state_of old) account)) (h : (words : HintWords)
    × (first_refusal (rules (state_of old) (GainToTrove account words)) ≡ None)) where
  move_is : plan ≡ gaining_terms (market_of (state_of (core_of p)))
      (or_nothing (entire_of (state_of (core_of p)) account)) (gain_of (state_of (core_of p)) account)
  move_is = subst (λ (core : Core). plan ≡ gaining_terms (market_of (state_of core))
      (or_nothing (entire_of (state_of core) account)) (gain_of (state_of core) account)) (sym view) is

  move_passes : first_refusal (rules (state_of (core_of p)) (GainToTrove account h.0)) ≡ None
  move_passes = subst (λ (core : Core). first_refusal (rules (state_of core) (GainToTrove account h.0))
      ≡ None) (sym view) h.1

  pub moves_so : MayMove p account plan
  moves_so = may_move p sound account plan h.0 k move_is move_passes

  -- what the pool answers
  pub move_answer : withdrawing p.pool account 0 ≡ Ok (
    min 0 (balance_of (state_of (core_of p)) account),
    gain_of (state_of (core_of p)) account,
  )
  move_answer = withdrawn p sound account 0 (all_false (rules (state_of (core_of p)) (GainToTrove account h.0))
      move_passes).0

  module _ (paid : ℕ × ℕ) (answered : withdrawing p.pool account 0 ≡ Ok paid) (pool : Kept) (pools : Pools)
      (troves : Troves) (order : Listed)
      (pool_words : pool.words ≡ words_owned p.pool.words 0 paid.0 paid.1) (finished : pool.finished ≡ p.pool.finished)
      (rows : pool.deposits.rows ≡ left_in p.pool.deposits.rows p.pool.words account ((position_at p.pool account).0
      - paid.0))
      (kept : books_kept troves pools ≡ place (lift (books_kept p.troves p.pools) account) account plan.coll plan.debt)
      (others : SameOthers p.pools pools) where
    move_made : Changes (core_of p) (GainToTrove account h.0) (core_of (record p {
      pool = pool;
      pools = pools;
      troves = troves;
      order = order;
    }))
    move_made =
        let s = state_of (core_of p) in
        let none = ap (λ (r : Result (ℕ × ℕ) Refusal). (paid_by r).0) (sym answered ∙ move_answer) in
        let gained = ap (λ (r : Result (ℕ × ℕ) Refusal). (paid_by r).1) (sym answered ∙ move_answer) in
        let paid_none : paid.0 ≡ 0 = omega (arith, none) in
        let balance = ap (λ (t : ℕ × ℕ). t.0) (position_is p sound account) in
        let amount : (position_at p.pool account).0 - paid.0 ≡ amount_after s account 0 0 =
        omega (arith, balance, paid_none) in
        moved_changes p sound account plan h.0 k move_is move_passes pool pools troves order
        (owned_pool p sound account 0 0 pool (pool_words ∙ ap (λ n. words_owned p.pool.words 0 n paid.1) paid_none
        ∙ ap (words_owned p.pool.words 0 0) gained) finished (rows
        ∙ ap (left_in p.pool.deposits.rows p.pool.words account) amount))
        kept others

    pub move_changes : (words : HintWords)
        → Changes old (GainToTrove account words) (core_of (record p {
          pool = pool;
          pools = pools;
          troves = troves;
          order = order;
        }))
    move_changes words =
        subst (λ (core : Core). Changes core (GainToTrove account words) (core_of (record p {
          pool = pool;
          pools = pools;
          troves = troves;
          order = order;
        }))) view
        (record { image = move_made.image; records = move_made.records; clients = move_made.clients })

    pub move_sound : order.entries ≡ order_by troves.table.rows
        → IsSound (record p { pool = pool; pools = pools; troves = troves; order = order })
    move_sound listed =
        sound_after p (record p { pool = pool; pools = pools; troves = troves; order = order }) (core_of p)
        (GainToTrove account h.0) refl sound
        (gain_left p sound account plan h.0 k move_is move_passes) move_made listed

-- ---- claim

-- what claiming finds in a protocol
pub record MayClaim (p : Inside) (account coll : ℕ) : Type 0 where
  pub surplus : coll ≤ p.pools.surplus
  pub coll_limit : (wallet_in p.wallets.rows account).coll + coll ≤ LIM
  pub lusd_limit : (wallet_in p.wallets.rows account).lusd ≤ LIM

module _ (p : Inside) (old : Core) (view : core_of p ≡ old) (sound : IsSound p) (account coll : ℕ) (k : account
    < ACCOUNTS) (h : first_refusal (rules (state_of old) (Claim account)) ≡ None) (is :
    coll ≡ surplus_in p.surplus.rows account) where
  claim_passes : first_refusal (rules (state_of (core_of p)) (Claim account)) ≡ None
  claim_passes = subst (λ (core : Core). first_refusal (rules (state_of core) (Claim account)) ≡ None) (sym view) h

  claim_left : Leaves 0 (state_of (core_of p)) (effect (state_of (core_of p)) (Claim account))
  claim_left = claim_leaves (state_of (core_of p)) (core_finds (core_of p) sound.image) account k claim_passes

  pub claims_so : MayClaim p account coll
  claims_so =
      let s = state_of (core_of p) in
      let f = core_finds (core_of p) sound.image in
      let within_pool = surplus_covered s (started_with (core_of p).image (core_of p).records sound.image) account in
      let n = finds_after s (effect s (Claim account)) claim_left in
      let fits = pay_within (effect s (Claim account)) n p.wallets.rows account coll 0 f.stands.wallets.ascend
      (ap (λ c. credited_in p.wallets.rows account c 0) (sym is)) in
      record { surplus = omega (arith, within_pool, is); coll_limit = fits.0; lusd_limit = omega (arith, fits.1) }

  module _ (surplus : WithRoom ℕ) (wallets : WithRoom Wallet)
      (taken : surplus.rows ≡ surplus_taken_in p.surplus.rows account)
      (moved : wallets.rows ≡ credited_in p.wallets.rows account coll 0) where
    claim_made : Changes (core_of p) (Claim account) (core_of (record p {
      surplus = surplus;
      pools = record p.pools { surplus = p.pools.surplus - coll };
      wallets = wallets;
    }))
    claim_made =
        let i = (core_of p).image in
        let had = surplus_in p.surplus.rows account in
        record {
          image =
              ap (λ (t : Table Wallet). record i {
                surplus = p.pools.surplus - coll;
                surplus_rows = surplus.rows;
                wallets = t;
              }) moved
              ∙ ap (λ (t : Table ℕ). record i {
                surplus = p.pools.surplus - coll;
                surplus_rows = t;
                wallets = credited_in p.wallets.rows account coll 0;
              }) taken
              ∙ ap (λ n. record i {
                surplus = p.pools.surplus - n;
                surplus_rows = surplus_taken_in p.surplus.rows
                    account;
                wallets = credited_in p.wallets.rows account n 0;
              }) is
              ∙ ap (λ (x : Image). record x {
                surplus = p.pools.surplus - had;
                surplus_rows = surplus_taken_in p.surplus.rows account;
                wallets =
                    credited_in p.wallets.rows account had 0;
              }) (sym (image_back (core_of p) sound.image));
          records = refl;
          clients = refl;
        }

    pub claim_changes :
        Changes old (Claim account) (core_of (record p {
          surplus = surplus;
          pools = record p.pools { surplus = p.pools.surplus - coll };
          wallets = wallets;
        }))
    claim_changes = subst (λ (core : Core). Changes core (Claim account) (core_of (record p {
      surplus = surplus;
      pools = record p.pools { surplus = p.pools.surplus - coll };
      wallets = wallets;
    }))) view claim_made

    pub claim_sound :
        IsSound (record p {
          surplus = surplus;
          pools = record p.pools { surplus = p.pools.surplus - coll };
          wallets = wallets;
        })
    claim_sound =
        sound_after p (record p {
          surplus = surplus;
          pools = record p.pools { surplus = p.pools.surplus - coll };
          wallets = wallets;
        }) (core_of p) (Claim account) refl sound claim_left claim_made sound.order
