-- What liquidations make of a protocol, with their command counted.
use Rattle.std.proofs.Common.{◌≡◌, ℕ, ◌+◌, ◌≤◌, ◌<◌, Bool, true, false, cond, List, [], ◌∷◌, refl, ap, sym, ◌∙◌, subst, arith, inl, inr, length, Some, None, Option}
use Rattle.std.specs.Prelude.{◌==◌, Result, Ok, Err, if◌then◌else◌}
use Rattle.std.specs.List.{AllByRecursion, Contains}
use Rattle.liq_types.specs.declared.amounts.TheConstants.{ACCOUNTS, LOWEST_MOST}
use Rattle.liq_types.specs.declared.figures.Client.{Client}
use Rattle.liq_types.specs.declared.figures.Deposit.{Deposit}
use Rattle.liq_types.specs.declared.figures.Trove.{Trove}
use Rattle.liq_types.specs.declared.figures.Wallet.{Wallet}
use Rattle.liq_types.specs.declared.replies.Done.{Done}
use Rattle.liq_types.specs.declared.replies.Refusal.{Refusal}
use Rattle.liq_types.specs.declared.requests.Call.{Call}
use Rattle.liq_types.specs.declared.requests.Call.TheVariants.{Liquidate, LiquidateLowest}
use Rattle.liq_types.specs.declared.requests.Command.{Command}
use Rattle.liq_types.specs.declared.image.Image.{Image}
use Rattle.liq_types.specs.Payments.{surplus_added}
use Rattle.liq_types.specs.Product.{finished_sums}
use Rattle.liq_types.specs.Rules.{first_refusal}
use Rattle.liq_types.specs.Soundness.{IsSoundImage}
use Rattle.liq_types.specs.State.{State, TroveEntry, is_used_client}
use Rattle.liq_types.specs.Tables.{EpochScale, Table, at, put}
use Rattle.liq_tables.specs.WithRoom.{WithRoom, written}
use Rattle.liq_ledger.specs.declared.pools.Pools.{Pools}
use Rattle.liq_troves.specs.declared.sums.Sums.{Sums}
use Rattle.liq_troves.specs.Kept as troves
use Rattle.liq_troves.specs.Own.{lifted_entry, redistributed, snapped}
use Rattle.liq_troves.specs.StakeSums.{sums_words, trove_rows}
use Rattle.liq_order.specs.Listed.{Listed}
use Rattle.liq_order.specs.Order.{order_by}
use Rattle.liq_stability.specs.Kept as stability
use Rattle.liq_stability.specs.Own.{offset}
use Rattle.liq_stability.specs.Position.{deposit_rows}
use Rattle.liq_stability.specs.declared.words.PoolWords.{PoolWords}
use Rattle.liq_stability.specs.Words.{pool_words}
use Rattle.liq_liquidation.specs.declared.one.One.{One}
use Rattle.liq_liquidation.specs.declared.one.Victim.{Victim}
use Rattle.liq_liquidation.specs.Lowest.{victim_by}
use Rattle.liq_liquidation.specs.One.{liquidated, one, rewarded}
use Rattle.liq_core.specs.declared.effects.Effect.{Effect}
use Rattle.liq_core.specs.declared.effects.Effect.TheVariants as effects
use Rattle.liq_core.specs.declared.effects.Victims.{Victims}
use Rattle.liq_core.specs.declared.engine.Protocol.TheInside.{Inside}
use Rattle.liq_core.specs.Core.{Core, IsWithin, StandsFor, state_of}
use Rattle.liq_core.specs.Effects.{IsEffect, IsStruck, room_of, victims_in}
use Rattle.liq_rule_step.specs.Image.{image}
use Rattle.liq_rule_step.specs.Liquidation.{all_liquidated, listed}
use Rattle.liq_core.specs.Plan.{Plan, IsPlannedOn, IsSoundPlan, HasRoom}
use Rattle.liq_rule_step.specs.Rules.{effect, done_of, rules}
use Rattle.liq_core.specs.Sound.{IsSound, core_of}
use Rattle.liq_rule_sound.specs.SoundState.{IsSoundState}
use Rattle.liq_rule_step.specs.Step.{Allowed, after, ruling}
use Rattle.liq_types.specs.Verbs.{is_rotate}
use Rattle.liq_rule_step.specs.Verbs.{accounts}
use Rattle.liq_core_lowest.specs.Victims.{AreKept, AreVictims}
use Rattle.liq_rule_step.proofs.Allowed.{all-records, allowed_rules}
use Rattle.liq_rule_step.proofs.Counting.{listed_count, lowest_count, lowest_within}
use Rattle.liq_core.proofs.Images.{pools_by, with_pool, with_pools, with_sums}
use Rattle.liq_core.proofs.Noting.{kept_rows, made_sound, made_stands}
use Rattle.liq_core.proofs.Planning.{its_rows, its_sums, its_words}
use Rattle.liq_core.proofs.Rooms.{among_owners}
use Rattle.liq_core.proofs.SoundCores.{image_back, sound_stands}
use Rattle.liq_rule_sound.proofs.SoundStart.{started_with}
use Rattle.liq_rule_sound.proofs.SoundStep.{allowed_has, finds}
use Rattle.liq_rule_sound.proofs.SoundTests.{sound_facts}
use Rattle.liq_core_lowest.proofs.ToldVictims.{lowest_victims}
use Rattle.liq_trove_moves.specs.Books.{pools_of}

-- ---- what is liquidated

-- a call makes just these liquidations
pub record IsStrike (s : State) (call : Call) (liquidator : ℕ) (vs : List Victim) : Type 0 where
  pub effect_is : effect s call ≡ all_liquidated s liquidator vs
  pub victims : AreVictims s liquidator vs
  pub few : length vs ≤ LOWEST_MOST
  pub range : liquidator < ACCOUNTS
  pub stays : is_rotate call ≡ false

listed_victims : (s : State) (liquidator account : ℕ) (made : Result One Refusal) → one s account ≡ made
    → AreVictims s liquidator (listed (victim_by account made))
listed_victims s liquidator account (Ok made) is = (is, tt)
listed_victims s liquidator account (Err refusal) is = tt

pub strike_planned : (s : State) → IsSoundState s → (call : Call) (liquidator : ℕ) (vs : List Victim)
    → IsStruck s call liquidator vs → AllByRecursion (λ a. a < ACCOUNTS) (accounts call) → first_refusal (rules s call)
    ≡ None → IsStrike s call liquidator vs
strike_planned s h call liquidator vs (inl q) range passed =
    subst (λ (k : Call). IsStrike s k liquidator vs) (sym q.1)
    (subst (λ (us : List Victim). IsStrike s (Liquidate liquidator q.0) liquidator us) (sym q.2)
    (let few = listed_count q.0 (one s q.0) in
    record {
      effect_is = refl;
      victims = listed_victims s liquidator q.0 (one s q.0) refl;
      few = omega (arith, few);
      range = (subst (λ (k : Call). AllByRecursion (λ a. a < ACCOUNTS) (accounts k)) q.1 range).0;
      stays = refl;
    }))
strike_planned s h call liquidator vs (inr q) range passed =
    let within = (subst (λ (k : Call). AllByRecursion (λ a. a < ACCOUNTS) (accounts k)) q.1 range).0 in
    let most = lowest_within s liquidator q.0 (subst (λ (k : Call). first_refusal (rules s k) ≡ None) q.1 passed) in
    let few = lowest_count q.0 s in
    subst (λ (k : Call). IsStrike s k liquidator vs) (sym q.1)
    (subst (λ (us : List Victim). IsStrike s (LiquidateLowest liquidator q.0) liquidator us) (sym q.2)
    (record {
      effect_is = refl;
      victims = lowest_victims q.0 s (finds s (sound_facts s h)) liquidator within;
      few = omega (arith, few, most);
      range = within;
      stays = refl;
    }))

-- what a planned command liquidates
pub record IsLiquidation (old : Core) (command : Command) (done : Done) (liquidator : ℕ) (vs : List Victim) :
    Type 0 where
  pub allowed : ruling (state_of old) command ≡ Allowed
  pub done_is : done ≡ done_of (state_of old) command.call
  pub strike : IsStrike (state_of old) command.call liquidator vs
  pub wallet : Contains old.room.wallets liquidator
  pub owners : AllByRecursion (λ (v : Victim). Contains old.room.surplus v.account) vs
  pub finished : length vs ≤ old.room.finished

pub liquidation_planned : (old : Core) → IsSoundImage old.image old.records → (plan : Plan) → IsPlannedOn old plan
    → IsSoundPlan plan → HasRoom old plan → (liquidator : ℕ) (struck : Victims)
    → plan.effect ≡ effects.Liquidate liquidator struck
    → IsLiquidation old plan.command plan.done liquidator (victims_in struck)
liquidation_planned old sound plan planned fit room liquidator struck is =
    let s = state_of old in
    let p = planned s (sound_stands old sound) in
    let needs = subst (λ (e : Effect). IsWithin (record (room_of e) { clients = plan.command.client ∷ [] }) old.room) is
    room in
    record {
      allowed = p.allowed;
      done_is = p.done;
      strike = strike_planned s (started_with old.image old.records sound) plan.command.call liquidator
          (victims_in struck) (subst (IsEffect s plan.command.call) is p.effect) fit.accounts
          (allowed_rules s plan.command p.allowed);
      wallet = needs.wallets.0;
      owners = among_owners old.room.surplus (victims_in struck) needs.surplus;
      finished = needs.finished;
    }

-- ---- images by the parts that liquidations change

abbrev with_kept : Image → Table Wallet → Pools → Sums → Table Trove → Table ℕ → PoolWords → List (EpochScale × ℕ)
    → Table Deposit → Image
with_kept i wallets pools sums rows owners words finished deposits =
    record (with_pool (with_sums (with_pools i pools) sums) words finished deposits) {
      wallets = wallets;
      troves = rows;
      surplus_rows = owners;
    }

abbrev kept_by : Image → State → Image
kept_by i t = with_kept i t.wallets (pools_of t) (sums_words t) (trove_rows t) t.surplus_rows (pool_words t)
    (finished_sums t.start t.offsets) (deposit_rows t)

-- by whether there is such a trove, and whether the Stability Pool takes over nothing
abbrev left_by : State → ℕ → Victim → Option TroveEntry → Bool → State
left_by s liquidator v o b =
    rewarded (surplus_added
    (snapped (redistributed (cond b (lifted_entry s v.account o)
    (offset (lifted_entry s v.account o) v.one.offset_debt v.one.offset_coll)) v.one.spread_coll v.one.spread_debt))
    v.account v.one.surplus) liquidator v.one.gas

-- a liquidation touches these parts alone
liquidated_image : (s : State) (liquidator : ℕ) (v : Victim) → image (liquidated s liquidator v)
    ≡ kept_by (image s) (liquidated s liquidator v)
liquidated_image s liquidator v = by (at s.troves v.account) (v.one.offset_debt == 0) where
  by : (o : Option TroveEntry) (b : Bool) → image (left_by s liquidator v o b)
      ≡ kept_by (image s) (left_by s liquidator v o b)
  by None true = refl
  by (Some t) true = refl
  by None false = refl
  by (Some t) false = refl

pub all_image : (vs : List Victim) (s : State) (liquidator : ℕ) → image (all_liquidated s liquidator vs)
    ≡ kept_by (image s) (all_liquidated s liquidator vs)
all_image [] s liquidator = refl
all_image (v ∷ vs) s liquidator =
    let next = liquidated s liquidator v in
    all_image vs next liquidator ∙ ap (λ (i : Image). kept_by i (all_liquidated next liquidator vs))
    (liquidated_image s liquidator v)

-- ---- what is kept

module _ (p : Inside) (sound : IsSound p) where
  pub begun : AreKept (state_of (core_of p)) p.wallets p.pools p.surplus p.troves p.order p.pool
  begun =
      let same = sym (image_back (core_of p) sound.image) in
      record {
        wallets_are = ap (λ (i : Image). i.wallets) same;
        pools_are = ap pools_by same;
        owners_are = ap (λ (i : Image). i.surplus_rows) same;
        sums_are = its_sums p sound;
        troves_are = its_rows p sound;
        order_is = sound.order ∙ ap (λ (t : Table Trove). order_by t) (its_rows p sound);
        pool_is = record {
          words = its_words p sound;
          finished = ap (λ (i : Image). i.finished) same;
          deposits = ap (λ (i : Image). i.deposits) same;
        };
      }

module _ (t : State) (i : Image) (wallets : WithRoom Wallet) (pools : Pools) (surplus : WithRoom ℕ) (kept : troves.Kept)
    (order : Listed) (pool : stability.Kept)
    (h : AreKept t wallets pools surplus kept order pool) where
  kept_image : with_kept i wallets.rows pools kept.sums kept.table.rows surplus.rows pool.words pool.finished
      pool.deposits.rows ≡ kept_by i t
  kept_image =
      ap (λ (x : Table Wallet). with_kept i x pools kept.sums kept.table.rows surplus.rows pool.words pool.finished
      pool.deposits.rows) h.wallets_are
      ∙ ap (λ (x : Pools). with_kept i t.wallets x kept.sums kept.table.rows surplus.rows pool.words pool.finished
      pool.deposits.rows) h.pools_are
      ∙ ap (λ (x : Sums). with_kept i t.wallets (pools_of t) x kept.table.rows surplus.rows pool.words pool.finished
      pool.deposits.rows) h.sums_are
      ∙ ap (λ (x : Table Trove). with_kept i t.wallets (pools_of t) (sums_words t) x surplus.rows pool.words
      pool.finished pool.deposits.rows) h.troves_are
      ∙ ap (λ (x : Table ℕ). with_kept i t.wallets (pools_of t) (sums_words t) (trove_rows t) x pool.words pool.finished
      pool.deposits.rows) h.owners_are
      ∙ ap (λ (x : PoolWords). with_kept i t.wallets (pools_of t) (sums_words t) (trove_rows t) t.surplus_rows x
      pool.finished pool.deposits.rows) h.pool_is.words
      ∙ ap (λ (x : List (EpochScale × ℕ)). with_kept i t.wallets (pools_of t) (sums_words t)
      (trove_rows t) t.surplus_rows
      (pool_words t) x pool.deposits.rows) h.pool_is.finished
      ∙ ap (λ (x : Table Deposit). with_kept i t.wallets (pools_of t) (sums_words t) (trove_rows t) t.surplus_rows
      (pool_words t) (finished_sums t.start t.offsets) x) h.pool_is.deposits

  kept_listed : order.entries ≡ order_by kept.table.rows
  kept_listed = h.order_is ∙ sym (ap (λ (x : Table Trove). order_by x) h.troves_are)

-- ---- the command is counted

abbrev counted : Inside → WithRoom Wallet → Pools → WithRoom ℕ → troves.Kept → Listed → stability.Kept → WithRoom Client
    → Inside
counted p wallets pools surplus kept order pool clients =
    record p {
      records = p.records + 1;
      wallets = wallets;
      pools = pools;
      surplus = surplus;
      troves = kept;
      order = order;
      pool = pool;
      clients = clients;
    }

-- the command is allowed, makes just these liquidations and has this reply
pub record IsAsked (core : Core) (command : Command) (done : Done) (liquidator : ℕ) (vs : List Victim) : Type 0 where
  pub allowed : ruling (state_of core) command ≡ Allowed
  pub made : done ≡ done_of (state_of core) command.call
  pub stays : is_rotate command.call ≡ false
  pub is : effect (state_of core) command.call ≡ all_liquidated (state_of core) liquidator vs
  pub victims : AreVictims (state_of core) liquidator vs

module _ (p : Inside) (sound : IsSound p) (command : Command) (done : Done) (liquidator : ℕ) (vs : List Victim)
    (q : IsAsked (core_of p) command done liquidator vs)
    (wallets : WithRoom Wallet) (pools : Pools) (surplus : WithRoom ℕ) (kept : troves.Kept) (order : Listed)
    (pool : stability.Kept) (clients : WithRoom Client)
    (h : AreKept (all_liquidated (state_of (core_of p)) liquidator vs) wallets pools surplus kept order pool)
    (wrote : clients.rows ≡ written is_used_client p.clients.rows command.client (record {
      last = command.number;
      kept = done;
    })) where
  next_image : (core_of (counted p wallets pools surplus kept order pool clients)).image
      ≡ image (after (state_of (core_of p)) command)
  next_image =
      let row : Client = record { last = command.number; kept = done } in
      let begin = state_of (core_of p) in
      let t = all_liquidated begin liquidator vs in
      let some = (allowed_has begin command q.allowed).number in
      let rows = wrote ∙ kept_rows p.clients.rows command.client row (omega (arith, some)) in
      let i = (core_of p).image in
      kept_image t (record i { clients = clients.rows }) wallets pools surplus kept order pool h
      ∙ ap (λ (x : Table Client). kept_by (record i { clients = x }) t) rows
      ∙ ap (λ (j : Image). kept_by (record j { clients = put j.clients command.client row }) t)
      (sym (image_back (core_of p) sound.image))
      ∙ ap (λ (j : Image). record j { clients = put j.clients command.client row })
      (sym (all_image vs begin liquidator))
      ∙ ap (λ (u : State). record (image u) { clients = put u.clients command.client row }) (sym q.is)
      ∙ ap (λ (d : Done). record (image (effect begin command.call)) {
        clients = put (effect begin command.call).clients
            command.client (record { last = command.number; kept = d });
      }) q.made

  next_records : (after (state_of (core_of p)) command).records ≡ p.records + 1
  next_records =
      let begin = state_of (core_of p) in
      ap (λ b. if b then 0 else (effect begin command.call).records + 1) q.stays
      ∙ ap (λ (u : State). u.records + 1) q.is
      ∙ ap (λ n. n + 1) (all-records vs begin liquidator)

  counted_stands : (old : Core) → core_of p ≡ old
      → StandsFor (core_of (counted p wallets pools surplus kept order pool clients)) (after (state_of old) command)
  counted_stands = made_stands p (counted p wallets pools surplus kept order pool clients) sound command q.allowed
      next_image next_records

  counted_sound : IsSound (counted p wallets pools surplus kept order pool clients)
  counted_sound =
      made_sound p (counted p wallets pools surplus kept order pool clients) sound command q.allowed next_image
      next_records
      (kept_listed (all_liquidated (state_of (core_of p)) liquidator vs) (core_of p).image wallets pools surplus kept
      order pool h)

-- the same of the core that a protocol is seen as, from what striking the troves does to each state
module _ (p : Inside) (old : Core) (view : core_of p ≡ old) (sound : IsSound p) (command : Command) (done : Done)
    (liquidator : ℕ) (vs : List Victim) (q : IsAsked old command done liquidator vs)
    (wallets : WithRoom Wallet) (pools : Pools) (surplus : WithRoom ℕ) (kept : troves.Kept) (order : Listed)
    (pool : stability.Kept) (clients : WithRoom Client)
    (strikes : (s : State) → IsSoundState s → AreVictims s liquidator vs
    → AreKept s p.wallets p.pools p.surplus p.troves p.order p.pool
    → AreKept (all_liquidated s liquidator vs) wallets pools surplus kept order pool)
    (wrote : clients.rows ≡ written is_used_client p.clients.rows command.client (record {
      last = command.number;
      kept = done;
    })) where
  is_asked : IsAsked (core_of p) command done liquidator vs
  is_asked = subst (λ (core : Core). IsAsked core command done liquidator vs) (sym view) q

  is_struck : AreKept (all_liquidated (state_of (core_of p)) liquidator vs) wallets pools surplus kept order pool
  is_struck = strikes (state_of (core_of p)) (started_with (core_of p).image p.records sound.image) is_asked.victims
      (begun p sound)

  pub liquidated_stands : StandsFor (core_of (counted p wallets pools surplus kept order pool clients))
      (after (state_of old) command)
  liquidated_stands = counted_stands p sound command done liquidator vs is_asked wallets pools surplus kept order pool
      clients is_struck wrote old view

  pub liquidated_sound : IsSound (counted p wallets pools surplus kept order pool clients)
  liquidated_sound = counted_sound p sound command done liquidator vs is_asked wallets pools surplus kept order pool
      clients is_struck wrote
