-- A sound core: what is read of it, and what a change leaves of it.
use Rattle.std.proofs.Common.{◌≡◌, ℕ, ◌+◌, ◌≤◌, refl, ap, sym, subst, arith}
use Rattle.std.specs.Prelude.{sum_by}
use Rattle.std.specs.BTreeMap.{is_at}
use Rattle.std.specs.Map.{values_of}
use Rattle.std.specs.Ordering.{nat_cmp}
use Rattle.std.proofs.lemmas.Map.Entries.{sum_by-remove_entry}
use Rattle.liq_types.specs.declared.amounts.TheConstants.{LIM}
use Rattle.liq_types.specs.declared.figures.Wallet.{Wallet}
use Rattle.liq_types.specs.declared.requests.Call.{Call}
use Rattle.liq_types.specs.declared.image.Image.{Image}
use Rattle.liq_types.specs.Image.{IsLimit}
use Rattle.liq_types.specs.Payments.{charged_in}
use Rattle.liq_types.specs.Soundness.{IsSoundImage}
use Rattle.liq_types.specs.State.{State, wallet_in}
use Rattle.liq_types.specs.Tables.{Table, at}
use Rattle.liq_order.specs.Order.{order_by}
use Rattle.liq_core.specs.declared.engine.Protocol.TheInside.{Inside}
use Rattle.liq_core.specs.Core.{Core, Changes, StandsFor, state_of}
use Rattle.liq_rule_step.specs.Image.{image}
use Rattle.liq_rule_step.specs.Rules.{effect}
use Rattle.liq_core.specs.Sound.{IsSound, core_of}
use Rattle.liq_rule_step.proofs.Moving.{read_or, charged_lusd}
use Rattle.liq_rule_sound.proofs.SoundFacts.{Finds, Leaves, balanced_by, limit_most}
use Rattle.liq_rule_sound.proofs.SoundStart.{started_with, finished_before}
use Rattle.liq_rule_sound.proofs.SoundTests.{SoundFacts, sound_facts, facts_sound, stakes_added}
use Rattle.liq_rule_step.proofs.Started.{started_image, started_formed}

-- ---- the state that begins with a sound image

module _ (core : Core) (h : IsSoundImage core.image core.records) where
  pub image_back : image (state_of core) ≡ core.image
  image_back = started_image core.image (stakes_added core.image core.records h)

  -- whatever the core keeps, its sound image makes it stand for the state that begins with it
  pub sound_stands : StandsFor core (state_of core)
  sound_stands =
      record {
        image = sym image_back;
        records = refl;
        formed = started_formed core.image
            (finished_before core.image core.records h);
      }

  pub core_facts : SoundFacts (state_of core)
  core_facts = sound_facts (state_of core) (started_with core.image core.records h)

  pub core_finds : Finds (state_of core)
  core_finds = record {
    stands = core_facts.stands;
    balanced = core_facts.balanced;
    limited = core_facts.limited;
    ranges = core_facts.ranges;
  }

  -- ---- what is read

  pub wallet_coll : (account : ℕ) → (wallet_in core.image.wallets account).coll ≤ core.image.brought
  wallet_coll account =
      let table = core.image.wallets in
      let home = core_facts.balanced.homes.coll in
      let part = sum_by-remove_entry (λ (w : Wallet). w.coll) (is_at (nat_cmp account)) table in
      let had = read_or (λ (w : Wallet). w.coll) refl (at table account) in
      omega (arith, home, part, had)

  pub limit_is : IsLimit core.image.limit
  limit_is = core_facts.ranges.limit

  pub limit_within : core.image.limit ≤ LIM
  limit_within = limit_most core.image.limit limit_is

  pub wallets_within : sum_by (λ (w : Wallet). w.lusd) (values_of core.image.wallets) ≤ LIM
  wallets_within =
      let home = core_facts.balanced.homes.lusd in
      let limit = core_facts.balanced.debt_limit in
      omega (arith, home, limit)

  pub wallet_lusd : (account : ℕ) → (wallet_in core.image.wallets account).lusd ≤ LIM
  wallet_lusd account =
      let part = lusd_within core.image.wallets account in
      omega (arith, part, wallets_within)
    where
      lusd_within : (table : Table Wallet) (account : ℕ) → (wallet_in table account).lusd
          ≤ sum_by (λ (w : Wallet). w.lusd) (values_of table)
      lusd_within table account =
          let part = sum_by-remove_entry (λ (w : Wallet). w.lusd) (is_at (nat_cmp account)) table in
          let had = read_or (λ (w : Wallet). w.lusd) refl (at table account) in
          omega (arith, part, had)

  -- a wallet that is paid what another one was charged stays within the limit
  pub sent_within : (from to lusd : ℕ) → lusd ≤ (wallet_in core.image.wallets from).lusd
      → (wallet_in (charged_in core.image.wallets from 0 lusd) to).lusd + lusd ≤ LIM
  sent_within from to lusd enough =
      let table = charged_in core.image.wallets from 0 lusd in
      let part = sum_by-remove_entry (λ (w : Wallet). w.lusd) (is_at (nat_cmp to)) table in
      let had = read_or (λ (w : Wallet). w.lusd) refl (at table to) in
      let left = charged_lusd (state_of core) from 0 lusd core_finds.stands.wallets.ascend enough in
      omega (arith, part, had, left, wallets_within)

  -- ---- what a change leaves

  -- a change that leaves the Stability Pool's place
  pub left_sound : (t : State) → Leaves 0 (state_of core) t → IsSoundImage (image t) core.records
  left_sound t l =
      let f = core_facts in
      let r = l.rest in
      let made = facts_sound t (record {
        stands = l.stands;
        balanced = balanced_by t r.homes r.limited r.ranges.limit;
        limited = r.limited;
        ranges = r.ranges;
        records = omega (arith, f.records, r.records);
        scale = omega (arith, f.scale, r.scale, r.generation, r.records);
        epoch = omega (arith, f.epoch, r.epoch, r.generation, r.records);
      }) in
      subst (λ n. IsSoundImage (image t) n) r.records made.sound

  -- price, time, what is inside and wallets are the only words of an image that payments write
  pub plain_image : (price minute brought : ℕ) (wallets : Table Wallet)
      → record core.image { price = price; minute = minute; brought = brought; wallets = wallets }
      ≡ image (record (state_of core) { price = price; minute = minute; brought = brought; wallets = wallets })
  plain_image price minute brought wallets =
      ap (λ (i : Image). record i { price = price; minute = minute; brought = brought; wallets = wallets })
      (sym image_back)

pub sound_after : (p q : Inside) (old : Core) (call : Call) → core_of p ≡ old → IsSound p
    → Leaves 0 (state_of old) (effect (state_of old) call) → Changes old call (core_of q)
    → q.order.entries ≡ order_by q.troves.table.rows → IsSound q
sound_after p q old call view sound left made order =
    let h = subst (λ (core : Core). IsSoundImage core.image core.records) view sound.image in
    let kept = left_sound old h (effect (state_of old) call) left in
    record {
      image = subst (λ (i : Image). IsSoundImage i q.records) (sym made.image)
          (subst (λ n. IsSoundImage (image (effect (state_of old) call)) n) (sym made.records) kept);
      order = order;
    }
