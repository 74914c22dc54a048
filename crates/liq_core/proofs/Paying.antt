-- What payments, price and time make of a protocol.
use Rattle.std.proofs.Common.{◌≡◌, ℕ, ◌+◌, ◌-◌, ◌<◌, ◌≤◌, refl, ap, sym, subst, ◌∙◌, None, rules as usual, tests}
use Rattle.std.specs.Prelude.{Ok}
use Rattle.liq_types.specs.declared.amounts.TheConstants.{ACCOUNTS}
use Rattle.liq_types.specs.declared.figures.Wallet.{Wallet}
use Rattle.liq_types.specs.declared.requests.Call.{Call}
use Rattle.liq_types.specs.declared.requests.Call.TheVariants.{Price, Advance, Fund, Take, Send}
use Rattle.liq_types.specs.Payments.{credited_in, charged_in}
use Rattle.liq_types.specs.Rules.{first_refusal}
use Rattle.liq_types.specs.Soundness.{IsSoundImage}
use Rattle.liq_types.specs.Tables.{Table}
use Rattle.liq_tables.specs.WithRoom.{WithRoom}
use Rattle.liq_ledger.specs.Refusals.{charging, ruled}
use Rattle.liq_core.specs.declared.engine.Protocol.TheInside.{Inside}
use Rattle.liq_core.specs.Core.{Core, Changes, state_of}
use Rattle.liq_rule_step.specs.Image.{image}
use Rattle.liq_rule_step.specs.Rules.{rules, effect}
use Rattle.liq_core.specs.Sound.{IsSound, core_of}
use Rattle.liq_rule_sound.proofs.SoundCalls.{advance_leaves, fund_leaves, take_leaves, send_leaves}
use Rattle.liq_core.proofs.SoundCores.{core_finds, plain_image, sound_after}
use Rattle.liq_rule_sound.proofs.SoundFacts.{Finds}

module _ (p : Inside) (old : Core) (view : core_of p ≡ old) (sound : IsSound p) where
  finds_old : Finds (state_of old)
  finds_old = core_finds old (subst (λ (core : Core). IsSoundImage core.image core.records) view sound.image)

  plain : (call : Call) (price minute brought : ℕ) (wallets : WithRoom Wallet) (after : Table Wallet)
      → wallets.rows ≡ after → effect (state_of (core_of p)) call ≡ record (state_of (core_of p)) {
        price = price;
        minute = minute;
        brought = brought;
        wallets = after;
      }
      → Changes old call (core_of (record p { price = price; minute = minute; brought = brought; wallets = wallets }))
  plain call price minute brought wallets after moved is =
      subst (λ (o : Core). Changes o call (core_of (record p {
        price = price;
        minute = minute;
        brought = brought;
        wallets = wallets;
      }))) view
      (record {
        image =
            ap (λ (t : Table Wallet). record (core_of p).image {
              price = price;
              minute = minute;
              brought = brought;
              wallets = t;
            }) moved
            ∙ plain_image (core_of p) sound.image price minute brought after
            ∙ ap image (sym is);
        records = refl;
        clients = refl;
      })

  pub priced : (price : ℕ) → Changes old (Price price) (core_of (record p { price = price }))
  priced price = plain (Price price) price p.minute p.brought p.wallets p.wallets.rows refl refl

  pub passed : (minutes : ℕ) → Changes old (Advance minutes) (core_of (record p { minute = p.minute + minutes }))
  passed minutes = plain (Advance minutes) p.price (p.minute + minutes) p.brought p.wallets p.wallets.rows refl refl

  pub passed_sound : (minutes : ℕ) → first_refusal (rules (state_of old) (Advance minutes)) ≡ None
      → IsSound (record p { minute = p.minute + minutes })
  passed_sound minutes none =
      sound_after p (record p { minute = p.minute + minutes }) old (Advance minutes) view sound
      (advance_leaves (state_of old) finds_old minutes none) (passed minutes) sound.order

  module _ (account coll : ℕ) (wallets : WithRoom Wallet) where
    pub funded : wallets.rows ≡ credited_in p.wallets.rows account coll 0
        → Changes old (Fund account coll) (core_of (record p { brought = p.brought + coll; wallets = wallets }))
    funded moved = plain (Fund account coll) p.price p.minute (p.brought + coll) wallets
        (credited_in p.wallets.rows account coll 0) moved refl

    pub funded_sound : account < ACCOUNTS → first_refusal (rules (state_of old) (Fund account coll)) ≡ None
        → wallets.rows ≡ credited_in p.wallets.rows account coll 0
        → IsSound (record p { brought = p.brought + coll; wallets = wallets })
    funded_sound within none moved =
        sound_after p (record p { brought = p.brought + coll; wallets = wallets }) old (Fund account coll) view sound
        (fund_leaves (state_of old) finds_old account coll within none) (funded moved) sound.order

    pub taken : wallets.rows ≡ charged_in p.wallets.rows account coll 0
        → Changes old (Take account coll) (core_of (record p { brought = p.brought - coll; wallets = wallets }))
    taken moved = plain (Take account coll) p.price p.minute (p.brought - coll) wallets
        (charged_in p.wallets.rows account coll 0) moved refl

    pub taken_sound : account < ACCOUNTS → first_refusal (rules (state_of old) (Take account coll)) ≡ None
        → wallets.rows ≡ charged_in p.wallets.rows account coll 0
        → IsSound (record p { brought = p.brought - coll; wallets = wallets })
    taken_sound within none moved =
        sound_after p (record p { brought = p.brought - coll; wallets = wallets }) old (Take account coll) view sound
        (take_leaves (state_of old) finds_old account coll within none) (taken moved) sound.order

  module _ (from to lusd : ℕ) (wallets : WithRoom Wallet) where
    pub sent : wallets.rows ≡ credited_in (charged_in p.wallets.rows from 0 lusd) to 0 lusd
        → Changes old (Send from to lusd) (core_of (record p { wallets = wallets }))
    sent moved = plain (Send from to lusd) p.price p.minute p.brought wallets
        (credited_in (charged_in p.wallets.rows from 0 lusd) to 0 lusd) moved refl

    pub sent_sound : from < ACCOUNTS → to < ACCOUNTS → first_refusal (rules (state_of old) (Send from to lusd)) ≡ None
        → wallets.rows ≡ credited_in (charged_in p.wallets.rows from 0 lusd) to 0 lusd
        → IsSound (record p { wallets = wallets })
    sent_sound first second none moved =
        sound_after p (record p { wallets = wallets }) old (Send from to lusd) view sound
        (send_leaves (state_of old) finds_old from to lusd first second none) (sent moved) sound.order

-- a wallet that has enough is charged
pub charge_passes : (had : Wallet) (coll lusd : ℕ) → coll ≤ had.coll → lusd ≤ had.lusd
    → ruled (charging had coll lusd) ≡ Ok tt
charge_passes had coll lusd first second = search (usual, tests)
