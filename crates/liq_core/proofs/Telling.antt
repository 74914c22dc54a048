-- What a protocol tells of its troves and of the whole.
use Rattle.std.proofs.Common.{◌≡◌, ℕ, ◌<◌, ◌^◌, ◌∷◌, [], Some, None, ap, sym, subst, ◌∙◌, arith}
use Rattle.std.specs.Prelude.{if◌then◌else◌}
use Rattle.liq_types.specs.declared.figures.Market.{Market}
use Rattle.liq_types.specs.declared.figures.Trove.{Trove}
use Rattle.liq_types.specs.declared.replies.Info.{Info}
use Rattle.liq_types.specs.declared.replies.Info.TheVariants as info
use Rattle.liq_types.specs.declared.image.Image.{Image}
use Rattle.liq_types.specs.Soundness.{IsSoundImage}
use Rattle.liq_types.specs.Tables.{at}
use Rattle.liq_types.specs.Totals.{market_of, is_recovery}
use Rattle.liq_troves.specs.Rows.{entire_by}
use Rattle.liq_troves.specs.Standing.{Books, TrovesStand}
use Rattle.liq_troves.proofs.Standing.{entire_within}
use Rattle.liq_core.specs.Core.{Core, state_of}
use Rattle.liq_rule_step.specs.Image.{image}
use Rattle.liq_rule_step.specs.Queries.{trove_info, system}
use Rattle.liq_rule_step.proofs.AlikeReads.{sums_by}
use Rattle.liq_rule_step.proofs.AlikeReplies.{trove_told, trove_told_at}
use Rattle.liq_core.proofs.SoundCores.{image_back, core_facts}

abbrev pub books_by : Image → Books
books_by i =
    record {
      sums = sums_by i;
      troves = i.troves;
      active_coll = i.active_coll;
      active_debt = i.active_debt;
      default_coll = i.default_coll;
      default_debt = i.default_debt;
    }

module _ (core : Core) (h : IsSoundImage core.image core.records) (account : ℕ) where
  told_at : trove_info (state_of core) (at (state_of core).troves account)
      ≡ trove_told core.image (at core.image.troves account)
  told_at = trove_told_at (state_of core) account ∙ ap (λ (i : Image). trove_told i (at i.troves account))
      (image_back core h)

  pub told_none : at core.image.troves account ≡ None
      → info.NoTrove ≡ trove_info (state_of core) (at (state_of core).troves account)
  unfolding trove_told
  told_none none = sym (told_at ∙ ap (trove_told core.image) none)

  pub told_some : (t : Trove) → at core.image.troves account ≡ Some t
      → info.Trove (entire_by (sums_by core.image) t).0 (entire_by (sums_by core.image) t).1 t.stake
      ≡ trove_info (state_of core) (at (state_of core).troves account)
  unfolding trove_told
  told_some t there = sym (told_at ∙ ap (trove_told core.image) there)

  pub entire_fits : (t : Trove) → at core.image.troves account ≡ Some t
      → ((entire_by (sums_by core.image) t).0 < 2 ^ 64) × ((entire_by (sums_by core.image) t).1 < 2 ^ 64)
  entire_fits t there =
      let stand = subst TrovesStand (ap books_by (image_back core h)) core_facts_stand in
      let e = entire_within (books_by core.image) account t there stand in
      let debts = (core_facts core h).balanced.debt_limit in
      let colls = (core_facts core h).balanced.coll_limit in
      let homes = (core_facts core h).balanced.homes.coll in
      (omega (arith, e.coll, colls, homes), omega (arith, e.debt, debts))
    where
      core_facts_stand : TrovesStand (books_by (image (state_of core)))
      core_facts_stand = (core_facts core h).stands.troves

abbrev system_by : Market → ℕ → ℕ → Info
system_by k n r = info.System (k.price ∷ k.minute ∷ k.base ∷ k.fee_minute ∷ (if is_recovery k then 1 else 0) ∷ k.troves
    ∷ n ∷ k.total_coll ∷ k.total_debt ∷ r ∷ [])

pub system_told : (core : Core) → IsSoundImage core.image core.records → (m : Market) (mode stakes records : ℕ)
    → m ≡ market_of (state_of core) → mode ≡ (if is_recovery m then 1 else 0) → stakes ≡ core.image.stakes
    → records ≡ core.records → info.System (m.price ∷ m.minute ∷ m.base ∷ m.fee_minute ∷ mode ∷ m.troves ∷ stakes
    ∷ m.total_coll ∷ m.total_debt ∷ records ∷ []) ≡ info.System (system (state_of core))
system_told core h m mode stakes records is moded staked counted =
    ap (λ n. info.System (m.price ∷ m.minute ∷ m.base ∷ m.fee_minute ∷ n ∷ m.troves ∷ stakes ∷ m.total_coll
    ∷ m.total_debt ∷ records ∷ [])) moded
    ∙ ap (λ (k : Market). system_by k stakes records) is
    ∙ ap (λ n. system_by (market_of (state_of core)) n records) (staked
    ∙ sym (ap (λ (i : Image). i.stakes) (image_back core h)))
    ∙ ap (λ n. system_by (market_of (state_of core)) (image (state_of core)).stakes n) counted
