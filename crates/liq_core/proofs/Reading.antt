-- What plans are told of a protocol's troves, and what they tell.
use Rattle.std.proofs.Common.{◌≡◌, ℕ, ◌+◌, ◌≤◌, List, refl, ap, sym, ◌∙◌, arith, length, Some, None, Option}
use Rattle.std.specs.Prelude.{Ok, Err, is_some, sum_by}
use Rattle.std.specs.BTreeMap.{is_at}
use Rattle.std.specs.Map.{values_of}
use Rattle.std.specs.Ordering.{nat_cmp}
use Rattle.std.proofs.lemmas.Map.Entries.{sum_by-remove_entry}
use Rattle.liq_types.specs.declared.amounts.TheConstants.{LIM}
use Rattle.liq_types.specs.declared.events.ListChange.TheVariants.{Put}
use Rattle.liq_types.specs.declared.figures.Trove.{Trove}
use Rattle.liq_types.specs.declared.figures.Wallet.{Wallet}
use Rattle.liq_types.specs.declared.replies.Refusal.{Refusal}
use Rattle.liq_types.specs.declared.image.Image.{Image}
use Rattle.liq_types.specs.Rules.{Rule, first_refusal, outcome}
use Rattle.liq_types.specs.Soundness.{IsSoundImage}
use Rattle.liq_types.specs.State.{State, TroveEntry, After, wallet_of}
use Rattle.liq_types.specs.Tables.{at}
use Rattle.liq_types.specs.Totals.{total_debt, or_nothing}
use Rattle.liq_types.proofs.Lookups.{at-put_same}
use Rattle.liq_types.proofs.MapRows.{at-map}
use Rattle.liq_troves.specs.Own.{lifted, lifted_entry, placed, stake_for}
use Rattle.liq_troves.specs.Rows.{entire_in, key_by, set_row}
use Rattle.liq_troves.specs.StakeSums.{entire_of, sums_words, trove_row}
use Rattle.liq_core.specs.Core.{Core, state_of}
use Rattle.liq_rule_step.specs.ListChanges.{standing, stands}
use Rattle.liq_rule_step.proofs.AlikeReads.{sums_by, some-map}
use Rattle.liq_rule_step.proofs.Moving.{read_or}
use Rattle.liq_rule_sound.proofs.SoundBorrow.{has_trove}
use Rattle.liq_core.proofs.SoundCores.{image_back}
use Rattle.liq_rule_sound.proofs.SoundFacts.{Finds}

-- ---- what is read

module _ (core : Core) (h : IsSoundImage core.image core.records) where
  pub entire_read : (account : ℕ) → entire_of (state_of core) account
      ≡ entire_in (sums_by core.image) core.image.troves account
  entire_read account = ap (λ (i : Image). entire_in (sums_by i) i.troves account) (image_back core h)

  pub sums_read : sums_words (state_of core) ≡ sums_by core.image
  sums_read = ap sums_by (image_back core h)

  pub exists_read : (account : ℕ) → is_some (at (state_of core).troves account) ≡ is_some (at core.image.troves account)
  exists_read account =
      let s = state_of core in
      sym (ap is_some (at-map (trove_row s) s.troves account) ∙ some-map (trove_row s) (at s.troves account))
      ∙ ap (λ (i : Image). is_some (at i.troves account)) (image_back core h)

-- an owner's wallet and trove are together within what is inside, and the trove's debt within all debt
pub owned_within : (s : State) → Finds s → (account : ℕ) (own : Option (ℕ × ℕ)) → entire_of s account ≡ own
    → ((or_nothing own).0 + (wallet_of s account).coll ≤ LIM) × ((or_nothing own).1 ≤ total_debt s)
owned_within s f account own e =
    let part = sum_by-remove_entry (λ (w : Wallet). w.coll) (is_at (nat_cmp account)) s.wallets in
    let had = read_or (λ (w : Wallet). w.coll) refl (at s.wallets account) in
    by own e (omega (arith, part, had))
  where
    by : (o : Option (ℕ × ℕ)) → entire_of s account ≡ o
        → (wallet_of s account).coll ≤ sum_by (λ (w : Wallet). w.coll) (values_of s.wallets)
        → ((or_nothing o).0 + (wallet_of s account).coll ≤ LIM) × ((or_nothing o).1 ≤ total_debt s)
    by None there within =
        let homes = f.balanced.homes.coll in
        let limit = f.balanced.coll_limit in
        (omega (arith, within, homes, limit), omega arith)
    by (Some o) there within =
        let homes = f.balanced.homes.coll in
        let limit = f.balanced.coll_limit in
        let has = has_trove s account o f.stands there in
        let w = has.within in (
          omega (arith, within, homes, limit, has.coll_is, w.coll, w.pending_coll),
          omega (
            arith,
            has.debt_is,
            w.debt,
            w.pending_debt,
          ),
        )

-- ---- what an outcome says of its rules

module _ {X : Type 0} (rules : List Rule) (terms : X) where
  pub refused_so : (refusal : Refusal) → outcome (first_refusal rules) terms ≡ Err refusal
      → first_refusal rules ≡ Some refusal
  refused_so refusal e = by (first_refusal rules) e where
    by : (o : Option Refusal) → outcome o terms ≡ Err refusal → o ≡ Some refusal
    by None h = cc
    by (Some r) h = cc

  pub allowed_so : (x : X) → outcome (first_refusal rules) terms ≡ Ok x → (first_refusal rules ≡ None) × (x ≡ terms)
  allowed_so x e = by (first_refusal rules) e where
    by : (o : Option Refusal) → outcome o terms ≡ Ok x → (o ≡ None) × (x ≡ terms)
    by None h = (refl, cc)
    by (Some r) h = cc

-- ---- where a trove will stand

pub placed_told : (s : State) (account coll debt : ℕ) → Put (key_by (set_row (sums_words s) coll debt)) account
    ≡ stands (placed s account coll debt) account
placed_told s account coll debt =
    let next = placed s account coll debt in
    ap (standing next account)
    (sym (at-put_same s.troves account (record {
      coll = coll;
      debt = debt;
      stake = stake_for s coll;
      mark = After (length s.redistributions);
    })))

set_row_lifted : (s : State) (account : ℕ) (o : Option TroveEntry) (coll debt : ℕ) → set_row (sums_words s) coll debt
    ≡ set_row (sums_words (lifted_entry s account o)) coll debt
set_row_lifted s account None coll debt = refl
set_row_lifted s account (Some t) coll debt = refl

pub set_told : (s : State) (account coll debt : ℕ) → Put (key_by (set_row (sums_words s) coll debt)) account
    ≡ stands (placed (lifted s account) account coll debt) account
set_told s account coll debt =
    ap (λ (row : Trove). Put (key_by row) account) (set_row_lifted s account (at s.troves account) coll debt)
    ∙ placed_told (lifted s account) account coll debt
