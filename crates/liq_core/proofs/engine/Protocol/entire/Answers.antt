use Rattle.std.proofs.Common.{ℕ, ◌<◌, ◌^◌, ap, sym, ◌∙◌, subst, Some}
use Rattle.std.specs.Prelude.{option_copied, option_map}
use Rattle.liq_types.specs.Soundness.{IsSoundImage}
use Rattle.liq_troves.specs.declared.sums.Sums.{Sums}
use Rattle.liq_troves.specs.Rows.{entire_by}
use Rattle.liq_troves.specs.StakeSums.{entire_of}
use Rattle.liq_core.specs.Core.{Core, state_of}
use Rattle.liq_core.specs.Sound.{core_of}
use Rattle.liq_core.proofs.Reading.{entire_read, owned_within}
use Rattle.liq_core.proofs.SoundCores.{core_finds}
use Rattle.liq_core.proofs.Telling.{entire_fits}
use Rattle.liq_core.proofs.engine.Protocol.entire.Goals as goal

pub returns-in_err-trove-clause-entire : goal.returns-in_err-trove-clause-entire
returns-in_err-trove-clause-entire c =
    let none = sym c.get.ensures.row ∙ ap option_copied c.in_err-trove.was in
    c.from_residual.ensures
    ∙ ap (option_map (entire_by c.self.inside.troves.sums)) (sym none)
    ∙ sym (entire_read (core_of c.self.inside) c.self.invariant.image c.args.account)
    ∙ ap (λ (core : Core). entire_of (state_of core) c.args.account) c.self.view_is

pub returns-in_err-trove-clause-coll : goal.returns-in_err-trove-clause-coll
returns-in_err-trove-clause-coll c =
    let s = state_of c.args.self.now in
    let sound = subst (λ (core : Core). IsSoundImage core.image core.records) c.self.view_is c.self.invariant.image in
    let is = returns-in_err-trove-clause-entire c in
    (owned_within s (core_finds c.args.self.now sound) c.args.account c.from_residual.result (sym is)).0

pub entire-requires-clause-coll : goal.entire-requires-clause-coll
entire-requires-clause-coll c =
    let there = sym c.get.ensures.row ∙ ap option_copied c.in_ok-trove.was in
    let fits = entire_fits (core_of c.self.inside) c.self.invariant.image c.args.account c.in_ok-trove.trove.now there
    in
    subst (λ (k : Sums). (entire_by k c.in_ok-trove.trove.now).0 < 2 ^ 64) (sym c.sums.ensures.sums) fits.0

pub entire-requires-clause-debt : goal.entire-requires-clause-debt
entire-requires-clause-debt c =
    let there = sym c.get.ensures.row ∙ ap option_copied c.in_ok-trove.was in
    let fits = entire_fits (core_of c.self.inside) c.self.invariant.image c.args.account c.in_ok-trove.trove.now there
    in
    subst (λ (k : Sums). (entire_by k c.in_ok-trove.trove.now).1 < 2 ^ 64) (sym c.sums.ensures.sums) fits.1

pub returns-clause-entire : goal.returns-clause-entire
returns-clause-entire c =
    let there = sym c.get.ensures.row ∙ ap option_copied c.in_ok-trove.was in
    ap (λ (e : ℕ × ℕ). Some e) (c.entire.ensures
    ∙ ap (λ (k : Sums). entire_by k c.in_ok-trove.trove.now) c.sums.ensures.sums)
    ∙ ap (option_map (entire_by c.self.inside.troves.sums)) (sym there)
    ∙ sym (entire_read (core_of c.self.inside) c.self.invariant.image c.args.account)
    ∙ ap (λ (core : Core). entire_of (state_of core) c.args.account) c.self.view_is

pub returns-clause-coll : goal.returns-clause-coll
returns-clause-coll c =
    let s = state_of c.args.self.now in
    let sound = subst (λ (core : Core). IsSoundImage core.image core.records) c.self.view_is c.self.invariant.image in
    (owned_within s (core_finds c.args.self.now sound) c.args.account (Some c.entire.result)
    (sym (returns-clause-entire c))).0

pub returns-clause-debt : goal.returns-clause-debt
returns-clause-debt c =
    let s = state_of c.args.self.now in
    let sound = subst (λ (core : Core). IsSoundImage core.image core.records) c.self.view_is c.self.invariant.image in
    (owned_within s (core_finds c.args.self.now sound) c.args.account (Some c.entire.result)
    (sym (returns-clause-entire c))).1
