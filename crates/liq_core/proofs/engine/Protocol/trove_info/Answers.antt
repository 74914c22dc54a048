use Rattle.std.proofs.Common.{◌≡◌, ℕ, ◌<◌, ◌^◌, ap, subst, sym, ◌∙◌}
use Rattle.std.specs.Prelude.{option_copied}
use Rattle.liq_types.specs.declared.replies.Info.TheVariants as info
use Rattle.liq_types.specs.Tables.{at}
use Rattle.liq_troves.specs.declared.sums.Sums.{Sums}
use Rattle.liq_troves.specs.Rows.{entire_by}
use Rattle.liq_core.specs.Core.{Core, state_of}
use Rattle.liq_rule_step.specs.Queries.{trove_info}
use Rattle.liq_core.specs.Sound.{core_of}
use Rattle.liq_rule_step.proofs.AlikeReads.{sums_by}
use Rattle.liq_core.proofs.Telling.{told_none, told_some, entire_fits}
use Rattle.liq_core.proofs.engine.Protocol.trove_info.Goals as goal

pub entire-coll-requires-clause-coll : goal.entire-coll-requires-clause-coll
entire-coll-requires-clause-coll c =
    let there = sym c.get.ensures.row ∙ ap option_copied c.in-Some.is in
    let fits = entire_fits (core_of c.self.inside) c.self.invariant.image c.args.account c.in-Some.trove.now there in
    subst (λ (k : Sums). (entire_by k c.in-Some.trove.now).0 < 2 ^ 64) (sym c.sums.ensures.sums) fits.0

pub entire-coll-requires-clause-debt : goal.entire-coll-requires-clause-debt
entire-coll-requires-clause-debt c =
    let there = sym c.get.ensures.row ∙ ap option_copied c.in-Some.is in
    let fits = entire_fits (core_of c.self.inside) c.self.invariant.image c.args.account c.in-Some.trove.now there in
    subst (λ (k : Sums). (entire_by k c.in-Some.trove.now).1 < 2 ^ 64) (sym c.sums.ensures.sums) fits.1

pub returns-in-None : goal.returns-in-None
returns-in-None c =
    let none = sym c.get.ensures.row ∙ ap option_copied c.in-None.is in
    subst (λ (core : Core). info.NoTrove ≡ trove_info (state_of core) (at (state_of core).troves c.args.account))
    c.self.view_is
    (told_none (core_of c.self.inside) c.self.invariant.image c.args.account none)

pub returns-in-Some : goal.returns-in-Some
returns-in-Some c =
    let t = c.in-Some.trove.now in
    let there = sym c.get.ensures.row ∙ ap option_copied c.in-Some.is in
    ap (λ (e : ℕ × ℕ). info.Trove e.0 e.1 t.stake) (c.entire-coll.ensures
    ∙ ap (λ (k : Sums). entire_by k t) c.sums.ensures.sums)
    ∙ ap (λ (core : Core). info.Trove (entire_by (sums_by core.image) t).0 (entire_by (sums_by core.image) t).1 t.stake)
    c.self.view_is
    ∙ subst (λ (core : Core). info.Trove (entire_by (sums_by core.image) t).0 (entire_by (sums_by core.image) t).1
    t.stake ≡ trove_info (state_of core) (at (state_of core).troves c.args.account)) c.self.view_is
    (told_some (core_of c.self.inside) c.self.invariant.image c.args.account t there)
