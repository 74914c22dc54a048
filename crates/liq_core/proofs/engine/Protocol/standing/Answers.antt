use Rattle.std.proofs.Common.{ap, sym, ◌∙◌, subst, rules}
use Rattle.std.proofs.lemmas.Int.{to_z-of_z}
use Rattle.liq_types.specs.declared.events.ListChange.TheVariants.{Put}
use Rattle.liq_types.specs.Soundness.{IsSoundImage}
use Rattle.liq_troves.specs.declared.sums.Sums.{Sums}
use Rattle.liq_troves.specs.Rows.{key_by, set_row}
use Rattle.liq_core.specs.Core.{Core}
use Rattle.liq_rule_step.proofs.AlikeReads.{sums_by}
use Rattle.liq_core.proofs.Reading.{sums_read}
use Rattle.liq_core.proofs.engine.Protocol.standing.Goals as goal
use mir.Syntax.{w128}
use mir.Val.{SFits}

pub returns : goal.returns
returns c =
    let sound = subst (λ (core : Core). IsSoundImage core.image core.records) c.self.view_is c.self.invariant.image in
    let fits : SFits w128 c.key.result = search rules in
    let same = ap (λ (core : Core). sums_by core.image) c.self.view_is ∙ sym (sums_read c.args.self.now sound) in
    ap (λ k. Put k c.args.account) (to_z-of_z w128 c.key.result fits ∙ c.key.ensures
    ∙ ap key_by c.row_for-row.ensures.row)
    ∙ ap (λ (k : Sums). Put (key_by (set_row k c.args.coll c.args.debt)) c.args.account) same
