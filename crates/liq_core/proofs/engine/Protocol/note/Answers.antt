use Rattle.std.proofs.Common.{subst, sym, ap, ◌<◌}
use Rattle.liq_types.specs.declared.amounts.TheConstants.{RECORDS_MOST}
use Rattle.liq_core.specs.Core.{Core}
use Rattle.liq_core.proofs.Noting.{noted_keeps, noted_stands}
use Rattle.liq_core.proofs.engine.Protocol.note.Goals as goal

pub invariant_of-self : goal.invariant_of-self
invariant_of-self c =
    let few = subst (λ (core : Core). core.records < RECORDS_MOST) (sym c.self.view_is) c.requires.few in
    noted_keeps c.self.inside c.args.command.now c.args.done _ c.requires.number c.write.ensures.rows c.self.invariant
    c.requires.range few c.requires.kept

pub returns-clause-state : goal.returns-clause-state
returns-clause-state c s h =
    noted_stands c.self.inside c.args.command.now c.args.done _ c.requires.number c.write.ensures.rows c.args.self.now
    c.self.view_is c.requires.stays s h

pub returns-clause-list : goal.returns-clause-list
returns-clause-list c = ap (λ (core : Core). core.list) c.self.view_is
