use Rattle.std.proofs.Common.{ℕ, Ok, Err, Result, ap, sym, subst, ◌∙◌}
use Rattle.liq_text_audit.specs.Reviewed.{reviewed}
use Rattle.liq_word_exit.specs.declared.halts.Halt.{Halt}
use Rattle.liq_word_exit.specs.declared.halts.Halt.TheVariants.{DiskFault, ReadFault}
use Rattle.liq_word_state.specs.declared.telling.Text.TheVariants as which
use Rattle.liq_word_state.specs.Told.{WritesSome}
use Rattle.liq_word_state.specs.Writing.{AuditAlong, AuditHolds}
use Rattle.liq_word_exit.specs.Causes.{WriteCause}
use Rattle.liq_word_state.specs.Writing.{WritesText}
use Rattle.liq_word_state.proofs.Audited.{audit_holds, no_cause, no_fault, not_reviewed}
use Rattle.liq_word_exit.proofs.Shown.{by_sink}
use Rattle.liq_word_state.proofs.SomeTold.{review_some, unreviewed_some}
use Rattle.liq_word_state.proofs.TextsTold.{text_written}
use Rattle.liq_word_state.proofs.audit.write_review.Goals as goal

pub returns-in-Ok-clause-written : goal.returns-in-Ok-clause-written
returns-in-Ok-clause-written g c s same is =
    let e = c.in-Ok.ensures in (
      text_written (reviewed c.args.limit c.args.commands.now) _ c.write_text.result _ _ (e.text
          ∙ ap Ok (sym c.deref.ensures.value)) c.write_text.ensures.ok c.write_text.ensures.err,
      audit_holds c.write_text.result s c.args.commands.now
          (subst (λ (limit : ℕ). AuditAlong limit s c.args.commands.now) (sym same) (e.shares s is, e.within s is)),
    )

pub returns-in-Ok-clause-no_disk : goal.returns-in-Ok-clause-no_disk
returns-in-Ok-clause-no_disk g c = by_sink _ c.write_text.result DiskFault c.write_text.ensures.err (λ e. cc)

pub returns-in-Ok-clause-no_source : goal.returns-in-Ok-clause-no_source
returns-in-Ok-clause-no_source g c = by_sink _ c.write_text.result ReadFault c.write_text.ensures.err (λ e. cc)

pub returns-in-Err-clause-written : goal.returns-in-Err-clause-written
returns-in-Err-clause-written g c s same is =
    let held = (g.K.Sink.at c.args.out.now).held in
    let commands = c.args.commands.now in
    subst (λ (halt : Halt). WritesText (reviewed c.args.limit commands) (Err halt) held held
    × AuditHolds (Err halt) s commands) (sym c.halt_on.ensures)
    (not_reviewed c.args.limit commands s c.args.side c.in-Err.fault held is c.in-Err.ensures.fault, tt)

pub returns-in-Err-clause-no_disk : goal.returns-in-Err-clause-no_disk
returns-in-Err-clause-no_disk g c is = (no_fault c.args.side c.in-Err.fault).0 (sym c.halt_on.ensures ∙ cc)

pub returns-in-Err-clause-no_source : goal.returns-in-Err-clause-no_source
returns-in-Err-clause-no_source g c is = (no_fault c.args.side c.in-Err.fault).1 (sym c.halt_on.ensures ∙ cc)

pub returns-in-Err-clause-sink : goal.returns-in-Err-clause-sink
returns-in-Err-clause-sink g c =
    let count = (g.K.Sink.at c.args.out.now).faults in
    subst (λ (halt : Halt). let end : Result (Unit {0}) Halt = Err halt
    in WriteCause end count count) (sym c.halt_on.ensures) (no_cause c.args.side c.in-Err.fault count)

pub returns-in-Ok-clause-some : goal.returns-in-Ok-clause-some
returns-in-Ok-clause-some g c =
    review_some c.args.limit c.requires.limit c.args.commands.now c.requires.no_rotation c.write_text.result _ _
    (λ index code refused. absurd (cc (c.in-Ok.ensures.text, refused))) (returns-in-Ok-clause-written g c)

pub returns-in-Err-clause-some : goal.returns-in-Err-clause-some
returns-in-Err-clause-some g c =
    let held = (g.K.Sink.at c.args.out.now).held in
    subst (λ (halt : Halt). WritesSome which.Audit (Err halt) held held) (sym c.halt_on.ensures)
    (unreviewed_some c.args.limit c.requires.limit c.args.commands.now c.requires.no_rotation c.args.side
    c.in-Err.fault held c.in-Err.ensures.fault)
