use Rattle.std.proofs.Common.{inl, inr, subst, sym}
use Rattle.liq_disk_files.specs.Output.{MayBeOne}
use Rattle.liq_disk_files.proofs.written.standard_output.Goals as goal
use Rattle.liq_disk_files.proofs.written.standard_output.Goals.{then-is_output-via-then-is_output, then-is_output-via-else-is_output+then-is_output-2}

pub returns-then-is_output-clause-nowhere : goal.returns-then-is_output-clause-nowhere
returns-then-is_output-clause-nowhere g c = λ t none.
    let asked = g.S.System.asked in
    elim c.then-is_output.branch [
      | then-is_output-via-then-is_output w ↦
          subst (λ (s : _). MayBeOne (asked c.args.system.now) (asked s)) (sym w.system-is)
          (inl (c.is_output.ensures.may t w.if-is_output.true))
      | then-is_output-via-else-is_output+then-is_output-2 w ↦
          subst (λ (s : _). MayBeOne (asked c.args.system.now) (asked s)) (sym w.system-is)
          (inr (
            asked c.is_output.new.system,
            c.is_output.ensures.not t w.if-is_output.false,
            w.is_output-else-is_output.ensures.may t w.if-is_output-2.true,
          ))
    ]
