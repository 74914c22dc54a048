use Rattle.std.proofs.Common.{ap, arith, sym, subst, ◌∙◌}
use Rattle.liq_types.specs.declared.figures.Client.{Client}
use Rattle.liq_core_limits.specs.Numbers.{kept_by}
use Rattle.liq_core.specs.Core.{state_of}
use Rattle.liq_core.specs.Turn.{IsKept}
use Rattle.liq_core.proofs.Numbering.{kept_so}
use Rattle.liq_core.proofs.engine.Protocol.kept.Goals as goal

pub returns : goal.returns
returns c =
    let s = state_of c.args.self.now in
    let command = c.args.command.now in
    let same = c.repeated_reply.ensures ∙ ap (λ (row : Client). kept_by row command.number) c.client.ensures in
    subst (IsKept s command) (sym same) (kept_so s command (omega (arith, c.if-command-ge-ACCOUNTS.false)))
