use Rattle.std.proofs.Common.{◌∙◌, ℕ, Ok, Err, ap, sym, subst}
use Rattle.liq_types.specs.State.{opening_with}
use Rattle.liq_core.specs.Core.{StandsFor}
use Rattle.liq_disk_pair.specs.Replay.{bad_checkpoint}
use Rattle.liq_disk_pair.proofs.Basing.{base_first}
use Rattle.liq_store.proofs.Basing.{begins_badly, begins_later}
use Rattle.liq_store.proofs.checkpoint.base.Goals as goal

pub returns-then-generation-eq1-clause-begins : goal.returns-then-generation-eq1-clause-begins
returns-then-generation-eq1-clause-begins c w same limit checkpoint = (
  opening_with w.limit,
  base_first w (same ∙ c.if-generation-eq1.true),
  subst (λ (n : ℕ). StandsFor c.with_limit.result (opening_with n)) (sym limit) c.with_limit.ensures,
)

pub returns-in-Ok-clause-begins : goal.returns-in-Ok-clause-begins
returns-in-Ok-clause-begins c w same limit checkpoint =
    begins_later w c.args.generation c.args.checkpoint.now (Ok c.in-Ok.image) c.begun.result c.if-generation-eq1.false
    same checkpoint c.in-Ok.ensures.exact (c.begun.ensures.begins w same limit)

pub returns-in-Err-Bad-clause-begins : goal.returns-in-Err-Bad-clause-begins
returns-in-Err-Bad-clause-begins c w same limit checkpoint =
    begins_later w c.args.generation c.args.checkpoint.now (Err c.in-Err-Bad.place) (Err c.misshapen.result)
    c.if-generation-eq1.false same checkpoint (rw c.in-Err-Bad.field-0-is at c.in-Err-Bad.ensures.exact)
    (begins_badly w c.args.limit _ (bad_checkpoint w c.in-Err-Bad.place) c.misshapen.result (ap (bad_checkpoint w)
    (sym c.in-Err-Bad.place-is)) limit c.misshapen.ensures)
