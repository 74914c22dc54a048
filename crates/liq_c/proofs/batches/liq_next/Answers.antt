use Rattle.std.proofs.Common.{◌≡◌, Option, length, sym, subst}
use Rattle.liq_types.specs.State.{State}
use Rattle.liq_core.specs.Core.{StandsFor}
use Rattle.liq_market.specs.Content.{Content}
use Rattle.liq_batch.specs.declared.batch.Batch.{Batch}
use Rattle.liq_batch.specs.Numbering.{Numbers}
use Rattle.liq_c.specs.Statuses.{Ends}
use Rattle.liq_c.proofs.batches.liq_next.Goals as goal

pub returns : goal.returns
returns c =
    let given = c.args.commands.now in
    let left = c.next_all-batch.new.commands in
    let old = c.args.replies.now in
    let new = c.next_all-batch.new.replies in
    let leaves = λ (m after : Content) (batch : Batch).
    (s : State) → StandsFor m.core s → Numbers s given left batch m after old new in
    subst
    (λ (held : Option Content).
    Ends held c.of.result.inside.held (length given) c.of-2.result ((new ≡ old) × (left ≡ given)) leaves)
    (sym c.in-Some.ensures.took) (
      c.next_all-batch.new.market,
      c.of.ensures,
      (
        c.next_all-batch.result,
        c.of-2.ensures,
        subst (λ (m : Content). leaves m c.next_all-batch.new.market c.next_all-batch.result) c.deref_mut.ensures.value
            c.next_all-batch.ensures,
      ),
    )
