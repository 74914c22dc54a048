use Rattle.std.proofs.Common.{Option, length, refl, sym, subst, ◌≡◌}
use Rattle.liq_types.specs.State.{State}
use Rattle.liq_core.specs.Core.{StandsFor}
use Rattle.liq_market.specs.Content.{Content}
use Rattle.liq_batch.specs.declared.batch.Batch.{Batch}
use Rattle.liq_batch.specs.Batch.{Answered, asking}
use Rattle.liq_c.specs.Statuses.{Ends}
use Rattle.liq_c.proofs.batches.liq_ask.Goals as goal

pub returns : goal.returns
returns c =
    let old = c.args.replies.now in
    let new = c.ask_all-batch.new.replies in
    let leaves = λ (m after : Content) (batch : Batch).
    (after ≡ m) × ((s : State) → StandsFor m.core s → Answered asking s c.args.queries.now batch m m old new) in
    let asked =
    subst
    (λ (m : Content). (s : State) → StandsFor m.core s
    → Answered asking s c.args.queries.now c.ask_all-batch.result m m old new)
    c.deref.ensures c.ask_all-batch.ensures in
    subst
    (λ (held : Option Content).
    Ends held c.of.result.inside.held (length c.args.queries.now) c.of-2.result (new ≡ old) leaves)
    (sym c.in-Some.ensures.took)
    (c.in-Some.market.value, c.of.ensures, (c.ask_all-batch.result, c.of-2.ensures, (refl, asked)))
