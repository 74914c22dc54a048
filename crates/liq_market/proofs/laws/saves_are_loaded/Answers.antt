use Rattle.std.proofs.Common.{List, ℕ, sym, subst, ◌≡◌}
use Rattle.liq_types.specs.State.{State}
use Rattle.liq_order.specs.Order.{trove_order}
use Rattle.liq_core.specs.Core.{Core, StandsFor, state_of}
use Rattle.liq_market.specs.Saving.{IsSave}
use Rattle.liq_market.proofs.Forking.{same_content}
use Rattle.liq_market.proofs.laws.saves_are_loaded.Goals as goal

pub returns-in-Ok : goal.returns-in-Ok
returns-in-Ok c =
    let core = c.args.market.now.core in
    let listed = λ (k : Core). (s : State) → StandsFor k s → k.list ≡ trove_order s in
    let saved =
    subst (λ (bytes : List ℕ). IsSave bytes core.image core.records) (sym c.deref.ensures.value) c.in_ok-bytes.ensures
    in
    let loaded = c.in-Ok.ensures.save core.image core.records saved in (
      same_content core c.in-Ok.again.core loaded.0 loaded.1
          (subst (λ (k : Core). StandsFor k (state_of k)) c.protocol-2.ensures c.protocols_stand.ensures)
          (subst listed c.protocol-3.ensures c.lists_stand.ensures)
          (subst listed c.protocol-in-Ok.ensures c.lists_stand-in-Ok.ensures),
      loaded.2,
    )
