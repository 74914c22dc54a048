use Rattle.std.proofs.Common.{ap, sym, ◌∙◌, arith}
use Rattle.liq_types.specs.State.{started_trove}
use Rattle.liq_types.specs.Totals.{market_of}
use Rattle.liq_types.proofs.MapRows.{map-length}
use Rattle.liq_core.specs.Core.{Core, state_of}
use Rattle.liq_core.specs.Sound.{core_of}
use Rattle.liq_core.proofs.SoundCores.{core_finds}
use Rattle.liq_core.proofs.engine.Protocol.market.Goals as goal

pub returns-clause-market : goal.returns-clause-market
returns-clause-market c =
    let m = market_of (state_of (core_of c.self.inside)) in
    ap (λ n. record m { troves = n }) (c.count.ensures ∙ sym (map-length started_trove c.self.inside.troves.table.rows))
    ∙ ap (λ (core : Core). market_of (state_of core)) c.self.view_is

pub overflow_add-result : goal.overflow_add-result
overflow_add-result c =
    let f = core_finds (core_of c.self.inside) c.self.invariant.image in
    record { fits = omega (arith, f.balanced.homes.coll, f.balanced.coll_limit) }
