use Rattle.std.proofs.Common.{OnOk, subst}
use Rattle.serde_json.specs.Events.{SendsValue}
use Rattle.liq_stability.specs.declared.words.PoolWords.{PoolWords}
use Rattle.liq_core.specs.Core.{state_of}
use Rattle.liq_report.specs.Values.{pool_data}
use Rattle.liq_report.proofs.totals.send_pool.Goals as goal

pub returns : goal.returns
returns g c =
    subst (λ (w : PoolWords). OnOk c.send_words.result (SendsValue (pool_data w) (g.S.Serializer.written c.args.out.now)
    (g.S.Serializer.written c.send_words.new.out)))
    (c.pool_words.ensures (state_of c.args.protocol.now) c.protocols_stand.ensures) c.send_words.ensures
