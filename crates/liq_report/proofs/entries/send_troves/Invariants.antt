use Rattle.serde.specs.Event.{Log}
use Rattle.serde_json.specs.Events.{SendsItems}
use Rattle.serde_json.specs.View.{items_of}
use Rattle.liq_troves.specs.StakeSums.{trove_rows}
use Rattle.liq_core.specs.Core.{state_of}
use Rattle.liq_report.specs.Values.{trove_of, troves_data}
use Rattle.liq_report.proofs.Rows.{rest}
use Rattle.liq_report.proofs.entries.send_troves.Given as goal

-- whatever ends the list well from here ends it well from the start
abbrev pub invariant-loop-account : goal.invariant-loop-account
invariant-loop-account g l =
    let s = state_of l.protocol in
    (end : Log) → SendsItems (rest (trove_of s) (trove_rows s) l.account) (g.S.Serializer.written l.out) end
    → SendsItems (items_of (troves_data s)) (g.S.Serializer.written l.initial.out) end
