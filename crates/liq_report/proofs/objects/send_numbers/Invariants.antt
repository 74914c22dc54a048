use Rattle.std.proofs.Common.{drop, map}
use Rattle.serde.specs.Event.{Log}
use Rattle.serde_json.specs.Events.{SendsMembers}
use Rattle.liq_report.specs.Values.{count, members_by}
use Rattle.liq_report.proofs.objects.send_numbers.Given as goal

-- whatever ends the object well from here ends it well from the start
abbrev pub invariant-loop-name : goal.invariant-loop-name
invariant-loop-name g l =
    (end : Log) → SendsMembers (members_by (map (λ n. (n.0.now, count n.1)) (drop l.name-index l.numbers)))
    (g.S.Serializer.written l.out) end
    → SendsMembers (members_by (map (λ n. (n.0.now, count n.1)) l.numbers)) (g.S.Serializer.written l.initial.out) end
