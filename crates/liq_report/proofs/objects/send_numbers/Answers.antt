use Rattle.std.proofs.Common.{◌≡◌, ℕ, List, [], ◌∷◌, length, drop, map, Some, Bor, refl, sym, subst, arith}
use Rattle.std.proofs.lemmas.List.{drop_all}
use Rattle.std.proofs.lemmas.Result.{on_ok_weaker}
use Rattle.serde.specs.Event.{Logs, map_begins}
use Rattle.serde_json.specs.Data.{Data}
use Rattle.serde_json.specs.Events.{SendsMembers, members_len}
use Rattle.liq_report.specs.Values.{count, members_by}
use Rattle.liq_report.proofs.objects.send_numbers.Goals as goal

abbrev named : Bor (List ℕ) × ℕ → List ℕ × Data
named n = (n.0.now, count n.1)

counted : (ns : List (Bor (List ℕ) × ℕ)) → length ns ≡ members_len (members_by (map named ns))
counted [] = refl
counted (n ∷ ns) = grind (arith, counted ns)

pub returns : goal.returns
returns g c =
    let ns = c.args.numbers.now in
    let first = g.S.Serializer.written c.begin_map.new.self in
    let end = g.S.Serializer.written c.end_map.new.self in
    let begun = subst (λ n. Logs (g.S.Serializer.written c.args.out.now) first (map_begins (Some n))) (counted ns)
    c.in_ok-begin_map.ensures in
    let none : drop c.loop-name.name-index ns ≡ [] = drop_all c.loop-name.name-index ns c.loop-name-test.false in
    on_ok_weaker c.end_map.result (λ ended. (
      first,
      begun,
      c.loop-name.invariant end (subst (λ ms. SendsMembers (members_by (map named ms))
          (g.S.Serializer.written c.loop-name.out) end) (sym none) ended),
    )) c.end_map.ensures
