use Rattle.std.proofs.Common.{◌≡◌, ◌≤◌, length, All, vec_capacity}
use Rattle.liq_views.specs.Publishers.{IsFresh}
use Rattle.liq_views.proofs.publisher.Publisher.all_finders.Given as goal

abbrev pub invariant-loop : goal.invariant-loop
invariant-loop l =
    (length l.finders.items ≡ l.counter) × (l.readers ≤ vec_capacity l.finders)
    × All (λ f. IsFresh l.self f.window × (f.last ≡ 0)) l.finders.items
