use Rattle.std.proofs.Common.{◌≡◌, ℕ, ◌+◌, ◌-◌, ◌≤◌, map}
use Rattle.liq_tables.specs.Pages.{place}
use Rattle.liq_tables.specs.declared.places.TheConstants.{PAGES}
use Rattle.liq_tables.proofs.places.Places.reach.Given as goal

abbrev pub invariant-loop-self : goal.invariant-loop-self
invariant-loop-self l =
    ((k : ℕ) → place (map (λ page. page.items) l.self-inside.pages.items) k ≡ place l.fn.self k)
    × (l.self-inside.pages.len ≤ PAGES)

abbrev pub decreases-loop-self : goal.decreases-loop-self
decreases-loop-self l = l.index + 1 - l.self-inside.pages.len
