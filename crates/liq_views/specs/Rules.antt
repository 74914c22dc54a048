-- The rule: what is published is made by one list of batches, of which each end has seen a
-- beginning.
use Rattle.std.specs.Prelude.{◌≡◌, ◌≤◌, ℕ, List, []}
use mathlib.Core.Option.{some}
use lib.ListN.{get_elem?}
use Rattle.liq_views.specs.declared.rule.Sight.{Sight}
use Rattle.liq_views.specs.declared.shelf.Shelf.{Shelf}
use Rattle.liq_views.specs.Batches.{Given, last_from, Rise, StartsWith}
use Rattle.liq_views.specs.Shelves.{after_all}

-- who has seen nothing
abbrev pub newcomer : Sight
newcomer = record { seen = [] }

pub record Keeps (x : Shelf) (views : List Sight) : Type 0 where
  pub log : List Given
  pub made : x ≡ after_all log
  pub rise : Rise 0 log
  pub begins : (j : ℕ) (v : Sight) → get_elem? views j ≡ some v → StartsWith log v.seen

-- what a look tells: what was seen before, what is shown, and what is seen then
pub record Looks (before : List Given) (x : Shelf) (seen : List Given) : Type 0 where
  pub begins : StartsWith seen before
  pub later : last_from 0 before ≤ last_from 0 seen
  pub made : x ≡ after_all seen
