-- The list as a publisher begins with it, and the versions of a history that are published behind
-- it.
use Rattle.std.specs.Prelude.{◌≡◌, ◌≤◌, ℕ, List, [], ◌∷◌, length}
use mathlib.Core.Option.{some}
use lib.ListN.{get_elem?}
use Rattle.liq_types.specs.declared.events.ListChange.{ListChange}
use Rattle.liq_types.specs.State.{State}
use Rattle.liq_types.specs.declared.entries.Entry.{Entry}
use Rattle.liq_rule_step.specs.View.{view_after}
use Rattle.liq_list_version.specs.Versions.{Numbered}
use Rattle.liq_views.specs.declared.publisher.Publisher.{Publisher}
use Rattle.liq_views.specs.declared.rule.Sight.{Sight}
use Rattle.liq_views.specs.declared.shelf.Shelf.{Shelf}
use Rattle.liq_views.specs.Batches.{Given}
use Rattle.liq_views.specs.Publishers.{published, waiting}
use Rattle.liq_views.specs.Rules.{Keeps}
use Rattle.liq_views.specs.Shelves.{after_all}

-- the publisher has published these changes as version 0, and nothing else
abbrev pub HasOpened : List ListChange → Publisher → Type 0
HasOpened changes p =
    (published p ≡ record { changes = changes; number = 0 } ∷ []) × (waiting p ≡ [])

-- a version of the history: the view after its first entries, as many as its number says
abbrev pub IsVersionOf : State → List Entry → Numbered → Type 0
IsVersionOf base entries v =
    (v.number ≤ length entries) × (v.view ≡ view_after base entries v.number)

-- Between any two steps: x is shown, which all that was published makes, and this is what a reader
-- has seen of it.
pub record IsRead (published : List Given) (x : Shelf) (reader : Sight) : Type 0 where
  pub views : List Sight
  pub rule : Keeps x views
  pub publisher : (i : ℕ) × (get_elem? views i ≡ some (record { seen = published }))
  pub shown : x ≡ after_all published
  pub here : (j : ℕ) × (get_elem? views j ≡ some reader)
