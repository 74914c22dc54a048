-- What a publisher has published, and what waits.
use Rattle.std.specs.Prelude.{◌≡◌, ⊤, List, [], drop, MatchOption}
use Rattle.left_right.specs.Sides.{view}
use Rattle.liq_views.specs.declared.pane.Pane.{Pane}
use Rattle.liq_views.specs.declared.publisher.Publisher.{Publisher}
use Rattle.liq_views.specs.Batches.{Given}
use Rattle.liq_views.specs.Panes.{seen_by}

-- the batches that were published, the oldest first
abbrev pub published : Publisher → List Given
published p = (view p.writer.desk.place).seen

-- the batches that were taken but not published for want of memory; they go out with the next
-- publication
abbrev pub waiting : Publisher → List Given
waiting p = drop p.writer.behind p.writer.log.items

-- the pane's reader, if it has one, reads what this publisher publishes
abbrev pub IsOf : Publisher → Pane → Type 0
IsOf p pane = MatchOption pane.reader ⊤ (λ r. r.place.table_id ≡ p.writer.desk.place.table_id)

-- a pane of this publisher that was shown nothing yet, and no look at which was shut
pub record IsFresh (p : Publisher) (pane : Pane) : Type 0 where
  pub own : IsOf p pane
  pub unseen : seen_by pane ≡ []
  pub unshut : pane.shut ≡ 0
