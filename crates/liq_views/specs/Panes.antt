-- What a pane has seen.
use Rattle.std.specs.Prelude.{List, [], Option, Some, None}
use Rattle.left_right.specs.Sides.{view}
use Rattle.liq_views.specs.declared.pane.Pane.{Pane}
use Rattle.liq_views.specs.Batches.{Given}

-- f of what is there; nothing where nothing is
abbrev pub reads : {R : Type 0} → Option R → (R → List Given) → List Given
reads None f = []
reads (Some r) f = f r

-- the batches that made the version that the pane was shown last; none before its first look
abbrev pub seen_by : Pane → List Given
seen_by p = reads p.reader (λ r. (view r.place).seen)
