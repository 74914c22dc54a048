-- What the word `report` tells.
use Rattle.std.specs.Prelude.{ℕ, List, [], ◌∷◌, ◌++◌}
use Rattle.liq_types.specs.State.{State}
use Rattle.liq_report.specs.Report.{report_text}

-- the report of a state, and a line end
abbrev pub reported : State → List ℕ
reported s = report_text s ++ 10 ∷ []
