use Rattle.std.proofs.Common.{◌≡◌, ◌≤◌, take}
use Rattle.std.specs.Prelude.{count_by}
use Rattle.liq_text_audit.specs.Shown.{is_within}
use Rattle.liq_text_audit.proofs.shown.count_within.Given as goal

abbrev pub invariant-loop-row : goal.invariant-loop-row
invariant-loop-row l = (l.count ≤ l.row-index) × (l.count ≡ count_by is_within (take l.row-index l.rows))
