use Rattle.std.proofs.Common.{◌≡◌, ◌++◌, drop}
use Rattle.std.specs.List.{flat_map}
use Rattle.liq_text_audit.specs.Shown.{line_of}
use Rattle.liq_text_audit.proofs.shown.write_rows.Given as goal

abbrev pub invariant-loop-row : goal.invariant-loop-row
invariant-loop-row l = l.text.items ++ flat_map line_of (drop l.row-index l.rows) ≡ flat_map line_of l.rows
