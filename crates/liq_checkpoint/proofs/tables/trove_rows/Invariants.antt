use Rattle.std.proofs.Common.{◌≡◌, ◌-◌, None}
use Rattle.liq_checkpoint.specs.Reading.{rows_at, trove_at}
use Rattle.liq_checkpoint.proofs.Loop.{with_front}
use Rattle.liq_checkpoint.proofs.tables.trove_rows.Given as goal

abbrev pub invariant-loop : goal.invariant-loop
invariant-loop l = with_front l.rows (rows_at (trove_at l.end) (l.count - l.counter) l.last l.rest)
    ≡ rows_at (trove_at l.end) l.count None l.at
