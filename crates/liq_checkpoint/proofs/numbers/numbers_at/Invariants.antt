use Rattle.std.proofs.Common.{◌≡◌, ◌-◌, length, take}
use Rattle.liq_checkpoint.specs.Reading.{numbers_at}
use Rattle.liq_checkpoint.proofs.Loop.{with_front}
use Rattle.liq_checkpoint.proofs.numbers.numbers_at.Given as goal

abbrev pub invariant-loop-i : goal.invariant-loop-i
invariant-loop-i g l = record {
  size : length l.numbers ≡ g.row.N;
  read : with_front (take l.i l.numbers) (numbers_at l.end (g.row.N - l.i) l.rest) ≡ numbers_at l.end g.row.N l.at;
}
