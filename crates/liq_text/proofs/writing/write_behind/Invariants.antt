use Rattle.std.proofs.Common.{◌≡◌, ◌≤◌, ◌+◌, ◌*◌, length, drop, map}
use Rattle.std.specs.Prelude.{decimal}
use Rattle.liq_text.specs.Writing.{spaced}
use Rattle.liq_text.proofs.writing.write_behind.Given as goal

abbrev pub invariant-loop-left : goal.invariant-loop-left
invariant-loop-left l = record {
  within : l.left ≤ length l.numbers;
  text : drop l.start l.text ≡ spaced (map decimal (drop l.left l.numbers));
  start : l.start ≤ 210;
  short : 210 + l.left * 21 ≤ l.start + length l.numbers * 21;
}

abbrev pub decreases-loop-left : goal.decreases-loop-left
decreases-loop-left l = l.left
