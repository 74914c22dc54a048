use Rattle.std.proofs.Common.{◌≡◌, ◌≤◌, ◌+◌, ◌*◌, ◌++◌, length, drop, map}
use Rattle.std.specs.Vec.{vec_len, vec_capacity}
use Rattle.liq_text.specs.Writing.{spaced}
use Rattle.liq_text.proofs.writing.put_numbers.Given as goal

abbrev pub invariant-loop-number : goal.invariant-loop-number
invariant-loop-number g l = record {
  items : l.out.items ++ spaced (map g.I.Integer.text (drop l.number-index l.numbers)) ≡ l.initial.out.items
      ++ spaced (map g.I.Integer.text l.numbers);
  len : vec_len l.out ≤ vec_len l.initial.out + l.number-index * (g.I.Integer.MAX_STR_LEN + 1);
  room : vec_len l.out + length l.numbers * (g.I.Integer.MAX_STR_LEN + 1)
      ≤ vec_capacity l.out + l.number-index * (g.I.Integer.MAX_STR_LEN + 1);
  capacity : vec_capacity l.initial.out ≤ vec_capacity l.out;
}
