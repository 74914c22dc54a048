use Rattle.std.proofs.Common.{◌≡◌, take, vec_len}
use Rattle.std.specs.Vec.{vec_capacity}
use Rattle.liq_text_lines.proofs.reader.put.Given as goal

-- the bytes so far
abbrev pub invariant-loop-byte : goal.invariant-loop-byte
invariant-loop-byte l =
    record {
      items : l.line.items ≡ take l.byte-index l.bytes;
      count : vec_len l.line ≡ l.byte-index;
      capacity : vec_capacity l.line ≡ vec_capacity l.fn.line;
    }
