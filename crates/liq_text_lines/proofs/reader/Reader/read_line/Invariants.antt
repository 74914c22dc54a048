use Rattle.std.proofs.Common.{◌≡◌, vec_len}
use Rattle.std.specs.Prelude.{Contains}
use Rattle.std.specs.Vec.{vec_capacity}
use Rattle.liq_text_lines.specs.Lines.{IsWithinLine}
use Rattle.liq_text_lines.specs.Reading.{unread, Reads}
use Rattle.liq_text_lines.proofs.reader.Reader.read_line.Given as goal

-- what came of the line so far
abbrev pub invariant-loop-length : goal.invariant-loop-length
invariant-loop-length g l =
    let at = g.S.Source.at in
    record {
      front : Reads (unread l.fn.self (at l.fn.input).left) l.line.items (unread l.self (at l.input).left);
      within : IsWithinLine l.line.items;
      length : vec_len l.line ≡ l._length;
      capacity : vec_capacity l.line ≡ vec_capacity l.fn.line;
      count : (at l.input).faults ≡ (at l.fn.input).faults;
      -- a line end that was taken is still to come
      taken : Contains l.fn.self 10 → Contains l.self 10 × (l.input ≡ l.fn.input);
    }
