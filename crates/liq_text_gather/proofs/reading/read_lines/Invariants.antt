use Rattle.std.proofs.Common.{◌≡◌, ◌≤◌}
use Rattle.std.specs.Vec.{vec_capacity}
use Rattle.liq_types.specs.declared.amounts.TheConstants.{LINE_BYTES}
use Rattle.liq_text_lines.specs.Reading.{unread, ReadsFew}
use Rattle.liq_text_gather.specs.Progress.{HasGathered}
use Rattle.liq_text_gather.proofs.reading.read_lines.Given as goal

-- the lines that were counted are gathered
abbrev pub invariant-loop-read : goal.invariant-loop-read
invariant-loop-read g l =
    let at = g.S.Source.at in
    record {
      gathered : HasGathered g.G.Gatherer.says g.G.Gatherer.holds (at l.fn.input).left l.read l.gatherer
          (unread l.reader (at l.input).left);
      takes : ReadsFew (at l.fn.input).left l.read l.reader (at l.input).left;
      room : LINE_BYTES ≤ vec_capacity l.line;
      count : (g.S.Source.at l.input).faults ≡ (g.S.Source.at l.fn.input).faults;
    }
