use Rattle.std.proofs.Common.{◌≡◌, ◌∙◌, ◌+◌, ◌-◌, ◌≤◌, length, rules, arith}
use Rattle.liq_journal.proofs.Looks.{looked_on, read_more, grown, sum_within}
use Rattle.liq_journal.proofs.open.read_checkpoint.Goals as goal

pub loop-at-preserved : goal.loop-at-preserved
loop-at-preserved g c =
    let room : c.in-Ok.count ≤ length c.read_at.new.buf = search rules in
    let fits : c.in-Ok.count ≤ c.min-want.result = search rules in
    let want : c.min-want.result ≤ (c.args.place + c.args.size) - c.loop-at.at = search rules in
    let more : c.loop-at.at ≤ c.args.place + c.args.size = c.loop-at.invariant.within in
    let long : length c.extend_from_slice.new.self.items ≡ length c.loop-at.checkpoint.items + c.in-Ok.count =
    grown c.loop-at.checkpoint.items c.extend_from_slice.new.self.items c.read_at.new.buf c.in-Ok.count
    c.in-Ok-extend_from_slice.ensures.items room in
    record {
      looked = looked_on g.D.Disk.at c.args.disk.now c.loop-at.disk c.read_at.new.disk c.loop-at.invariant.looked
          c.read_at.ensures.looked;
      still = c.in-Ok.ensures.cause.ok ∙ c.loop-at.invariant.still;
      done = omega (arith, long, c.loop-at.invariant.done);
      within = sum_within c.loop-at.at c.in-Ok.count c.min-want.result (c.args.place + c.args.size) fits want more;
      read = read_more (g.D.Disk.at c.args.disk.now).seen (g.D.Disk.at c.loop-at.disk).seen
          c.loop-at.invariant.looked.same c.args.place c.args.size c.loop-at.at c.in-Ok.count c.loop-at.checkpoint.items
          c.extend_from_slice.new.self.items c.read_at.new.buf _ c.loop-at.invariant.done long
          c.in-Ok-extend_from_slice.ensures.items c.in-Ok.ensures.told c.loop-at.invariant.read;
    }

pub returns-in-Err-clause-looked : goal.returns-in-Err-clause-looked
returns-in-Err-clause-looked g c = looked_on g.D.Disk.at c.args.disk.now c.loop-at.disk c.read_at.new.disk
    c.loop-at.invariant.looked c.read_at.ensures.looked

pub returns-then-count-eq0-clause-looked : goal.returns-then-count-eq0-clause-looked
returns-then-count-eq0-clause-looked g c = looked_on g.D.Disk.at c.args.disk.now c.loop-at.disk c.read_at.new.disk
    c.loop-at.invariant.looked c.read_at.ensures.looked

pub returns-in-Err-extend_from_slice-clause-looked : goal.returns-in-Err-extend_from_slice-clause-looked
returns-in-Err-extend_from_slice-clause-looked g c =
    looked_on g.D.Disk.at c.args.disk.now c.loop-at.disk c.read_at.new.disk c.loop-at.invariant.looked
    c.read_at.ensures.looked
