use Rattle.std.proofs.Common.{arith, length-set, ◌∙◌}
use Rattle.liq_outside.proofs.Tearing.{torn_more}
use Rattle.liq_outside.proofs.crash.tear_range.Goals as goal

pub loop-place-preserved : goal.loop-place-preserved
loop-place-preserved c = record {
  torn = torn_more c.args.at c.args.count c.args.bytes.now.items c.loop-place.bytes.items c.loop-place.place
      c.torn_byte.result (omega arith) (omega arith) c.loop-place.invariant.torn;
  same = length-set c.loop-place.bytes.items c.loop-place.place c.torn_byte.result ∙ c.loop-place.invariant.same;
}
