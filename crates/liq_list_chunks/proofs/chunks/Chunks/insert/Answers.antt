use Rattle.std.proofs.Common.{subst, sym}
use Rattle.liq_types.specs.Ranked.{IsAscending}
use Rattle.liq_list_chunks.specs.Chunks.{entries}
use Rattle.liq_list_chunks.proofs.Lists.{ascending_after}
use Rattle.liq_list_chunks.proofs.chunks.Chunks.insert.Goals as goal

pub returns-then-len-lt-MOST-clause-ascending : goal.returns-then-len-lt-MOST-clause-ascending
returns-then-len-lt-MOST-clause-ascending c =
    ascending_after c.enter.result (entries c.self.inside.firsts c.self.inside.rests)
    (entries c.enter.new.firsts c.enter.new.rests) c.args.entry c.self.invariant.1 c.enter.ensures.ok
    c.enter.ensures.err

pub invariant_of-self-then-len-lt-MOST : goal.invariant_of-self-then-len-lt-MOST
invariant_of-self-then-len-lt-MOST c = (
  c.enter.ensures.len,
  returns-then-len-lt-MOST-clause-ascending c,
  c.enter.ensures.short,
)

pub returns-clause-ascending : goal.returns-clause-ascending
returns-clause-ascending c =
    ascending_after c.enter-2.result (entries c.split.new.firsts c.split.new.rests)
    (entries c.enter-2.new.firsts c.enter-2.new.rests) c.args.entry (subst IsAscending (sym c.split.ensures.same)
    c.self.invariant.1) c.enter-2.ensures.ok c.enter-2.ensures.err

pub invariant_of-self-2 : goal.invariant_of-self-2
invariant_of-self-2 c = (c.enter-2.ensures.len, returns-clause-ascending c, c.enter-2.ensures.short)
