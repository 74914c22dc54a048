use Rattle.std.proofs.Common.{sym, ◌∙◌, subst}
use Rattle.liq_types.specs.Ranked.{IsAscending}
use Rattle.liq_order.specs.Listed.{AreDistinct}
use Rattle.liq_order.proofs.Sorted.{sorted_is}
use Rattle.liq_order.proofs.list.Order.from_ranked.Goals as goal

pub of-requires-clause-ascending : goal.of-requires-clause-ascending
of-requires-clause-ascending c =
    let sort = c.sort_unstable.ensures in
    let s = sorted_is c.args.pairs.items c.sort_unstable.new.self.items c.requires sort.permutation sort.sorted in
    subst IsAscending (sym c.deref.ensures.value) s.ascending

pub of-requires-clause-distinct : goal.of-requires-clause-distinct
of-requires-clause-distinct c =
    let sort = c.sort_unstable.ensures in
    let s = sorted_is c.args.pairs.items c.sort_unstable.new.self.items c.requires sort.permutation sort.sorted in
    subst AreDistinct (sym c.deref.ensures.value) s.distinct

pub returns : goal.returns
returns c =
    let sort = c.sort_unstable.ensures in
    let s = sorted_is c.args.pairs.items c.sort_unstable.new.self.items c.requires sort.permutation sort.sorted in
    c.in_ok-nodes.ensures ∙ c.deref.ensures.value ∙ s.same
