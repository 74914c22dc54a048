use Rattle.std.proofs.Common.{sym, subst, arith}
use Rattle.liq_order.specs.Nodes.{IsRing, visited}
use Rattle.liq_order.specs.Accounts.{place_of}
use Rattle.liq_order.proofs.Chained.{chain}
use Rattle.liq_order.proofs.linked.Nodes.of.Goals as goal

pub invariant_of-result : goal.invariant_of-result
invariant_of-result c =
    let cells = c.in_ok-of.field-0 in
    let made = c.in_ok-of.ensures in
    let accounts = c.in_ok-of-2 in
    let nodes = cells.nodes.items in
    let place = place_of accounts.field-0 in
    let all = chain c.args.entries.now nodes place cells.first cells.last c.requires.ascending c.requires.distinct
    made.nodes accounts.ensures made.first made.last in (
      subst (λ l. IsRing nodes (visited nodes cells.first) l place cells.first cells.last) (sym made.free) all.ring,
      record {
        used = omega (arith, all.nodes_long);
        for_nodes = made.nodes_room;
        for_free = made.free_room;
        for_rows = omega (arith, all.long);
        few = omega (arith, c.if-most.false);
      },
    )

pub returns : goal.returns
returns c =
    let cells = c.in_ok-of.field-0 in
    let made = c.in_ok-of.ensures in
    (chain c.args.entries.now cells.nodes.items (place_of c.in_ok-of-2.field-0) cells.first cells.last
    c.requires.ascending c.requires.distinct made.nodes c.in_ok-of-2.ensures made.first made.last).listed
