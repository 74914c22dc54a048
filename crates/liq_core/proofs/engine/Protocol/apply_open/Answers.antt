use Rattle.std.proofs.Common.{arith, ap, length}
use Rattle.liq_troves.specs.Rows.{set_row}
use Rattle.liq_troves.specs.Standing.{Books}
use Rattle.liq_trove_moves.specs.Books.{books_kept}
use Rattle.liq_trove_moves.proofs.Others.{others_of}
use Rattle.liq_core.specs.Core.{Core}
use Rattle.liq_core.proofs.Lending.{books_stand, opens_so, open_changes, open_sound}
use Rattle.liq_core.proofs.Placing.{not_listed, placed_list}
use Rattle.liq_core.proofs.engine.Protocol.apply_open.Goals as goal

pub exchange-requires-clause-coll : goal.exchange-requires-clause-coll
exchange-requires-clause-coll g c =
    (opens_so c.self.inside c.args.self.now c.self.view_is c.self.invariant c.args.account c.args.borrow c.args.plan.now
    c.requires.range c.requires.terms c.requires.allowed).coll

pub exchange-requires-clause-coll_limit : goal.exchange-requires-clause-coll_limit
exchange-requires-clause-coll_limit g c =
    let may = opens_so c.self.inside c.args.self.now c.self.view_is c.self.invariant c.args.account c.args.borrow
    c.args.plan.now c.requires.range c.requires.terms c.requires.allowed in
    omega (arith, may.coll_limit)

pub exchange-requires-clause-lusd_limit : goal.exchange-requires-clause-lusd_limit
exchange-requires-clause-lusd_limit g c =
    let may = opens_so c.self.inside c.args.self.now c.self.view_is c.self.invariant c.args.account c.args.borrow
    c.args.plan.now c.requires.range c.requires.terms c.requires.allowed in
    omega (arith, may.lusd_limit)

pub overflow_add-self : goal.overflow_add-self
overflow_add-self g c =
    let may = opens_so c.self.inside c.args.self.now c.self.view_is c.self.invariant c.args.account c.args.borrow
    c.args.plan.now c.requires.range c.requires.terms c.requires.allowed in
    record { fits = omega (arith, may.fee) }

pub overflow_add-self-2 : goal.overflow_add-self-2
overflow_add-self-2 g c =
    let may = opens_so c.self.inside c.args.self.now c.self.view_is c.self.invariant c.args.account c.args.borrow
    c.args.plan.now c.requires.range c.requires.terms c.requires.allowed in
    record { fits = omega (arith, may.reserve) }

pub place-requires-clause-absent : goal.place-requires-clause-absent
place-requires-clause-absent g c =
    (opens_so c.self.inside c.args.self.now c.self.view_is c.self.invariant c.args.account c.args.borrow c.args.plan.now
    c.requires.range c.requires.terms c.requires.allowed).absent

pub place-requires-clause-stand : goal.place-requires-clause-stand
place-requires-clause-stand g c = books_stand c.self.inside c.self.invariant

pub place-requires-clause-some : goal.place-requires-clause-some
place-requires-clause-some g c =
    (opens_so c.self.inside c.args.self.now c.self.view_is c.self.invariant c.args.account c.args.borrow c.args.plan.now
    c.requires.range c.requires.terms c.requires.allowed).some

pub place-requires-clause-least : goal.place-requires-clause-least
place-requires-clause-least g c =
    (opens_so c.self.inside c.args.self.now c.self.view_is c.self.invariant c.args.account c.args.borrow c.args.plan.now
    c.requires.range c.requires.terms c.requires.allowed).least

pub place-requires-clause-coll : goal.place-requires-clause-coll
place-requires-clause-coll g c =
    (opens_so c.self.inside c.args.self.now c.self.view_is c.self.invariant c.args.account c.args.borrow c.args.plan.now
    c.requires.range c.requires.terms c.requires.allowed).active_coll

pub place-requires-clause-debt : goal.place-requires-clause-debt
place-requires-clause-debt g c =
    (opens_so c.self.inside c.args.self.now c.self.view_is c.self.invariant c.args.account c.args.borrow c.args.plan.now
    c.requires.range c.requires.terms c.requires.allowed).active_debt

pub place-requires-clause-unlisted : goal.place-requires-clause-unlisted
place-requires-clause-unlisted g c =
    let may = opens_so c.self.inside c.args.self.now c.self.view_is c.self.invariant c.args.account c.args.borrow
    c.args.plan.now c.requires.range c.requires.terms c.requires.allowed in
    not_listed c.self.inside.troves.table.rows c.self.inside.order.entries c.args.account c.self.invariant.order
    may.absent

pub invariant_of-self : goal.invariant_of-self
invariant_of-self g c =
    open_sound c.self.inside c.args.self.now c.self.view_is c.self.invariant c.args.account c.args.borrow
    c.args.plan.now c.requires.range c.requires.terms c.requires.allowed
    c.exchange.new.self c.place.new.pools c.place.new.troves c.place.new.order c.exchange.ensures.rows
    c.place.ensures.books
    (others_of _ c.place.new.pools (books_kept c.place.new.troves c.place.new.pools) c.place.ensures.rest)
    (placed_list c.self.inside.troves.table.rows c.place.new.troves.table.rows c.self.inside.order.entries
    c.place.new.order.entries c.args.account (set_row c.self.inside.troves.sums c.args.plan.now.coll
    c.args.plan.now.debt)
    (opens_so c.self.inside c.args.self.now c.self.view_is c.self.invariant c.args.account c.args.borrow c.args.plan.now
    c.requires.range c.requires.terms c.requires.allowed).absent
    c.self.invariant.order c.place.ensures.list
    (ap (λ (b : Books). b.troves) c.place.ensures.books))

pub returns-clause-made : goal.returns-clause-made
returns-clause-made g c =
    open_changes c.self.inside c.args.self.now c.self.view_is c.self.invariant c.args.account c.args.borrow
    c.args.plan.now c.requires.range c.requires.terms c.requires.allowed
    c.exchange.new.self c.place.new.pools c.place.new.troves c.place.new.order c.exchange.ensures.rows
    c.place.ensures.books
    (others_of _ c.place.new.pools (books_kept c.place.new.troves c.place.new.pools) c.place.ensures.rest)

pub returns-clause-any : goal.returns-clause-any
returns-clause-any g c =
    let any = c.place.ensures.any in
    let same = ap (λ (core : Core). length core.list) c.self.view_is in
    omega (arith, any, same)
