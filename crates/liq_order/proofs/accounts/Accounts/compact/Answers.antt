use Rattle.std.proofs.Common.{ap, sym, ◌∙◌, arith}
use Rattle.liq_order.specs.Accounts.{Rows, place_of}
use Rattle.liq_order.proofs.Marks.{left}
use Rattle.liq_order.proofs.accounts.Accounts.compact.Goals as goal

pub invariant_of-self : goal.invariant_of-self
invariant_of-self c =
    let d = left c.self.inside.rows.items c.drop_marked.new.rows.items c.self.invariant.strict
    c.drop_marked.ensures.rows in
    record { strict = d.strict; counted = sym d.none; few = omega arith }

pub returns-clause-places : goal.returns-clause-places
returns-clause-places c a =
    let d = left c.self.inside.rows.items c.drop_marked.new.rows.items c.self.invariant.strict
    c.drop_marked.ensures.rows in
    d.told a ∙ ap (λ (p : Rows). place_of p a) c.self.view_is

pub returns-clause-room : goal.returns-clause-room
returns-clause-room c =
    let d = left c.self.inside.rows.items c.drop_marked.new.rows.items c.self.invariant.strict
    c.drop_marked.ensures.rows in
    omega (
      arith,
      c.drop_marked.ensures.capacity,
      d.long,
      c.self.invariant.counted,
      c.self.inside.rows.ok,
      c.drop_marked.new.rows.ok,
      ap (λ (p : Rows). p.room) c.self.view_is,
    )
