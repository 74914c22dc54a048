use Rattle.std.proofs.Common.{cond, None, IsSome, ap, sym, ◌∙◌, subst, arith}
use Rattle.std.specs.Prelude.{◌==◌}
use Rattle.liq_order.specs.Accounts.{Rows, IsRowAt, place_of}
use Rattle.liq_order.proofs.Marks.{left, marked_over}
use Rattle.liq_order.proofs.accounts.Accounts.mark.Goals as goal

pub invariant_of-self : goal.invariant_of-self
invariant_of-self c =
    let is_at = subst (λ (p : Rows). IsRowAt p.rows c.args.account c.args.at) (sym c.self.view_is) c.requires.row in
    let there = subst (λ (p : Rows). IsSome (place_of p c.args.account)) (sym c.self.view_is) c.requires.there in
    let m = marked_over c.self.inside.rows.items c.self.inside.marked c.self.invariant c.args.account c.args.at is_at
    there in
    record {
      strict = m.strict;
      counted = m.counted;
      few = omega (
        arith,
        c.if-self-len.true,
        c.len.ensures,
        c.self.inside.rows.ok,
        m.long,
      );
    }

pub returns-then-self-len-clause-places : goal.returns-then-self-len-clause-places
returns-then-self-len-clause-places c a =
    let is_at = subst (λ (p : Rows). IsRowAt p.rows c.args.account c.args.at) (sym c.self.view_is) c.requires.row in
    let there = subst (λ (p : Rows). IsSome (place_of p c.args.account)) (sym c.self.view_is) c.requires.there in
    let m = marked_over c.self.inside.rows.items c.self.inside.marked c.self.invariant c.args.account c.args.at is_at
    there in
    m.told a ∙ ap (λ (p : Rows). cond (c.args.account == a) None (place_of p a)) c.self.view_is

pub invariant_of-self-else-self-len : goal.invariant_of-self-else-self-len
invariant_of-self-else-self-len c =
    let is_at = subst (λ (p : Rows). IsRowAt p.rows c.args.account c.args.at) (sym c.self.view_is) c.requires.row in
    let there = subst (λ (p : Rows). IsSome (place_of p c.args.account)) (sym c.self.view_is) c.requires.there in
    let m = marked_over c.self.inside.rows.items c.self.inside.marked c.self.invariant c.args.account c.args.at is_at
    there in
    let d = left _ c.drop_marked.new.rows.items m.strict c.drop_marked.ensures.rows in
    record { strict = d.strict; counted = sym d.none; few = omega arith }

pub returns-else-self-len-clause-places : goal.returns-else-self-len-clause-places
returns-else-self-len-clause-places c a =
    let is_at = subst (λ (p : Rows). IsRowAt p.rows c.args.account c.args.at) (sym c.self.view_is) c.requires.row in
    let there = subst (λ (p : Rows). IsSome (place_of p c.args.account)) (sym c.self.view_is) c.requires.there in
    let m = marked_over c.self.inside.rows.items c.self.inside.marked c.self.invariant c.args.account c.args.at is_at
    there in
    let d = left _ c.drop_marked.new.rows.items m.strict c.drop_marked.ensures.rows in
    d.told a ∙ m.told a ∙ ap (λ (p : Rows). cond (c.args.account == a) None (place_of p a)) c.self.view_is

pub returns-else-self-len-clause-room : goal.returns-else-self-len-clause-room
returns-else-self-len-clause-room c =
    let is_at = subst (λ (p : Rows). IsRowAt p.rows c.args.account c.args.at) (sym c.self.view_is) c.requires.row in
    let there = subst (λ (p : Rows). IsSome (place_of p c.args.account)) (sym c.self.view_is) c.requires.there in
    let m = marked_over c.self.inside.rows.items c.self.inside.marked c.self.invariant c.args.account c.args.at is_at
    there in
    let d = left _ c.drop_marked.new.rows.items m.strict c.drop_marked.ensures.rows in
    omega (
      arith,
      c.drop_marked.ensures.capacity,
      d.long,
      m.counted,
      m.long,
      c.self.inside.rows.ok,
      c.drop_marked.new.rows.ok,
      ap (λ (p : Rows). p.room) c.self.view_is,
    )
