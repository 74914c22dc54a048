use Rattle.std.proofs.Common.{◌≡◌, cond, Some, None, ap, sym, ◌∙◌, subst, arith}
use Rattle.std.specs.Prelude.{◌==◌}
use Rattle.liq_order.specs.Accounts.{Rows, IsRowAt, place_of}
use Rattle.liq_order.proofs.Marks.{used_over}
use Rattle.liq_order.proofs.accounts.Accounts.give_back.Goals as goal

pub overflow_sub-self : goal.overflow_sub-self
overflow_sub-self c =
    let is_at = subst (λ (p : Rows). IsRowAt p.rows c.args.account c.args.at) (sym c.self.view_is) c.requires.row in
    let absent = subst (λ (p : Rows). place_of p c.args.account ≡ None) (sym c.self.view_is) c.requires.absent in
    let u = used_over c.self.inside.rows.items c.self.inside.marked c.self.invariant c.args.account c.args.at is_at
    absent c.args.place c.requires.node in
    omega (arith, u.some)

pub invariant_of-self : goal.invariant_of-self
invariant_of-self c =
    let is_at = subst (λ (p : Rows). IsRowAt p.rows c.args.account c.args.at) (sym c.self.view_is) c.requires.row in
    let absent = subst (λ (p : Rows). place_of p c.args.account ≡ None) (sym c.self.view_is) c.requires.absent in
    let u = used_over c.self.inside.rows.items c.self.inside.marked c.self.invariant c.args.account c.args.at is_at
    absent c.args.place c.requires.node in
    u.rows_from

pub returns-clause-places : goal.returns-clause-places
returns-clause-places c a =
    let is_at = subst (λ (p : Rows). IsRowAt p.rows c.args.account c.args.at) (sym c.self.view_is) c.requires.row in
    let absent = subst (λ (p : Rows). place_of p c.args.account ≡ None) (sym c.self.view_is) c.requires.absent in
    let u = used_over c.self.inside.rows.items c.self.inside.marked c.self.invariant c.args.account c.args.at is_at
    absent c.args.place c.requires.node in
    u.told a ∙ ap (λ (p : Rows). cond (c.args.account == a) (Some c.args.place) (place_of p a)) c.self.view_is

pub returns-clause-room : goal.returns-clause-room
returns-clause-room c =
    let is_at = subst (λ (p : Rows). IsRowAt p.rows c.args.account c.args.at) (sym c.self.view_is) c.requires.row in
    let absent = subst (λ (p : Rows). place_of p c.args.account ≡ None) (sym c.self.view_is) c.requires.absent in
    let u = used_over c.self.inside.rows.items c.self.inside.marked c.self.invariant c.args.account c.args.at is_at
    absent c.args.place c.requires.node in
    omega (arith, u.some, c.self.inside.rows.ok, ap (λ (p : Rows). p.room) c.self.view_is)
