use Rattle.std.proofs.Common.{◌≡◌, true, ap, sym, ◌∙◌, subst, cond, Some, None}
use Rattle.liq_types.specs.Tables.{Table, at, rows}
use Rattle.liq_tables.specs.WithRoom.{WithRoom, HasRoom, written}
use Rattle.liq_tables.proofs.Room.{read, unwritten, room_from_row, replaced-none, replaced-rows, replaced-keys}
use Rattle.liq_tables.proofs.reserved.Reserved.write.Goals as goal
use Rattle.liq_types.proofs.Tests.{some}

pub returns-in_err-before-clause-before : goal.returns-in_err-before-clause-before
returns-in_err-before-clause-before g c =
    let none = sym c.replace.ensures.before ∙ c.in_err-before.was in
    c.from_residual.ensures
    ∙ sym (ap (λ (t : WithRoom g.row.X.Denot). at t.rows c.args.key) (sym c.self.view_is)
    ∙ read g.X.Row.used c.self.inside.index c.args.key None c.replace.ensures.ascend none)

pub returns-in_err-before-clause-rows : goal.returns-in_err-before-clause-rows
returns-in_err-before-clause-rows g c =
    let table = c.self.inside.index in
    let none = sym c.replace.ensures.before ∙ c.in_err-before.was in
    let room = subst (λ (t : WithRoom g.row.X.Denot). g.X.Row.used c.args.row ≡ true
    → HasRoom t c.args.key) (sym c.self.view_is) c.requires in
    ap (λ (t : Table g.row.X.Denot). rows g.X.Row.used t) (replaced-none table c.replace.new.self c.args.key c.args.row
    c.replace.ensures.rows none)
    ∙ sym (unwritten g.X.Row.used table c.args.key c.args.row c.replace.ensures.ascend none room)
    ∙ ap (λ (t : WithRoom g.row.X.Denot). written g.X.Row.used t.rows c.args.key c.args.row) c.self.view_is

pub returns-then-is_used-clause-before : goal.returns-then-is_used-clause-before
returns-then-is_used-clause-before g c =
    let there = sym c.replace.ensures.before ∙ c.in_ok-before.was in
    sym (ap (λ (t : WithRoom g.row.X.Denot). at t.rows c.args.key) (sym c.self.view_is)
    ∙ read g.X.Row.used c.self.inside.index c.args.key (Some c.in_ok-before.before) c.replace.ensures.ascend there
    ∙ ap (λ b. cond b (Some c.in_ok-before.before) None) (sym c.is_used.ensures ∙ c.if-is_used.true))

pub returns-then-is_used-clause-rows : goal.returns-then-is_used-clause-rows
returns-then-is_used-clause-rows g c =
    let there = sym c.replace.ensures.before ∙ c.in_ok-before.was in
    replaced-rows g.X.Row.used c.self.inside.index c.replace.new.self c.args.key c.args.row c.in_ok-before.before
    c.replace.ensures.ascend c.replace.ensures.rows there
    ∙ ap (λ (t : WithRoom g.row.X.Denot). written g.X.Row.used t.rows c.args.key c.args.row) c.self.view_is

pub returns-then-is_used-clause-room : goal.returns-then-is_used-clause-room
returns-then-is_used-clause-room g c =
    let there = sym c.replace.ensures.before ∙ c.in_ok-before.was in
    replaced-keys c.self.inside.index c.replace.new.self c.args.key c.args.row c.in_ok-before.before
    c.replace.ensures.ascend c.replace.ensures.rows there
    ∙ ap (λ (t : WithRoom g.row.X.Denot). t.room) c.self.view_is

pub returns-clause-before : goal.returns-clause-before
returns-clause-before g c =
    let there = sym c.replace.ensures.before ∙ c.in_ok-before.was in
    sym (ap (λ (t : WithRoom g.row.X.Denot). at t.rows c.args.key) (sym c.self.view_is)
    ∙ read g.X.Row.used c.self.inside.index c.args.key (Some c.in_ok-before.before) c.replace.ensures.ascend there
    ∙ ap (λ b. cond b (Some c.in_ok-before.before) None) (sym c.is_used.ensures ∙ c.if-is_used.false))

pub returns-clause-rows : goal.returns-clause-rows
returns-clause-rows g c =
    let there = sym c.replace.ensures.before ∙ c.in_ok-before.was in
    replaced-rows g.X.Row.used c.self.inside.index c.replace.new.self c.args.key c.args.row c.in_ok-before.before
    c.replace.ensures.ascend c.replace.ensures.rows there
    ∙ ap (λ (t : WithRoom g.row.X.Denot). written g.X.Row.used t.rows c.args.key c.args.row) c.self.view_is

pub returns-clause-room : goal.returns-clause-room
returns-clause-room g c =
    let there = sym c.replace.ensures.before ∙ c.in_ok-before.was in
    replaced-keys c.self.inside.index c.replace.new.self c.args.key c.args.row c.in_ok-before.before
    c.replace.ensures.ascend c.replace.ensures.rows there
    ∙ ap (λ (t : WithRoom g.row.X.Denot). t.room) c.self.view_is

pub returns-then-is_used-clause-had : goal.returns-then-is_used-clause-had
returns-then-is_used-clause-had g c =
    let there = some (at c.self.inside.index c.args.key) c.in_ok-before.before (sym c.replace.ensures.before
    ∙ c.in_ok-before.was) in
    subst (λ (t : WithRoom g.row.X.Denot). HasRoom t c.args.key) c.self.view_is
    (room_from_row c.self.inside.index c.args.key there)
