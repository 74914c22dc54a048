use Rattle.std.proofs.Common.{ap, sym, ◌∙◌, subst}
use Rattle.std.specs.List.{Contains}
use Rattle.std.specs.Map.{keys_of}
use Rattle.std.specs.Option.{is_some}
use Rattle.liq_types.specs.Tables.{Table, at, rows}
use Rattle.liq_types.proofs.UsedRows.{rows-put_unused}
use Rattle.liq_tables.specs.WithRoom.{WithRoom, HasRoom}
use Rattle.liq_tables.proofs.Room.{room_from_row, row_from_room, room-put, room-put_same, some-copied}
use Rattle.liq_tables.proofs.reserved.Reserved.reserve.Goals as goal
use Rattle.liq_types.proofs.Tests.{missing}

pub returns-then-is_some-clause-room : goal.returns-then-is_some-clause-room
returns-then-is_some-clause-room g c =
    let there = ap is_some (sym c.get.ensures.row) ∙ some-copied c.get.result ∙ sym c.is_some.ensures
    ∙ c.if-is_some.true in
    subst (λ (t : WithRoom g.row.X.Denot). HasRoom t c.args.key) c.self.view_is
    (room_from_row c.self.inside.index c.args.key there)

pub returns-clause-rows : goal.returns-clause-rows
returns-clause-rows g c =
    let none =
    missing (at c.self.inside.index c.args.key) (ap is_some (sym c.get.ensures.row) ∙ some-copied c.get.result
    ∙ sym c.is_some.ensures ∙ c.if-is_some.false) in
    let unused = ap g.X.Row.used c.nothing.ensures ∙ g.met.X.Row.is_unused in
    ap (λ (t : Table g.row.X.Denot). rows g.X.Row.used t) c.in-Ok.ensures.rows
    ∙ rows-put_unused g.X.Row.used c.self.inside.index c.args.key c.nothing.result unused none
    ∙ ap (λ (t : WithRoom g.row.X.Denot). t.rows) c.self.view_is

pub returns-clause-room : goal.returns-clause-room
returns-clause-room g c =
    subst (λ (t : Table g.row.X.Denot). Contains (keys_of t) c.args.key) (sym c.in-Ok.ensures.rows)
    (room-put_same c.self.inside.index c.args.key c.nothing.result)

pub returns-clause-kept : goal.returns-clause-kept
returns-clause-kept g c q h =
    let had = subst (λ (t : WithRoom g.row.X.Denot). HasRoom t q) (sym c.self.view_is) h in
    subst (λ (t : Table g.row.X.Denot). Contains (keys_of t) q) (sym c.in-Ok.ensures.rows)
    (room-put c.self.inside.index c.args.key c.nothing.result q had)

pub returns-in_default-clause-had : goal.returns-in_default-clause-had
returns-in_default-clause-had g c h =
    let had = subst (λ (t : WithRoom g.row.X.Denot). HasRoom t c.args.key) (sym c.self.view_is) h in
    let none = ap is_some (sym c.get.ensures.row) ∙ some-copied c.get.result ∙ sym c.is_some.ensures
    ∙ c.if-is_some.false in
    sym none ∙ row_from_room c.self.inside.index c.args.key had
