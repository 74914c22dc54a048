use Rattle.std.proofs.Common.{subst, ap, sym, ◌∙◌, cond, Some, None}
use Rattle.std.specs.Option.{option_copied}
use Rattle.liq_types.specs.Tables.{at}
use Rattle.liq_types.specs.WellFormed.{Ascends}
use Rattle.liq_types.proofs.UsedRows.{rows-ascends}
use Rattle.liq_tables.specs.WithRoom.{WithRoom, HasRoom}
use Rattle.liq_tables.proofs.Room.{read, room_from_row}
use Rattle.liq_tables.proofs.reserved.Reserved.get.Goals as goal
use Rattle.liq_types.proofs.Tests.{some}

pub returns-in_err-row-clause-row : goal.returns-in_err-row-clause-row
returns-in_err-row-clause-row g c =
    ap option_copied c.from_residual.ensures
    ∙ sym (ap (λ (t : WithRoom g.row.X.Denot). at t.rows c.args.key) (sym c.self.view_is)
    ∙ read g.X.Row.used c.self.inside.index c.args.key None c.get.ensures.ascend (sym c.in_err-row.ensures.row))

pub returns-then-is_used-clause-row : goal.returns-then-is_used-clause-row
returns-then-is_used-clause-row g c =
    sym (ap (λ (t : WithRoom g.row.X.Denot). at t.rows c.args.key) (sym c.self.view_is)
    ∙ read g.X.Row.used c.self.inside.index c.args.key (Some c.in_ok-row.row.now) c.get.ensures.ascend
    (sym c.in_ok-row.ensures.row)
    ∙ ap (λ b. cond b (Some c.in_ok-row.row.now) None) (sym c.is_used.ensures ∙ c.if-is_used.true))

pub returns-else-is_used-clause-row : goal.returns-else-is_used-clause-row
returns-else-is_used-clause-row g c =
    sym (ap (λ (t : WithRoom g.row.X.Denot). at t.rows c.args.key) (sym c.self.view_is)
    ∙ read g.X.Row.used c.self.inside.index c.args.key (Some c.in_ok-row.row.now) c.get.ensures.ascend
    (sym c.in_ok-row.ensures.row)
    ∙ ap (λ b. cond b (Some c.in_ok-row.row.now) None) (sym c.is_used.ensures ∙ c.if-is_used.false))

pub returns-then-is_used-clause-room : goal.returns-then-is_used-clause-room
returns-then-is_used-clause-room g c =
    subst (λ (t : WithRoom g.row.X.Denot). HasRoom t c.args.key) c.self.view_is
    (room_from_row c.self.inside.index c.args.key
    (some (at c.self.inside.index c.args.key) c.in_ok-row.row.now (sym c.in_ok-row.ensures.row)))

pub returns-in_err-row-clause-ascend : goal.returns-in_err-row-clause-ascend
returns-in_err-row-clause-ascend g c =
    subst (λ (t : WithRoom g.row.X.Denot). Ascends t.rows) c.self.view_is (rows-ascends g.X.Row.used c.self.inside.index
    c.get.ensures.ascend)

pub returns-then-is_used-clause-ascend : goal.returns-then-is_used-clause-ascend
returns-then-is_used-clause-ascend g c =
    subst (λ (t : WithRoom g.row.X.Denot). Ascends t.rows) c.self.view_is (rows-ascends g.X.Row.used c.self.inside.index
    c.get.ensures.ascend)

pub returns-else-is_used-clause-ascend : goal.returns-else-is_used-clause-ascend
returns-else-is_used-clause-ascend g c =
    subst (λ (t : WithRoom g.row.X.Denot). Ascends t.rows) c.self.view_is (rows-ascends g.X.Row.used c.self.inside.index
    c.get.ensures.ascend)
