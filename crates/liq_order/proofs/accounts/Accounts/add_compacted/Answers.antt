use Rattle.std.proofs.Common.{◌∙◌, arith}
use Rattle.liq_order.proofs.Marks.{marked_row, some_marked}
use Rattle.liq_order.proofs.accounts.Accounts.add_compacted.Goals as goal

pub unreachable-requires : goal.unreachable-requires
unreachable-requires c =
    let rows = c.compact.new.self.rows in
    let kept = c.in-Ok.ensures.kept in
    let found = c.in-Ok.ensures.found in
    let is = marked_row rows kept.strict c.args.account c.in-Ok.field-0 found (c.compact.ensures.places c.args.account
    ∙ c.requires.absent) in
    omega (arith, some_marked rows c.in-Ok.field-0 found.in_range is, kept.counted, c.compact.ensures.none)
