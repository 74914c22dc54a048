use Rattle.std.proofs.Common.{◌<◌, ◌^◌, sym, subst, arith}
use Rattle.liq_types.specs.declared.figures.Trove.{Trove}
use Rattle.liq_types.proofs.Lookups.{all-at}
use Rattle.liq_troves.specs.declared.sums.Sums.{Sums}
use Rattle.liq_troves.specs.Rows.{entire_by}
use Rattle.liq_redemption.specs.Given.{IsEntireWithin}
use Rattle.liq_redemption.proofs.visit.visit_at.Goals as goal

pub entire-coll-requires-clause-coll : goal.entire-coll-requires-clause-coll
entire-coll-requires-clause-coll c =
    let w = all-at (λ (t : Trove). IsEntireWithin (entire_by c.args.troves.now.sums t)) c.args.troves.now.table.rows
    c.args.account c.in_ok-trove.trove.now c.requires.entire (sym c.in_ok-trove.ensures.row) in
    subst (λ (s : Sums). (entire_by s c.in_ok-trove.trove.now).0 < 2 ^ 64) (sym c.sums.ensures.sums) (omega (
      arith,
      w.coll,
    ))

pub entire-coll-requires-clause-debt : goal.entire-coll-requires-clause-debt
entire-coll-requires-clause-debt c =
    let w = all-at (λ (t : Trove). IsEntireWithin (entire_by c.args.troves.now.sums t)) c.args.troves.now.table.rows
    c.args.account c.in_ok-trove.trove.now c.requires.entire (sym c.in_ok-trove.ensures.row) in
    subst (λ (s : Sums). (entire_by s c.in_ok-trove.trove.now).1 < 2 ^ 64) (sym c.sums.ensures.sums) (omega (
      arith,
      w.debt,
    ))
