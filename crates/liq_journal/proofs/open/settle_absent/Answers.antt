use Rattle.std.proofs.Common.{◌≡◌, ◌∙◌, true}
use Rattle.liq_journal.proofs.Settling.{absent_looked, absent_written, is_true}
use Rattle.liq_journal.proofs.open.settle_absent.Goals as goal

pub returns-in_err-is_unshut-clause-crash : goal.returns-in_err-is_unshut-clause-crash
returns-in_err-is_unshut-clause-crash g c =
    λ held told only. absent_looked g.D.Disk.at c.args.disk.now c.is_unshut.new.disk c.is_unshut.new.disk held only
    c.is_unshut.ensures.looked.leaves

pub returns-then-not-branch-clause-crash : goal.returns-then-not-branch-clause-crash
returns-then-not-branch-clause-crash g c = λ held told only. absent_looked g.D.Disk.at c.args.disk.now
    c.is_unshut.new.disk c.is_unshut.new.disk held only c.is_unshut.ensures.looked.leaves

pub returns-clause-crash : goal.returns-clause-crash
returns-clause-crash g c = λ held told only.
    let so : c.in_ok-is_unshut.field-0 ≡ true = c.if-not-branch.false in
    absent_written g.D.Disk.at c.args.disk.now c.is_unshut.new.disk c.write_synced.new.disk held only
    c.is_unshut.ensures.looked.leaves c.in_ok-is_unshut.field-0 (is_true c.in_ok-is_unshut.field-0 so)
    (g.D.Disk.at c.args.disk.now).seen told c.in_ok-is_unshut.ensures.told
    (c.write_synced.ensures.crash held (c.is_unshut.ensures.looked.same
    ∙ told) (λ image left. only image (c.is_unshut.ensures.looked.within image left)))
