use Rattle.std.proofs.Common.{Option, IfSome, subst}
use Rattle.liq_disk_header.specs.declared.head.Head.{Head}
use Rattle.liq_journal.specs.Header.{MaybeSoundHeadOf}
use Rattle.liq_journal.proofs.Scanning.{told_look}
use Rattle.liq_journal.proofs.looking.look.Goals as goal

pub returns-in-Ok-Some-clause-told : goal.returns-in-Ok-Some-clause-told
returns-in-Ok-Some-clause-told g c = told_look c.args.odd c.in-Ok-Some.head (g.D.Disk.at c.args.disk.now).seen
    (subst (λ (h : Option Head). IfSome (g.D.Disk.at c.args.disk.now).seen (λ held. MaybeSoundHeadOf c.args.odd held h))
    c.in-Ok-Some.field-0-is c.in-Ok-Some.ensures.sound)
