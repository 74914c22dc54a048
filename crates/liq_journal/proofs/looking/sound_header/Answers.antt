use Rattle.std.proofs.Common.{◌∙◌, Option, IfSome, sym, subst}
use Rattle.liq_disk_header.specs.declared.head.Head.{Head}
use Rattle.liq_journal.specs.Header.{MaybeHeadOf}
use Rattle.liq_journal.proofs.Looks.{looked_on}
use Rattle.liq_journal.proofs.Scanning.{told_digest, told_sound}
use Rattle.liq_journal.proofs.looking.sound_header.Goals as goal

pub returns-then-ne-clause-fault : goal.returns-then-ne-clause-fault
returns-then-ne-clause-fault g c = told_digest c.args.odd c.in-Ok-Some.head c.in-Ok.computed c.header_size.result
    c.fields_size.result c.header_size.ensures.known c.fields_size.ensures (g.D.Disk.at c.args.disk.now).seen
    (g.D.Disk.at c.read_header.new.disk).seen c.read_header.ensures.looked.same
    (subst (λ (h : Option Head). IfSome (g.D.Disk.at c.args.disk.now).seen (λ held. MaybeHeadOf c.args.odd held h))
    c.in-Ok-Some.field-0-is c.in-Ok-Some.ensures.read) c.in-Ok.ensures.told (sym c.ne.ensures ∙ c.if-ne.true)

pub returns-clause-sound : goal.returns-clause-sound
returns-clause-sound g c = told_sound c.args.odd c.in-Ok-Some.head c.in-Ok.computed c.header_size.result
    c.fields_size.result c.header_size.ensures.known c.fields_size.ensures (g.D.Disk.at c.args.disk.now).seen
    (g.D.Disk.at c.read_header.new.disk).seen c.read_header.ensures.looked.same
    (subst (λ (h : Option Head). IfSome (g.D.Disk.at c.args.disk.now).seen (λ held. MaybeHeadOf c.args.odd held h))
    c.in-Ok-Some.field-0-is c.in-Ok-Some.ensures.read) c.in-Ok.ensures.told (sym c.ne.ensures ∙ c.if-ne.false)

pub returns-in-Err-digest_behind-clause-looked : goal.returns-in-Err-digest_behind-clause-looked
returns-in-Err-digest_behind-clause-looked g c = looked_on g.D.Disk.at c.args.disk.now c.read_header.new.disk
    c.digest_behind.new.disk c.read_header.ensures.looked c.digest_behind.ensures.looked

pub returns-then-ne-clause-looked : goal.returns-then-ne-clause-looked
returns-then-ne-clause-looked g c = looked_on g.D.Disk.at c.args.disk.now c.read_header.new.disk
    c.digest_behind.new.disk c.read_header.ensures.looked c.digest_behind.ensures.looked

pub returns-clause-looked : goal.returns-clause-looked
returns-clause-looked g c = looked_on g.D.Disk.at c.args.disk.now c.read_header.new.disk c.digest_behind.new.disk
    c.read_header.ensures.looked c.digest_behind.ensures.looked
