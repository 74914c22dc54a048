use Rattle.std.proofs.Common.{◌+◌, ℕ, Option, IfSome, Err, refl, sym, subst, ap}
use Rattle.liq_disk_header.specs.declared.head.Head.{Head}
use Rattle.liq_journal.specs.declared.answers.OpenWhy.{OpenWhy}
use Rattle.liq_journal.specs.Header.{MaybeSoundHeadOf}
use Rattle.liq_journal.specs.Counted.{AreRecords, IsFaultIn}
use Rattle.liq_journal.specs.Opened.{IsWhyOf}
use Rattle.liq_journal.proofs.Looks.{looked_on}
use Rattle.liq_journal.proofs.Scanning.{told_absent_header, told_header_fault, told_scan, told_record_fault, told_unread}
use Rattle.liq_journal.proofs.open.scan.Goals as goal

pub returns-in-Err-read_checkpoint-clause-looked : goal.returns-in-Err-read_checkpoint-clause-looked
returns-in-Err-read_checkpoint-clause-looked g c = looked_on g.D.Disk.at c.args.disk.now c.sound_header.new.disk
    c.read_checkpoint.new.disk c.sound_header.ensures.looked c.read_checkpoint.ensures.looked

pub returns-in-Ok-count_records-clause-looked : goal.returns-in-Ok-count_records-clause-looked
returns-in-Ok-count_records-clause-looked g c = looked_on g.D.Disk.at c.args.disk.now c.read_checkpoint.new.disk
    c.count_records.new.disk (looked_on g.D.Disk.at c.args.disk.now c.sound_header.new.disk c.read_checkpoint.new.disk
    c.sound_header.ensures.looked c.read_checkpoint.ensures.looked) c.count_records.ensures.looked

pub returns-in-Err-count_records-clause-looked : goal.returns-in-Err-count_records-clause-looked
returns-in-Err-count_records-clause-looked g c = looked_on g.D.Disk.at c.args.disk.now c.read_checkpoint.new.disk
    c.count_records.new.disk (looked_on g.D.Disk.at c.args.disk.now c.sound_header.new.disk c.read_checkpoint.new.disk
    c.sound_header.ensures.looked c.read_checkpoint.ensures.looked) c.count_records.ensures.looked

pub returns-in-Ok-count_records-clause-found : goal.returns-in-Ok-count_records-clause-found
returns-in-Ok-count_records-clause-found g c = told_scan c.args.odd c.in-Ok-Some.head (g.D.Disk.at c.args.disk.now).seen
    (subst (λ (h : Option Head). IfSome (g.D.Disk.at c.args.disk.now).seen (λ held. MaybeSoundHeadOf c.args.odd held h))
    c.in-Ok-Some.field-0-is c.in-Ok-Some.ensures.sound) c.in-Ok.checkpoint.items
    c.header_size-header.result c.header_size-header.ensures.known (g.D.Disk.at c.sound_header.new.disk).seen
    c.sound_header.ensures.looked.same c.in-Ok.ensures.read (g.D.Disk.at c.read_checkpoint.new.disk).seen
    c.read_checkpoint.ensures.looked.same (record {
      generation = c.in-Ok-Some.head.generation;
      limit = c.in-Ok-Some.head.limit;
      start = c.header_size-header.result + c.in-Ok-Some.head.size;
      count =
          c.in-Ok-count_records.count;
      checkpoint = c.in-Ok.checkpoint;
    }) refl refl
    (ap (λ (n : ℕ). n + c.in-Ok-Some.head.size) c.header_size-header.ensures.known) refl
    (subst (λ (n : ℕ). IfSome (g.D.Disk.at c.read_checkpoint.new.disk).seen
    (λ held. AreRecords c.in-Ok-Some.head.generation (n + c.in-Ok-Some.head.size) held c.in-Ok-count_records.count))
    c.header_size-header.ensures.known c.in-Ok-count_records.ensures.counted)

pub returns-in-Err-count_records-clause-why : goal.returns-in-Err-count_records-clause-why
returns-in-Err-count_records-clause-why g c = subst (λ (y : OpenWhy). IfSome (g.D.Disk.at c.args.disk.now).seen
    (λ held. IsWhyOf c.args.odd held y)) (sym c.why_of-in-Err-count_records.ensures)
    (told_record_fault c.args.odd c.in-Ok-Some.head (g.D.Disk.at c.args.disk.now).seen
    (subst (λ (h : Option Head). IfSome (g.D.Disk.at c.args.disk.now).seen (λ held. MaybeSoundHeadOf c.args.odd held h))
    c.in-Ok-Some.field-0-is c.in-Ok-Some.ensures.sound) c.in-Ok.checkpoint.items
    c.header_size-header.result c.header_size-header.ensures.known (g.D.Disk.at c.sound_header.new.disk).seen
    c.sound_header.ensures.looked.same c.in-Ok.ensures.read (g.D.Disk.at c.read_checkpoint.new.disk).seen
    c.read_checkpoint.ensures.looked.same c.in-Err-count_records.why
    (subst (λ (n : ℕ). IfSome (g.D.Disk.at c.read_checkpoint.new.disk).seen
    (λ held. IsFaultIn c.in-Ok-Some.head.generation (n + c.in-Ok-Some.head.size) held c.in-Err-count_records.why))
    c.header_size-header.ensures.known c.in-Err-count_records.ensures.fault))

pub returns-in-Err-read_checkpoint-clause-why : goal.returns-in-Err-read_checkpoint-clause-why
returns-in-Err-read_checkpoint-clause-why g c = told_unread c.args.odd c.in-Ok-Some.head
    (g.D.Disk.at c.args.disk.now).seen (subst (λ (h : Option Head). IfSome (g.D.Disk.at c.args.disk.now).seen
    (λ held. MaybeSoundHeadOf c.args.odd held h)) c.in-Ok-Some.field-0-is c.in-Ok-Some.ensures.sound)
    c.in-Err-read_checkpoint.why (λ is. c.in-Err-read_checkpoint.ensures.absent (ap Err is))
    (λ damage is. c.in-Err-read_checkpoint.ensures.damaged damage (ap Err is))

pub returns-in-Ok-None-clause-why : goal.returns-in-Ok-None-clause-why
returns-in-Ok-None-clause-why g c = told_absent_header c.args.odd (g.D.Disk.at c.args.disk.now).seen
    (subst (λ (h : Option Head). IfSome (g.D.Disk.at c.args.disk.now).seen (λ held. MaybeSoundHeadOf c.args.odd held h))
    c.in-Ok-None.field-0-is c.in-Ok-None.ensures.sound)

pub returns-in-Err-clause-why : goal.returns-in-Err-clause-why
returns-in-Err-clause-why g c = subst (λ (y : OpenWhy). IfSome (g.D.Disk.at c.args.disk.now).seen
    (λ held. IsWhyOf c.args.odd held y)) (sym c.why_of.ensures) (told_header_fault c.args.odd
    (g.D.Disk.at c.args.disk.now).seen c.in-Err.why c.in-Err.ensures.fault)
