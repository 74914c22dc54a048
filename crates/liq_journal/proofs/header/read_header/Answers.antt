use Rattle.std.proofs.Common.{arith, IfSome, get_or, sym, subst, ◌∙◌}
use Rattle.liq_journal.specs.declared.answers.LookFault.{LookFault}
use Rattle.liq_journal.specs.Header.{IsDamageOf}
use Rattle.liq_journal.proofs.HeaderFound.{open_front, told_absent, told_misplaced, told_short, told_head}
use Rattle.liq_journal.proofs.Looks.{looked_on}
use Rattle.liq_journal.proofs.header.read_header.Goals as goal

pub returns-then-is_absent-clause-read : goal.returns-then-is_absent-clause-read
returns-then-is_absent-clause-read g c = told_absent (g.D.Disk.at c.args.disk.now).seen c.args.odd c.in-Ok.count
    c.read_at.new.buf c.in-Ok.ensures.told (sym c.is_absent.ensures ∙ c.if-is_absent.true)

pub returns-in-Err-placed-clause-fault : goal.returns-in-Err-placed-clause-fault
returns-in-Err-placed-clause-fault g c = subst (λ (why : LookFault). IfSome (g.D.Disk.at c.args.disk.now).seen
    (λ held. IsDamageOf c.args.odd held why)) (sym c.form.ensures) (told_misplaced (g.D.Disk.at c.args.disk.now).seen
    c.args.odd c.in-Ok.count c.read_at.new.buf c.in-Ok.ensures.told (open_front c.in-Ok.count
    (get_or c.read_at.new.buf 0 0) c.is_absent.result c.is_absent.ensures c.if-is_absent.false) c.in-Err-placed.place
    c.in-Err-placed.ensures.placed)

pub returns-then-length-header_size-clause-fault : goal.returns-then-length-header_size-clause-fault
returns-then-length-header_size-clause-fault g c = subst (λ (why : LookFault). IfSome (g.D.Disk.at c.args.disk.now).seen
    (λ held. IsDamageOf c.args.odd held why)) (sym c.form-then-length-header_size.ensures)
    (told_short (g.D.Disk.at c.args.disk.now).seen c.args.odd c.in-Ok.count c.read_at.new.buf c.in-Ok.ensures.told
    (open_front c.in-Ok.count (get_or c.read_at.new.buf 0 0) c.is_absent.result c.is_absent.ensures
    c.if-is_absent.false) c.in-Ok-placed.head c.in-Ok-placed.ensures.placed.0 c.in-Ok-placed.ensures.placed.1
    (g.D.Disk.at c.read_at.new.disk).seen c.read_at.ensures.looked.same c.in-Ok-count_bytes.length
    c.in-Ok-count_bytes.ensures.told (omega arith))

pub returns-clause-read : goal.returns-clause-read
returns-clause-read g c = told_head (g.D.Disk.at c.args.disk.now).seen c.args.odd c.in-Ok.count c.read_at.new.buf
    c.in-Ok.ensures.told (open_front c.in-Ok.count (get_or c.read_at.new.buf 0 0) c.is_absent.result c.is_absent.ensures
    c.if-is_absent.false) c.in-Ok-placed.head c.in-Ok-placed.ensures.placed.0 c.in-Ok-placed.ensures.placed.1
    (g.D.Disk.at c.read_at.new.disk).seen c.read_at.ensures.looked.same c.in-Ok-count_bytes.length
    c.in-Ok-count_bytes.ensures.told (omega arith)

pub returns-in-Err-count_bytes-clause-looked : goal.returns-in-Err-count_bytes-clause-looked
returns-in-Err-count_bytes-clause-looked g c =
    looked_on g.D.Disk.at c.args.disk.now c.read_at.new.disk c.count_bytes.new.disk c.read_at.ensures.looked
    c.count_bytes.ensures.looked

pub returns-then-length-header_size-clause-looked : goal.returns-then-length-header_size-clause-looked
returns-then-length-header_size-clause-looked g c =
    looked_on g.D.Disk.at c.args.disk.now c.read_at.new.disk c.count_bytes.new.disk c.read_at.ensures.looked
    c.count_bytes.ensures.looked

pub returns-clause-looked : goal.returns-clause-looked
returns-clause-looked g c = looked_on g.D.Disk.at c.args.disk.now c.read_at.new.disk c.count_bytes.new.disk
    c.read_at.ensures.looked c.count_bytes.ensures.looked
