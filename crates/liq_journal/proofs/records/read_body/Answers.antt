use Rattle.std.proofs.Common.{◌+◌, rules}
use Rattle.liq_journal.proofs.Bodies.{body_spells, told_body, told_fault, raw_fault}
use Rattle.liq_journal.proofs.records.read_body.Goals as goal

pub returns-in-Ok-test_record-clause-command : goal.returns-in-Ok-test_record-clause-command
returns-in-Ok-test_record-clause-command g c = (
  c.in-Ok-test_record.field-0,
  body_spells c.args.generation c.args.index
      (c.args.place + 1) c.split-raw.result.body c.split-raw.result.stored c.in-Ok-test_record.field-0
      (search rules) c.in-Ok-test_record.ensures,
)

pub returns-in-Ok-test_record-clause-told : goal.returns-in-Ok-test_record-clause-told
returns-in-Ok-test_record-clause-told g c = told_body (g.D.Disk.at c.args.disk.now).seen c.args.generation c.args.index
    c.args.place c.in-Ok.field-0 c.read_at.new.buf c.split-raw.result.body c.split-raw.result.stored
    c.in-Ok.ensures.told (search rules) c.split-raw.ensures.body c.split-raw.ensures.stored c.in-Ok-test_record.field-0
    c.in-Ok-test_record.ensures

pub returns-in-Err-test_record-clause-told : goal.returns-in-Err-test_record-clause-told
returns-in-Err-test_record-clause-told g c = told_fault (g.D.Disk.at c.args.disk.now).seen c.args.generation
    c.args.index
    c.args.place c.in-Ok.field-0 c.read_at.new.buf c.split-raw.result.body c.split-raw.result.stored
    c.in-Ok.ensures.told (search rules) c.split-raw.ensures.body c.split-raw.ensures.stored c.in-Err-test_record.what
    c.in-Err-test_record.ensures

pub returns-in-Err-test_record-clause-damaged : goal.returns-in-Err-test_record-clause-damaged
returns-in-Err-test_record-clause-damaged g c = raw_fault (g.D.Disk.at c.args.disk.now).seen c.args.generation
    c.args.index
    c.args.place c.in-Ok.field-0 c.read_at.new.buf c.split-raw.result.body c.split-raw.result.stored
    c.in-Ok.ensures.told (search rules) c.split-raw.ensures.body c.split-raw.ensures.stored c.in-Err-test_record.what
    c.in-Err-test_record.ensures
