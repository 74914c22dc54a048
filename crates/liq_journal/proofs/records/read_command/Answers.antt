use Rattle.std.proofs.Common.{rules}
use Rattle.liq_journal.proofs.Bodies.{told_command, told_fault, raw_fault}
use Rattle.liq_journal.proofs.records.read_command.Goals as goal

pub returns-in-Ok-decode_record-clause-told : goal.returns-in-Ok-decode_record-clause-told
returns-in-Ok-decode_record-clause-told g c = told_command (g.D.Disk.at c.args.disk.now).seen c.args.generation
    c.args.index
    c.args.place c.in-Ok.field-0 c.copy.new.buf c.split-raw.result.body c.split-raw.result.stored c.in-Ok.ensures.told
    (search rules) c.split-raw.ensures.body c.split-raw.ensures.stored c.in-Ok-decode_record.command
    c.in-Ok-decode_record.ensures

pub returns-in-Err-decode_record-clause-told : goal.returns-in-Err-decode_record-clause-told
returns-in-Err-decode_record-clause-told g c = told_fault (g.D.Disk.at c.args.disk.now).seen c.args.generation
    c.args.index
    c.args.place c.in-Ok.field-0 c.copy.new.buf c.split-raw.result.body c.split-raw.result.stored c.in-Ok.ensures.told
    (search rules) c.split-raw.ensures.body c.split-raw.ensures.stored c.in-Err-decode_record.what
    c.in-Err-decode_record.ensures

pub returns-in-Err-decode_record-clause-damaged : goal.returns-in-Err-decode_record-clause-damaged
returns-in-Err-decode_record-clause-damaged g c = raw_fault (g.D.Disk.at c.args.disk.now).seen c.args.generation
    c.args.index
    c.args.place c.in-Ok.field-0 c.copy.new.buf c.split-raw.result.body c.split-raw.result.stored c.in-Ok.ensures.told
    (search rules) c.split-raw.ensures.body c.split-raw.ensures.stored c.in-Err-decode_record.what
    c.in-Err-decode_record.ensures
