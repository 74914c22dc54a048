use Rattle.std.proofs.Common.{rules, arith}
use Rattle.liq_journal.proofs.Testing.{tested_whole, tested_fault}
use Rattle.liq_journal.proofs.records.read_record.Goals as goal

pub returns-in-Ok-test_record-clause-tested : goal.returns-in-Ok-test_record-clause-tested
returns-in-Ok-test_record-clause-tested g c = tested_whole (g.D.Disk.at c.args.disk.now).seen c.args.generation
    c.args.index
    c.args.place c.in-Ok.count c.copy.new.buf c.split-raw.result.body c.split-raw.result.stored
    (omega arith) c.in-Ok.ensures.told (search rules) c.split-raw.ensures.body c.split-raw.ensures.stored
    c.in-Ok-test_record.field-0 c.in-Ok-test_record.ensures

pub returns-in-Err-test_record-clause-fault : goal.returns-in-Err-test_record-clause-fault
returns-in-Err-test_record-clause-fault g c = tested_fault (g.D.Disk.at c.args.disk.now).seen c.args.generation
    c.args.index
    c.args.place c.in-Ok.count c.copy.new.buf c.split-raw.result.body c.split-raw.result.stored
    (omega arith) c.in-Ok.ensures.told (search rules) c.split-raw.ensures.body c.split-raw.ensures.stored
    c.in-Err-test_record.what c.in-Err-test_record.ensures
