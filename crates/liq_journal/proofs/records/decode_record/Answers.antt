use Rattle.std.proofs.Common.{rules}
use Rattle.liq_journal.proofs.Bodies.{spells}
use Rattle.liq_journal.proofs.records.decode_record.Goals as goal

pub returns-in_default : goal.returns-in_default
returns-in_default c = spells c.args.generation c.args.index c.args.place c.args.raw.now.body c.args.raw.now.stored
    c.test_record.result (search rules) c.test_record.ensures
