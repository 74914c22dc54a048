use Rattle.std.proofs.Common.{length, rules}
use Rattle.liq_journal.specs.declared.block.TheConstants.{BLOCK_BYTES}
use Rattle.liq_journal.proofs.Parting.{read_all}
use Rattle.liq_journal.proofs.block.Block.fill.Goals as goal

pub returns-clause-filled : goal.returns-clause-filled
returns-clause-filled g c = read_all (g.D.Disk.at c.args.disk.now).seen c.args.at c.in_ok-self-inside.field-0
    (length c.self.inside.bytes) BLOCK_BYTES c.read_at.new.buf (search rules) c.in_ok-self-inside.ensures.told
