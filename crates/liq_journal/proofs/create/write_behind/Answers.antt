use Rattle.std.proofs.Common.{length}
use Rattle.liq_journal.proofs.Creating.{write_leaves_shut}
use Rattle.liq_journal.proofs.create.write_behind.Goals as goal

pub returns-clause-crash : goal.returns-clause-crash
returns-clause-crash g c = λ shut. write_leaves_shut g.D.Disk.at c.args.disk.now c.write_at.new.self c.args.at
    (length c.args.bytes.now) c.requires.behind c.write_at.ensures.time c.write_at.ensures.crash shut
