use Rattle.std.proofs.Common.{◌≡◌, IfSome, length, take, ap, arith}
use Rattle.liq_journal.specs.declared.block.TheConstants.{BLOCK_BYTES}
use Rattle.liq_journal.specs.Parts.{bytes_from}
use Rattle.liq_disk_header.specs.Layout.{piece}
use Rattle.liq_journal.proofs.Going.{on_ok_from}
use Rattle.liq_journal.proofs.Parting.{told_there, told_begun}
use Rattle.liq_journal.proofs.block.Block.reach.Goals as goal

pub returns-then-count-from-clause-reached : goal.returns-then-count-from-clause-reached
returns-then-count-from-clause-reached g c =
    told_there (g.D.Disk.at c.args.disk.now).seen c.args.at c.args.count c.args.self.now (omega (
      arith,
      c.if-count-from.true,
      ap length c.from.ensures,
    )) c.requires.part

pub returns-clause-reached : goal.returns-clause-reached
returns-clause-reached g c =
    on_ok_from c.fill.result (IfSome (g.D.Disk.at c.args.disk.now).seen (λ held. c.fill.new.self.bytes
    ≡ piece c.args.at BLOCK_BYTES held)) (IfSome (g.D.Disk.at c.args.disk.now).seen (λ held. take c.args.count
    (bytes_from c.args.at c.fill.new.self) ≡ piece c.args.at c.args.count held))
    (told_begun (g.D.Disk.at c.args.disk.now).seen c.args.at c.args.count BLOCK_BYTES c.fill.new.self c.fill.ensures.at
    c.requires.few) c.fill.ensures.filled
