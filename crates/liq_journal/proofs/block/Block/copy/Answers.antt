use Rattle.std.proofs.Common.{◌≡◌, ◌++◌, List, ℕ, IfSome, length, take, drop, sym, subst, rules}
use Rattle.liq_disk_header.specs.Layout.{piece}
use Rattle.liq_journal.proofs.Parting.{copied, front_of}
use Rattle.liq_journal.proofs.block.Block.copy.Goals as goal

pub returns-clause-told : goal.returns-clause-told
returns-clause-told g c =
    copied (g.D.Disk.at c.args.disk.now).seen c.args.at c.min-count.result c.from-bytes.result.now c.args.buf.now
    (c.copy_from_slice.new.self ++ drop c.min-count.result c.args.buf.now) (search rules)
    (front_of c.min-count.result c.from-bytes.result.now c.args.buf.now c.copy_from_slice.new.self (search rules)
    (search rules))
    (subst (λ (l : List ℕ). IfSome (g.D.Disk.at c.args.disk.now).seen (λ held. take (length c.args.buf.now) l
    ≡ piece c.args.at (length c.args.buf.now) held)) (sym c.from-bytes.ensures) c.in_ok-reach.ensures.reached)
