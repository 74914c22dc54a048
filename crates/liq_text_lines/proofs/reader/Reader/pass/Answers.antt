use Rattle.std.proofs.Common.{sym}
use Rattle.liq_text_lines.proofs.Taken.{passed}
use Rattle.liq_text_lines.proofs.reader.Reader.pass.Goals as goal

pub returns-clause-rest : goal.returns-clause-rest
returns-clause-rest c =
    passed c.args.self.now c.self.inside.chunk.items c.self.inside.start c.args.size c.self.inside.end
    (sym c.self.view_is) c.self.invariant.0 c.requires
