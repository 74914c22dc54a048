use Rattle.std.proofs.Common.{arith}
use Rattle.liq_list_chunks.proofs.Nearest.{last_at}
use Rattle.liq_list_chunks.proofs.chunks.last_in.Goals as goal

pub returns-in_default : goal.returns-in_default
returns-in_default c = last_at c.args.first c.args.rest.now _ _ (omega arith)
