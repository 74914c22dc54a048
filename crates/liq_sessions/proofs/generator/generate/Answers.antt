use Rattle.liq_sessions.proofs.Coming.{coming_length}
use Rattle.liq_sessions.proofs.generator.generate.Goals as goal

pub returns-clause-many : goal.returns-clause-many
returns-clause-many c = coming_length c.args.seed 0 c.args.count
