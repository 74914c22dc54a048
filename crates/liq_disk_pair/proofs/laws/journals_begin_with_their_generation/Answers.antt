use Rattle.liq_disk_pair.proofs.Basing.{base_generation, base_limit, outcome_first}
use Rattle.liq_disk_pair.proofs.Replaying.{base_formed}
use Rattle.liq_disk_pair.proofs.laws.journals_begin_with_their_generation.Goals as goal

pub returns-clause-formed : goal.returns-clause-formed
returns-clause-formed c = base_formed

pub returns-clause-generation : goal.returns-clause-generation
returns-clause-generation c = base_generation

pub returns-clause-limit : goal.returns-clause-limit
returns-clause-limit c = base_limit

pub returns-clause-first : goal.returns-clause-first
returns-clause-first c = outcome_first
