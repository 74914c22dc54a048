use Rattle.liq_stability.proofs.LawfulLists.{lawful_joined, lawful_first, lawful_rest}
use Rattle.liq_stability.proofs.laws.lawful_lists_join.Goals as goal

pub returns-clause-joined : goal.returns-clause-joined
returns-clause-joined c most s first rest h k = lawful_joined most s first rest h k

pub returns-clause-first : goal.returns-clause-first
returns-clause-first c most s first rest h = lawful_first most s first rest h

pub returns-clause-rest : goal.returns-clause-rest
returns-clause-rest c most s first rest h = lawful_rest most s first rest h
