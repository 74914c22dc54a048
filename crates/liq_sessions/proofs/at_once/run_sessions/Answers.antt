use Rattle.liq_sessions.proofs.Running.{all_ready}
use Rattle.liq_sessions.proofs.at_once.run_sessions.Goals as goal

pub run_all-requires-clause-ready : goal.run_all-requires-clause-ready
run_all-requires-clause-ready g c κs within = all_ready _ _ _ c.requires.belong c.requires.short
    (rw c.as_slice.ensures.value at c.in-Ok.ensures)
