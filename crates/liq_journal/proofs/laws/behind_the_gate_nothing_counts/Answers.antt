use Rattle.liq_journal.proofs.Appending.{stage_left}
use Rattle.liq_journal.proofs.laws.behind_the_gate_nothing_counts.Goals as goal

pub returns : goal.returns
returns c = λ odd held image w n stands few torn. stage_left odd held w stands few n image torn
