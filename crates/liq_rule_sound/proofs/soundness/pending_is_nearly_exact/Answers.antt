use Rattle.liq_rule_sound.proofs.SoundBounds.{pending_short, reached_marks}
use Rattle.liq_rule_sound.proofs.soundness.pending_is_nearly_exact.Goals as goal

pub returns-clause-coll : goal.returns-clause-coll
returns-clause-coll c s h t n e = (pending_short s h t n e).0

pub returns-clause-debt : goal.returns-clause-debt
returns-clause-debt c s h t n e = (pending_short s h t n e).1

pub returns-clause-reached : goal.returns-clause-reached
returns-clause-reached c = reached_marks
