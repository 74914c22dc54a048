use Rattle.liq_rule_sound.proofs.SoundBounds.{words_within, amounts_within, reached_snapshot}
use Rattle.liq_rule_sound.proofs.SoundTests.{sound_facts}
use Rattle.liq_rule_sound.proofs.soundness.sound_states_stay_within_bounds.Goals as goal

pub returns-clause-limit : goal.returns-clause-limit
returns-clause-limit c s h = (sound_facts s h).ranges.limit

pub returns-clause-inside : goal.returns-clause-inside
returns-clause-inside c s h = let f = sound_facts s h in (f.limited.coll, f.limited.debt)

pub returns-clause-words : goal.returns-clause-words
returns-clause-words c = words_within

pub returns-clause-amounts : goal.returns-clause-amounts
returns-clause-amounts c = amounts_within

pub returns-clause-snapshot : goal.returns-clause-snapshot
returns-clause-snapshot c = reached_snapshot
