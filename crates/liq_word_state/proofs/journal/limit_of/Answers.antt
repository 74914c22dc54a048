use Rattle.std.proofs.Common.{ℕ, subst, sym}
use Rattle.liq_types.specs.Image.{IsLimit}
use Rattle.liq_core.specs.Core.{state_of}
use Rattle.liq_rule_sound.proofs.SoundTests.{sound_facts}
use Rattle.liq_word_state.proofs.journal.limit_of.Goals as goal

pub returns-clause-one_of_two : goal.returns-clause-one_of_two
returns-clause-one_of_two c =
    subst (λ (limit : ℕ). IsLimit limit) (sym c.limit.ensures) (sound_facts (state_of c.args.protocol.now)
    c.protocols_are_sound_states.ensures).ranges.limit
