use Rattle.liq_rule_sound.proofs.SoundBorrow.{change_covered}
use Rattle.liq_rule_sound.proofs.SoundLiquidate.{ones_covered, lowest_stand}
use Rattle.liq_rule_sound.proofs.SoundRedeem.{cuts_covered, cuts_within}
use Rattle.liq_rule_sound.proofs.SoundStep.{finds}
use Rattle.liq_rule_sound.proofs.SoundTests.{sound_facts}
use Rattle.liq_rule_sound.proofs.soundness.calls_take_what_is_there.Goals as goal

pub returns-clause-adjust : goal.returns-clause-adjust
returns-clause-adjust c s h account bound change own there r =
    change_covered s (finds s (sound_facts s h)) account bound change own there r

pub returns-clause-liquidate : goal.returns-clause-liquidate
returns-clause-liquidate c s h account made own e there =
    ones_covered s (finds s (sound_facts s h)) account made own e there

pub returns-clause-lowest : goal.returns-clause-lowest
returns-clause-lowest c s h count = lowest_stand count s (finds s (sound_facts s h))

pub returns-clause-redeem : goal.returns-clause-redeem
returns-clause-redeem c s h amount = cuts_covered s (finds s (sound_facts s h)) amount

pub returns-clause-redeem_together : goal.returns-clause-redeem_together
returns-clause-redeem_together c s h amount = cuts_within s (finds s (sound_facts s h)) amount
