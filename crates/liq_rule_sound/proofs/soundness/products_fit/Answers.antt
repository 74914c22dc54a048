use Rattle.std.proofs.Common.{arith}
use Rattle.liq_rule_sound.proofs.SoundBounds.{due_fits, deposit_fits, rise_fits, raised_fits, product_fits}
use Rattle.liq_rule_sound.proofs.SoundProducts.{offset_fits, liquidate_fits, key_fits, own_sound_fits, lowest_sound_fit, draw_fits, redeem_fits, decay_fits, rate_fits, fees_fit, stake_fits, stake_reached_fits}
use Rattle.liq_rule_sound.proofs.soundness.products_fit.Goals as goal

pub returns-clause-due_coll : goal.returns-clause-due_coll
returns-clause-due_coll c s h account t there = (due_fits s h account t there).0

pub returns-clause-due_debt : goal.returns-clause-due_debt
returns-clause-due_debt c s h account t there = (due_fits s h account t there).1

pub returns-clause-balance : goal.returns-clause-balance
returns-clause-balance c s h account d there = (deposit_fits s h account d there).0

pub returns-clause-gain : goal.returns-clause-gain
returns-clause-gain c s h account d there = (deposit_fits s h account d there).1

pub returns-clause-below : goal.returns-clause-below
returns-clause-below c = omega arith

pub returns-clause-product : goal.returns-clause-product
returns-clause-product c = product_fits

pub returns-clause-offset : goal.returns-clause-offset
returns-clause-offset c = offset_fits

pub returns-clause-liquidate : goal.returns-clause-liquidate
returns-clause-liquidate c = liquidate_fits

pub returns-clause-key : goal.returns-clause-key
returns-clause-key c = key_fits

pub returns-clause-own : goal.returns-clause-own
returns-clause-own c = own_sound_fits

pub returns-clause-lowest : goal.returns-clause-lowest
returns-clause-lowest c = lowest_sound_fit

pub returns-clause-rise : goal.returns-clause-rise
returns-clause-rise c = rise_fits

pub returns-clause-raised : goal.returns-clause-raised
returns-clause-raised c = raised_fits

pub returns-clause-draw : goal.returns-clause-draw
returns-clause-draw c = draw_fits

pub returns-clause-redeem : goal.returns-clause-redeem
returns-clause-redeem c = redeem_fits

pub returns-clause-decay : goal.returns-clause-decay
returns-clause-decay c = decay_fits

pub returns-clause-rates : goal.returns-clause-rates
returns-clause-rates c = rate_fits

pub returns-clause-fees : goal.returns-clause-fees
returns-clause-fees c = fees_fit

pub returns-clause-stake : goal.returns-clause-stake
returns-clause-stake c = stake_fits

pub returns-clause-stake_reached : goal.returns-clause-stake_reached
returns-clause-stake_reached c = stake_reached_fits

pub returns-clause-all_below : goal.returns-clause-all_below
returns-clause-all_below c = (
  omega arith,
  omega arith,
  omega arith,
  omega arith,
  omega arith,
  omega arith,
  omega arith,
  omega arith,
  omega arith,
)
