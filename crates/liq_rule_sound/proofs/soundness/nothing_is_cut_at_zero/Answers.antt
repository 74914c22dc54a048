use Rattle.liq_rule_sound.proofs.SoundBounds.{trove_covered, deposit_covered, pool_whole, wallet_covered, surplus_covered, fee_minute_past}
use Rattle.liq_rule_sound.proofs.soundness.nothing_is_cut_at_zero.Goals as goal

pub returns-clause-troves : goal.returns-clause-troves
returns-clause-troves c = trove_covered

pub returns-clause-deposits : goal.returns-clause-deposits
returns-clause-deposits c = deposit_covered

pub returns-clause-pool : goal.returns-clause-pool
returns-clause-pool c = pool_whole

pub returns-clause-wallets : goal.returns-clause-wallets
returns-clause-wallets c s h account = (wallet_covered s h account).0

pub returns-clause-surplus : goal.returns-clause-surplus
returns-clause-surplus c = surplus_covered

pub returns-clause-minute : goal.returns-clause-minute
returns-clause-minute c = fee_minute_past
