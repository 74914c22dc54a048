use Rattle.liq_fees.proofs.Holding.{within_allowance}
use Rattle.liq_fees.proofs.laws.gains_are_shares.Goals as goal

pub returns : goal.returns
returns c asset account past = within_allowance asset account past
