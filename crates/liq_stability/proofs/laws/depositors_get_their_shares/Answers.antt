use Rattle.std.proofs.Common.{arith}
use Rattle.liq_types.specs.declared.amounts.TheConstants.{LIM}
use Rattle.liq_stability.proofs.Promise.{within_allowance}
use Rattle.liq_stability.proofs.laws.depositors_get_their_shares.Goals as goal

pub returns : goal.returns
returns c events lawful account = within_allowance LIM (omega arith) events lawful account
