use Rattle.std.proofs.Common.{◌*◌, ◌^◌}
use Rattle.std.proofs.Math.Nat.{div-div-eq-div-mul}
use Rattle.liq_stability.proofs.laws.balance_rounds_once.Goals as goal

pub returns : goal.returns
returns c amount p mark rise = div-div-eq-div-mul (amount * p) mark (10 ^ (9 * rise))
