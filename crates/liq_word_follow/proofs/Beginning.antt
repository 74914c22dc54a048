-- Where no byte is fed.
use Rattle.std.proofs.Common.{[], refl}
use Rattle.liq_types.specs.declared.amounts.TheConstants.{LIM}
use Rattle.liq_types.specs.State.{opening_with}
use Rattle.liq_follower.specs.Fed.{GoOn, fed, is_turned}

pub none_goes_on : GoOn []
unfolding fed is_turned
none_goes_on = (opening_with LIM, (refl, refl))
