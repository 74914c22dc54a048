use Rattle.liq_troves.proofs.Standing.{lift_stands, place_stands, spread_stands, snap_stands}
use Rattle.liq_troves.proofs.laws.troves_stand.Goals as goal

pub returns-clause-lift : goal.returns-clause-lift
returns-clause-lift c = lift_stands

pub returns-clause-place : goal.returns-clause-place
returns-clause-place c = place_stands

pub returns-clause-spread : goal.returns-clause-spread
returns-clause-spread c = spread_stands

pub returns-clause-snap : goal.returns-clause-snap
returns-clause-snap c = snap_stands
