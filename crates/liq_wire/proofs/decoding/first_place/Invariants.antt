use Rattle.std.proofs.Common.{◌≡◌, drop}
use Rattle.liq_wire.specs.Fields.{first_place}
use Rattle.liq_wire.proofs.decoding.first_place.Given as goal

abbrev pub invariant-loop-misfits : goal.invariant-loop-misfits
invariant-loop-misfits l = first_place (drop l.misfits-index l.tests) ≡ first_place l.tests
