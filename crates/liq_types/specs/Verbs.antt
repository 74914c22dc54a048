-- What a call is, whatever its arguments.
use Rattle.std.specs.Prelude.{Bool, true, false}
use Rattle.liq_types.specs.declared.requests.Call.{Call}
use Rattle.liq_types.specs.declared.requests.Call.TheVariants.{Rotate}

-- whether it begins a new generation of the journal: such a command has no record
abbrev pub is_rotate : Call → Bool
is_rotate Rotate = true
is_rotate _ = false
