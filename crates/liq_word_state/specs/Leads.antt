-- Commands that lead to a state.
use Rattle.std.specs.Prelude.{◌≡◌, List, Ok}
use Rattle.liq_types.specs.declared.requests.Command.{Command}
use Rattle.liq_types.specs.State.{State, opening_with}
use Rattle.liq_disk_pair.specs.Replay.{replay}

-- They are all commands from the opening under its limit to this state of the first generation.
abbrev pub LeadTo : List Command → State → Type 0
LeadTo commands s = (s.generation ≡ 1) × (replay 1 (opening_with s.limit) commands ≡ Ok s)
