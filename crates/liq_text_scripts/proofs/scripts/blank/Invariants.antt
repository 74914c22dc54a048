use Rattle.std.proofs.Common.{◌≡◌, []}
use Rattle.std.specs.Prelude.{map}
use Rattle.std.specs.List.{range_with_len}
use Rattle.liq_text_scripts.specs.BySession.{script_of}
use Rattle.liq_text_scripts.proofs.scripts.blank.Given as goal

-- the scripts of the first sessions
abbrev pub invariant-loop-before : goal.invariant-loop-before
invariant-loop-before l = l.scripts.items ≡ map (script_of []) (range_with_len 1 l.before)
