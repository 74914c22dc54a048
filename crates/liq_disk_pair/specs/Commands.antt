-- Which commands stand on two disks behind those that are accepted.
use Rattle.std.specs.Prelude.{List, [], ◌∷◌, ◌++◌, fold, if◌then◌else◌}
use Rattle.liq_types.specs.declared.requests.Command.{Command}
use Rattle.liq_types.specs.Verbs.{is_rotate}
use Rattle.liq_wire.specs.Fields.{heard}

-- a command as its record is read back: the greatest hint word is none
abbrev pub read_back : Command → Command
read_back c = record c { call = heard c.call }

-- An accepted command stands behind those that are held. With a rotation the next generation
-- begins, which has none.
abbrev pub held_after : List Command → Command → List Command
held_after held c = if is_rotate c.call then [] else held ++ read_back c ∷ []

-- the commands behind these, once all of those are accepted in their order
abbrev pub kept_behind : List Command → List Command → List Command
kept_behind held accepted = fold held_after held accepted
