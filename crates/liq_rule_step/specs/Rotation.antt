-- Rotation: the journal begins anew from a checkpoint, under the widest limit. What it refuses are
-- the journal's limits alone, which need the whole command and come last.
use Rattle.std.specs.Prelude.{◌+◌, [], ◌∷◌}
use Rattle.liq_types.specs.declared.amounts.TheConstants.{LIM}
use Rattle.liq_types.specs.State.{State}
use Rattle.liq_rule_step.specs.Row.{Row}

abbrev pub rotate_row : State → Row
rotate_row s =
    let generation = s.generation + 1 in
    record {
      rules = [];
      effect = record s { generation = generation; limit = LIM };
      values = generation ∷ [];
      events = [];
      changes = [];
    }
