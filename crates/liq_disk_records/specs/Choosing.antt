-- Which of two journals goes on.
use Rattle.std.specs.Prelude.{ℕ, nat_lt, if◌then◌else◌}
use Rattle.liq_disk_pair.specs.declared.side.Side.{Side}
use Rattle.liq_disk_pair.specs.declared.side.Side.TheVariants.{Left, Right}

-- Of two journals that of the greater generation is taken.
abbrev pub later_side : (left right : ℕ) → Side
later_side left right = if nat_lt left right then Right else Left
