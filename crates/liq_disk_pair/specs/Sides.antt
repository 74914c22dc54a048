-- The two of a pair, by their side.
use Rattle.std.specs.Prelude.{Bool, true, false}
use Rattle.liq_disk_pair.specs.declared.side.Side.{Side}
use Rattle.liq_disk_pair.specs.declared.side.Side.TheVariants.{Left, Right}

-- of two things the one of this side
abbrev pub on : {T : Type 0} → Side → T → T → T
on Left left right = left
on Right left right = right

-- of two things the one of the other side
abbrev pub beside : {T : Type 0} → Side → T → T → T
beside Left left right = right
beside Right left right = left

-- the left disk has the odd generations
abbrev pub has_odd : Side → Bool
has_odd Left = true
has_odd Right = false

abbrev pub other : Side → Side
other Left = Right
other Right = Left
