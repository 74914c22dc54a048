-- The quotient of a product, rounded down and rounded up.
use Rattle.std.specs.Prelude.{ℕ, ◌*◌, ◌/◌}
use Rattle.std.specs.Int.{div_ceil}

-- a * b / c, rounded down
abbrev pub floor_of : ℕ → ℕ → ℕ → ℕ
floor_of a b c = a * b / c

-- a * b / c, rounded up
abbrev pub ceiling_of : ℕ → ℕ → ℕ → ℕ
ceiling_of a b c = div_ceil (a * b) c
