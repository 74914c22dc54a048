-- A sum as it is computed: where it doesn't fit 128 bits, the greatest number that does. What it is
-- compared with is less.
use Rattle.std.specs.Prelude.{ℕ, ◌-◌, ◌^◌, min}

abbrev pub capped : ℕ → ℕ
capped n = min n (2 ^ 128 - 1)
