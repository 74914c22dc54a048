-- A write that replaces what is there and goes on past the end.
use Rattle.std.proofs.Common.{◌≡◌, ℕ, ◌+◌, ◌-◌, ◌≤◌, List, ◌++◌, length, take, drop, min, arith}
use Rattle.std.proofs.lemmas.Grind.{common_steps}
use Rattle.liq_outside.specs.Disk.{overwritten}

-- first what goes past the end is put behind, and then the rest in its place
pub laid : (held bytes grown front : List ℕ) (at inside : ℕ) → at ≤ length held
    → inside ≡ min (length held) (at + length bytes) - at → grown ≡ held ++ drop inside bytes
    → front ≡ take inside bytes
    → overwritten grown at front ≡ overwritten held at bytes
laid held bytes grown front at inside le is behind before = grind (arith, common_steps)

-- what stood there, as far as there is any
pub replaced : (held : List ℕ) (at n stop : ℕ) → stop ≡ min (length held) (at + n) → take (stop - at) (drop at held)
    ≡ take n (drop at held)
replaced held at n stop is = grind (arith, common_steps)
