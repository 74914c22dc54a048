-- A quotient that is rounded down, times its divisor: at most the product, and less by less than the divisor.
use Rattle.std.proofs.Common.{ℕ, ◌+◌, ◌*◌, ◌<◌, ◌≤◌, arith}
use Rattle.std.proofs.Math.Nat.{div-mul-le_self, lt-div-mul-add}
use Rattle.liq_num.specs.Quotient.{floor_of}

pub floor_low : (a b c : ℕ) → floor_of a b c * c ≤ a * b
floor_low a b c = div-mul-le_self (a * b) c

pub floor_high : (a b c : ℕ) → 0 < c → a * b ≤ floor_of a b c * c + c
floor_high a b c pos = let less = lt-div-mul-add {a = a * b} {b = c} pos in omega arith
