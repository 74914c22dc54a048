-- Sums for worked examples: one unit of stake.
use Rattle.std.specs.Prelude.{ℕ}
use Rattle.liq_troves.specs.declared.sums.Sums.{Sums}

abbrev pub coll_at : ℕ → Sums
coll_at coll = record { coll = coll; debt = 0; stakes = 1; snap_stakes = 0; snap_coll = 0 }

abbrev pub debt_at : ℕ → Sums
debt_at debt = record { coll = 0; debt = debt; stakes = 1; snap_stakes = 0; snap_coll = 0 }
