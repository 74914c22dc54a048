-- The name that a checkpoint begins with: the letters LIQSTAT, and a digit for the limit of its
-- image.
use Rattle.std.specs.Prelude.{ℕ, ◌==◌, List, [], ◌∷◌, if◌then◌else◌}
use Rattle.liq_types.specs.declared.amounts.TheConstants.{LIM}

-- the digit of the version: 2 for an image under the limit LIM, 1 for one under the limit of
-- version 1
abbrev pub digit : ℕ → ℕ
digit limit = if limit == LIM then 50 else 49

-- LIQSTAT and the digit
abbrev pub name : ℕ → List ℕ
name limit = 76 ∷ 73 ∷ 81 ∷ 83 ∷ 84 ∷ 65 ∷ 84 ∷ digit limit ∷ []
