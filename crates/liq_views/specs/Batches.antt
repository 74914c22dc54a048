-- Batches of changes, and the versions that they make.
use Rattle.std.specs.Prelude.{◌≡◌, ◌≤◌, ℕ, List, [], ◌∷◌, ◌++◌, fold}
use Rattle.std.specs.Coded.{×_prop, Unit-prop, le_prop}
use Rattle.liq_types.specs.declared.events.ListChange.{ListChange}
use Rattle.liq_list_version.specs.Versions.{Numbered, empty_version, folded}

-- what one publication adds: changes in order, and the number of the version that they make
pub record Given : Type 0 where
  pub changes : List ListChange
  pub number : ℕ

abbrev pub with_batch : Numbered → Given → Numbered
with_batch v b = folded v b.changes b.number

-- the version that a list of batches makes of the empty one
abbrev pub version_after : List Given → Numbered
version_after batches = fold with_batch empty_version batches

-- ---- numbers

-- the last batch's number; n where there is none
abbrev pub last_from : ℕ → List Given → ℕ
last_from n [] = n
last_from n (b ∷ bs) = last_from b.number bs

-- no number is below the one before, the first not below n
abbrev pub Rise : ℕ → List Given → Type 0
Rise n [] = Unit {0}
Rise n (b ∷ bs) = (n ≤ b.number) × Rise b.number bs

pub Rise-prop : (n : ℕ) (bs : List Given) → IsProp (Rise n bs)
Rise-prop n [] = Unit-prop
Rise-prop n (b ∷ bs) = ×_prop le_prop (Rise-prop b.number bs)

-- ---- beginnings

abbrev pub StartsWith : List Given → List Given → Type 0
StartsWith batches start = (rest : List Given) × (batches ≡ start ++ rest)
