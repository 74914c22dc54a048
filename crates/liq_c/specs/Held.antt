-- What a place in C's memory owns.
use Rattle.std.specs.Prelude.{Bool, true, false, Option, Some, None}
use mir.Syntax.{Ty}
use base.Fml.{Fml, ftrue}
use denote.RattleType.{RattleType}
use denote.RawPtr.{Ptr}
use Rattle.std_alloc.specs.Box.Ownership.{box_owns}

-- a box where something is held, else nothing
abbrev pub holds : (Ty → Ptr → Fml) → (R : RattleType) → Ptr → Option R.Denot → Fml
holds token R p None = ftrue
holds token R p (Some x) = box_owns token R p x

abbrev pub is_full : {A : Type 0} → Option A → Bool
is_full None = false
is_full (Some x) = true

-- something is there, and P holds of it
abbrev pub Has : {A : Type 0} → (A → Type 0) → Option A → Type 0
Has P None = ⊥
Has P (Some x) = P x
