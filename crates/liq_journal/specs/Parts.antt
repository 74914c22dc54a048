-- A part of a disk that was read at once.
use Rattle.std.specs.Prelude.{◌≡◌, ℕ, ◌-◌, List, [], length, take, drop, nat_lt, if◌then◌else◌}

-- a part of a disk: where it begins, and its bytes
pub record Part : Type 0 where
  pub at : ℕ
  pub bytes : List ℕ

-- the part is what these bytes have at its place
abbrev pub IsPartOf : Part → List ℕ → Type 0
IsPartOf part held = part.bytes ≡ take (length part.bytes) (drop part.at held)

-- the bytes of a part from this place of the disk on
abbrev pub bytes_from : ℕ → Part → List ℕ
bytes_from at part = if nat_lt at part.at then [] else drop (at - part.at) part.bytes
