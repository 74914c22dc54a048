-- What a read of a disk gives.
use Rattle.std.specs.Prelude.{◌≡◌, ◌-◌, ℕ, List, length, min, take, drop}

-- From the place on, n bytes were read into the front of a buffer of this size: as many as it takes
-- and as there are.
abbrev pub IsRead : ℕ → ℕ → ℕ → List ℕ → List ℕ → Type 0
IsRead at size n buf held = (n ≡ min size (length held - at)) × (take n buf ≡ take n (drop at held))
