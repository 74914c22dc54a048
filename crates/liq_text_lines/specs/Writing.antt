-- What writing leaves.
use Rattle.std.specs.Prelude.{ℕ, ◌≡◌, ◌<◌, List, ◌++◌, length, take, Option, option_map}

-- the bytes were written
abbrev pub Writes : Option (List ℕ) → List ℕ → Option (List ℕ) → Type 0
Writes before bytes after = after ≡ option_map (λ held. held ++ bytes) before

-- a front of the bytes was written, and not all
abbrev pub WritesPart : Option (List ℕ) → List ℕ → Option (List ℕ) → Type 0
WritesPart before bytes after = (n : ℕ) × (n < length bytes) × Writes before (take n bytes) after
