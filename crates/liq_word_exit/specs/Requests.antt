-- Which lines are requests.
use Rattle.std.specs.Prelude.{ℕ, ◌∷◌, List, Option, IfSome}
use Rattle.liq_types.specs.declared.requests.Request.{Request}
use Rattle.liq_text.specs.Spelling.{Spells}
use Rattle.liq_text_lines.specs.Saying.{BeginsWith}

-- the line spells the request
abbrev pub IsRequest : List ℕ → Request → Type 0
IsRequest line request = Spells line request

-- Where a source told its bytes, they began with lines of these requests, and the next line was
-- that of this one.
abbrev pub IsNext : Option (List ℕ) → List Request → Request → Type 0
IsNext told requests request = IfSome told (λ bytes. (line : List ℕ) × (more : List (List ℕ))
    × Spells line request × BeginsWith Spells bytes requests (line ∷ more))
