-- How far reading lines has come.
use Rattle.std.specs.Prelude.{ℕ, ◌≡◌, ◌+◌, List, [], ◌∷◌, ◌++◌, length, Option, Some}
use Rattle.std.specs.Prelude.{Result, Ok, Err, Bool, true}
use Rattle.std.specs.List.{AllByRecursion, AllZip}
use Rattle.liq_text_lines.specs.declared.stops.Stop.{Stop}
use Rattle.liq_text_lines.specs.declared.stops.Stop.TheVariants.{BadLine, NoMemory}
use Rattle.liq_text_lines.specs.Lines.{ended, IsWithinLine}
use Rattle.liq_text_lines.specs.Saying.{IsBadLine}
use Rattle.liq_text_gather.specs.Gathering.{Gathers}

-- the lines of the bytes that are read say this, and the rest is unread
pub record HasRead
    {X : Type 0} (Says : List ℕ → X → Type 0) (bytes : List ℕ) (said : List X)
    (unread : Option (List ℕ)) : Type 0 where
  pub front : List (List ℕ)
  pub rest : List ℕ
  pub spelled : AllZip Says front said
  pub within : AllByRecursion IsWithinLine front
  pub bytes_are : bytes ≡ ended front ++ rest
  pub unread_is : unread ≡ Some rest

module _ {X G : Type 0} (Says : List ℕ → X → Type 0) (Holds : G → List X → Type 0) where
  -- What the line of this number says stands behind what was gathered, or the line is bad, or there
  -- was no memory for it.
  abbrev pub Keeps : List ℕ → ℕ → G → G → Result (Unit {0}) Stop → Type 0
  Keeps line number old new (Ok done) =
      (x : X) × Says line x × ((said : List X) → Holds old said → Holds new (said ++ x ∷ []))
  Keeps line number old new (Err (BadLine at)) = (at ≡ number) × IsBadLine Says line
  Keeps line number old new (Err NoMemory) = (x : X) × Says line x
  Keeps line number old new (Err _) = ⊥

  -- n lines were read, and what they said is gathered
  pub record HasGathered (start : Option (List ℕ)) (n : ℕ) (kept : G) (unread : Option (List ℕ)) :
      Type 0 where
    pub said : List X
    pub count : length said ≡ n
    pub holds : Holds kept said
    pub read : (bytes : List ℕ) → start ≡ Some bytes → HasRead Says bytes said unread

  -- one more line was read, or reading comes to its end
  abbrev pub Goes :
      Option (List ℕ) → ℕ → G → Option (List ℕ) → Option (List ℕ) → Result Bool Stop → Type 0
  Goes start n kept unread left (Ok true) = HasGathered start (n + 1) kept unread
  Goes start n kept unread left end = Gathers Says (λ more. Holds kept) end start left
