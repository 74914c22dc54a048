-- Lines on which depositors name a front end.
use Rattle.std.specs.Prelude.{◌≡◌, ℕ, ◌<◌, ◌^◌, List, [], ◌∷◌, codes, decimal}
use Rattle.std.specs.List.{join_with_byte}
use Rattle.liq_rewards.specs.declared.lines.TagLine.{TagLine}

abbrev pub words_of : TagLine → List (List ℕ)
words_of l = codes "tag" ∷ decimal l.account ∷ decimal l.front ∷ decimal l.kept_part ∷ []

-- The line is these words, with one space between two.
pub record Spells (line : List ℕ) (l : TagLine) : Type 0 where
  pub account : l.account < 2 ^ 32
  pub front : l.front < 2 ^ 32
  pub rate : l.kept_part < 2 ^ 64
  pub words : line ≡ join_with_byte 32 (words_of l)
