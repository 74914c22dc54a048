-- Lines on which stakers ask.
use Rattle.std.specs.Prelude.{◌≡◌, ℕ, ◌<◌, ◌^◌, Bool, List, [], ◌∷◌, codes, decimal, if◌then◌else◌}
use Rattle.std.specs.List.{join_with_byte}
use Rattle.liq_fees.specs.declared.lines.StakeLine.{StakeLine}

abbrev pub verb_of : Bool → List ℕ
verb_of out = if out then codes "unstake" else codes "stake"

abbrev pub words_of : StakeLine → List (List ℕ)
words_of l = decimal l.at ∷ decimal l.account ∷ verb_of l.out ∷ decimal l.amount ∷ []

-- The line is these words, with one space between two.
pub record Spells (line : List ℕ) (l : StakeLine) : Type 0 where
  pub at : l.at < 2 ^ 64
  pub account : l.account < 2 ^ 32
  pub amount : l.amount < 2 ^ 64
  pub words : line ≡ join_with_byte 32 (words_of l)
