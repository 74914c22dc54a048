-- Where reading lines ends, and what they say. Which line says what is a relation.
use Rattle.std.specs.Prelude.{ℕ, ◌≡◌, ◌≤◌, List, [], length, Option, Some, Result, Ok, Err, IfOk}
use Rattle.std.specs.List.{AllZip}
use Rattle.liq_types.specs.declared.amounts.TheConstants.{LINES_MOST}
use Rattle.liq_outside.specs.Faults.{Rose}
use Rattle.liq_text_lines.specs.declared.stops.Stop.{Stop}
use Rattle.liq_text_lines.specs.declared.stops.Stop.TheVariants.{ReadFault}
use Rattle.liq_text_lines.specs.Lines.{lines_in}
use Rattle.liq_text_lines.specs.Saying.{StopsAfter}

module _ {X T : Type 0} (Says : List ℕ → X → Type 0) where
  -- how reading the bytes ended after the lines that say this
  abbrev pub EndsAfter : Result T Stop → List ℕ → Option (List ℕ) → List X → Type 0
  -- they are all, and the source is at its end
  EndsAfter (Ok done) bytes left said = AllZip Says (lines_in bytes) said × (left ≡ Some [])
  -- it stopped
  EndsAfter (Err stop) bytes left said = StopsAfter Says stop bytes left said

  -- What was said was gathered. It is what the lines say, where the source told its bytes.
  pub record Gathers
      (Has : T → List X → Type 0) (result : Result T Stop) (before left : Option (List ℕ)) :
      Type 0 where
    pub said : List X
    pub few : length said ≤ LINES_MOST
    pub has : IfOk result (λ kept. Has kept said)
    pub read : (bytes : List ℕ) → before ≡ Some bytes → EndsAfter result bytes left said

-- The source's count of faults: it rose where reading stopped at a fault, and else it stays.
abbrev pub ReadCause : {T : Type 0} → Result T Stop → ℕ → ℕ → Type 0
ReadCause (Err ReadFault) before after = (before ≤ after) × Rose before after
ReadCause _ before after = after ≡ before
