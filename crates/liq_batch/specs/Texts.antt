-- What a text of lines is answered.
use Rattle.std.specs.Prelude.{◌≡◌, ℕ, ◌<◌, ◌-◌, ◌⊎◌, List, ◌∷◌, ◌++◌, length, take, drop}
use Rattle.std.specs.Prelude.{Option, Some, None, Result, Ok, Err}
use Rattle.std.specs.List.{AllZip, flat_map}
use Rattle.liq_types.specs.declared.requests.Request.{Request}
use Rattle.liq_types.specs.State.{State}
use Rattle.liq_core.specs.Core.{StandsFor}
use Rattle.liq_rule_step.specs.Step.{step, run}
use Rattle.liq_rule_step.specs.Memory.{TakesMemory}
use Rattle.liq_text_lines.specs.Lines.{ended, IsWithinLine}
use Rattle.liq_text.specs.Spelling.{Spells}
use Rattle.liq_text.specs.Replies.{reply_line}
use Rattle.liq_market.specs.Content.{Content}
use Rattle.liq_market.specs.Touching.{touched_after}
use Rattle.liq_batch.specs.declared.lines.Lines.{Lines}
use Rattle.liq_batch.specs.declared.lines.LineFault.{LineFault}
use Rattle.liq_batch.specs.declared.lines.LineFault.TheVariants.{Short, Bad, NoMemory}
use Rattle.liq_batch.specs.declared.lines.TheConstants.{LINE_MOST}
use Rattle.liq_batch.specs.Batch.{Writes, touched_after_all}

-- a line with its line end is in front of the text
abbrev pub BeginsWithLine : List ℕ → List ℕ → Type 0
BeginsWithLine line text = IsWithinLine line × ((rest : List ℕ) × (text ≡ line ++ 10 ∷ rest))

-- why a line has no answer in a state
abbrev pub HasLineFault : State → List ℕ → LineFault → Type 0
HasLineFault s line Short = ⊥
HasLineFault s line Bad = (request : Request) → Spells line request → ⊥
HasLineFault s line NoMemory = (request : Request) × Spells line request × TakesMemory s request

-- the line of a request has its reply as a line, or not, and all is as before
abbrev pub AnswersLine : {A : Type 0} → State → List ℕ → Result A LineFault → List ℕ
    → (before after : Content) → Type 0
AnswersLine s line (Ok written) reply before after =
    (request : Request) × Spells line request
    × StandsFor after.core (step s request).0 × (reply ≡ reply_line (step s request).1)
    × (after.touched ≡ touched_after s request before.touched)
AnswersLine s line (Err fault) reply before after =
    HasLineFault s line fault × StandsFor after.core s × (after.touched ≡ before.touched)

-- Why the rest of a text is not answered, in a state, with so much room left. Without memory for a
-- single reply line none is.
abbrev pub EndsText : State → List ℕ → (room taken : ℕ) → Option LineFault → Type 0
EndsText s rest room taken None = IsWithinLine rest
EndsText s rest room taken (Some Short) =
    (room < LINE_MOST) × ((line : List ℕ) × BeginsWithLine line rest)
EndsText s rest room taken (Some Bad) =
    (line : List ℕ) × BeginsWithLine line rest × HasLineFault s line Bad
EndsText s rest room taken (Some NoMemory) =
    (taken ≡ 0) ⊎ ((line : List ℕ) × BeginsWithLine line rest × HasLineFault s line NoMemory)

-- The text begins with lines that spell requests, and their replies stand in lines of their own.
-- The market is where the requests lead, and tells whom they touched.
pub record AnsweredText (s : State) (text : List ℕ) (lines : Lines) (before after : Content)
    (old new : List ℕ) : Type 0 where
  pub asked : List (List ℕ)
  pub requests : List Request
  pub spelled : AllZip Spells asked requests
  pub taken : take lines.taken text ≡ ended asked
  pub stands : StandsFor after.core (run s requests).0
  pub touched : after.touched ≡ touched_after_all s requests before.touched
  pub written : Writes old (flat_map reply_line (run s requests).1) new
  pub count : lines.written ≡ length (flat_map reply_line (run s requests).1)
  pub ends : EndsText (run s requests).0 (drop lines.taken text) (length old - lines.written)
      lines.taken lines.fault
