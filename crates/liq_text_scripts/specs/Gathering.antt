-- Where reading ends, and which scripts it gives.
use Rattle.std.specs.Prelude.{ℕ, ◌≡◌, ◌≤◌, List, length, Option, Some, Result, IfOk, Vec}
use Rattle.std.specs.Global.{Global}
use Rattle.liq_types.specs.declared.amounts.TheConstants.{LINES_MOST}
use Rattle.liq_types.specs.declared.requests.Request.{Request}
use Rattle.liq_text_lines.specs.declared.stops.Stop.{Stop}
use Rattle.liq_text_gather.specs.Gathering as lines
pub use Rattle.liq_text_gather.specs.Gathering.{ReadCause}
use Rattle.liq_sessions.specs.declared.script.Script.{Script}
use Rattle.liq_text_scripts.specs.Asked.{Asks}
use Rattle.liq_text_scripts.specs.BySession.{scripts_of}

-- how reading the bytes ended after the lines that ask this: they are all, and the source is at its
-- end, or it stopped
abbrev pub EndsAfter :
    {T : Type 0} → Result T Stop → List ℕ → Option (List ℕ) → List (ℕ × Request) → Type 0
EndsAfter end bytes left asked = lines.EndsAfter Asks end bytes left asked

-- What was asked is in the scripts, in order. It is what the lines asked, where the source told its
-- bytes.
pub record Gathers (result : Result (Vec Script Global) Stop) (before left : Option (List ℕ)) :
    Type 0 where
  pub asked : List (ℕ × Request)
  pub few : length asked ≤ LINES_MOST
  pub scripts : IfOk result (λ scripts. scripts.items ≡ scripts_of asked)
  pub read : (bytes : List ℕ) → before ≡ Some bytes → EndsAfter result bytes left asked
