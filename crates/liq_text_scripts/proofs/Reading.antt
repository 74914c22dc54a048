-- What was gathered of the lines, as the scripts of the sessions.
use Rattle.std.proofs.Common.{◌≡◌, ℕ, List, Option, Ok, Err, ◌∙◌}
use Rattle.std.specs.Prelude.{Vec}
use Rattle.std.specs.Global.{Global}
use Rattle.liq_types.specs.declared.requests.Request.{Request}
use Rattle.liq_text_lines.specs.declared.stops.Stop.{Stop}
use Rattle.liq_text_gather.specs.Gathering as lines
use Rattle.liq_sessions.specs.declared.script.Script.{Script}
use Rattle.liq_text_scripts.specs.Asked.{Asks}
use Rattle.liq_text_scripts.specs.BySession.{scripts_of}
use Rattle.liq_text_scripts.specs.Gathering.{Gathers}

-- reading stopped, whatever it was to give
pub scripts_stopped : {T : Type 0} (Has : T → List (ℕ × Request) → Type 0) (stop : Stop) (before left : Option (List ℕ))
    → lines.Gathers Asks Has (Err stop) before left → Gathers (Err stop) before left
scripts_stopped Has stop before left h = record { asked = h.said; few = h.few; scripts = tt; read = h.read }

pub scripts_done : (kept : List Script) (scripts : Vec Script Global) (before left : Option (List ℕ))
    → scripts.items ≡ kept → lines.Gathers {T = Unit {0}} Asks (λ done asked. kept ≡ scripts_of asked)
    (Ok tt) before left → Gathers (Ok scripts) before left
scripts_done kept scripts before left same h = record {
  asked = h.said;
  few = h.few;
  scripts = same
      ∙ h.has;
  read = h.read;
}
