-- What each session asks, of all that was asked: its script.
use Rattle.std.specs.Prelude.{ℕ, ◌==◌, List, map, filter}
use Rattle.liq_types.specs.declared.requests.Request.{Request}
use Rattle.liq_sessions.specs.declared.script.Script.{Script}
use Rattle.liq_text_scripts.specs.Sessions.{sessions}

-- what a session asks, in order
abbrev pub requests_of : List (ℕ × Request) → ℕ → List Request
requests_of asked session = map (λ (a : ℕ × Request). a.1) (filter (λ (a : ℕ × Request). a.0
    == session) asked)

abbrev pub script_of : List (ℕ × Request) → ℕ → Script
script_of asked session = record { session = session; requests = requests_of asked session }

-- the scripts of the eight sessions
abbrev pub scripts_of : List (ℕ × Request) → List Script
scripts_of asked = map (script_of asked) sessions
