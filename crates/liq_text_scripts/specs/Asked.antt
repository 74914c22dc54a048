-- What a line asks in its session.
use Rattle.std.specs.Prelude.{ℕ, List}
use Rattle.liq_types.specs.declared.requests.Request.{Request}
use Rattle.liq_text.specs.Spelling.{SpellsInSession}

-- the line spells this session and request
abbrev pub Asks : List ℕ → ℕ × Request → Type 0
Asks line (session, request) = SpellsInSession line session request
