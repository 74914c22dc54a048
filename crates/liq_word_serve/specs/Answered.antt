-- What was answered along a history, of what sessions ask.
use Rattle.std.specs.Prelude.{ℕ, ◌≡◌, ◌⊎◌, ◌++◌, ◌<◌, List, [], ◌∷◌, length, All, Contains}
use Rattle.liq_types.specs.declared.requests.Request.{Request}
use Rattle.liq_rule_step.specs.History.{Entry, own_entries, requests_of}
use Rattle.liq_sessions.specs.declared.script.Script.{Script}
use Rattle.liq_text_scripts.specs.BySession.{script_of}
use Rattle.liq_text_scripts.specs.Sessions.{sessions}
use Rattle.liq_book.specs.declared.items.TheConstants.{ENTRIES_MOST}

-- the requests of a session that got replies, in order
abbrev pub answered_of : ℕ → List Entry → List Request
answered_of session entries = requests_of (own_entries session entries)

-- they are the first ones of its script
abbrev pub IsServedFrom : List Entry → Script → Type 0
IsServedFrom entries script =
    (rest : List Request) × (script.requests ≡ answered_of script.session entries ++ rest)

-- they are all of them
abbrev pub IsServedWhole : List Entry → Script → Type 0
IsServedWhole entries script = script.requests ≡ answered_of script.session entries

-- this one is the next
abbrev pub IsNextOf : List Entry → Request → Script → Type 0
IsNextOf entries request script =
    (later : List Request)
    × (script.requests ≡ answered_of script.session entries ++ request ∷ later)

-- Memory is wanted where nothing was answered at all, or where a script has a request without a
-- reply, and the book had room for it.
abbrev pub LacksMemory : List Script → List Entry → Type 0
LacksMemory scripts entries =
    (entries ≡ [])
    ⊎ ((length entries < ENTRIES_MOST)
    × ((script : Script) × Contains scripts script × (IsServedWhole entries script → ⊥)))

-- ---- all sessions

-- the first requests of each session, in order
abbrev pub AreServedFrom : List (ℕ × Request) → List Entry → Type 0
AreServedFrom asked history =
    All (λ session. IsServedFrom history (script_of asked session)) sessions

-- all requests of each session
abbrev pub AreServedWhole : List (ℕ × Request) → List Entry → Type 0
AreServedWhole asked history =
    All (λ session. IsServedWhole history (script_of asked session)) sessions
