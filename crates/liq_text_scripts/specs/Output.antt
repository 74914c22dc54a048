-- What is written of a history.
use Rattle.std.specs.Prelude.{ℕ, List, [], ◌∷◌, ◌++◌, codes, decimal}
use Rattle.std.specs.List.{flat_map}
use Rattle.liq_rule_step.specs.History.{Entry, own_entries}
use Rattle.liq_text.specs.Replies.{reply_line}
use Rattle.liq_text_scripts.specs.Sessions.{sessions}

-- the replies to a session's own entries, under its heading; nothing where it has none
abbrev pub session_text : ℕ → List Entry → List ℕ
session_text session [] = []
session_text session (first ∷ own) = (codes "session " ++ decimal session ++ 10 ∷ [])
    ++ flat_map (λ (e : Entry). reply_line e.reply) (first ∷ own)

-- What is written of a history: the replies, session by session, and then who was answered when, in
-- its order: each entry's session, and its number among the session's own.
abbrev pub served : List Entry → List ℕ
served history = flat_map (λ session. session_text session (own_entries session history)) sessions
    ++ codes "history" ++ 10 ∷ flat_map (λ (e : Entry).
    decimal e.session ++ 32 ∷ decimal e.index ++ 10 ∷ []) history
