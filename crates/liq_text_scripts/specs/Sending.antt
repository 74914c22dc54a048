-- Lines on their way to a sink.
use Rattle.std.specs.Prelude.{ℕ, ◌≡◌, ◌==◌, if◌then◌else◌, List, [], ◌∷◌, ◌++◌}
use Rattle.std.specs.Prelude.{Option, Result, Ok, Err, codes, decimal}
use Rattle.liq_outside.specs.declared.failed.Failed.{Failed}
use Rattle.liq_text_lines.specs.Writing.{Writes, WritesPart}
use Rattle.liq_text_scripts.specs.declared.outbox.Line.{Line}
use Rattle.liq_text_scripts.specs.declared.outbox.Line.TheVariants.{Session, Reply, History, Entry}
use Rattle.std.specs.List.{flat_map}
use Rattle.liq_rule_step.specs.History as history
use Rattle.liq_rule_step.specs.History.{own_entries}
use Rattle.liq_text_scripts.specs.declared.output.Part.{Part}
use Rattle.liq_text_scripts.specs.declared.output.Part.TheVariants.{ReplyTo, Call}
use Rattle.liq_text.specs.Replies.{reply_line}
use Rattle.liq_text_scripts.specs.Output.{session_text}
use Rattle.liq_text_scripts.specs.Sessions.{sessions}

-- the line in front of a session's replies
abbrev pub heading : ℕ → List ℕ
heading session = codes "session " ++ decimal session ++ 10 ∷ []

-- the replies of all sessions
abbrev pub replies_text : List history.Entry → List ℕ
replies_text entries = flat_map (λ session. session_text session (own_entries session entries))
    sessions

abbrev pub line_text : Line → List ℕ
line_text (Session session) = heading session
line_text (Reply reply) = reply_line reply
line_text History = codes "history" ++ 10 ∷ []
line_text (Entry session index) = decimal session ++ 32 ∷ decimal index ++ 10 ∷ []

-- what is sent of an entry
abbrev pub part_text : Part → history.Entry → List ℕ
part_text (ReplyTo session) e = if e.session == session then reply_line e.reply else []
part_text Call e = line_text (Entry e.session e.index)

-- the line of each entry, in the order of the history
abbrev pub history_text : List history.Entry → List ℕ
history_text entries = flat_map (part_text Call) entries

-- The bytes went behind those that waited: a front of these is written, and the rest waits. Or the
-- sink met a fault, and a part of these is written.
abbrev pub Sends :
    Result (Unit {0}) Failed → List ℕ → List ℕ → List ℕ → Option (List ℕ) → Option (List ℕ)
    → Type 0
Sends (Ok done) waited bytes waits before after =
    (front : List ℕ) × Writes before front after × (waited ++ bytes ≡ front ++ waits)
Sends (Err fault) waited bytes waits before after = WritesPart before (waited ++ bytes) after
