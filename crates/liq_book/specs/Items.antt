-- A book's chronicle, and what is read from it.
use Rattle.std.specs.Prelude.{ℕ, ◌≡◌, ◌==◌, ◌⊎◌, if◌then◌else◌}
use Rattle.std.specs.Prelude.{◌++◌, List, [], ◌∷◌, map, length, Option, Some, None}
use Rattle.liq_types.specs.declared.replies.Reply.{Reply}
use Rattle.liq_types.specs.declared.requests.Request.{Request}
use Rattle.liq_rule_step.specs.History.{own_entries}
use Rattle.liq_types.specs.declared.entries.Entry.{Entry}
use Rattle.liq_book.specs.declared.items.Halt.{Halt}
use Rattle.liq_book.specs.declared.items.Item.{Item}
use Rattle.liq_book.specs.declared.items.Item.TheVariants as item
use Rattle.liq_book.specs.declared.items.TheConstants.{ENTRIES_MOST}

-- all entries, and behind them the halt
abbrev pub chronicle : List Entry → Option Halt → List Item
chronicle entries None = map item.Entry entries
chronicle entries (Some halt) = map item.Entry entries ++ item.Halt halt ∷ []

-- the session that made it
abbrev pub session_of : Item → ℕ
session_of (item.Entry e) = e.session
session_of (item.Halt h) = h.session

-- the entries among items
abbrev pub entries_of : List Item → List Entry
entries_of [] = []
entries_of (item.Entry e ∷ items) = e ∷ entries_of items
entries_of (item.Halt h ∷ items) = entries_of items

-- a session's requests that were answered, with their replies
abbrev pub calls_of : ℕ → List Item → List (Request × Reply)
calls_of session items =
    map (λ (e : Entry). (e.request, e.reply)) (own_entries session (entries_of items))

abbrev pub or_else : Option Request → Option Request → Option Request
or_else (Some request) other = Some request
or_else None other = other

-- the request of the last halt that the session made
abbrev pub faulted_in : ℕ → List Item → Option Request
faulted_in session [] = None
faulted_in session (item.Entry e ∷ items) = faulted_in session items
faulted_in session (item.Halt h ∷ items) =
    or_else (faulted_in session items) (if h.session == session then Some h.request else None)

abbrev pub EndsInHalt : List Item → Type 0
EndsInHalt items = (before : List Item) × ((h : Halt) × (items ≡ before ++ item.Halt h ∷ []))

abbrev pub IsFull : List Item → Type 0
IsFull items = length (entries_of items) ≡ ENTRIES_MOST

-- an end of service is known from these items
abbrev pub ShowsEnd : List Item → Type 0
ShowsEnd items = EndsInHalt items ⊎ IsFull items
