-- What a session learns from a call, by what its seat has seen before and after it.
use Rattle.std.specs.Prelude.{ℕ, ◌≡◌, ◌≤◌, ◌<◌, ◌+◌, ◌++◌, List, [], ◌∷◌, length}
use Rattle.liq_types.specs.declared.replies.Answer.{Answer}
use Rattle.liq_types.specs.declared.replies.Answer.TheVariants as answer
use Rattle.liq_types.specs.declared.requests.Request.{Request}
use Rattle.liq_types.specs.State.{State}
use Rattle.liq_rule_step.specs.History.{state_after}
use Rattle.liq_rule_step.specs.Step.{step}
use Rattle.liq_lock.specs.History.{Behind, NoneOf}
use Rattle.liq_book.specs.declared.items.Halt.{Halt}
use Rattle.liq_book.specs.declared.items.Item.{Item}
use Rattle.liq_book.specs.declared.items.Item.TheVariants as item
use Rattle.liq_book.specs.declared.items.TheConstants.{ENTRIES_MOST}
use Rattle.liq_book.specs.Items.{IsFull, entries_of, session_of}

-- What was seen before begins what is seen after, and nothing of this session is beyond it.
abbrev pub SeesOthers : ℕ → List Item → List Item → Type 0
SeesOthers session before after = Behind session_of after (session ∷ []) before

-- A reply: others' items follow what was seen before, then this call's entry as the last one, and
-- its reply is the one of the rules after all entries before it. A fault of a disk: others' items,
-- and this call's halt as the last one. Any other answer: others' items alone, of which a halt is
-- the last one where the service was stopped by it.
abbrev pub Answered : State → ℕ → ℕ → Request → Answer → List Item → List Item → Type 0
Answered base session calls request (answer.Reply reply) before after =
    (between : List Item) × NoneOf session_of (session ∷ []) between
    × (after ≡ (before ++ between) ++ item.Entry
    (record { session = session; index = calls + 1; request = request; reply = reply }) ∷ [])
    × (reply ≡ (step (state_after base (entries_of (before ++ between))) request).1)
Answered base session calls request answer.NoMemory before after = SeesOthers session before after
Answered base session calls request answer.DiskFault before after =
    (between : List Item) × NoneOf session_of (session ∷ []) between
    × ((faults : ℕ)
    × (after ≡ (before ++ between) ++ item.Halt
    (record { session = session; request = request; faults = faults }) ∷ []))
Answered base session calls request (answer.Stopped faults) before after =
    SeesOthers session before after
    × ((earlier : List Item) × ((halt : Halt)
    × ((after ≡ earlier ++ item.Halt halt ∷ []) × (halt.faults ≡ faults))))
Answered base session calls request (answer.HistoryFull entries) before after =
    SeesOthers session before after × (entries ≡ ENTRIES_MOST)

-- The limit is answered exactly where it was reached before the call, whatever else there was.
abbrev pub IsLimited : Answer → List Item → Type 0
IsLimited (answer.Reply reply) after = length (entries_of after) ≤ ENTRIES_MOST
IsLimited (answer.HistoryFull entries) after = IsFull after
IsLimited other after = length (entries_of after) < ENTRIES_MOST
