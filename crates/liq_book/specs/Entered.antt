-- What a call at a book answers, and what it enters.
use Rattle.std.specs.Prelude.{ℕ, ◌≡◌, ◌<◌, ◌+◌, ◌++◌, List, [], ◌∷◌, length, Some, None}
use Rattle.std.specs.Option.{IsSomeAnd}
use Rattle.liq_types.specs.declared.replies.Answer.{Answer}
use Rattle.liq_types.specs.declared.replies.Answer.TheVariants as answer
use Rattle.liq_types.specs.declared.requests.Request.{Request}
use Rattle.liq_types.specs.State.{State}
use Rattle.liq_rule_step.specs.Step.{step}
use Rattle.liq_types.specs.declared.entries.Entry.{Entry}
use Rattle.liq_book.specs.declared.items.TheConstants.{ENTRIES_MOST}
use Rattle.liq_book.specs.Booked.{Booked, state_of_book}

-- nothing was entered
abbrev pub IsAsBefore : {D : Type 0} → Booked D → Booked D → Type 0
IsAsBefore old new = (new.entries ≡ old.entries) × (new.halt ≡ old.halt)

-- A reply is the one of the rules after all entries, and is entered behind them as the session's
-- next; this is where there was no halt. A fault of a disk is the one halt. With any other answer
-- nothing is entered.
abbrev pub Enters : {D : Type 0} → State → ℕ → ℕ → Request → Answer → Booked D → Booked D → Type 0
Enters base session calls request (answer.Reply reply) old new =
    (old.halt ≡ None) × (new.halt ≡ None)
    × (new.entries ≡ old.entries
    ++ record { session = session; index = calls + 1; request = request; reply = reply } ∷ [])
    × (reply ≡ (step (state_of_book base old) request).1)
Enters base session calls request answer.NoMemory old new = IsAsBefore old new
Enters base session calls request answer.DiskFault old new =
    (old.halt ≡ None) × (new.entries ≡ old.entries)
    × ((faults : ℕ)
    × (new.halt ≡ Some (record { session = session; request = request; faults = faults })))
Enters base session calls request (answer.Stopped faults) old new =
    IsAsBefore old new × IsSomeAnd old.halt (λ h. h.faults ≡ faults)
Enters base session calls request (answer.HistoryFull entries) old new =
    IsAsBefore old new × (entries ≡ ENTRIES_MOST)

-- the limit is answered exactly where it is reached, whatever else there is
abbrev pub IsTestedFirst : List Entry → Answer → Type 0
IsTestedFirst entries (answer.HistoryFull limit) = length entries ≡ ENTRIES_MOST
IsTestedFirst entries other = length entries < ENTRIES_MOST
