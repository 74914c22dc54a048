-- How a call ends, for C.
use Rattle.std.specs.Prelude.{◌≡◌, ℕ, nat_lt, List, length}
use Rattle.std.specs.Prelude.{Option, Some, None, if◌then◌else◌}
use Rattle.liq_types.specs.State.{State}
use Rattle.liq_core.specs.Core.{StandsFor}
use Rattle.liq_replies96.specs.declared.reply.Reply96.{Reply96}
use Rattle.liq_market.specs.Content.{Content}
use Rattle.liq_batch.specs.Batch.{Answered, Way}
use Rattle.liq_batch.specs.declared.batch.Batch.{Batch}
use Rattle.liq_batch.specs.declared.batch.Fault.{Fault}
use Rattle.liq_batch.specs.declared.batch.Fault.TheVariants as faults
use Rattle.liq_batch.specs.declared.lines.Lines.{Lines}
use Rattle.liq_batch.specs.declared.lines.LineFault.{LineFault}
use Rattle.liq_batch.specs.declared.lines.LineFault.TheVariants as line_faults
use Rattle.liq_c.specs.declared.statuses.Done.{Done}
use Rattle.liq_c.specs.declared.statuses.TextDone.{TextDone}
use Rattle.liq_c.specs.declared.statuses.TheConstants.{OK, NO_MARKET, NO_MEMORY, BAD, SHORT}

-- the status behind so many of so many items: by the fault, or by whether all were answered
abbrev pub status_of : (done items : ℕ) → Option Fault → ℕ
status_of done items None = if nat_lt done items then SHORT else OK
status_of done items (Some (faults.Bad place)) = BAD
status_of done items (Some faults.NoMemory) = NO_MEMORY

abbrev pub told : Batch → ℕ → Done
told batch items = record { done = batch.done; status = status_of batch.done items batch.fault }

abbrev pub line_status : Option LineFault → ℕ
line_status None = OK
line_status (Some line_faults.Short) = SHORT
line_status (Some line_faults.Bad) = BAD
line_status (Some line_faults.NoMemory) = NO_MEMORY

abbrev pub told_text : Lines → TextDone
told_text lines = record {
  taken = lines.taken;
  written = lines.written;
  status = line_status lines.fault;
}

-- A call that answers a batch of so many items. Without a market it does nothing; else it tells how
-- the batch ended, and the batch leaves the market that is then in the place.
abbrev pub Ends : (old new : Option Content) → (items : ℕ) → Done → Type 0
    → (Content → Content → Batch → Type 0) → Type 0
Ends None new items result Unwritten Leaves =
    (result ≡ record { done = 0; status = NO_MARKET }) × (new ≡ None) × Unwritten
Ends (Some m) new items result Unwritten Leaves =
    (after : Content) × (new ≡ Some after)
    × ((batch : Batch) × (result ≡ told batch items) × Leaves m after batch)

-- how a call ends that answers items in this way, and writes the replies over old ones
abbrev pub EndsBy : {X : Type 0} → Way X → (held left : Option Content) → List X → Done
    → (old new : List Reply96) → Type 0
EndsBy way held left items result old new =
    Ends held left (length items) result (new ≡ old)
    (λ m after batch. (s : State) → StandsFor m.core s → Answered way s items batch m after old new)

-- the same where the market stays as it was
abbrev pub EndsUnchanged : {X : Type 0} → Way X → (held left : Option Content) → List X → Done
    → (old new : List Reply96) → Type 0
EndsUnchanged way held left items result old new =
    Ends held left (length items) result (new ≡ old)
    (λ m after batch. (after ≡ m)
    × ((s : State) → StandsFor m.core s → Answered way s items batch m m old new))

-- how a call ends that answers a text of lines
abbrev pub EndsText : (old new : Option Content) → TextDone → Type 0
    → (Content → Content → Lines → Type 0) → Type 0
EndsText None new result Unwritten Leaves =
    (result ≡ record { taken = 0; written = 0; status = NO_MARKET }) × (new ≡ None) × Unwritten
EndsText (Some m) new result Unwritten Leaves =
    (after : Content) × (new ≡ Some after)
    × ((lines : Lines) × (result ≡ told_text lines) × Leaves m after lines)
