-- The step: what a request does to a state, and the reply.
use Rattle.std.specs.Prelude.{ℕ, ◌+◌, ◌==◌, ◌&&◌, Bool, true, false, not, nat_le, Option, None, Some}
use Rattle.std.specs.Prelude.{List, [], ◌∷◌, ◌++◌, map, if◌then◌else◌}
use Rattle.liq_types.specs.declared.amounts.TheConstants.{ACCOUNTS, RECORDS_MOST}
use Rattle.liq_types.specs.declared.amounts.TheConstants.{GENERATIONS_MOST, CHECKPOINT_BYTES_MOST}
use Rattle.liq_types.specs.declared.replies.Done.{Done}
use Rattle.liq_types.specs.declared.replies.Refusal.{Refusal}
use Rattle.liq_types.specs.declared.replies.Refusal.TheVariants.{AccountRange, AmountLimit, OutOfTurn, JournalFull}
use Rattle.liq_types.specs.declared.replies.Reply.{Reply}
use Rattle.liq_types.specs.declared.replies.Reply.TheVariants.{Said, No}
use Rattle.liq_types.specs.declared.requests.Call.{Call}
use Rattle.liq_types.specs.declared.requests.Command.{Command}
use Rattle.liq_types.specs.declared.requests.Request.{Request}
use Rattle.liq_types.specs.declared.requests.Request.TheVariants.{Do, Ask}
use Rattle.liq_types.specs.Rules.{Rule, where_above}
pub use Rattle.liq_types.specs.Rules.{first_refusal}
use Rattle.liq_types.specs.State.{State, client_of}
use Rattle.liq_types.specs.Tables.{put}
pub use Rattle.liq_rule_step.specs.Verbs.{accounts}
use Rattle.liq_types.specs.Verbs.{is_rotate}
pub use Rattle.liq_rule_step.specs.Rules.{rules, effect, done_of}
pub use Rattle.liq_rule_step.specs.Queries.{answer, next_number}
use Rattle.liq_rule_step.specs.Image.{image}
use Rattle.liq_types.specs.Length.{checkpoint_length}

-- ---- client numbers

-- accounts and clients are numbers below a bound
abbrev pub in_range : ℕ → Rule
in_range value = (nat_le ACCOUNTS value, AccountRange value)

-- a command that comes again: it has the last number that was accepted of its client
abbrev pub is_repeated : State → Command → Bool
is_repeated s c = c.number == (client_of s c.client).last && not (c.number == 0)

abbrev pub in_turn : State → Command → Rule
in_turn s c = (
  not (c.number == (client_of s c.client).last + 1),
  OutOfTurn (next_number s c.client),
)

-- ---- what a command leaves

abbrev pub records_after : State → Call → ℕ
records_after s call = if is_rotate call then 0 else s.records + 1

-- the command is counted, and its reply is kept under its number
abbrev pub noted : State → Command → Done → State
noted s c done =
    record s {
      records = records_after s c.call;
      clients = put s.clients c.client (record { last = c.number; kept = done });
    }

-- the state after a command that is allowed
abbrev pub after : State → Command → State
after s c = noted (effect s c.call) c (done_of s c.call)

-- ---- the journal's limits

-- A journal is full until it is rotated, and there are only so many generations, each with a
-- checkpoint of limited length.
abbrev pub room_rules : State → Command → List Rule
room_rules s c =
    if is_rotate c.call
    then where_above (s.generation + 1) GENERATIONS_MOST AmountLimit
    ∷ where_above (checkpoint_length (image (after s c))) CHECKPOINT_BYTES_MOST AmountLimit
    ∷ []
    else (nat_le RECORDS_MOST s.records, JournalFull RECORDS_MOST) ∷ []

-- ---- the ruling on a command

pub data Ruling : Type 0 where
  Refused : (refusal : Refusal) → Ruling
  Repeated : (kept : Done) → Ruling
  Allowed : Ruling

abbrev pub unless_refused : Option Refusal → Ruling → Ruling
unless_refused None ruling = ruling
unless_refused (Some refusal) ruling = Refused refusal

-- what is tested of a new command, in order
abbrev pub tests : State → Command → List Rule
tests s c = in_turn s c ∷ map in_range (accounts c.call) ++ rules s c.call ++ room_rules s c

-- what the rules say of a command: by the client, its number, the accounts, what the verb tests and
-- the journal's limits, in this order
abbrev pub ruling : State → Command → Ruling
ruling s c =
    unless_refused (first_refusal (in_range c.client ∷ []))
    (if is_repeated s c
    then Repeated (client_of s c.client).kept
    else unless_refused (first_refusal (tests s c)) Allowed)

abbrev pub after_ruling : State → Command → Ruling → State × Reply
after_ruling s c (Refused refusal) = (s, No refusal)
after_ruling s c (Repeated kept) = (s, Said kept)
after_ruling s c Allowed = (after s c, Said (done_of s c.call))

-- ---- the step, and whole runs

abbrev pub step : State → Request → State × Reply
step s (Do c) = after_ruling s c (ruling s c)
step s (Ask q) = (s, answer s q)

-- the state after a list of requests, and the replies to them
abbrev pub run : State → List Request → State × List Reply
run s [] = (s, [])
run s (request ∷ requests) =
    let now = step s request in
    let rest = run now.0 requests in
    (rest.0, now.1 ∷ rest.1)

abbrev pub is_allowed : Ruling → Bool
is_allowed Allowed = true
is_allowed _ = false

abbrev pub newly_accepted : State → Request → List Command
newly_accepted s (Do c) = if is_allowed (ruling s c) then c ∷ [] else []
newly_accepted s (Ask q) = []

-- the commands of a list that made a step, in order
abbrev pub accepted : State → List Request → List Command
accepted s [] = []
accepted s (request ∷ requests) = newly_accepted s request ++ accepted (step s request).0 requests
