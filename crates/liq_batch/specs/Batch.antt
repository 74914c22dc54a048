-- What a batch is asked, and what it leaves.
use Rattle.std.specs.Prelude.{◌≡◌, ℕ, ◌<◌, ◌==◌, min, List, [], ◌∷◌, ◌++◌, length, map, take, drop}
use Rattle.std.specs.Prelude.{Option, Some, None, Result, Ok, Err, if◌then◌else◌}
use Rattle.std.specs.List.{HoldsAt}
use Rattle.liq_types.specs.declared.replies.Reply.{Reply}
use Rattle.liq_types.specs.declared.requests.Command.{Command}
use Rattle.liq_types.specs.declared.requests.Query.TheVariants.{Wallet, Trove, Deposit}
use Rattle.liq_types.specs.declared.requests.Query.TheVariants.{Pools, System, NextNumber}
use Rattle.liq_types.specs.declared.requests.Request.{Request}
use Rattle.liq_types.specs.declared.requests.Request.TheVariants.{Do, Ask}
use Rattle.liq_types.specs.State.{State}
use Rattle.liq_core.specs.Core.{StandsFor}
use Rattle.liq_rule_step.specs.Step.{run, step}
use Rattle.liq_rule_step.specs.Lists.{PlansList}
use Rattle.liq_rule_step.specs.Memory.{TakesMemory}
use Rattle.liq_wire.specs.Fields.{command_of}
use Rattle.liq_replies96.specs.declared.reply.Reply96.{Reply96}
use Rattle.liq_replies96.specs.Replies.{reply96, bad96, no_memory96}
use Rattle.liq_market.specs.Content.{Content}
use Rattle.liq_market.specs.Touching.{touched_after}
use Rattle.liq_batch.specs.declared.batch.Command96.{Command96}
use Rattle.liq_batch.specs.declared.batch.Query64.{Query64}
use Rattle.liq_batch.specs.declared.batch.Batch.{Batch}
use Rattle.liq_batch.specs.declared.batch.Fault.{Fault}
use Rattle.liq_batch.specs.declared.batch.Fault.TheVariants.{Bad, NoMemory}

-- ---- which request an item is, or the place of the first field that fits none

abbrev pub done_by : Result Command ℕ → Result Request ℕ
done_by (Ok c) = Ok (Do c)
done_by (Err place) = Err place

abbrev pub command_in : Command96 → Result Request ℕ
command_in c = done_by (command_of c.bytes)

-- the same of a command whose number is left to the market: it is 0
abbrev pub unnumbered : Result Command ℕ → Result Request ℕ
unnumbered (Ok c) = if c.number == 0 then Ok (Do c) else Err 8
unnumbered (Err place) = Err place

abbrev pub call_in : Command96 → Result Request ℕ
call_in c = unnumbered (command_of c.bytes)

abbrev pub query_in : Query64 → Result Request ℕ
query_in q =
    if q.topic == 1 then Ok (Ask (Wallet q.account))
    else if q.topic == 2 then Ok (Ask (Trove q.account))
    else if q.topic == 3 then Ok (Ask (Deposit q.account))
    else if q.topic == 4 then (if q.account == 0 then Ok (Ask Pools) else Err 4)
    else if q.topic == 5 then (if q.account == 0 then Ok (Ask System) else Err 4)
    else if q.topic == 6 then Ok (Ask (NextNumber q.account))
    else Err 0

-- ---- ways to answer items

-- Which request an item is; where requests lead, and the replies to them; whom the last command
-- touched that was accepted, behind them; and for which requests memory may be missing.
pub record Way (X : Type 0) : Type 1 where
  pub read : X → Result Request ℕ
  pub go : State → List Request → State × List Reply
  pub touched : State → List Request → List ℕ → List ℕ
  pub Takes : State → Request → Type 0

-- whom the last accepted command touched, behind requests in order
abbrev pub touched_after_all : State → List Request → List ℕ → List ℕ
touched_after_all s [] before = before
touched_after_all s (request ∷ requests) before =
    touched_after_all (step s request).0 requests (touched_after s request before)

-- requests that change nothing touch nobody
abbrev pub as_before : State → List Request → List ℕ → List ℕ
as_before s requests before = before

-- a batch of commands: each acts on what those before it left
abbrev pub doing : Way Command96
doing = record { read = command_in; go = run; touched = touched_after_all; Takes = TakesMemory }

-- each request is answered as if it came alone, and the state stays
abbrev pub apart : State → List Request → State × List Reply
apart s requests = (s, map (λ request. (step s request).1) requests)

abbrev pub PlansAList : State → Request → Type 0
PlansAList s (Do c) = PlansList s c
PlansAList s (Ask q) = ⊥

-- commands that are looked at, and not carried out
abbrev pub previewing : Way Command96
previewing = record { read = command_in; go = apart; touched = as_before; Takes = PlansAList }

abbrev pub Never : State → Request → Type 0
Never s request = ⊥

-- a batch of queries: none changes anything or takes memory
abbrev pub asking : Way Query64
asking = record { read = query_in; go = run; touched = as_before; Takes = Never }

-- ---- one item

-- why an item has no answer in a state
abbrev pub HasFault : {X : Type 0} → Way X → State → X → Fault → Type 0
HasFault way s item (Bad place) = way.read item ≡ Err place
HasFault way s item NoMemory =
    (request : Request) × (way.read item ≡ Ok request) × way.Takes s request

-- It is a request, and has its reply; or why not, and all is as before.
abbrev pub AnswersItem : {X : Type 0} → Way X → State → X → Result Reply Fault
    → (before after : Content) → Type 0
AnswersItem way s item (Ok reply) before after =
    (request : Request) × (way.read item ≡ Ok request)
    × StandsFor after.core (way.go s (request ∷ [])).0 × ((way.go s (request ∷ [])).1 ≡ reply ∷ [])
    × (after.touched ≡ way.touched s (request ∷ []) before.touched)
AnswersItem way s item (Err fault) before after =
    HasFault way s item fault × StandsFor after.core s × (after.touched ≡ before.touched)

-- ---- many

-- the reply that says why an item has none
abbrev pub said : Fault → Reply96
said (Bad place) = bad96 place
said NoMemory = no_memory96

abbrev pub last : Option Fault → List Reply96
last None = []
last (Some fault) = said fault ∷ []

-- some places are written from the first on, and the others stay
abbrev pub Writes : {A : Type 0} → List A → List A → List A → Type 0
Writes old written new = new ≡ written ++ drop (length written) old

-- Why a batch ended with so many answered, in the state to which these lead: the next item has a
-- fault, or there is no next one, or no place for its reply.
abbrev pub Ends : {X : Type 0} → Way X → State → List X → (places done : ℕ) → Option Fault → Type 0
Ends way s items places done None = done ≡ min (length items) places
Ends way s items places done (Some fault) =
    (done < min (length items) places) × HoldsAt (λ item. HasFault way s item fault) items done

-- The first items are requests and are answered in this way, each by the reply in its place. Behind
-- these replies stands why the next item has none. The market is where the requests lead, and tells
-- whom they touched.
pub record Answered {X : Type 0} (way : Way X) (s : State) (items : List X) (batch : Batch)
    (before after : Content) (old new : List Reply96) : Type 0 where
  pub requests : List Request
  pub are : map way.read (take batch.done items) ≡ map Ok requests
  pub stands : StandsFor after.core (way.go s requests).0
  pub touched : after.touched ≡ way.touched s requests before.touched
  pub replies : Writes old (map reply96 (way.go s requests).1 ++ last batch.fault) new
  pub ends : Ends way (way.go s requests).0 items (length old) batch.done batch.fault
