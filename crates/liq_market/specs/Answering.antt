-- What a market answers.
use Rattle.std.specs.Prelude.{◌≡◌, ℕ, Result, Ok, Err}
use Rattle.liq_types.specs.declared.replies.NoMemory.{NoMemory}
use Rattle.liq_types.specs.declared.replies.Reply.{Reply}
use Rattle.liq_types.specs.declared.requests.Call.{Call}
use Rattle.liq_types.specs.declared.requests.Command.{Command}
use Rattle.liq_types.specs.declared.requests.Request.{Request}
use Rattle.liq_types.specs.declared.requests.Request.TheVariants.{Do}
use Rattle.liq_types.specs.State.{State}
use Rattle.liq_core.specs.Core.{Core, StandsFor}
use Rattle.liq_rule_step.specs.Lists.{PlansList}
use Rattle.liq_rule_step.specs.Memory.{TakesMemory}
use Rattle.liq_rule_step.specs.Step.{Ruling, Repeated, next_number, ruling, step}

-- The number under which a call is carried out: its client's next one. Behind the greatest there is
-- no next one, and under that the call would be one that comes again: then it is 0, under which
-- every command is out of turn.
abbrev pub unless_repeated : Ruling → ℕ → ℕ
unless_repeated (Repeated kept) number = 0
unless_repeated _ number = number

abbrev pub unused_number : State → ℕ → Call → ℕ
unused_number s client call =
    let number = next_number s client in
    unless_repeated (ruling s (record { client = client; number = number; call = call })) number

-- a call as a command of a client, under this number
abbrev pub numbered : ℕ → ℕ → Call → Request
numbered client number call = Do (record { client = client; number = number; call = call })

-- The reply of the step, and the state after it. Or all is as before, where memory may be asked for
-- the request.
abbrev pub Answers : State → Request → Result Reply NoMemory → Core → Type 0
Answers s request (Ok reply) core = StandsFor core (step s request).0 × ((step s request).1 ≡ reply)
Answers s request (Err none) core = StandsFor core s × TakesMemory s request

-- The reply that the step would give. Or a list of troves is planned, for which there is no memory.
abbrev pub Previews : State → Command → Result Reply NoMemory → Type 0
Previews s c (Ok reply) = (step s (Do c)).1 ≡ reply
Previews s c (Err none) = PlansList s c
