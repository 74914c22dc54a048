-- Commands to which the market gives their numbers.
use Rattle.std.specs.Prelude.{◌≡◌, ℕ, List, [], ◌∷◌, map, take, drop, Result, Ok, Err}
use Rattle.liq_types.specs.declared.replies.Reply.{Reply}
use Rattle.liq_types.specs.declared.requests.Request.{Request}
use Rattle.liq_types.specs.declared.requests.Request.TheVariants.{Do, Ask}
use Rattle.liq_types.specs.State.{State}
use Rattle.liq_rule_step.specs.Step.{step, run}
use Rattle.liq_rule_step.specs.Memory.{TakesMemory}
use Rattle.liq_replies96.specs.declared.reply.Reply96.{Reply96}
use Rattle.liq_market.specs.Answering.{unused_number}
use Rattle.liq_market.specs.Content.{Content}
use Rattle.liq_batch.specs.declared.batch.Batch.{Batch}
use Rattle.liq_batch.specs.declared.batch.Command96.{Command96}
use Rattle.liq_batch.specs.Batch.{Answered, Way, command_in, call_in, touched_after_all}

-- a command under its client's next number; under 0, where that has used the greatest
abbrev pub numbered : State → Request → Request
numbered s (Do c) = Do (record c { number = unused_number s c.client c.call })
numbered s (Ask q) = Ask q

-- each of some requests with its number, in the state to which those before it lead
abbrev pub numbered_all : State → List Request → List Request
numbered_all s [] = []
numbered_all s (request ∷ requests) =
    numbered s request ∷ numbered_all (step s (numbered s request)).0 requests

abbrev pub numbered_run : State → List Request → State × List Reply
numbered_run s requests = run s (numbered_all s requests)

abbrev pub touched_by_numbered : State → List Request → List ℕ → List ℕ
touched_by_numbered s requests before = touched_after_all s (numbered_all s requests) before

abbrev pub TakesMemoryNumbered : State → Request → Type 0
TakesMemoryNumbered s request = TakesMemory s (numbered s request)

-- commands that come without numbers, each behind those before it
abbrev pub numbering : Way Command96
numbering = record {
  read = call_in;
  go = numbered_run;
  touched = touched_by_numbered;
  Takes = TakesMemoryNumbered;
}

abbrev pub numbered_in : State → Result Request ℕ → Result Request ℕ
numbered_in s (Ok request) = Ok (numbered s request)
numbered_in s (Err place) = Err place

-- A batch whose commands have their numbers where they are answered. The others are as they were.
pub record Numbers (s : State) (given left : List Command96) (batch : Batch)
    (before after : Content) (old new : List Reply96) : Type 0 where
  pub answered : Answered numbering s given batch before after old new
  pub numbers : map command_in (take batch.done left) ≡ map Ok (numbered_all s answered.requests)
  pub others : drop batch.done left ≡ drop batch.done given
