-- Commands that are made again from the opening under a limit on, and what is noted of them. What
-- is noted of a command depends on the minute in which it is made, on its reply, and on what it
-- does to the Stability Pool.
use Rattle.std.specs.Prelude.{◌≡◌, ℕ, ◌≤◌, List, [], ◌∷◌, ◌++◌, length, Ok}
use Rattle.liq_types.specs.declared.amounts.TheConstants.{RECORDS_MOST}
use Rattle.liq_types.specs.declared.events.PoolEvent.{PoolEvent}
use Rattle.liq_types.specs.declared.replies.Done.{Done}
use Rattle.liq_types.specs.declared.requests.Call.{Call}
use Rattle.liq_types.specs.declared.requests.Command.{Command}
use Rattle.liq_types.specs.Image.{IsLimit}
use Rattle.liq_types.specs.State.{State, opening_with}
use Rattle.liq_rule_step.specs.Rules.{call_events, done_of}
use Rattle.liq_rule_step.specs.Step.{after}
use Rattle.liq_core.specs.Core.{Core, StandsFor}
use Rattle.liq_disk_pair.specs.Replay.{replay}

module _ {N : Type 0} (adds : ℕ → Done → List PoolEvent → List N) where
  -- what is noted of a call that is allowed in a state
  abbrev pub noted_of : State → Call → List N
  noted_of s call = adds s.minute (done_of s call) (call_events s call)

  -- what is noted of a list of commands, each allowed after those before it
  abbrev pub noted : State → List Command → List N
  noted s [] = []
  noted s (c ∷ cs) = noted_of s c.call ++ noted (after s c) cs

  -- The core stands for the state after all of the commands, and what was noted of them is this.
  pub record IsRetold (limit : ℕ) (commands : List Command) (core : Core) (notes : List N) :
      Type 0 where
    pub state : State
    pub replays : replay 1 (opening_with limit) commands ≡ Ok state
    pub stands : StandsFor core state
    pub notes_are : notes ≡ noted (opening_with limit) commands

  -- so far the commands of some list were retold
  pub record HasCome (core : Core) (notes : List N) : Type 0 where
    pub limit : ℕ
    pub known : IsLimit limit
    pub made : List Command
    pub few : length made ≤ RECORDS_MOST
    pub retold : IsRetold limit made core notes

  -- nothing is noted of any command
  abbrev pub NotesNothing : Type 0
  NotesNothing = (minute : ℕ) (done : Done) (events : List PoolEvent) → adds minute done events
      ≡ []

  -- what an onlooker may rest on who notes anything
  abbrev pub MaySee : Core → List N → Type 0
  MaySee core notes = (NotesNothing → ⊥) → HasCome core notes
