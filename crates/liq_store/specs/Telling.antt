-- What an opening tells of the ordered list to those who follow its changes, and what a call adds.
use Rattle.std.specs.Prelude.{◌≡◌, ◌++◌, List, []}
use Rattle.liq_types.specs.declared.events.ListChange.{ListChange}
use Rattle.liq_types.specs.declared.replies.Answer.{Answer}
use Rattle.liq_types.specs.declared.replies.Answer.TheVariants as answer
use Rattle.liq_types.specs.declared.requests.Request.{Request}
use Rattle.liq_types.specs.declared.requests.Request.TheVariants.{Do, Ask}
use Rattle.liq_types.specs.State.{State, opening}
use Rattle.liq_core.specs.Core.{Core, StandsFor}
use Rattle.liq_core.specs.Entries.{told_whole}
use Rattle.liq_rule_step.specs.Rules.{call_changes}
use Rattle.liq_rule_step.specs.Step.{Allowed, Ruling, ruling}
use Rattle.liq_rule_step.specs.View.{all_followed, view_of}
use Rattle.liq_store.specs.Stored.{Stored}

-- the words of which the protocol's keys are made, and then each trove in the list's order
abbrev pub TellsList : Core → List ListChange → Type 0
TellsList core changes = changes ≡ told_whole core.image core.list

-- who follows them from nothing has the list
abbrev pub LeadsToList : Core → List ListChange → Type 0
LeadsToList core changes =
    (s : State) → StandsFor core s → all_followed (view_of opening) changes ≡ view_of s

-- a command that is refused or comes again tells nothing
abbrev pub told_by : Ruling → List ListChange → List ListChange
told_by Allowed changes = changes
told_by _ changes = []

-- one that is accepted tells what it changes in the ordered list
abbrev pub told_of : State → Request → List ListChange
told_of s (Do command) = told_by (ruling s command) (call_changes s command.call)
told_of s (Ask query) = []

-- without a reply there is nothing to tell
abbrev pub told : State → Request → Answer → List ListChange
told s request (answer.Reply reply) = told_of s request
told s request _ = []

-- a call adds them behind the changes that are not followed yet
abbrev pub TellsChanges : {D : Type 0} → Stored D → Request → Answer → Stored D → Type 0
TellsChanges old request answer new =
    (s : State) → StandsFor old.core s → new.changes ≡ old.changes ++ told s request answer
