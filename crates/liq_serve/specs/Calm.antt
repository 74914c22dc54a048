-- Where nothing is wrong with lines, streams and disks a word is done, unless there was no memory.
use Rattle.std.specs.Prelude.{ℕ, ◌≡◌, ◌≤◌, ◌<◌, ◌⊎◌, List, [], length, take, Some, None, Ok}
use Rattle.std.specs.List.{AllZip}
use Rattle.liq_outside.specs.At.{DiskAt, SinkAt, SourceAt}
use Rattle.liq_outside.specs.Faults.{Rose}
use Rattle.liq_types.specs.declared.amounts.TheConstants.{LINES_MOST}
use Rattle.liq_types.specs.declared.requests.Request.{Request}
use Rattle.liq_types.specs.State.{State, opening_with}
use Rattle.liq_rule_step.specs.Events.{events}
use Rattle.liq_fees.specs.Lines as stakes
use Rattle.liq_rewards.specs.Lines as tags
use Rattle.liq_text_lines.specs.Lines.{lines_in}
use Rattle.liq_disk_pair.specs.Pair.{commands_on, state_on}
use Rattle.liq_text_audit.specs.Limits.{number_above}
use Rattle.liq_text_scripts.specs.Asked.{Asks}
use Rattle.liq_store.specs.Causes.{OneRose, counts_of}
use Rattle.liq_word_line.specs.declared.words.Word.TheVariants as word
use Rattle.liq_word_line.specs.Words.{Ask}
use Rattle.liq_word_exit.specs.Requests.{IsRequest}
use Rattle.liq_word_exit.specs.declared.halts.Halt.{Halt}
use Rattle.liq_word_exit.specs.declared.halts.Halt.TheVariants.{DamagedInput, Limit, Rotated}
use Rattle.liq_word_exit.specs.Output.{last}
use Rattle.liq_word_exit.specs.Statuses.{IsDone}
use Rattle.liq_word_exit.specs.Stops.{Adds}
use Rattle.liq_follower.specs.Fed.{AreDamagedAt, AreTurnedTo, GoOn}
use Rattle.liq_word_follow.specs.declared.feeding.TheConstants.{FED_MOST}
use Rattle.liq_word_follow.specs.Followed.{FaultIn}
use Rattle.liq_word_exit.specs.Outside.{Outside}

-- The arguments are those of `Ends`.
module _
    {S K D : Type 0} (source_at : S → SourceAt) (sink_at : K → SinkAt) (disk_at : D → DiskAt)
    (before after : Outside S K D) where
  -- the source met no fault
  abbrev pub IsReadWell : Type 0
  IsReadWell = Rose (source_at before.source).faults (source_at after.source).faults → ⊥

  -- no disk met one
  abbrev pub AreKeptWell : Type 0
  AreKeptWell =
      OneRose (counts_of disk_at before.left before.right)
      (counts_of disk_at after.left after.right) → ⊥

  -- neither the sink nor a disk met one
  pub record IsCalm : Type 0 where
    pub sink : Rose (sink_at before.sink).faults (sink_at after.sink).faults → ⊥
    pub disk : AreKeptWell

  -- both disks tell these bytes, and stand for this state
  pub record StoodFor (l r : List ℕ) (start : State) : Type 0 where
    pub left : (disk_at before.left).seen ≡ Some l
    pub right : (disk_at before.right).seen ≡ Some r
    pub is : state_on l r ≡ Ok start

  -- the word stopped so and told it, unless there was no memory
  abbrev pub Stopped : ℕ → ℕ → Halt → Type 0
  Stopped status wanted halt =
      let fault = Rose (sink_at before.sink).faults (sink_at after.sink).faults in
      ((status ≡ wanted)
      × Adds [] (last halt) fault (sink_at before.sink).held (sink_at after.sink).held)
      ⊎ (status ≡ 7)

  -- Lines that all say something of one kind are answered beside disks of the first generation.
  abbrev pub AnswersFirst : {X : Type 0} → (List ℕ → X → Type 0) → ℕ → Type 0
  AnswersFirst {X} Says status =
      (bytes l r : List ℕ) (start : State) (asked : List X)
      → (source_at before.source).left ≡ Some bytes → StoodFor l r start
      → AllZip Says (lines_in bytes) asked → length asked ≤ LINES_MOST → start.generation ≡ 1
      → IsReadWell → IsCalm → IsDone status

  -- beside those of a later one they have no answer
  abbrev pub RefusesLater : {X : Type 0} → (List ℕ → X → Type 0) → ℕ → Type 0
  RefusesLater {X} Says status =
      (bytes l r : List ℕ) (start : State) (asked : List X)
      → (source_at before.source).left ≡ Some bytes → StoodFor l r start
      → AllZip Says (lines_in bytes) asked → length asked ≤ LINES_MOST → 1 < start.generation
      → IsReadWell → AreKeptWell → (status ≡ 9) ⊎ (status ≡ 7)

  -- Each word is done then, unless there was no memory. An audit stops where the generation is
  -- above the first: only that one has all commands.
  pub record IsComplete (status : ℕ) (words : List (List ℕ)) : Type 0 where
    pub run :
        Ask words word.Run → (bytes l r : List ℕ) (start : State) (requests : List Request)
        → (source_at before.source).left ≡ Some bytes → StoodFor l r start
        → AllZip IsRequest (lines_in bytes) requests → length requests ≤ LINES_MOST
        → IsReadWell → IsCalm → IsDone status
    pub serve :
        Ask words word.Serve → (bytes l r : List ℕ) (start : State) (asked : List (ℕ × Request))
        → (source_at before.source).left ≡ Some bytes → StoodFor l r start
        → AllZip Asks (lines_in bytes) asked → length asked ≤ LINES_MOST
        → IsReadWell → IsCalm → IsDone status
    -- Stakers too are answered beside the first generation alone, and so are those who name front
    -- ends.
    pub staking : Ask words word.Staking → AnswersFirst stakes.Spells status
    pub rewards : Ask words word.Rewards → AnswersFirst tags.Spells status
    -- behind a rotation there is no answer for either
    pub staking_rotated : Ask words word.Staking → RefusesLater stakes.Spells status
    pub rewards_rotated : Ask words word.Rewards → RefusesLater tags.Spells status
    pub state :
        Ask words word.State → (l r : List ℕ) (start : State) → StoodFor l r start
        → IsCalm → IsDone status
    pub report :
        Ask words word.Report → (l r : List ℕ) (start : State) → StoodFor l r start
        → IsCalm → IsDone status
    pub audit :
        Ask words word.Audit → (l r : List ℕ) (start : State) → StoodFor l r start
        → start.generation ≡ 1
        → number_above (events (opening_with start.limit) (commands_on l r)) ≡ None
        → IsCalm → IsDone status
    pub rotated :
        Ask words word.Audit → (l r : List ℕ) (start : State) → StoodFor l r start
        → 1 < start.generation → AreKeptWell → (status ≡ 9) ⊎ (status ≡ 7)
    -- An input of no more bytes than are followed is followed to its end, where they show no fault.
    -- Their first fault is told, and of more bytes which show none that they are more.
    pub follow :
        Ask words word.Follow → (bytes : List ℕ) → (source_at before.source).left ≡ Some bytes
        → length bytes ≤ FED_MOST → GoOn bytes → IsReadWell
        → (Rose (sink_at before.sink).faults (sink_at after.sink).faults → ⊥) → IsDone status
    pub damaged_input :
        Ask words word.Follow → (bytes : List ℕ) → (source_at before.source).left ≡ Some bytes
        → (index : ℕ) → FaultIn (take FED_MOST bytes) (AreDamagedAt index) → IsReadWell
        → Stopped status 6 (DamagedInput index)
    pub rotated_input :
        Ask words word.Follow → (bytes : List ℕ) → (source_at before.source).left ≡ Some bytes
        → (generation : ℕ) → FaultIn (take FED_MOST bytes) (AreTurnedTo generation) → IsReadWell
        → Stopped status 9 (Rotated generation)
    pub long_input :
        Ask words word.Follow → (bytes : List ℕ) → (source_at before.source).left ≡ Some bytes
        → FED_MOST < length bytes → GoOn (take FED_MOST bytes) → IsReadWell
        → Stopped status 8 (Limit FED_MOST)
    pub gen :
        (seed count : ℕ) → Ask words (word.Gen seed count)
        → (Rose (sink_at before.sink).faults (sink_at after.sink).faults → ⊥) → IsDone status
