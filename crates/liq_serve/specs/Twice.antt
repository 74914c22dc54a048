-- Two calls of `run`, one after the other, over disks that were kept before the first: the second
-- loses nothing that the first acknowledged (`FollowOn`). It begins with the state after the
-- requests that the first answered, or, where a disk met a fault, after one command more at most
-- (`AreMore`). It finds what is read of the first one's disks or, if nothing was pending before the
-- first, what a crash at its end may leave (`AreBehind`). All this follows from the top call's
-- clause, `Ends`, of either call (`laws::runs_follow_on`). So does it that an audit behind a run is
-- of the commands that were accepted in it (`AuditsAnswered`, `laws::audits_are_of_what_was_answered`).
use Rattle.std.specs.Prelude.{ℕ, ◌≡◌, ◌⊎◌, List, [], ◌∷◌, ◌++◌, map, Option, Some, Ok, Err, fold}
use Rattle.liq_outside.specs.At.{DiskAt, SinkAt, SourceAt}
use Rattle.liq_outside.specs.Disk.{LeftNow, Only}
use Rattle.liq_types.specs.declared.requests.Command.{Command}
use Rattle.liq_types.specs.declared.requests.Request.{Request}
use Rattle.liq_types.specs.declared.requests.Request.TheVariants.{Do}
use Rattle.liq_types.specs.State.{State}
use Rattle.liq_rule_step.specs.Image.{IsSameState}
use Rattle.liq_rule_step.specs.Step as rule
use Rattle.liq_rule_step.specs.Step.{Allowed, accepted, ruling, run}
use Rattle.liq_disk_pair.specs.Commands.{kept_behind, read_back}
use Rattle.liq_disk_pair.specs.Kept.{IsKept, IsKeptWith}
use Rattle.liq_disk_pair.specs.Pair.{commands_on, state_on}
use Rattle.liq_disk_pair.specs.Past.{held_at_end}
use Rattle.liq_disk_pair.specs.Unfinished.{HoldsUnfinished}
use Rattle.liq_word_exit.specs.declared.halts.Halt.TheVariants.{DiskFault}
use Rattle.liq_word_exit.specs.Requests.{IsNext}
use Rattle.liq_word_exit.specs.Statuses.{End, status_of}
use Rattle.liq_word_exit.specs.Outside.{Outside}
use Rattle.liq_word_state.specs.Audit.{IsAuditOf}
use Rattle.liq_serve.specs.Top.{RunsTo, Tells}

-- What disks hold behind the requests that a run answered: nothing; or, where a disk met a fault,
-- one command more. It is accepted there, and the next line's where the source told its bytes; or,
-- where nothing was answered, it is the one that they held unfinished before.
abbrev pub AreMore :
    Option (List ℕ) → List ℕ → List ℕ → State → List Request → End
    → List Command → Type 0
AreMore told l r start requests end [] = Unit {0}
AreMore told l r start requests end (c ∷ []) = (end ≡ Err DiskFault)
    × ((IsNext told requests (Do c) × (ruling (run start requests).0 c ≡ Allowed))
    ⊎ ((requests ≡ []) × HoldsUnfinished l r start c))
AreMore told l r start requests end (c ∷ more) = ⊥

-- Two disks of this content are kept for the state after the requests and after these, and the
-- commands that were accepted stand on them: so the next run begins there, and what was acknowledged
-- is in it.
abbrev pub BeginsBehind :
    Option (List ℕ) → List ℕ → List ℕ → State → List Request → End → List ℕ
    → List ℕ → Type 0
BeginsBehind told l r start requests end a b =
    (more : List Command) × AreMore told l r start requests end more
    × IsKeptWith a b (fold rule.after (run start requests).0 more)
    (kept_behind (held_at_end l r start requests) more)

-- The functions are those of `Ends`.
module _
    {S K D : Type 0} (source_at : S → SourceAt) (sink_at : K → SinkAt) (disk_at : D → DiskAt) where
  -- They are what is read of the disks that a call left; or, if nothing was pending before it, what
  -- a crash then may leave of the one and of the other.
  abbrev pub AreBehind : Outside S K D → Outside S K D → List ℕ → List ℕ → List ℕ → List ℕ → Type 0
  AreBehind before after l r a b =
      (((disk_at after.left).seen ≡ Some a) × ((disk_at after.right).seen ≡ Some b))
      ⊎ (Only l (LeftNow disk_at before.left) × Only r (LeftNow disk_at before.right)
      × LeftNow disk_at after.left a × LeftNow disk_at after.right b)

  -- Two calls, both of `run`. The second begins in the state to which the first one's requests
  -- lead, or one command further, which the first may have left unfinished; and the commands that
  -- lead there stand on its disks. Its own requests lead on from there.
  pub record FollowOn
      (before middle again after : Outside S K D) (status later : ℕ) (l r a b : List ℕ)
      (start : State) : Type 0 where
    pub end : End
    pub status_is : status ≡ status_of end
    pub first : RunsTo source_at sink_at disk_at before middle end l r start
    pub more : List Command
    pub are : AreMore (source_at before.source).left l r start first.requests end more
    pub state : State
    pub is : state_on a b ≡ Ok state
    pub kept : IsKept a b state
    pub holds : commands_on a b ≡ kept_behind (held_at_end l r start first.requests) more
    pub begins : IsSameState (fold rule.after (run start first.requests).0 more) state
    pub ending : End
    pub later_is : later ≡ status_of ending
    pub second : RunsTo source_at sink_at disk_at again after ending a b state
    pub ends :
        IsSameState (run (fold rule.after (run start first.requests).0 more) second.requests).0
        (run state second.requests).0

  -- A call of `run`, and then one of `audit`, which finds a state of the first generation. The review
  -- is of the commands that stood on the disks before the run and, behind those, of the ones that it
  -- accepted, as they are read back. They lead to the state in which the run ended.
  pub record AuditsAnswered
      (before middle again after : Outside S K D) (status later : ℕ) (l r : List ℕ) (start : State)
      : Type 0 where
    pub end : End
    pub status_is : status ≡ status_of end
    pub first : RunsTo source_at sink_at disk_at before middle end l r start
    pub ending : End
    pub later_is : later ≡ status_of ending
    pub state : State
    pub same : IsSameState state (run start first.requests).0
    pub text : List ℕ
    pub review :
        IsAuditOf state (commands_on l r ++ map read_back (accepted start first.requests)) ending
        text
    pub told : Tells source_at sink_at disk_at again after [] text ending
