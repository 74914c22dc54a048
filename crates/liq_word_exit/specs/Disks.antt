-- What a run leaves on the disks.
use Rattle.std.specs.Prelude.{ℕ, ◌≡◌, ◌≢◌, ◌⊎◌, [], ◌∷◌, List, Option, Some, Ok, Err, true, false}
use Rattle.liq_outside.specs.At.{DiskAt}
use Rattle.liq_outside.specs.Disk.{LeavesOnly, LeftNow, Only}
use Rattle.liq_types.specs.declared.requests.Command.{Command}
use Rattle.liq_types.specs.declared.requests.Request.{Request}
use Rattle.liq_types.specs.declared.requests.Request.TheVariants.{Do}
use Rattle.liq_types.specs.State.{State}
use Rattle.liq_rule_step.specs.Step.{Allowed, after, ruling, run}
use Rattle.liq_journal.specs.declared.damage.Damage.{Damage}
use Rattle.liq_journal.specs.Opened.{OpenLeaves}
use Rattle.liq_disk_pair.specs.declared.side.Side.{Side}
use Rattle.liq_disk_pair.specs.Commands.{kept_behind}
use Rattle.liq_disk_pair.specs.Kept.{IsKept, IsKeptWith}
use Rattle.liq_disk_pair.specs.Pair.{StandFor, commands_on, state_on}
use Rattle.liq_disk_pair.specs.Past.{AtCommand, Fault, InOpening, NoFault, held_at_end}
use Rattle.liq_disk_pair.specs.Unfinished.{IsRecovered}
use Rattle.liq_store.specs.Leaving.{LeavesBoth}
use Rattle.liq_store.specs.Standing.{OnlyShuts}
use Rattle.liq_word_exit.specs.declared.halts.Halt.TheVariants.{DiskFault, Damaged, NoMemory}
use Rattle.liq_word_exit.specs.Requests.{IsNext}
use Rattle.liq_word_exit.specs.Statuses.{End}

-- Nothing was answered, so that the opening may have failed; and where the source tells its bytes,
-- nothing was read. `told` is what it told before, and `unread` what it still tells.
abbrev pub IsUnread : Option (List ℕ) → Option (List ℕ) → List Request → Type 0
IsUnread told unread requests = (requests ≡ []) × (unread ≡ told)

-- Where a run met a disk's fault: in the opening, before a line was read; or at the next line's
-- command, which is accepted after these requests.
abbrev pub IsFaultOfRun : State → End → Option (List ℕ) → Option (List ℕ) → List Request → Fault
    → Type 0
IsFaultOfRun start (Err DiskFault) told unread requests fault =
    ((fault ≡ InOpening) × IsUnread told unread requests) ⊎ ((c : Command) × (fault ≡ AtCommand c)
    × IsNext told requests (Do c) × (ruling (run start requests).0 c ≡ Allowed))
IsFaultOfRun start _ told unread requests fault = fault ≡ NoFault

-- where a word met one that only tells what is on the disks, or that opened no store: it leaves
-- what an opening may leave
abbrev pub IsFaultOfTelling : End → Fault → Type 0
IsFaultOfTelling (Err DiskFault) fault = fault ≡ InOpening
IsFaultOfTelling _ fault = fault ≡ NoFault

module _ {D : Type 0} (at : D → DiskAt) where
  -- Where nothing was pending before a word on either of these two disks, and they were kept for
  -- the state for which they stood, it leaves of them what a run of these requests leaves, with a
  -- fault where P says.
  abbrev pub LeavesOfRun : D → D → (Fault → Type 0) → List ℕ → List ℕ → State → List Request → D → D
      → Type 0
  LeavesOfRun old_left old_right P l r start requests left right =
      Only l (LeftNow at old_left) → Only r (LeftNow at old_right) → IsKept l r start
      → LeavesBoth at old_left old_right P l r start requests left right

  -- where both disks tell their bytes, this holds of them
  abbrev pub OfBoth : D → D → (List ℕ → List ℕ → Type 0) → Type 0
  OfBoth left right P = (a b : List ℕ) → (at left).seen ≡ Some a → (at right).seen ≡ Some b → P a b

  -- where these bytes stand for a state, this holds of them and of it
  abbrev pub OfState : D → D → (List ℕ → List ℕ → State → Type 0) → Type 0
  OfState left right P = OfBoth left right (λ l r. (start : State) → state_on l r ≡ Ok start
      → P l r start)

  -- where one of the disks is damaged, this holds of these bytes, of its side and of the first
  -- damage
  abbrev pub OfDamage : D → D → (List ℕ → List ℕ → Side → Damage → Type 0) → Type 0
  OfDamage left right P = OfBoth left right (λ l r.
      (side : Side) (damage : Damage) → state_on l r ≡ Err (side, damage) → P l r side damage)

  -- The disks of a run that began with l and r on them, for which they stood for the state `start`:
  -- they are kept for the state after the requests, and the commands that were accepted stand on
  -- them behind those that stood there.
  abbrev pub DisksHold : End → Option (List ℕ) → Option (List ℕ) → List ℕ → List ℕ → State → D → D
      → List Request → Type 0
  -- After a disk's fault they are kept for that state, or for it after the next line's command, if
  -- it is accepted there, which then stands on them too. Or the opening failed, and left what it
  -- may leave of disks that were kept.
  DisksHold (Err DiskFault) told unread l r start left right asked = OfBoth left right (λ a b.
      let s = (run start asked).0 in
      let held = held_at_end l r start asked in
      (IsUnread told unread asked × (IsKept l r start → IsRecovered l r start a b))
      ⊎ (IsKeptWith a b s held ⊎ ((c : Command) × IsNext told asked (Do c) × (ruling s c ≡ Allowed)
      × IsKeptWith a b (after s c) (kept_behind held (c ∷ [])))))
  -- Where memory may have been wanted for the opening they stand for that state, by those commands,
  -- and stay kept.
  DisksHold (Err NoMemory) told unread l r start left right asked = OfBoth left right (λ a b.
      let s = (run start asked).0 in
      StandFor a b s × (commands_on a b ≡ held_at_end l r start asked)
      × ((IsUnread told unread asked → IsKept l r start) → IsKept a b s))
  DisksHold _ told unread l r start left right asked =
      OfBoth left right (λ a b.
      IsKeptWith a b (run start asked).0 (held_at_end l r start asked))

  -- The disks of a word that only tells what is on them: they stand for just the state for which l
  -- and r stood, by just the same commands, and are kept for it.
  abbrev pub DisksStay : End → List ℕ → List ℕ → State → D → D → Type 0
  -- A disk's fault may be the opening's: then it left what it may leave of disks that were kept.
  -- `audit` may meet one behind the opening too, and nothing shows which it was.
  DisksStay (Err DiskFault) l r s left right = IsKept l r s → OfBoth left right (IsRecovered l r s)
  -- memory may have been wanted for the opening
  DisksStay (Err NoMemory) l r s left right =
      OfBoth left right (λ a b. (state_on a b ≡ Ok s) × (commands_on a b ≡ commands_on l r)
      × (IsKept l r s → IsKept a b s))
  DisksStay _ l r s left right =
      OfBoth left right (λ a b. (state_on a b ≡ Ok s) × IsKeptWith a b s (commands_on l r))

  -- How a word ends over damaged disks: the first damage is told; or a disk met a fault, or there
  -- was no memory, before it was found. It stays, but where a disk met a fault.
  abbrev pub EndsDamaged : Side → Damage → End → D → D → Type 0
  EndsDamaged side damage (Err DiskFault) left right = Unit {0}
  EndsDamaged side damage (Err NoMemory) left right =
      OfBoth left right (λ a b. state_on a b ≡ Err (side, damage))
  EndsDamaged side damage (Err (Damaged which number)) left right = (which ≡ side)
      × (number ≡ damage.index) × OfBoth left right (λ a b. state_on a b ≡ Err (side, damage))
  EndsDamaged side damage _ left right = ⊥

-- What a word leaves of disks of which one is damaged, and on which l and r stood. Where nothing
-- was pending on one of them, a stop at any moment leaves it as it was, or with some byte at the
-- one place that an opening shuts; and where no disk met a fault that byte is a 0 at the end.
module _ {D : Type 0} (at : D → DiskAt) (old_left old_right : D) (l r : List ℕ) where
  pub record LeavesOrShuts (end : End) (left right : D) : Type 0 where
    pub left_leaves : Only l (LeftNow at old_left) → LeavesOnly at old_left left (OpenLeaves true l)
    pub right_leaves : Only r (LeftNow at old_right)
        → LeavesOnly at old_right right (OpenLeaves false r)
    pub shut : end ≢ Err DiskFault
        → OfBoth at left right (λ a b. OnlyShuts true l a × OnlyShuts false r b)

  -- and how it ends
  pub record LeavesDamaged
      (side : Side) (damage : Damage) (end : End) (left right : D) : Type 0 where
    pub ends : EndsDamaged at side damage end left right
    pub leaves : LeavesOrShuts end left right
