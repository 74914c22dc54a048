-- A disk in memory: its bytes, and what was done to them, by which one goes back to each earlier
-- moment.
use Rattle.std.specs.Prelude.{◌≡◌, ◌⊎◌, ℕ, ◌+◌, ◌-◌, ◌<◌, ◌≤◌, List, [], ◌∷◌, ◌++◌, Some, Result, length, take, drop}
use Rattle.std.specs.Result.{MatchResult}
use Rattle.liq_outside.specs.At.{DiskAt}
use Rattle.liq_outside.specs.Calls.{Calls, begun, faulted, not_begun}
use Rattle.liq_outside.specs.Disk.{Torn, overwritten}

pub data Step : Type 0 where
  -- a write of so many bytes at a place, where these stood
  Wrote : (at count : ℕ) (over : List ℕ) → Step
  -- a write of so many bytes at a place that failed
  Tried : (at count : ℕ) → Step
  -- a sync that didn't fail
  Synced : Step

pub record DiskInMemory : Type 0 where
  -- the bytes that a read gives
  pub held : List ℕ
  -- what was done to them, the last step first
  pub steps : List Step
  pub calls : Calls

-- the bytes before the last step
abbrev pub undone : List ℕ → Step → List ℕ
undone held (Wrote at count over) = take at held ++ over ++ drop (at + count) held
undone held (Tried at count) = held
undone held Synced = held

-- the bytes before these steps
abbrev pub undone_all : List ℕ → List Step → List ℕ
undone_all held [] = held
undone_all held (step ∷ steps) = undone_all (undone held step) steps

-- What a crash after these steps may leave: what is there, or any part of each write since the last
-- sync, one that failed too.
abbrev pub MayBeLeft : List ℕ → List Step → List ℕ → Type 0
MayBeLeft held [] image = image ≡ held
MayBeLeft held (Wrote at count over ∷ steps) image =
    (image ≡ held)
    ⊎ ((earlier : List ℕ) × MayBeLeft (undone held (Wrote at count over)) steps earlier
    × Torn at count earlier image)
MayBeLeft held (Tried at count ∷ steps) image =
    (earlier : List ℕ) × MayBeLeft held steps earlier × Torn at count earlier image
MayBeLeft held (Synced ∷ steps) image = image ≡ held

-- each write's bytes are a whole write of its range over what stood there
abbrev pub AreWrites : List ℕ → List Step → Type 0
AreWrites held [] = Unit {0}
AreWrites held (Wrote at count over ∷ steps) =
    Torn at count (undone held (Wrote at count over)) held
    × AreWrites (undone held (Wrote at count over)) steps
AreWrites held (Tried at count ∷ steps) = AreWrites held steps
AreWrites held (Synced ∷ steps) = AreWrites held steps

-- what a crash at moment k may have left, the moment being the number of steps
abbrev pub WasLeft : List ℕ → List Step → ℕ → List ℕ → Type 0
WasLeft held steps k image =
    let since = length steps - k in
    MayBeLeft (undone_all held (take since steps)) (drop since steps) image

-- how many bytes there were at the last sync
abbrev pub synced_length : List ℕ → List Step → ℕ
synced_length held [] = length held
synced_length held (Wrote at count over ∷ steps) =
    synced_length (undone held (Wrote at count over)) steps
synced_length held (Tried at count ∷ steps) = synced_length held steps
synced_length held (Synced ∷ steps) = length held

-- the place is in the range of a write since the last sync
abbrev pub IsReached : ℕ → List Step → Type 0
IsReached place [] = ⊥
IsReached place (Wrote at count over ∷ steps) =
    ((at ≤ place) × (place < at + count)) ⊎ IsReached place steps
IsReached place (Tried at count ∷ steps) =
    ((at ≤ place) × (place < at + count)) ⊎ IsReached place steps
IsReached place (Synced ∷ steps) = ⊥

-- where the range of a write since the last sync is reached, what it may leave stays so
abbrev pub StaysLeft : ℕ → ℕ → List ℕ → List ℕ → Type 0
StaysLeft at count old new =
    (held : List ℕ) (steps : List Step)
    → AreWrites held steps
    → ((place : ℕ) → at ≤ place → place < at + count → IsReached place steps)
    → MayBeLeft held steps old
    → MayBeLeft held steps new

-- a disk with these bytes, all of them synced
abbrev pub fresh : List ℕ → List ℕ → DiskInMemory
fresh bytes failing = record { held = bytes; steps = []; calls = not_begun failing }

-- after a call that took no step
abbrev pub after_look : DiskInMemory → DiskInMemory
after_look disk = record disk { calls = begun disk.calls }

-- after a call that failed and took no step
abbrev pub after_failed_look : DiskInMemory → DiskInMemory
after_failed_look disk = record disk { calls = faulted (begun disk.calls) }

-- a call that looks takes no step, whether it fails or not
abbrev pub Looks : {T E : Type 0} → Result T E → DiskInMemory → DiskInMemory → Type 0
Looks result old new =
    MatchResult result (λ _. new ≡ after_look old) (λ _. new ≡ after_failed_look old)

-- after a write
abbrev pub after_disk_write : DiskInMemory → ℕ → List ℕ → DiskInMemory
after_disk_write disk at bytes = record disk {
  held = overwritten disk.held at bytes;
  steps = Wrote at (length bytes) (take (length bytes) (drop at disk.held)) ∷ disk.steps;
  calls = begun disk.calls;
}

-- after a write that failed, which is a step too
abbrev pub after_failed_disk_write : DiskInMemory → ℕ → List ℕ → DiskInMemory
after_failed_disk_write disk at bytes = record disk {
  steps = Tried at (length bytes) ∷ disk.steps;
  calls = faulted (begun disk.calls);
}

-- after a sync
abbrev pub after_sync : DiskInMemory → DiskInMemory
after_sync disk = record disk { steps = Synced ∷ disk.steps; calls = begun disk.calls }

-- a disk, and for how many steps it has room without more memory
pub record Roomy : Type 0 where
  pub disk : DiskInMemory
  pub room : ℕ

-- what is told of a disk in memory: its moment is the number of its steps
abbrev pub disk_at : Roomy → DiskAt
disk_at d = record {
  seen = Some d.disk.held;
  moment = length d.disk.steps;
  left_at = WasLeft d.disk.held d.disk.steps;
  faults = d.disk.calls.faults;
}

-- a write that failed is noted, unless there was no room for the note
abbrev pub IsNoted : Roomy → ℕ → List ℕ → DiskInMemory → Type 0
IsNoted old at bytes new =
    (new ≡ after_failed_disk_write old.disk at bytes)
    ⊎ ((new ≡ after_failed_look old.disk) × (old.room ≤ length old.disk.steps))
