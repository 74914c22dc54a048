-- What a disk stands over: a device, each of whose calls may do a part of what it is asked.
use Rattle.std.specs.Prelude.{ℕ, ◌≡◌, List, None, Option, Result, IsErr, is_some, option_and_then, option_map}
use Rattle.std.specs.Result.{MatchResult}
use Rattle.liq_outside.specs.Adapters.{CountsFailure}
use Rattle.liq_outside.specs.Calls.{Calls, begun, faulted, one_more}
use Rattle.liq_outside.specs.Disk.{overwritten}

-- a disk over a device or over none
pub record OverDevice (V : Type 0) : Type 0 where
  pub device : Option V
  -- how many of the disk's writes and syncs have succeeded
  pub moment : ℕ
  -- how many of its calls have failed
  pub faults : ℕ

-- what is told of a disk's device, where it has one that tells it
abbrev pub of_device : {V A : Type 0} → (V → Option A) → OverDevice V → Option A
of_device told disk = option_and_then told disk.device

-- each failure is counted, where that is told, and nothing else
abbrev pub TellsFailure : {T E : Type 0} → Result T E → Option ℕ → Option ℕ → Type 0
TellsFailure result before after =
    MatchResult result (λ _. after ≡ before) (λ _. after ≡ option_map one_more before)

-- A call of the disk: without a device it fails, and the device stays where it was; each failure is
-- counted, the device's own where that is told.
pub record IsCall
    {V T E : Type 0} (failures : V → Option ℕ) (old new : OverDevice V) (result : Result T E)
    : Type 0 where
  pub missing : old.device ≡ None → IsErr result
  pub there : is_some new.device ≡ is_some old.device
  pub caused : TellsFailure result (of_device failures old) (of_device failures new)
  pub counted : CountsFailure result old.faults new.faults

-- a device in memory
pub record DeviceInMemory : Type 0 where
  -- the bytes that a read gives
  pub held : List ℕ
  -- what they were at the last sync
  pub synced : List ℕ
  -- the most that one read or write takes
  pub chunk : ℕ
  pub calls : Calls

-- after a call that changed nothing
abbrev pub after_asking : DeviceInMemory → DeviceInMemory
after_asking device = record device { calls = begun device.calls }

-- after a call that failed, and changed nothing
abbrev pub after_failure : DeviceInMemory → DeviceInMemory
after_failure device = record device { calls = faulted (begun device.calls) }

-- after a write of these bytes
abbrev pub after_writing : DeviceInMemory → ℕ → List ℕ → DeviceInMemory
after_writing device at bytes = record device {
  held = overwritten device.held at bytes;
  calls = begun device.calls;
}

-- after a sync
abbrev pub after_syncing : DeviceInMemory → DeviceInMemory
after_syncing device = record device { synced = device.held; calls = begun device.calls }
