use Rattle.std.proofs.Common.{◌≡◌, ◌≤◌, ◌-◌, List, ℕ, Some, length, take}
use Rattle.std.specs.Prelude.{is_some}
use Rattle.liq_outside.specs.Disk.{overwritten}
use Rattle.liq_outside.proofs.device_disk.written.Given as goal

-- what is written so far
abbrev pub invariant-loop-count : goal.invariant-loop-count
invariant-loop-count g l = record {
  within : l.count ≤ length l.bytes;
  telling : is_some (g.V.Device.held l.device) ≡ is_some (g.V.Device.held l.fn.device);
  kept : g.V.Device.synced l.device ≡ g.V.Device.synced l.fn.device;
  none_failed : g.V.Device.failures l.device ≡ g.V.Device.failures l.fn.device;
  written : (old : List ℕ) → g.V.Device.held l.fn.device ≡ Some old → l.at ≤ length old → g.V.Device.held l.device
      ≡ Some (overwritten old l.at (take l.count l.bytes));
}

abbrev pub decreases-loop-count : goal.decreases-loop-count
decreases-loop-count g l = length l.bytes - l.count
