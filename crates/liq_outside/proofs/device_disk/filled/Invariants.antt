use Rattle.std.proofs.Common.{◌≡◌, ◌≤◌, ◌+◌, ◌-◌, ◌^◌, IfSome, length, take, drop}
use Rattle.liq_outside.proofs.device_disk.filled.Given as goal

-- what is read so far
abbrev pub invariant-loop-count : goal.invariant-loop-count
invariant-loop-count g l = record {
  within : l.count ≤ length l.buf;
  long : length l.buf ≡ length l.fn.buf;
  same : g.V.Device.held l.device ≡ g.V.Device.held l.fn.device;
  kept : g.V.Device.synced l.device ≡ g.V.Device.synced l.fn.device;
  none_failed : g.V.Device.failures l.device ≡ g.V.Device.failures l.fn.device;
  read : l.at + length l.fn.buf ≤ 2 ^ 64 → IfSome (g.V.Device.held l.fn.device) (λ old. (l.count ≤ length old - l.at)
      × (take l.count l.buf ≡ take l.count (drop l.at old)));
}

abbrev pub decreases-loop-count : goal.decreases-loop-count
decreases-loop-count g l = length l.initial.buf - l.count
