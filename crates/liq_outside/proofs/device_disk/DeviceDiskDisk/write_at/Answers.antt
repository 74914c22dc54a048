use Rattle.std.proofs.Common.{length}
use Rattle.liq_outside.specs.Staying.{torn_nothing}
use Rattle.liq_outside.proofs.device_disk.DeviceDiskDisk.write_at.Goals as goal

pub returns-clause-crash : goal.returns-clause-crash
returns-clause-crash g c = λ image left. (image, left, torn_nothing c.args.place (length c.args.bytes.now) image)
