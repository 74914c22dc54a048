-- What calls on a disk leave, whatever they do to its bytes.
use Rattle.std.specs.Prelude.{◌↔◌, Result, IsSome}
use Rattle.liq_outside.specs.At.{DiskAt}
use Rattle.liq_outside.specs.Disk.{GoesOn}
use Rattle.liq_outside.specs.Faults.{HasCause}

-- A disk that told its bytes tells them, and no other does; and time goes on.
pub record Lasts {D : Type 0} (at : D → DiskAt) (old new : D) : Type 0 where
  pub telling : IsSome (at new).seen ↔ IsSome (at old).seen
  pub time : GoesOn at old new

-- It lasts, and a fault is counted exactly where it is the answer.
pub record Called
    {D : Type 0} {T E : Type 0} (at : D → DiskAt) (old new : D) (result : Result T E) : Type 0 where
  pub lasts : Lasts at old new
  pub cause : HasCause (at old).faults (at new).faults result
