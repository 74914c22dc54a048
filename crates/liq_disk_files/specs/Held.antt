-- What the system answered to a file's lock.
use Rattle.std.specs.Prelude.{◌≡◌, Result, Ok, Err}
use Rattle.std.specs.IoError.{error_kind}
use Rattle.std.specs.declared.io.ErrorKind.TheVariants.{Unsupported}
use Rattle.std.specs.declared.fs.TryLockError.{TryLockError}
use Rattle.std.specs.declared.fs.TryLockError.TheVariants.{Error, WouldBlock}

-- the lock was taken, or the file system has none
abbrev pub IsHeld : {T : Type 0} → Result T TryLockError → Type 0
IsHeld (Ok taken) = Unit {0}
IsHeld (Err (Error fault)) = error_kind fault ≡ Unsupported
IsHeld (Err WouldBlock) = ⊥
