-- What a `?` hands on.
use Rattle.std.proofs.Common.{◌≡◌, ℕ, List, Option, Ok, Err, Result, ap}
use Rattle.std.specs.Prelude.{IsErrAnd}
use Rattle.liq_word_exit.specs.declared.halts.Halt.{Halt}
use Rattle.liq_word_exit.specs.declared.halts.Halt.TheVariants.{BadLine, ReadFault, WriteFault, DiskFault, Damaged, DamagedInput, NoMemory, Limit, Rotated}
use Rattle.liq_word_run.specs.Writing.{WritesFront}

pub handed_on : {T : Type 0} (end : Result T Halt) (halt : Halt) → IsErrAnd end (λ h. h ≡ halt) → end ≡ Err halt
handed_on (Ok x) halt h = absurd h
handed_on (Err e) halt h = ap Err h

pub same_halt : {T : Type 0} (end : Result T Halt) (halt other : Halt) → end ≡ Err halt → end ≡ Err other → halt ≡ other
same_halt end halt other is so = cc

-- writing fails at the sink alone
pub cut_at : (end : Result (Unit {0}) Halt) (halt : Halt) (waited waits : List ℕ) (before after : Option (List ℕ))
    → IsErrAnd end (λ h. h ≡ halt) → WritesFront (Err halt) waited waits before after → end ≡ Err WriteFault
cut_at end WriteFault waited waits before after is writes = handed_on end WriteFault is
cut_at end (BadLine n) waited waits before after is writes = absurd writes
cut_at end ReadFault waited waits before after is writes = absurd writes
cut_at end DiskFault waited waits before after is writes = absurd writes
cut_at end (Damaged side number) waited waits before after is writes = absurd writes
cut_at end NoMemory waited waits before after is writes = absurd writes
cut_at end (Limit number) waited waits before after is writes = absurd writes
cut_at end (Rotated generation) waited waits before after is writes = absurd writes
cut_at end (DamagedInput number) waited waits before after is writes = absurd writes
