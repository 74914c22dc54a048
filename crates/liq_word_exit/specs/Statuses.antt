-- Exit statuses, and last lines.
use Rattle.std.specs.Prelude.{ℕ, ◌≡◌, ◌⊎◌, List, [], ◌∷◌, ◌++◌, Result, Ok, Err, codes, decimal}
use Rattle.liq_disk_pair.specs.declared.side.Side.TheVariants.{Left, Right}
use Rattle.liq_word_exit.specs.declared.halts.Halt.{Halt}
use Rattle.liq_word_exit.specs.declared.halts.Halt.TheVariants.{BadLine, ReadFault, WriteFault}
use Rattle.liq_word_exit.specs.declared.halts.Halt.TheVariants.{DiskFault, Damaged, DamagedInput, NoMemory, Limit, Rotated}

-- how a word ends: all is done, or it stops
abbrev pub End : Type 0
End = Result (Unit {0}) Halt

-- the status of a word that stops so, and its last line; a sink that met a fault is told nothing
-- more
abbrev pub ending : Halt → ℕ × List ℕ
ending (BadLine number) = (2, codes "bad line " ++ decimal number ++ 10 ∷ [])
ending ReadFault = (3, codes "read fault" ++ 10 ∷ [])
ending WriteFault = (4, [])
ending DiskFault = (5, codes "disk fault" ++ 10 ∷ [])
ending (Damaged Left number) = (6, codes "damaged left " ++ decimal number ++ 10 ∷ [])
ending (Damaged Right number) = (6, codes "damaged right " ++ decimal number ++ 10 ∷ [])
ending (DamagedInput number) = (6, codes "damaged input " ++ decimal number ++ 10 ∷ [])
ending NoMemory = (7, codes "no memory" ++ 10 ∷ [])
ending (Limit number) = (8, codes "limit " ++ decimal number ++ 10 ∷ [])
ending (Rotated generation) = (9, codes "rotated " ++ decimal generation ++ 10 ∷ [])

abbrev pub status_of : End → ℕ
status_of (Ok done) = 0
status_of (Err halt) = (ending halt).0

-- all is done, or there was no memory
abbrev pub IsDone : ℕ → Type 0
IsDone status = (status ≡ 0) ⊎ (status ≡ 7)
