-- What stands at the input's end, told.
use Rattle.std.proofs.Common.{◌≡◌, ◌≢◌, inl, List, ℕ, Option, Ok, Err, Result, refl, subst}
use Rattle.liq_text_lines.specs.Writing.{Writes, WritesPart}
use Rattle.liq_word_exit.specs.declared.halts.Halt.{Halt}
use Rattle.liq_word_exit.specs.declared.halts.Halt.TheVariants.{BadLine, ReadFault, WriteFault, DiskFault, Damaged, DamagedInput, NoMemory, Limit, Rotated}
use Rattle.liq_word_exit.specs.Unsaid.{WritesAll}
use Rattle.liq_word_state.specs.Writing.{WritesText}
use Rattle.liq_word_follow.specs.Followed.{FollowsTo, IsWhole}

abbrev Told : Result (Unit {0}) Halt → List ℕ → Option (List ℕ) → List ℕ → Option (List ℕ) → Option (List ℕ) → Type 0
Told end read left text before now = FollowsTo end read left text × WritesAll text end before now

-- the text of the state to which the bytes lead that were read
pub told_whole : (read : List ℕ) (left before now : Option (List ℕ)) (text : List ℕ) (end : Result (Unit {0}) Halt)
    → IsWhole read left text → end ≢ Err DiskFault → WritesText (Ok text) end before now
    → Told end read left text before now
told_whole read left before now text (Ok done) whole no_disk h =
    let same : h.0 ≡ text = cc h.1 in
    (whole, subst (λ (t : List ℕ). Writes before t now) same h.2)
told_whole read left before now text (Err WriteFault) whole no_disk h =
    let same : h.0 ≡ text = cc h.1 in
    (whole, subst (λ (t : List ℕ). WritesPart before t now) same h.2)
told_whole read left before now text (Err NoMemory) whole no_disk h = ((whole.few, inl (whole.state, whole.leads)), h)
told_whole read left before now text (Err (Limit number)) whole no_disk h = absurd (cc h.0)
told_whole read left before now text (Err DiskFault) whole no_disk h = absurd (no_disk refl)
told_whole read left before now text (Err (BadLine n)) whole no_disk h = absurd h
told_whole read left before now text (Err ReadFault) whole no_disk h = absurd h
told_whole read left before now text (Err (Damaged side number)) whole no_disk h = absurd h
told_whole read left before now text (Err (DamagedInput index)) whole no_disk h = absurd h
told_whole read left before now text (Err (Rotated generation)) whole no_disk h = absurd h
