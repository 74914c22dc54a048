-- What a word tells, with the last line of one that stopped.
use Rattle.std.proofs.Common.{◌≡◌, ◌≢◌, List, ℕ, [], Option, Ok, Err, Result, refl, sym, subst, ◌∙◌}
use Rattle.std.specs.Prelude.{IfErr}
use Rattle.liq_word_exit.specs.declared.halts.Halt.{Halt}
use Rattle.liq_word_exit.specs.declared.halts.Halt.TheVariants.{BadLine, ReadFault, WriteFault, DiskFault, Damaged, DamagedInput, NoMemory, Limit, Rotated}
use Rattle.liq_word_exit.specs.Output.{last}
use Rattle.liq_word_exit.specs.Stops.{Adds}
use Rattle.liq_word_exit.specs.Telling.{TellsAll}
use Rattle.liq_word_exit.specs.Unsaid.{WritesAll}
use Rattle.liq_word_exit.proofs.EndingLines.{part_stays}

-- nothing else than the sink stops it
pub by_sink : (P : Type 0) (end : Result (Unit {0}) Halt) (halt : Halt) → IfErr end (λ h. (h ≡ WriteFault) × P)
    → halt ≢ WriteFault → end ≢ Err halt
by_sink P (Ok done) halt err other is = cc
by_sink P (Err h) halt err other is =
    let same : h ≡ halt = cc in
    other (sym same ∙ err.0)

-- a last line behind what was there
added_to : (line : List ℕ) (fault : Type 0) (before now after : Option (List ℕ)) → now ≡ before
    → Adds [] line fault now after → Adds [] line fault before after
added_to line fault before now after same adds = subst (λ (held : Option (List ℕ)). Adds [] line fault held after)
    same adds

pub all_halted : (halt : Halt) (text : List ℕ) (fault : Type 0) (before now after : Option (List ℕ))
    → WritesAll text (Err halt) before now → Adds [] (last halt) fault now after
    → TellsAll text (Err halt) fault before after
all_halted (BadLine n) text fault before now after h adds = added_to (last (BadLine n)) fault before now after h adds
all_halted ReadFault text fault before now after h adds = added_to (last ReadFault) fault before now after h adds
all_halted (Damaged side number) text fault before now after h adds =
    added_to (last (Damaged side number)) fault before now after h adds
all_halted (Limit number) text fault before now after h adds =
    added_to (last (Limit number)) fault before now after h adds
all_halted (Rotated generation) text fault before now after h adds =
    added_to (last (Rotated generation)) fault before now after h adds
all_halted (DamagedInput number) text fault before now after h adds =
    added_to (last (DamagedInput number)) fault before now after h adds
all_halted DiskFault text fault before now after h adds = added_to (last DiskFault) fault before now after h adds
all_halted NoMemory text fault before now after h adds = added_to (last NoMemory) fault before now after h adds
all_halted WriteFault text fault before now after h adds = part_stays fault text before now after h adds

pub all_well : (end : Result (Unit {0}) Halt) (text : List ℕ) (fault : Type 0) (before now : Option (List ℕ))
    → ((halt : Halt) → end ≡ Err halt → ⊥) → WritesAll text end before now → TellsAll text end fault before now
all_well (Ok done) text fault before now well h = h
all_well (Err halt) text fault before now well h = absurd (well halt refl)

-- what holds of the halt of a word that stopped
pub of_halt : (P : Halt → Type 0) (end : Result (Unit {0}) Halt) (halt : Halt) → end ≡ Err halt → IfErr end P → P halt
of_halt P (Ok done) halt is h = absurd cc
of_halt P (Err other) halt is h =
    let same : other ≡ halt = cc in
    subst P same h
