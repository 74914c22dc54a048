-- The notes of a disk in memory as its steps.
use Rattle.std.specs.Prelude.{◌≡◌, List, [], ◌∷◌, ◌++◌, map, reverse}
use Rattle.liq_outside.specs.DiskInMemory.{Step, Wrote, Tried, Synced}
use Rattle.liq_outside.specs.declared.made.Made.{Made}
use Rattle.liq_outside.specs.declared.made.Made.TheVariants as made

abbrev pub step_of : Made → Step
step_of (made.Wrote at count over) = Wrote at count over.items
step_of (made.Tried at count) = Tried at count
step_of made.Synced = Synced

-- the steps of notes, the last one first
abbrev pub steps_of : List Made → List Step
steps_of notes = reverse (map step_of notes)

-- one note more, of this step
abbrev pub IsNotedIn : List Made → List Made → Step → Type 0
IsNotedIn before after step = (note : Made) × (after ≡ before ++ note ∷ []) × (step_of note ≡ step)
