-- The ordered list as others follow it, and what is written of it into places.
use Rattle.std.specs.Prelude.{ℕ, List, ◌∷◌, ◌++◌, drop, length, map, take}
use Rattle.liq_types.specs.declared.events.ListChange.{ListChange}
use Rattle.liq_types.specs.declared.events.ListChange.TheVariants.{Put, Words}
use Rattle.liq_types.specs.declared.image.Image.{Image}
use Rattle.liq_types.specs.Ranked.{Ranked}

abbrev pub put_entry : Ranked → ListChange
put_entry e = Put e.0 e.1

-- the words of which keys are made, and then each entry in order
abbrev pub told_whole : Image → List Ranked → List ListChange
told_whole i list = Words i.snap_stakes i.snap_coll i.sum_debt ∷ map put_entry list

-- the places with some numbers in the first of them, as many as there are of both
abbrev pub laid : List ℕ → List ℕ → List ℕ
laid numbers places = take (length places) numbers ++ drop (length numbers) places
