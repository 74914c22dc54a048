-- The replay of a journal: the state with which it begins, and what its records make of it.
use Rattle.std.specs.Prelude.{ℕ, ◌+◌, List, [], ◌∷◌, length, Option, Some, None, Result, Ok, Err}
use Rattle.std.specs.Prelude.{Bool, ◌==◌, ◌&&◌, if◌then◌else◌}
use Rattle.liq_types.specs.declared.image.Image.{Image}
use Rattle.liq_types.specs.declared.requests.Command.{Command}
use Rattle.liq_types.specs.Codes.{code_of}
use Rattle.liq_types.specs.Soundness.{first_unsound}
use Rattle.liq_types.specs.State.{State, opening_with, started}
use Rattle.liq_rule_step.specs.Step.{Ruling, Refused, Repeated, Allowed, ruling, after}
use Rattle.liq_checkpoint.specs.Reading.{image_at}
use Rattle.liq_journal.specs.declared.damage.Damage.{Damage}
use Rattle.liq_journal.specs.declared.damage.What.TheVariants as what
use Rattle.liq_disk_header.specs.Layout.{header_size, layout_with}
use Rattle.liq_journal.specs.Written.{Written}

-- ---- where it begins

-- a checkpoint's damage, by its place in the checkpoint, which stands behind the journal's header
abbrev pub bad_checkpoint : Written → ℕ → Result State Damage
bad_checkpoint w place =
    Err (record { index = 0; what = what.Form (header_size (layout_with w.limit) + place) })

-- the image is of this journal's generation, and of the limit of its version
abbrev pub is_image_of : Written → Image → Bool
is_image_of w i = i.generation == w.generation && i.limit == w.limit

-- An image that breaks no rule begins a state, if it is the journal's.
abbrev pub sound_base : Written → Image → Option ℕ → Result State Damage
sound_base w i (Some rule) = bad_checkpoint w 0
sound_base w i None = if is_image_of w i then Ok (started i) else bad_checkpoint w 0

-- what was read as the journal's checkpoint, or the place at which it is none
abbrev pub read_base : Written → Result Image ℕ → Result State Damage
read_base w (Err place) = bad_checkpoint w place
read_base w (Ok i) = sound_base w i (first_unsound i 0)

-- The state with which a journal begins: the first generation with the opening under the limit of
-- its version, each later one with the image in its checkpoint.
unfoldable pub base_of : Written → Result State Damage
base_of w =
    if w.generation == 1
    then Ok (opening_with w.limit)
    else read_base w (image_at (length w.checkpoint) w.checkpoint)

-- ---- what follows

-- A record is damaged where the rules refuse its command, or find it a repetition; else the replay
-- goes on.
abbrev pub replayed : ℕ → Ruling → Result State Damage → Result State Damage
replayed index (Refused refusal) rest =
    Err (record { index = index; what = what.Replay (code_of refusal) })
replayed index (Repeated kept) rest = Err (record { index = index; what = what.Replay 0 })
replayed index Allowed rest = rest

-- the state after these commands, the first being the record of this number; or the damage of the
-- first that is not accepted
unfoldable pub replay : ℕ → State → List Command → Result State Damage
replay index s [] = Ok s
replay index s (c ∷ cs) = replayed index (ruling s c) (replay (index + 1) (after s c) cs)

abbrev pub replay_from : Result State Damage → List Command → Result State Damage
replay_from (Ok s) commands = replay 1 s commands
replay_from (Err damage) commands = Err damage

-- the state after all that is written, or its first damage: the checkpoint's comes before any
-- record's
abbrev pub outcome : Written → Result State Damage
outcome w = replay_from (base_of w) w.commands
