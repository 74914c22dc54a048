-- A rotation at a store: the next generation begins on the disk beside, which is then taken.
use Rattle.std.specs.Prelude.{ℕ, ◌+◌, Bool, false, ◌&&◌, if◌then◌else◌}
use Rattle.liq_types.specs.declared.requests.Command.{Command}
use Rattle.liq_types.specs.declared.requests.Request.{Request}
use Rattle.liq_types.specs.declared.requests.Request.TheVariants.{Do, Ask}
use Rattle.liq_types.specs.declared.replies.Answer.{Answer}
use Rattle.liq_types.specs.declared.replies.Answer.TheVariants as answer
use Rattle.liq_types.specs.State.{State}
use Rattle.liq_rule_step.specs.Image.{image}
use Rattle.liq_rule_step.specs.Step.{after, is_allowed, ruling}
use Rattle.liq_checkpoint.specs.Spelling.{spelling}
use Rattle.liq_journal.specs.Crash.{beginning}
use Rattle.liq_types.specs.Verbs.{is_rotate}
use Rattle.liq_journal.specs.Written.{Written, start_of}
use Rattle.liq_disk_pair.specs.declared.side.Side.{Side}
use Rattle.liq_disk_pair.specs.Sides.{other}

-- a rotation that the state accepts
abbrev pub is_rotation : State → Request → Bool
is_rotation s (Do c) = is_rotate c.call && is_allowed (ruling s c)
is_rotation s (Ask query) = false

-- the journal that it begins: of the next generation, with the image of the state after it as its
-- checkpoint
abbrev pub rotation_of : State → Command → Written
rotation_of s c = beginning (s.generation + 1) (spelling (image (after s c)))

-- the side of the disk that is taken after a call
abbrev pub side_after : Answer → State → Request → Side → Side
side_after (answer.Reply reply) s request side = if is_rotation s request then other side else side
side_after _ s request side = side

-- where its records begin
abbrev pub start_after : Answer → State → Request → ℕ → ℕ
start_after (answer.Reply reply) s (Do c) start = if is_rotation s (Do c)
    then start_of (rotation_of s c) else start
start_after _ s request start = start
