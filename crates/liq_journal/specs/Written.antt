-- What one disk is: absent, damaged, or open with its generation, its checkpoint and its commands.
use Rattle.std.specs.Prelude.{◌≡◌, ℕ, ◌+◌, ◌*◌, ◌<◌, Option, Some, None, Result, Ok, Err}
use Rattle.std.specs.Prelude.{List, [], ◌∷◌, ◌++◌, length, take, drop, get_or}
use Rattle.std.specs.Prelude.{Bool, not, nat_lt, if◌then◌else◌}
use Rattle.std.specs.Str.{bytes_eq}
use Rattle.liq_types.specs.Verbs.{is_rotate}
use Rattle.liq_types.specs.declared.requests.Command.{Command}
use Rattle.liq_wire.specs.Fields.{command_of}
use Rattle.liq_outside.specs.Disk.{overwritten}
use Rattle.liq_journal.specs.declared.damage.Damage.{Damage}
use Rattle.liq_journal.specs.declared.damage.What.{What}
use Rattle.liq_journal.specs.declared.damage.What.TheVariants.{Digest, Form}
use Rattle.liq_disk_header.specs.Header.{is_absent, place_tests}
pub use Rattle.liq_disk_header.specs.Header.{is_generation, is_odd, is_size}
use Rattle.liq_disk_header.specs.Layout.{Layout, layout_on, layout_with, header_size, generation_on, stored_on, checkpoint_on, start_on, digest_on}
use Rattle.liq_disk_header.specs.RecordDigest.{record_digest}
use Rattle.liq_journal.specs.Records.{records}

-- the first fault of those whose test holds
abbrev pub first_fault : List (Bool × What) → Option What
first_fault [] = None
first_fault (test ∷ tests) = if test.0 then Some test.1 else first_fault tests

-- these tests and then others: the field at the place has a wrong form
abbrev pub forms_then : List (Bool × ℕ) → List (Bool × What) → List (Bool × What)
forms_then [] rest = rest
forms_then (test ∷ tests) rest = (test.0, Form test.1) ∷ forms_then tests rest

-- what has to be behind them: the bytes up to the records have to be there, then the digest has to
-- be right
abbrev pub last_tests : Layout → List ℕ → List (Bool × What)
last_tests layout bytes =
    let stored = stored_on layout bytes in
    let right = digest_on layout bytes in
    (nat_lt (length bytes) (start_on layout bytes), Form (length bytes))
    ∷ (not (bytes_eq stored right), Digest stored right)
    ∷ []

-- what an open disk's header has to be
abbrev pub header_tests : Layout → Bool → List ℕ → List (Bool × What)
header_tests layout odd bytes = forms_then (place_tests layout odd bytes) (last_tests layout bytes)

-- a record's command: no rotation, which no record holds
abbrev pub unless_rotate : ℕ → Command → Result Command What
unless_rotate place command = if is_rotate command.call then Err (Form place) else Ok command

abbrev pub command_from : ℕ → Result Command ℕ → Result Command What
command_from place (Ok command) = unless_rotate place command
command_from place (Err at) = Err (Form (place + at))

-- the record whose body begins at the place, or its first fault
unfoldable pub record_on : ℕ → ℕ → ℕ → List ℕ → Result Command What
record_on generation index place raw =
    if not (bytes_eq (drop 96 raw) (record_digest generation index (take 96 raw)))
    then Err (Digest (drop 96 raw) (record_digest generation index (take 96 raw)))
    else command_from place (command_of (take 96 raw))

-- what is written in a journal, and the limit of its version
pub record Written : Type 0 where
  pub generation : ℕ
  pub limit : ℕ
  pub checkpoint : List ℕ
  pub commands : List Command

pub data Found : Type 0 where
  Absent : Found
  Damaged : Damage → Found
  Open : Written → Found

abbrev pub with_command : Command → Found → Found
with_command command Absent = Absent
with_command command (Damaged damage) = Damaged damage
with_command command (Open w) = Open (record w { commands = command ∷ w.commands })

abbrev pub found_record : ℕ → Result Command What → Found → Found
found_record index (Ok command) rest = with_command command rest
found_record index (Err what) rest = Damaged (record { index = index; what = what })

-- the records from this one on, whose gate stands at the place
abbrev pub found_records : ℕ → ℕ → List ℕ → ℕ → ℕ → List (List ℕ) → Found
found_records generation limit checkpoint index place [] =
    Open (record { generation = generation; limit = limit; checkpoint = checkpoint; commands = [] })
found_records generation limit checkpoint index place (raw ∷ raws) =
    found_record index (record_on generation index (place + 1) raw)
    (found_records generation limit checkpoint (index + 1) (place + 129) raws)

-- one record more than a replay accepts
abbrev pub most_records : ℕ
most_records = 1000001

abbrev pub found_behind : Layout → List ℕ → Option What → Found
found_behind layout bytes (Some what) = Damaged (record { index = 0; what = what })
found_behind layout bytes None =
    found_records (generation_on bytes) layout.limit (checkpoint_on layout bytes) 1
    (start_on layout bytes) (records most_records (drop (start_on layout bytes) bytes))

-- what is found on a disk by the tests of this version
abbrev pub found_in : Layout → Bool → List ℕ → Found
found_in layout odd bytes =
    let fault = first_fault (header_tests layout odd bytes) in
    if is_absent bytes then Absent else found_behind layout bytes fault

unfoldable pub found_on : Bool → List ℕ → Found
found_on odd bytes = found_in (layout_on bytes) odd bytes

-- the place behind the checkpoint, where the first record's gate stands
abbrev pub start_of : Written → ℕ
start_of w = header_size (layout_with w.limit) + length w.checkpoint

-- the place behind the last record, where the next one's gate stands
abbrev pub end_of : Written → ℕ
end_of w = start_of w + 129 * length w.commands

-- behind the last record is a byte, and it is this one
pub record EndsWith (byte : ℕ) (bytes : List ℕ) (w : Written) : Type 0 where
  pub there : end_of w < length bytes
  pub is : get_or bytes (end_of w) 0 ≡ byte

-- the journal with one command more
abbrev pub and_then : Written → Command → Written
and_then w command = record w { commands = w.commands ++ command ∷ [] }

-- the bytes with an open gate at the place
abbrev pub opened : ℕ → List ℕ → List ℕ
opened place bytes = overwritten bytes place (1 ∷ [])
