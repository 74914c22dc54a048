-- What bytes stand for that are the beginning of a journal of generation 1, as far as they go.
use Rattle.std.specs.Prelude.{◌≡◌, ◌<◌, ◌≤◌, ℕ, ◌+◌, List, [], ◌∷◌, ◌++◌, length, get_or, Ok, Err}
use Rattle.std.specs.Prelude.{Bool, true, false, ◌&&◌, ◌==◌}
use Rattle.std.specs.Prelude.{nat_lt, nat_le, if◌then◌else◌}
use Rattle.std.specs.Str.{bytes_eq}
use Rattle.liq_types.specs.declared.amounts.TheConstants.{LIM, LIM_OF_VERSION_1, RECORDS_MOST}
use Rattle.liq_types.specs.declared.requests.Command.{Command}
use Rattle.liq_types.specs.State.{State, opening_with}
use Rattle.liq_journal.specs.declared.damage.Damage.{Damage}
use Rattle.liq_journal.specs.declared.damage.What.{What}
use Rattle.liq_disk_header.specs.Layout.{generation_on, header_size, layout_on, name_on, version_1}
use Rattle.liq_journal.specs.Written.{Open, Written, and_then, end_of, found_on, record_on}
use Rattle.liq_disk_pair.specs.Pair.{Standing, Faulty, Holding, standing}
use Rattle.liq_disk_pair.specs.Replay.{outcome}
use Rattle.liq_disk_replay.specs.Making.{MayWantMemory}
use Rattle.liq_follower.specs.declared.answers.FedEnd.{FedEnd}
use Rattle.liq_follower.specs.declared.answers.FedEnd.TheVariants.{All, Damaged, NoMemory, Rotated}

-- ---- what they stand for

-- the gate at place 0 is open, and the header behind it is whole: as long as one of its version
abbrev pub has_header : List ℕ → Bool
has_header bytes = (get_or bytes 0 0 == 1) && nat_le (header_size (layout_on bytes)) (length bytes)

-- The limit where no header is whole: that of version 1 where an open gate and the name of version
-- 1 are there, else that of a journal that is begun.
abbrev pub begun_limit : List ℕ → ℕ
begun_limit bytes =
    if (get_or bytes 0 0 == 1) && bytes_eq (name_on bytes) version_1.name then LIM_OF_VERSION_1
    else LIM

-- an open gate, and a header behind it that isn't whole
pub record IsBegun (bytes : List ℕ) : Type 0 where
  pub gate : get_or bytes 0 0 ≡ 1
  pub short : length bytes < header_size (layout_on bytes)

-- Behind a whole header they are what they are as the left one of two disks. Else they stand for
-- the opening.
unfoldable pub fed : List ℕ → Standing
fed bytes = if has_header bytes then standing true bytes
    else Holding 1 (opening_with (begun_limit bytes))

-- a whole header of either version says a later generation, whatever else is in it
unfoldable pub is_turned : List ℕ → Bool
is_turned bytes =
    has_header bytes && (bytes_eq (name_on bytes) (layout_on bytes).name && nat_lt 1
    (generation_on bytes))

-- ---- what that comes to

-- the bytes are those of an undamaged journal of the first generation that leads to the state
abbrev pub LeadTo : List ℕ → State → Type 0
LeadTo bytes s = (is_turned bytes ≡ false) × (fed bytes ≡ Holding 1 s)

-- the bytes are damaged: the record of this number is, or the header, which is 0
abbrev pub AreDamagedAt : ℕ → List ℕ → Type 0
AreDamagedAt index bytes =
    (is_turned bytes ≡ false) × ((damage : Damage) × (fed bytes ≡ Faulty damage)
    × (damage.index ≡ index))

-- a whole journal of the first generation, which ends with its last record and leads to the state
pub record EndsWhole (bytes : List ℕ) (s : State) : Type 0 where
  pub written : Written
  pub found : found_on true bytes ≡ Open written
  pub first : written.generation ≡ 1
  pub came : outcome written ≡ Ok s
  pub counted : s.records ≡ length written.commands
  pub few : s.records ≤ RECORDS_MOST
  pub ends : length bytes ≡ end_of written

-- wherever it stands, this is the record of this number in the first generation, with this command
abbrev pub IsRecordOf : ℕ → List ℕ → Command → Type 0
IsRecordOf index raw command = (place : ℕ) → record_on 1 index place raw ≡ Ok command

-- wherever it stands, it has a fault
abbrev pub IsNoRecord : ℕ → List ℕ → Type 0
IsNoRecord index raw = (place : ℕ) → (what : What) × (record_on 1 index place raw ≡ Err what)

-- ---- how feeding ends with them

abbrev pub GoOn : List ℕ → Type 0
GoOn bytes = (s : State) × LeadTo bytes s

abbrev pub AreTurnedTo : ℕ → List ℕ → Type 0
AreTurnedTo generation bytes = (is_turned bytes ≡ true) × (generation_on bytes ≡ generation)

-- behind the whole records stand an open gate and all bytes of a record but the last one
abbrev pub LackOne : List ℕ → Type 0
LackOne bytes =
    (w : Written)
    × (found_on true bytes ≡ Open w)
    × (length bytes ≡ end_of w + 128)
    × (get_or bytes (end_of w) 0 ≡ 1)

-- This byte behind them completes a record whose digest and fields are right, and for whose command
-- memory may be wanted in the state to which they lead.
abbrev pub Completes : ℕ → List ℕ → Type 0
Completes byte bytes =
    (w : Written)
    × (c : Command)
    × (s : State)
    × (found_on true bytes ≡ Open w)
    × (found_on true (bytes ++ byte ∷ []) ≡ Open (and_then w c))
    × LeadTo bytes s
    × MayWantMemory s c

-- What each end says of all bytes that were taken. No two of `All`, `Damaged` and `Rotated` come
-- with the same bytes.
abbrev pub EndsWith : FedEnd → List ℕ → Type 0
EndsWith All bytes = GoOn bytes
EndsWith NoMemory bytes = GoOn bytes × LackOne bytes
EndsWith (Damaged index) bytes = AreDamagedAt index bytes
EndsWith (Rotated generation) bytes = AreTurnedTo generation bytes

-- behind these bytes no feed takes one more
abbrev pub AreOver : List ℕ → Type 0
AreOver bytes = GoOn bytes → ⊥
