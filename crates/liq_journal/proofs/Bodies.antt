-- How the body of a record is read, and that it is the accepted one.
use Rattle.std.proofs.Common.{◌≡◌, inl, inr, ℕ, zero, suc, ◌+◌, ◌*◌, ◌-◌, ◌<◌, ◌≤◌, List, [], ◌∷◌, ◌++◌, length, take, drop, slice_get, Option, Some, IfSome, Result, Ok, Err, Bool, true, false, not, if◌then◌else◌, refl, sym, ◌∙◌, ap, subst, arith, length-take, length-drop, take-append-drop}
use Rattle.std.specs.Result.{MatchResult}
use Rattle.std.specs.Str.{bytes_eq}
use Rattle.std.specs.Prelude.{All}
use Rattle.std.proofs.lemmas.List.{take-take, take_at, drop-drop, take_all}
use Rattle.std.proofs.lemmas.List.Elements.{All-cons, All-nil}
use Rattle.liq_types.specs.declared.requests.Command.{Command}
use Rattle.liq_wire.specs.Fields.{command_of}
use Rattle.liq_journal.specs.declared.damage.What.{What}
use Rattle.liq_journal.specs.declared.damage.What.TheVariants.{Digest, Form}
use Rattle.liq_journal.specs.declared.answers.LookFault.{LookFault}
use Rattle.liq_journal.specs.declared.answers.LookFault.TheVariants as fault
use Rattle.liq_journal.specs.Bodies.{IsJournalOf, IsAccepted, IsBodyFault, IsRecorded, body_at}
use Rattle.liq_journal.specs.Crash.{IsBodyOf}
use Rattle.liq_disk_header.specs.Header.{is_odd}
use Rattle.liq_journal.specs.Records.{records, begins_whole}
use Rattle.liq_journal.specs.Settled.{JournalOn}
use Rattle.liq_journal.specs.Tested.{IsBodyRead, IsFaultRead}
use Rattle.liq_journal.specs.Looked.{IsRead}
use Rattle.liq_disk_header.specs.Layout.{piece}
use Rattle.liq_types.specs.Verbs.{is_rotate}
use Rattle.liq_journal.specs.Written.{Written, Open, record_on, command_from, found_on, found_records, most_records, start_of}
use Rattle.liq_disk_header.specs.RecordDigest.{record_digest}
use Rattle.liq_journal.proofs.Reading.{records_whole, records_none, records_zero, whole_long}
use Rattle.liq_journal.proofs.Heading.{is_open, of_records, record_open}
use Rattle.liq_journal.proofs.Told.{if_some}
use Rattle.std.proofs.lemmas.Bool.{cases_Bool}
use Rattle.liq_outside.specs.At.{DiskAt}

-- a record that is read as a command holds its body
from_command : (place : ℕ) (read : Result Command ℕ) (command : Command) → command_from place read ≡ Ok command
    → (read ≡ Ok command) × (is_rotate command.call ≡ false)
from_command place (Err at) command is = absurd (cc (is))
from_command place (Ok other) command is = elim (cases_Bool (is_rotate other.call)) [
  | inl rotates ↦
      let e : ◌≡◌ {A = Result Command What} (if true then Err (Form place) else Ok other) (Ok command) =
      sym (ap (λ (b : Bool). if b then Err (Form place) else Ok other) rotates) ∙ is in absurd (cc (e))
  | inr none ↦
      let e : ◌≡◌ {A = Result Command What} (Ok other) (Ok command) = sym (ap (λ (b : Bool). if b then Err (Form place)
      else Ok other) none) ∙ is in
      let same : other ≡ command = cc (e) in
      (ap Ok same, sym (ap (λ (c : Command). is_rotate c.call) same) ∙ none)
]

by_digest : (differs : Bool) (what : What) (place : ℕ) (read : Result Command ℕ) (command : Command)
    → (if differs then Err what else command_from place read) ≡ Ok command → command_from place read ≡ Ok command
by_digest true what place read command is = absurd (cc (is))
by_digest false what place read command is = is

-- a record that is read spells its command, which is no rotation
read_from : (generation index place : ℕ) (raw : List ℕ) (command : Command) → record_on generation index place raw
    ≡ Ok command → (command_of (take 96 raw) ≡ Ok command) × (is_rotate command.call ≡ false)
unfolding record_on
read_from generation index place raw command is =
    from_command place (command_of (take 96 raw)) command
    (by_digest (not (bytes_eq (drop 96 raw) (record_digest generation index (take 96 raw)))) (Digest (drop 96 raw)
    (record_digest generation index (take 96 raw))) place (command_of (take 96 raw)) command is)

no_rotations : (generation limit : ℕ) (checkpoint : List ℕ) (index place : ℕ) (raws : List (List ℕ)) (w : Written)
    → found_records generation limit checkpoint index place raws ≡ Open w
    → All (λ (c : Command). is_rotate c.call ≡ false) w.commands
no_rotations generation limit checkpoint index place [] w is =
    let e : record { generation = generation; limit = limit; checkpoint = checkpoint; commands = [] } ≡ w = cc in
    subst (λ (v : Written). All (λ (c : Command). is_rotate c.call ≡ false) v.commands) e
    (All-nil (λ (c : Command). is_rotate c.call ≡ false))
no_rotations generation limit checkpoint index place (raw ∷ raws) w is =
    let o = record_open index (record_on generation index (place + 1) raw) (found_records generation limit checkpoint
    (index + 1) (place + 129) raws) w is in
    let rest = no_rotations generation limit checkpoint (index + 1) (place + 129) raws o.others o.behind in
    subst (λ (v : Written). All (λ (c : Command). is_rotate c.call ≡ false) v.commands) (sym o.together)
    (All-cons (λ (c : Command). is_rotate c.call ≡ false) o.command o.others.commands (read_from generation index
    (place + 1) raw o.command o.is).1 rest)

-- so no record of an open disk is one
pub found_no_rotation : (odd : Bool) (bytes : List ℕ) (w : Written) → found_on odd bytes ≡ Open w
    → All (λ (c : Command). is_rotate c.call ≡ false) w.commands
found_no_rotation odd bytes w found = no_rotations w.generation w.limit w.checkpoint 1 (start_of w)
    (records most_records (drop (start_of w) bytes)) w (is_open odd bytes w found).behind

pub body_spells : (generation index place : ℕ) (body stored : List ℕ) (command : Command) → length body ≡ 96
    → record_on generation index place (body ++ stored) ≡ Ok command → IsBodyOf body command
body_spells generation index place body stored command size is =
    let raw = body ++ stored in
    let front : take 96 raw ≡ body = take_at body stored 96 size in
    let from = read_from generation index place raw command is in
    record { spelled = ap command_of (sym front) ∙ from.0; no_rotation = from.1 }

-- the command that is read spells its body
pub spells : (generation index place : ℕ) (body stored : List ℕ) (result : Result Command What) → length body ≡ 96
    → MatchResult result (λ c. record_on generation index place (body ++ stored)
    ≡ Ok c) (λ what. record_on generation index place (body ++ stored) ≡ Err what)
    → MatchResult result (IsBodyOf body) (λ what. record_on generation index place (body ++ stored) ≡ Err what)
spells generation index place body stored (Ok command) size is =
    body_spells generation index place body stored command size is
spells generation index place body stored (Err what) size is = is

-- 128 bytes that were read at a place
module _ (told : Option (List ℕ)) (generation index place n : ℕ) (bytes body stored : List ℕ)
    (read : IfSome told (IsRead (place + 1) 128 n bytes)) (size : length bytes ≡ 128) (front : body ≡ take 96 bytes)
    (behind : stored ≡ drop 96 bytes) where
  whole : body ++ stored ≡ bytes
  whole = (λ i. front i ++ behind i) ∙ take-append-drop 96 bytes

  raw_is : (held : List ℕ) → IsRead (place + 1) 128 n bytes held → place + 129 ≤ length held
      → bytes ≡ piece (place + 1) 128 held
  raw_is held (count, same) long =
      let all : n ≡ 128 = omega arith in
      sym (take_all 128 bytes (omega arith)) ∙ subst (λ (k : ℕ). take k bytes ≡ take k (drop (place + 1) held)) all same

  first_96 : (l : List ℕ) → take 96 (take 128 l) ≡ take 96 l
  first_96 l = take-take 96 128 l (omega arith)

  pub told_body : (command : Command) → record_on generation index (place + 1) (body ++ stored) ≡ Ok command
      → IfSome told (λ held. place + 129 ≤ length held → IsBodyRead generation index (place + 1) held body)
  told_body command is = if_some told (IsRead (place + 1) 128 n bytes) (λ held. place + 129 ≤ length held
      → IsBodyRead generation index (place + 1) held body)
      (λ held r long.
      let e = raw_is held r long in (
        front ∙ ap (take 96) e ∙ first_96 (drop (place + 1) held),
        (
          command,
          ap (record_on generation index (place + 1))
              (sym (whole ∙ e)) ∙ is,
        ),
      )) read

  pub told_fault : (what : What) → record_on generation index (place + 1) (body ++ stored) ≡ Err what
      → IfSome told (λ held. place + 129 ≤ length held
      → IsFaultRead generation index (place + 1) held (fault.Damaged (record { index = index; what = what })))
  told_fault what is = if_some told (IsRead (place + 1) 128 n bytes) (λ held. place + 129 ≤ length held
      → IsFaultRead generation index (place + 1) held (fault.Damaged (record { index = index; what = what })))
      (λ held r long. (refl, ap (record_on generation index (place + 1)) (sym (whole ∙ raw_is held r long)) ∙ is)) read

  pub raw_fault : (what : What) → record_on generation index (place + 1) (body ++ stored) ≡ Err what
      → IsBodyFault generation index (place + 1) (fault.Damaged (record { index = index; what = what }))
  raw_fault what is = (refl, (body ++ stored, ap (λ (l : List ℕ). length l) whole ∙ size, is))

  pub told_command : (command : Command) → IsBodyOf body command → IfSome told (λ held. place + 129 ≤ length held
      → IsBodyOf (piece (place + 1) 96 held) command)
  told_command command is = if_some told (IsRead (place + 1) 128 n bytes) (λ held. place + 129 ≤ length held
      → IsBodyOf (piece (place + 1) 96 held) command)
      (λ held r long. subst (λ (l : List ℕ). IsBodyOf l command) (front ∙ ap (take 96) (raw_is held r long)
      ∙ first_96 (drop (place + 1) held)) is) read

-- the record number k behind these, counted from 0
record RecordAt (generation index place : ℕ) (bytes : List ℕ) (commands : List Command) (k : ℕ) : Type 0 where
  command : Command
  recorded : slice_get commands k ≡ Some command
  whole : begins_whole (drop (129 * k) bytes) ≡ true
  read : record_on generation (index + k) (place + 129 * k + 1) (take 128 (drop 1 (drop (129 * k) bytes))) ≡ Ok command

record_at : (k fuel generation limit : ℕ) (checkpoint : List ℕ) (index place : ℕ) (bytes : List ℕ) (w : Written)
    → found_records generation limit checkpoint index place (records fuel bytes) ≡ Open w → k < length w.commands
    → RecordAt generation index place bytes w.commands k
record_at k zero generation limit checkpoint index place bytes w is few =
    let c = (of_records generation limit checkpoint index place (records zero bytes) w is).count in
    let none = ap length (records_zero bytes) in
    absurd (omega arith)
record_at k (suc fuel) generation limit checkpoint index place bytes w is few = elim (cases_Bool (begins_whole bytes)) [
  | inr none ↦
      let c = (of_records generation limit checkpoint index place (records (suc fuel) bytes) w is).count in
      let n = ap length (records_none (suc fuel) bytes none) in
      absurd (omega arith)
  | inl whole ↦
      let raw = take 128 (drop 1 bytes) in
      let o = record_open index (record_on generation index (place + 1) raw) (found_records generation limit checkpoint
      (index + 1) (place + 129) (records fuel (drop 129 bytes))) w
      (sym (ap (found_records generation limit checkpoint index place) (records_whole fuel bytes whole)) ∙ is) in
      let commands : o.command ∷ o.others.commands ≡ w.commands = ap (λ (v : Written). v.commands) (sym o.together) in
      subst (λ (l : List Command). RecordAt generation index place bytes l k) commands
      (step k o.command o.others.commands whole o.is
      (λ m less. record_at m fuel generation limit checkpoint (index + 1) (place + 129) (drop 129 bytes) o.others
      o.behind less) (subst (λ (l : List Command). k < length l) (sym commands) few))
]
  where
    step : (m : ℕ) (command : Command) (rest : List Command) → begins_whole bytes ≡ true
        → record_on generation index (place + 1) (take 128 (drop 1 bytes)) ≡ Ok command → ((p : ℕ) → p < length rest
        → RecordAt generation (index + 1) (place + 129) (drop 129 bytes) rest p) → m < length (command ∷ rest)
        → RecordAt generation index place bytes (command ∷ rest) m
    step zero command rest whole is behind less =
        let i : index ≡ index + 0 = omega arith in
        let p : place + 1 ≡ place + 129 * 0 + 1 = omega arith in
        record {
          command = command;
          recorded = refl;
          whole = whole;
          read = (λ j. record_on generation (sym i j) (sym p j) (take 128 (drop 1 bytes))) ∙ is;
        }
    step (suc m) command rest whole is behind less =
        let r = behind m (omega arith) in
        let i : index + 1 + m ≡ index + suc m = omega arith in
        let p : place + 129 + 129 * m + 1 ≡ place + 129 * suc m + 1 = omega arith in
        let d : drop (129 * m) (drop 129 bytes) ≡ drop (129 * suc m) bytes = drop-drop (129 * m) 129 bytes
        ∙ (let e : 129 + 129 * m ≡ 129 * suc m = omega arith in ap (λ (n : ℕ). drop n bytes) e) in
        record {
          command = r.command;
          recorded = r.recorded;
          whole = ap begins_whole (sym d) ∙ r.whole;
          read = (λ j. record_on generation (sym i j) (sym p j) (take 128 (drop 1 (sym d j)))) ∙ r.read;
        }

-- the record of this number on a journal's bytes
module _ (generation start index : ℕ) (held : List ℕ) (w : Written) (is : IsJournalOf generation start held w)
    (first : 1 ≤ index) (there : index ≤ length w.commands) where
  at_index : RecordAt generation 1 start (drop start held) w.commands (index - 1)
  at_index =
      let o = is_open (is_odd generation) held w is.found in
      let found : found_records generation w.limit w.checkpoint 1 start (records most_records (drop start held))
      ≡ Open w =
      (λ i. found_records (sym is.generation_is i) w.limit w.checkpoint 1 (sym is.start_is i) (records most_records
      (drop (sym is.start_is i) held))) ∙ o.behind in
      record_at (index - 1) most_records generation w.limit w.checkpoint 1 start (drop start held) w found (omega arith)

  number_is : 1 + (index - 1) ≡ index
  number_is = omega arith

  behind_is : drop (129 * (index - 1)) (drop start held) ≡ drop (start + 129 * (index - 1)) held
  behind_is = drop-drop (129 * (index - 1)) start held

  read_is : record_on generation index (body_at start index) (piece (body_at start index) 128 held)
      ≡ Ok at_index.command
  read_is =
      let d : drop 1 (drop (129 * (index - 1)) (drop start held)) ≡ drop (body_at start index) held =
      ap (drop 1) behind_is ∙ drop-drop 1 (start + 129 * (index - 1)) held in
      (λ j. record_on generation (sym number_is j) (body_at start index) (take 128 (sym d j))) ∙ at_index.read

  long : start + 129 * (index - 1) + 129 ≤ length held
  long =
      let l = whole_long (drop (start + 129 * (index - 1)) held) (ap begins_whole (sym behind_is) ∙ at_index.whole) in
      let d = length-drop (start + 129 * (index - 1)) held in
      omega arith

  -- the bytes in its place spell its command
  body_is : IsBodyOf (piece (body_at start index) 96 held) at_index.command
  body_is =
      let raw = piece (body_at start index) 128 held in
      let front : take 96 raw ≡ piece (body_at start index) 96 held = take-take 96 128 (drop (body_at start index) held)
      (omega arith) in
      let size : length (take 96 raw) ≡ 96 = ap length front ∙ length-take 96 (drop (body_at start index) held)
      ∙ (let d = length-drop (body_at start index) held in let l = long in omega arith) in
      subst (λ (l : List ℕ). IsBodyOf l at_index.command) front (body_spells generation index (body_at start index)
      (take 96 raw) (drop 96 raw) at_index.command size (ap (record_on generation index (body_at start index))
      (take-append-drop 96 raw) ∙ read_is))

  pub accepted : (result : Result (List ℕ) LookFault) → (start + 129 * (index - 1) + 129 ≤ length held
      → MatchResult result (IsBodyRead generation index (body_at start index) held) (IsFaultRead generation index
      (body_at start index) held)) → MatchResult result (IsAccepted start held w index) (λ why. why ≡ fault.DiskFault)
  accepted (Err fault.DiskFault) told = refl
  accepted (Err (fault.Damaged damage)) told = let t = told long in let e = sym read_is ∙ t.1 in absurd (cc (e))
  accepted (Ok body) told = let t = told long in record {
    there = t.0;
    command = at_index.command;
    recorded = at_index.recorded;
    spelled = subst (λ (l : List ℕ). IsBodyOf l at_index.command) (sym t.0) body_is;
  }

  pub recorded : (result : Result Command LookFault) → (start + 129 * (index - 1) + 129 ≤ length held
      → MatchResult result (IsBodyOf (piece (body_at start index) 96 held)) (IsFaultRead generation index
      (body_at start index) held)) → MatchResult result (IsRecorded w index) (λ why. why ≡ fault.DiskFault)
  recorded (Err fault.DiskFault) told = refl
  recorded (Err (fault.Damaged damage)) told = let t = told long in let e = sym read_is ∙ t.1 in absurd (cc (e))
  recorded (Ok command) told =
      let read = (told long).spelled in
      let here = body_is.spelled in
      let same : at_index.command ≡ command = cc (read, here) in
      at_index.recorded ∙ ap Some same

-- the journal of these fields
abbrev pub plain : {D : Type 0} → D → ℕ → ℕ → ℕ → ℕ → JournalOn D
plain disk generation limit start count = record {
  disk = disk;
  generation = generation;
  limit = limit;
  start = start;
  count = count;
}

-- the clause of a journal
abbrev pub Accepts : {D : Type 0} → (D → DiskAt) → JournalOn D → ℕ → Result (List ℕ) LookFault → Type 0
Accepts at j index result = (held : List ℕ) (w : Written) → (at j.disk).seen ≡ Some held
    → IsJournalOf j.generation j.start held w → index ≤ length w.commands
    → MatchResult result (IsAccepted j.start held w index) (λ why. why ≡ fault.DiskFault)

pub accepts : {D : Type 0} (at : D → DiskAt) (j : JournalOn D) (index : ℕ) (result : Result (List ℕ) LookFault)
    → 1 ≤ index → IfSome (at j.disk).seen (λ held. j.start + 129 * (index - 1) + 129 ≤ length held
    → MatchResult result (IsBodyRead j.generation index (body_at j.start index) held) (IsFaultRead j.generation index
    (body_at j.start index) held)) → Accepts at j index result
accepts at j index result first told held w is_told is there =
    accepted j.generation j.start index held w is first there result (subst (λ (o : Option (List ℕ)). IfSome o
    (λ l. j.start + 129 * (index - 1) + 129 ≤ length l
    → MatchResult result (IsBodyRead j.generation index (body_at j.start index) l) (IsFaultRead j.generation index
    (body_at j.start index) l))) is_told told)

-- the same of a command
abbrev pub Records : {D : Type 0} → (D → DiskAt) → JournalOn D → ℕ → Result Command LookFault → Type 0
Records at j index result = (held : List ℕ) (w : Written) → (at j.disk).seen ≡ Some held
    → IsJournalOf j.generation j.start held w → index ≤ length w.commands
    → MatchResult result (IsRecorded w index) (λ why. why ≡ fault.DiskFault)

pub records_so : {D : Type 0} (at : D → DiskAt) (j : JournalOn D) (index : ℕ) (result : Result Command LookFault)
    → 1 ≤ index → IfSome (at j.disk).seen (λ held. j.start + 129 * (index - 1) + 129 ≤ length held
    → MatchResult result (IsBodyOf (piece (body_at j.start index) 96 held)) (IsFaultRead j.generation index
    (body_at j.start index) held)) → Records at j index result
records_so at j index result first told held w is_told is there =
    recorded j.generation j.start index held w is first there result (subst (λ (o : Option (List ℕ)). IfSome o
    (λ l. j.start + 129 * (index - 1) + 129 ≤ length l
    → MatchResult result (IsBodyOf (piece (body_at j.start index) 96 l)) (IsFaultRead j.generation index
    (body_at j.start index) l))) is_told told)
