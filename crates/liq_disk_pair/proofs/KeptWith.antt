-- Which commands stand on two disks, by the one that is taken.
use Rattle.std.proofs.Common.{◌≡◌, ◌⊎◌, inl, inr, ⊎_elim, ℕ, ◌<◌, List, [], ◌∷◌, ◌++◌, Result, Ok, Err, Some, Bool, true, false, nat_lt, if◌then◌else◌, refl, sym, ◌∙◌, ap, arith}
use Rattle.std.proofs.lemmas.Bool.Decides.{nat_tests}
use Rattle.liq_types.specs.declared.requests.Call.{Call}
use Rattle.liq_types.specs.declared.requests.Call.TheVariants.{Rotate}
use Rattle.liq_types.specs.declared.requests.Command.{Command}
use Rattle.liq_types.specs.State.{State}
use Rattle.liq_types.specs.Verbs.{is_rotate}
use Rattle.liq_journal.specs.declared.damage.Damage.{Damage}
use Rattle.liq_journal.specs.Crash.{IsClosed, Stands}
use Rattle.liq_journal.specs.Written.{Found, Absent, Damaged, Open, Written, and_then, found_on}
use Rattle.liq_journal.proofs.Bodies.{found_no_rotation}
use Rattle.liq_disk_pair.specs.declared.side.Side.{Side}
use Rattle.liq_disk_pair.specs.declared.side.Side.TheVariants.{Left, Right}
use Rattle.liq_disk_pair.specs.Commands.{kept_behind, read_back}
use Rattle.liq_disk_pair.specs.Kept.{IsFirst, IsKept, IsKeptOn, IsKeptWith, IsOlder, IsSettledFor}
use Rattle.liq_disk_pair.specs.Pair.{commands_on, journal_commands, pair_journal, standing, standing_after, standing_of}
use Rattle.liq_disk_pair.specs.Replay.{outcome}
use Rattle.liq_disk_pair.specs.Sides.{beside, has_odd, on, other}
use Rattle.liq_disk_pair.proofs.Commands.{commands_by}
use Rattle.liq_disk_pair.proofs.FirstPlace.{IsAside, closed_absent, gate_open_or_not, is_behind, opened_already, rotation_behind, unopened_absent}
use Rattle.liq_disk_pair.proofs.Heard.{found_heard, last_of_all}
use Rattle.liq_disk_pair.proofs.Standings.{IsBehind, nothing, older, standing_absent}

-- ---- what is found beside

abbrev IsBehindFound : ℕ → Found → Type 0
IsBehindFound generation Absent = Unit {0}
IsBehindFound generation (Damaged damage) = ⊥
IsBehindFound generation (Open v) = v.generation < generation

after_found : (generation later : ℕ) (r : Result State Damage) → IsBehind later (standing_after generation r)
    → generation < later
after_found generation later (Ok s) (nothing is) = absurd (cc (is))
after_found generation later (Ok s) (older earlier t less is) =
    let same : generation ≡ earlier = cc (is) in omega (arith, same, less)
after_found generation later (Err damage) (nothing is) = absurd (cc (is))
after_found generation later (Err damage) (older earlier t less is) = absurd (cc (is))

behind_found : (generation : ℕ) (found : Found) → IsBehind generation (standing_of found)
    → IsBehindFound generation found
behind_found generation Absent behind = tt
behind_found generation (Damaged damage) (nothing is) = absurd (cc (is))
behind_found generation (Damaged damage) (older earlier t less is) = absurd (cc (is))
behind_found generation (Open v) behind = after_found v.generation generation (outcome v) behind

found_behind : (odd : Bool) (bytes : List ℕ) (generation : ℕ) → IsBehind generation (standing odd bytes)
    → IsBehindFound generation (found_on odd bytes)
unfolding standing
found_behind odd bytes generation behind = behind_found generation (found_on odd bytes) behind

-- ---- the commands are those of the disk that is taken

left_taken : (w : Written) (found : Found) → IsBehindFound w.generation found
    → journal_commands (pair_journal (Open w) found) ≡ w.commands
left_taken w Absent behind = refl
left_taken w (Damaged damage) behind = absurd behind
left_taken w (Open v) less =
    ap (λ (b : Bool). journal_commands (Some (if b then v else w))) (not_less w.generation v.generation less)
  where
    not_less : (n m : ℕ) → m < n → nat_lt n m ≡ false
    not_less n m less = grind (arith, nat_tests)

right_taken : (w : Written) (found : Found) → IsBehindFound w.generation found
    → journal_commands (pair_journal found (Open w)) ≡ w.commands
right_taken w Absent behind = refl
right_taken w (Damaged damage) behind = absurd behind
right_taken w (Open v) less =
    ap (λ (b : Bool). journal_commands (Some (if b then w else v))) (is_less v.generation w.generation less)
  where
    is_less : (n m : ℕ) → n < m → nat_lt n m ≡ true
    is_less n m less = grind (arith, nat_tests)

pub commands_taken : (side : Side) (l r : List ℕ) (w : Written) → found_on (has_odd side) (on side l r) ≡ Open w
    → IsBehind w.generation (standing (has_odd (other side)) (beside side l r)) → commands_on l r ≡ w.commands
commands_taken Left l r w found behind =
    commands_by l r (Open w) (found_on false r) found refl
    ∙ left_taken w (found_on false r) (found_behind false r w.generation behind)
commands_taken Right l r w found behind =
    commands_by l r (found_on true l) (Open w) refl found
    ∙ right_taken w (found_on true l) (found_behind true l w.generation behind)

pub commands_none : (l r : List ℕ) → found_on true l ≡ Absent → found_on false r ≡ Absent → commands_on l r ≡ []
commands_none l r left right = commands_by l r Absent Absent left right

module _ (side : Side) (l r : List ℕ) (w : Written) (found : found_on (has_odd side) (on side l r) ≡ Open w)
    (aside : IsAside (has_odd (other side)) (beside side l r) w.generation) where
  pub commands_beside : commands_on l r ≡ w.commands
  commands_beside =
      commands_taken side l r w found (is_behind (has_odd (other side)) (beside side l r) w.generation aside)

  -- kept, with them
  pub with_beside : (s : State) (held : List Command) → IsKept l r s → w.commands ≡ held → IsKeptWith l r s held
  with_beside s held kept same = record { kept = kept; commands = commands_beside ∙ same }

-- the journal on the other side is taken, where the one on this side is older
pub turned_commands : (side : Side) (l r : List ℕ) (w : Written) → IsOlder (has_odd side) (on side l r) w.generation
    → Stands (has_odd (other side)) (beside side l r) w → commands_on l r ≡ w.commands
turned_commands Left l r w older_one stands = commands_beside Right l r w stands.found (inr older_one)
turned_commands Right l r w older_one stands = commands_beside Left l r w stands.found (inr older_one)

-- the first generation without records, or none
pub first_commands : (l r : List ℕ) → IsClosed l ⊎ IsFirst true l → found_on false r ≡ Absent → commands_on l r ≡ []
first_commands l r (inl left) absent = commands_none l r (closed_absent true l left) absent
first_commands l r (inr first) absent = ⊎_elim
    (λ gate. commands_taken Left l r first.written
    (ap (found_on true) (sym (opened_already l gate)) ∙ first.stands.found) (nothing (standing_absent false r absent))
    ∙ first.none)
    (λ shut. commands_none l r (unopened_absent true l shut) absent)
    (gate_open_or_not l)

pub begun_commands : (l r : List ℕ) → IsClosed l ⊎ IsFirst true l → IsClosed r → commands_on l r ≡ []
begun_commands l r begun closed = first_commands l r begun (closed_absent false r closed)

pub settled_commands : (side : Side) (l r : List ℕ) (s : State) → (settled : IsSettledFor side l r s)
    → commands_on l r ≡ settled.written.commands
settled_commands side l r s settled =
    commands_beside side l r settled.written settled.open_on.found settled.others

pub kept_on_commands : (side : Side) (l r : List ℕ) (s : State) → (kept : IsKeptOn side l r s)
    → commands_on l r ≡ kept.written.commands
kept_on_commands side l r s kept =
    let w = kept.written in
    commands_taken side l r w kept.found (⊎_elim
    (λ closed. is_behind (has_odd (other side)) (beside side l r) w.generation (inl closed))
    (λ more. ⊎_elim
    (λ older_one. is_behind (has_odd (other side)) (beside side l r) w.generation (inr older_one))
    (λ turning. rotation_behind (has_odd (other side)) (beside side l r) w.generation s turning.command turning.holds)
    more)
    kept.others)

-- ---- one command more

pub behind_record : (odd : Bool) (bytes : List ℕ) (w : Written) (c : Command)
    → found_on odd bytes ≡ Open (and_then w c) → kept_behind w.commands (c ∷ []) ≡ w.commands ++ c ∷ []
behind_record odd bytes w c found =
    let none : is_rotate c.call ≡ false =
    last_of_all (λ (d : Command). is_rotate d.call ≡ false) w.commands c (found_no_rotation odd bytes (and_then w c) found)
    in
    let heard : read_back c ≡ c =
    last_of_all (λ (d : Command). read_back d ≡ d) w.commands c (found_heard odd bytes (and_then w c) found) in
    ap (λ (b : Bool). if b then [] else w.commands ++ read_back c ∷ []) none
    ∙ ap (λ (d : Command). w.commands ++ d ∷ []) heard

pub behind_rotation : (held : List Command) (c : Command) → c.call ≡ Rotate → kept_behind held (c ∷ []) ≡ []
behind_rotation held c rotates =
    ap (λ (call : Call). if is_rotate call then [] else held ++ read_back c ∷ []) rotates
