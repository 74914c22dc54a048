-- The store that begins on two disks.
use Rattle.std.proofs.Common.{◌<◌, ◌≤◌, ◌≡◌, inl, inr, ⊎_elim, ◌↔◌, ℕ, List, [], Option, Some, None, IfSome, IsSome, Bool, true, false, nat_lt, if◌then◌else◌, Ok, refl, sym, ◌∙◌, ap, ap₂, subst, arith}
use Rattle.std.proofs.lemmas.Bool.Decides.{nat_tests}
use Rattle.liq_types.specs.declared.image.Image.{Image}
use Rattle.liq_types.specs.State.{State, opening}
use Rattle.liq_outside.specs.At.{DiskAt}
use Rattle.liq_core.specs.Core.{Core, StandsFor}
use Rattle.liq_journal.specs.Crash.{IsClosed, Stands, beginning, is_odd}
use Rattle.liq_journal.specs.Opened.{IsUnshut}
use Rattle.liq_journal.specs.Settled.{IsSettled, JournalOn}
use Rattle.liq_journal.specs.Written.{Absent, Open, Written, found_on, start_of}
use Rattle.liq_journal.proofs.Parity.{parity_of}
use Rattle.liq_disk_pair.specs.declared.side.Side.{Side}
use Rattle.liq_disk_pair.specs.declared.side.Side.TheVariants.{Left, Right}
use Rattle.liq_disk_pair.specs.Kept.{IsSettledFor}
use Rattle.liq_disk_pair.specs.Pair.{commands_on, state_on}
use Rattle.liq_disk_pair.specs.Replay.{outcome}
use Rattle.liq_disk_pair.specs.Sides.{has_odd, on, other}
use Rattle.liq_core.proofs.Alike.{core_alike}
use Rattle.liq_disk_pair.proofs.Beginning.{created_state}
use Rattle.liq_disk_pair.proofs.Commands.{commands_by}
use Rattle.liq_disk_pair.proofs.FirstPlace.{IsAside, absent_isnt_open, closed_absent, closed_where, gate_open_or_not, is_behind, open_older, opened_already, unopened_absent}
use Rattle.liq_disk_pair.proofs.Keeping.{LeadsTo, first_settled, settled_by}
use Rattle.liq_disk_pair.proofs.Standings.{state_none, state_taken}
use Rattle.liq_store.specs.declared.standing.Stood.{Stood}
use Rattle.liq_store.specs.declared.standing.Stood.TheVariants.{Nothing, Holding}
use Rattle.liq_store.specs.Beginning.{IsEarlier, IsStanding, IsStoodOn}
use Rattle.liq_store.specs.Causes.{counts_of}
use Rattle.liq_disk_records.specs.Choosing.{later_side}
use Rattle.liq_store.specs.Judging.{disk_of}
use Rattle.liq_store.specs.Keeping.{IsAtRest}
use Rattle.liq_store.specs.Opening.{HoldsCommands, OpensOn}
use Rattle.liq_store.specs.Standing.{HasCounts, IsCounted, IsHeldOn}
use Rattle.liq_store.specs.Stored.{disk_beside}
use Rattle.liq_store.specs.Within.{IsWithin, stored}
use Rattle.liq_store.proofs.Appending.{all_has}
use Rattle.liq_store.proofs.Going.{Going, beside_is, order_going, taken_is, told_by}
use Rattle.liq_store.proofs.OneDisk.{some_same, told_too}

-- what holds of a store that begins
pub within_of : {D : Type 0} (at : D → DiskAt) (side : Side) (taken : JournalOn D) (b : D) (core : Core)
    → Going at side taken.disk b core
    → is_odd taken.generation ≡ has_odd side → HasCounts taken.generation taken.count core
    → IfSome (at taken.disk).seen (IsSettled taken.generation taken.start taken.count)
    → IsWithin at side taken b core None []
within_of at side taken b core going parity counts settled = record {
  order = order_going at side taken b core going;
  generation_is = counts.generation_is;
  parity_is = parity;
  count_is = counts.count_is;
  told = all_has (at taken.disk).seen taken.generation taken.start taken.count settled;
  settled = λ none. settled;
}

-- what is found on it is what it is known to hold
one_journal : (odd : Bool) (held : List ℕ) (generation start count : ℕ) (core : Core) → is_odd generation ≡ odd
    → (is : IsSettled generation start count held) → (holds : IsHeldOn odd held generation core)
    → is.written ≡ holds.written
one_journal odd held generation start count core parity is holds =
    let found : found_on odd held ≡ Open is.written = subst (λ (o : Bool). found_on o held
    ≡ Open is.written) parity is.stands.found in
    let both : Open is.written ≡ Open holds.written = sym found ∙ holds.found in
    cc (both)

-- it stands there, with a 0 behind it
stood : (odd : Bool) (held : List ℕ) (generation start count : ℕ) (core : Core) → is_odd generation ≡ odd
    → IsSettled generation start count held → (holds : IsHeldOn odd held generation core)
    → Stands odd held holds.written
stood odd held generation start count core parity is holds =
    subst (λ (o : Bool). Stands o held holds.written) parity (subst (λ (w : Written). Stands (is_odd generation) held w)
    (one_journal odd held generation start count core parity is holds) is.stands)

-- ---- by the side of the disk that is taken

settled_with : (side : Side) (held now : List ℕ) (w : Written) (s : State) → LeadsTo w s
    → IsAside (has_odd (other side)) now w.generation → Stands (has_odd side) held w
    → IsSettledFor side (on side held now) (on side now held) s
settled_with Left held now w s leads aside stands = settled_by Left held now w s leads aside stands
settled_with Right held now w s leads aside stands = settled_by Right now held w s leads aside stands

state_with : (side : Side) (held now : List ℕ) (w : Written) (s : State) → found_on (has_odd side) held ≡ Open w
    → outcome w ≡ Ok s
    → IsAside (has_odd (other side)) now w.generation → state_on (on side held now) (on side now held) ≡ Ok s
state_with Left held now w s found came aside = state_taken Left held now w s found came
    (is_behind false now w.generation aside)
state_with Right held now w s found came aside = state_taken Right now held w s found came
    (is_behind true now w.generation aside)

-- what is found on a disk beside: nothing, or a journal of a smaller generation
data FoundAside (odd : Bool) (bytes : List ℕ) (generation : ℕ) : Type 0 where
  not_open : found_on odd bytes ≡ Absent → FoundAside odd bytes generation
  open_earlier : (w : Written) → found_on odd bytes ≡ Open w → w.generation < generation
      → FoundAside odd bytes generation

found_aside : (odd : Bool) (bytes : List ℕ) (generation : ℕ) → IsAside odd bytes generation
    → FoundAside odd bytes generation
found_aside odd bytes generation (inl closed) = not_open (closed_absent odd bytes closed)
found_aside odd bytes generation (inr is) = ⊎_elim
    (λ gate. open_earlier is.written (ap (found_on odd) (sym (opened_already bytes gate)) ∙ is.stands.found) is.smaller)
    (λ shut. not_open (unopened_absent odd bytes shut))
    (gate_open_or_not bytes)

commands_with : (side : Side) (held now : List ℕ) (w : Written) → found_on (has_odd side) held ≡ Open w
    → FoundAside (has_odd (other side)) now w.generation → commands_on (on side held now) (on side now held)
    ≡ w.commands
commands_with Left held now w found (not_open absent) = commands_by held now (Open w) Absent found absent
commands_with Left held now w found (open_earlier v found_beside less) =
    commands_by held now (Open w) (Open v) found found_beside
    ∙ ap (λ (b : Bool). (if b then v else w).commands) (not_less w.generation v.generation less)
  where
    not_less : (n m : ℕ) → m < n → nat_lt n m ≡ false
    not_less n m less = grind (arith, nat_tests)
commands_with Right held now w found (not_open absent) = commands_by now held Absent (Open w) absent found
commands_with Right held now w found (open_earlier v found_beside less) =
    commands_by now held (Open v) (Open w) found_beside found
    ∙ ap (λ (b : Bool). (if b then w else v).commands) (is_less v.generation w.generation less)
  where
    is_less : (n m : ℕ) → n < m → nat_lt n m ≡ true
    is_less n m less = grind (arith, nat_tests)

-- an undamaged disk beside a journal of this generation
aside_of : {D : Type 0} (odd : Bool) (aside : Stood D) (now : List ℕ) (generation : ℕ) → IsCounted odd aside
    → IsEarlier generation aside
    → IsStanding odd now aside → IsAside odd now generation
aside_of odd (Nothing disk) now generation counted earlier_one standing = inl (closed_where now standing)
aside_of odd (Holding journal core) now generation counted earlier_one standing =
    let here = standing.1 in
    let stands = stood odd now journal.generation journal.start journal.count core
    (parity_of odd journal.generation counted.0) standing.0 here in
    inr (open_older odd now here.written here.state generation stands here.came (omega (
      arith,
      here.generation_is,
      earlier_one,
    )))

shut_on : {D : Type 0} (odd : Bool) (now : List ℕ) (aside : Stood D) → IsStanding odd now aside
    → found_on odd now ≡ Absent → IsUnshut now → ⊥
shut_on odd now (Nothing disk) standing absent unshut = standing unshut
shut_on odd now (Holding journal core) standing absent unshut =
    absent_isnt_open odd now standing.1.written absent standing.1.found

-- ---- which of two goes on

apart : (m n : ℕ) → is_odd m ≡ true → is_odd n ≡ false → n ≤ m → n < m
apart m n odd even le =
    let unlike : m ≡ n → ⊥ = λ same. (let no : true ≡ false = sym odd ∙ ap is_odd same ∙ even in absurd (cc (no))) in
    omega (arith, unlike)

later_of : (left right : ℕ) (side : Side) → is_odd left ≡ true → is_odd right ≡ false → later_side left right ≡ side
    → on side right left < on side left right
later_of left right side odd even is = by (nat_lt left right) refl side is
  where
    by : (b : Bool) → nat_lt left right ≡ b → (side : Side) → later_side left right ≡ side
        → on side right left < on side left right
    by true less Right is = grind (arith, nat_tests)
    by true less Left is = let no : Right ≡ Left = sym (ap (λ (b : Bool). if b then Right else Left) less) ∙ is
        in absurd (cc (no))
    by false less Right is = let no : Left ≡ Right = sym (ap (λ (b : Bool). if b then Right else Left) less) ∙ is
        in absurd (cc (no))
    by false less Left is = apart left right odd even (at_most less)
      where
        at_most : nat_lt left right ≡ false → right ≤ left
        at_most h = grind (arith, nat_tests)

-- of two journals the one that is not taken is of a smaller generation
pub later_than : {D : Type 0} (left right : JournalOn D) (core later : Core) (side : Side)
    → IsCounted true (Holding left core)
    → IsCounted false (Holding right later) → later_side core.image.generation later.image.generation ≡ side
    → on side right.generation left.generation < on side left.generation right.generation
later_than left right core later side counted counted_right is =
    later_of left.generation right.generation side (parity_of true left.generation counted.0)
    (parity_of false right.generation counted_right.0)
    (ap₂ later_side counted.1.generation_is counted_right.1.generation_is ∙ is)

module _ {D : Type 0} (at : D → DiskAt) where
  told_on : (odd : Bool) (stood : Stood D) → IsStoodOn at odd stood → (now : List ℕ) → (at (disk_of stood)).seen
      ≡ Some now → IsStanding odd now stood
  told_on odd stood is now told = subst (λ (o : Option (List ℕ)). IfSome o (λ l. IsStanding odd l stood)) told is.told

  -- ---- a journal that goes on, beside which no later one is

  module _ (side : Side) (taken : JournalOn D) (core : Core) (aside : Stood D)
      (is : IsStoodOn at (has_odd side) (Holding taken core)) (is_beside : IsStoodOn at (has_odd (other side)) aside)
      (earlier_one : IsEarlier taken.generation aside) where
    parity : is_odd taken.generation ≡ has_odd side
    parity = parity_of (has_odd side) taken.generation is.counted.0

    here_on : (held : List ℕ) → (at taken.disk).seen ≡ Some held → IsStanding (has_odd side) held (Holding taken core)
    here_on held told = told_on (has_odd side) (Holding taken core) is held told

    aside_on : (held now : List ℕ) (told : (at taken.disk).seen ≡ Some held) → (at (disk_of aside)).seen ≡ Some now
        → IsAside (has_odd (other side)) now (here_on held told).1.written.generation
    aside_on held now told told_beside =
        subst (λ (n : ℕ). IsAside (has_odd (other side)) now n) (sym (here_on held told).1.generation_is)
        (aside_of (has_odd (other side)) aside now taken.generation is_beside.counted earlier_one
        (told_on (has_odd (other side)) aside is_beside now told_beside))

    pub begins : IsWithin at side taken (disk_of aside) core None []
    begins = within_of at side taken (disk_of aside) core
        (record {
          taken_rests = is.rests;
          beside_rests = is_beside.rests;
          settled = λ held now th ta s stands.
              let here = here_on held th in
              settled_with side held now here.1.written s (record {
                state = here.1.state;
                came = here.1.came;
                alike = core_alike core here.1.state s here.1.stands stands;
              })
              (aside_on held now th ta) (stood (has_odd side) held taken.generation taken.start taken.count core parity
              here.0 here.1);
        })
        parity is.counted.1 (settled_told (at taken.disk).seen is.told)
      where
        settled_told : (o : Option (List ℕ)) → IfSome o (λ now. IsStanding (has_odd side) now (Holding taken core))
            → IfSome o (IsSettled taken.generation taken.start taken.count)
        settled_told None none_told = tt
        settled_told (Some now) standing = standing.0

    begins_for : (held now : List ℕ) → (at taken.disk).seen ≡ Some held → (at (disk_of aside)).seen ≡ Some now
        → (s : State) × (state_on (on side held now) (on side now held) ≡ Ok s) × StandsFor core s
    begins_for held now th ta =
        let here = (here_on held th).1 in (
          here.state,
          state_with side held now here.written here.state here.found here.came (aside_on held now th ta),
          here.stands,
        )

    holds_for : (held now : List ℕ) → (at taken.disk).seen ≡ Some held → (at (disk_of aside)).seen ≡ Some now
        → HoldsCommands (has_odd side) held taken.start (commands_on (on side held now) (on side now held))
    holds_for held now th ta =
        let here = here_on held th in
        let w = here.1.written in
        record {
          written = w;
          found = here.1.found;
          begins = ap start_of (sym (one_journal (has_odd side) held taken.generation taken.start taken.count core
              parity here.0 here.1)) ∙ here.0.start_is;
          are = sym (commands_with side held now w here.1.found (found_aside (has_odd (other side)) now w.generation
              (aside_on held now th ta)));
        }

    -- the store that goes on with it
    pub begins_opened : OpensOn at (on side taken.disk (disk_of aside)) (on side (disk_of aside) taken.disk)
        (stored side taken (disk_of aside) core None [])
    begins_opened = record {
      state = told_by at side taken.disk (disk_of aside) (λ l r. (s : State) × (state_on l r ≡ Ok s)
          × StandsFor core s) begins_for;
      commands = λ l r now tl tr tn.
          told_by at side taken.disk (disk_of aside) (λ x y. (at taken.disk).seen ≡ Some now
          → HoldsCommands (has_odd side) now taken.start (commands_on x y))
          (λ held other_held th ta told. let same = some_same held now (at taken.disk).seen th told in
          subst (λ (m : List ℕ). HoldsCommands (has_odd side) m taken.start (commands_on (on side held other_held)
          (on side other_held held))) same (holds_for held other_held th ta))
          l r tl tr (ap (λ (d : D). (at d).seen) (sym (taken_is side taken.disk (disk_of aside))) ∙ tn);
      going = refl;
      counts = refl;
      stays = λ l r x y tl tr tx ty.
          ap₂ state_on (some_same x l (at (on side taken.disk (disk_of aside))).seen tx tl)
          (some_same y r (at (on side (disk_of aside) taken.disk)).seen ty tr);
    }

    -- where none is open beside it, the gate there is shut
    pub begins_shut : IfSome (at (disk_beside (stored side taken (disk_of aside) core None []))).seen
        (λ now. found_on (has_odd (other side)) now ≡ Absent → IsUnshut now → ⊥)
    begins_shut =
        subst (λ (d : D). IfSome (at d).seen (λ now. found_on (has_odd (other side)) now ≡ Absent → IsUnshut now
        → ⊥)) (sym (beside_is side taken.disk (disk_of aside)))
        (by (at (disk_of aside)).seen is_beside.told)
      where
        by : (o : Option (List ℕ)) → IfSome o (λ now. IsStanding (has_odd (other side)) now aside)
            → IfSome o (λ now. found_on (has_odd (other side)) now ≡ Absent → IsUnshut now → ⊥)
        by None none_told = tt
        by (Some now) standing = shut_on (has_odd (other side)) now aside standing

  -- ---- the first generation

  none_for : (l r : List ℕ) (core : Core) → IsClosed l → IsClosed r → StandsFor core opening → (s : State)
      × (state_on l r ≡ Ok s) × StandsFor core s
  none_for l r core left right stands =
      (opening, state_none l r (closed_absent true l left) (closed_absent false r right), stands)

  pub counts_first : (core : Core) (generation count : ℕ) → generation ≡ 1 → count ≡ 0 → StandsFor core opening
      → HasCounts generation count core
  counts_first core generation count one none stands = record {
    generation_is = one ∙ sym (ap (λ (i : Image). i.generation) stands.image);
    count_is = none ∙ sym stands.records;
  }

  pub begins_anew : (old b : D) (taken : JournalOn D) (core : Core) → taken.generation ≡ 1 → taken.count ≡ 0
      → StandsFor core opening
      → (IsSome (at taken.disk).seen ↔ IsSome (at old).seen)
      → ((held : List ℕ) → (at old).seen ≡ Some held → (now : List ℕ) × ((at taken.disk).seen ≡ Some now)
      × Stands true now (beginning 1 []))
      → IfSome (at taken.disk).seen (IsSettled taken.generation taken.start taken.count) → IsAtRest at taken.disk
      → IsAtRest at b → IfSome (at b).seen (λ now. IsUnshut now → ⊥)
      → IsWithin at Left taken b core None []
  begins_anew old b taken core one none stands telling created settled rests beside_rests closed =
      within_of at Left taken b core
      (record {
        taken_rests = rests;
        beside_rests = beside_rests;
        settled = λ held aside th ta s so.
            let before = told_too (at taken.disk).seen (at old).seen (telling.1, telling.0) held th in
            let made = created before.0 before.1 in
            let same : made.0 ≡ held = some_same made.0 held (at taken.disk).seen made.1 th in
            let shut : IsClosed aside =
            closed_where aside (subst (λ (o : Option (List ℕ)). IfSome o (λ now. IsUnshut now → ⊥)) ta closed) in
            first_settled held aside (beginning 1 []) s (core_alike core opening s stands so)
            (subst (λ (l : List ℕ). Stands true l (beginning 1 [])) same made.2) refl refl refl shut;
      })
      (ap is_odd one) (counts_first core taken.generation taken.count one none stands) settled

  stays_anew : (old b : D) (taken : JournalOn D) (l r x y : List ℕ) → ((held : List ℕ) → (at old).seen ≡ Some held
      → (now : List ℕ) × ((at taken.disk).seen ≡ Some now) × Stands true now (beginning 1 []))
      → IsClosed l → IsClosed r → (at old).seen ≡ Some l → (at b).seen ≡ Some r → (at taken.disk).seen ≡ Some x
      → (at b).seen ≡ Some y → state_on x y ≡ state_on l r
  stays_anew old b taken l r x y created left right tl tr tx ty =
      let made = created l tl in
      let same : made.0 ≡ x = some_same made.0 x (at taken.disk).seen made.1 tx in
      let one : r ≡ y = some_same r y (at b).seen tr ty in
      created_state l r x y (closed_absent true l left) (closed_absent false r right)
      (subst (λ (m : List ℕ). Stands true m (beginning 1 [])) same made.2)
      (closed_absent false y (subst IsClosed one right))

  shut_so : (disk : D) (held : List ℕ) → (at disk).seen ≡ Some held → IfSome (at disk).seen (λ now. IsUnshut now → ⊥)
      → IsClosed held
  shut_so disk held told shut = closed_where held (subst (λ (o : Option (List ℕ)). IfSome o (λ now. IsUnshut now
      → ⊥)) told shut)

  -- the store that goes on with it
  pub anew_opened : (old b : D) (taken : JournalOn D) (core : Core) → StandsFor core opening
      → (at taken.disk).faults ≡ (at old).faults → taken.start ≡ start_of (beginning 1 [])
      → ((held : List ℕ) → (at old).seen ≡ Some held → (now : List ℕ) × ((at taken.disk).seen ≡ Some now)
      × Stands true now (beginning 1 []))
      → IfSome (at old).seen (λ now. IsUnshut now → ⊥) → IfSome (at b).seen (λ now. IsUnshut now → ⊥)
      → OpensOn at old b (stored Left taken b core None [])
  anew_opened old b taken core stands count start created shut shut_beside = record {
    state = λ l r tl tr. none_for l r core (shut_so old l tl shut) (shut_so b r tr shut_beside) stands;
    commands = λ l r now tl tr tn.
        let made = created l tl in
        record {
          written = beginning 1 [];
          found = ap (found_on true) (some_same now made.0 (at taken.disk).seen tn made.1) ∙ made.2.found;
          begins = sym start;
          are = sym (commands_by l r Absent Absent (closed_absent true l (shut_so old l tl shut)) (closed_absent false r
              (shut_so b r tr shut_beside)));
        };
    going = refl;
    counts = ap (λ (n : ℕ). record (counts_of at old b) { left = n }) count;
    stays = λ l r x y tl tr tx ty. stays_anew old b taken l r x y created (shut_so old l tl shut)
        (shut_so b r tr shut_beside) tl tr tx ty;
  }
