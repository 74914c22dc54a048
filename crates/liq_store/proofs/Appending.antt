-- What an append leaves of a store.
use Rattle.std.proofs.Common.{◌≡◌, ◌⊎◌, ◌↔◌, inl, inr, ⊎_elim, ℕ, ◌≤◌, List, [], ◌∷◌, ◌++◌, length, Bool, true, false, if◌then◌else◌, Option, Some, None, IfSome, IsSome, refl, sym, ◌∙◌, ap, subst, arith, length-append}
use Rattle.liq_outside.specs.At.{DiskAt}
use Rattle.liq_outside.specs.Disk.{GoesOn, LeavesOnly, LeftNow, LeftSince, Only}
use Rattle.liq_outside.proofs.Moments.{at_last, unmoved}
use Rattle.liq_types.specs.declared.events.ListChange.{ListChange}
use Rattle.liq_types.specs.declared.replies.Answer.{Answer}
use Rattle.liq_types.specs.declared.replies.Answer.TheVariants as answer
use Rattle.liq_types.specs.declared.requests.Command.{Command}
use Rattle.liq_types.specs.declared.requests.Request.TheVariants.{Do}
use Rattle.liq_types.specs.State.{State}
use Rattle.liq_core.specs.Core.{Core, StandsFor}
use Rattle.liq_core.specs.Plan.{Plan, IsPlan}
use Rattle.liq_rule_step.specs.Step.{Allowed, Ruling, after, after_ruling, is_allowed, newly_accepted, ruling, step}
use Rattle.liq_rule_step.specs.Verbs.{unhinted}
use Rattle.liq_journal.specs.Crash.{BeforeOrAfter, Stands, is_odd}
use Rattle.liq_journal.specs.Settled.{IsSettled, JournalOn}
use Rattle.liq_types.specs.Verbs.{is_rotate}
use Rattle.liq_journal.specs.Written.{Open, Written, and_then, found_on, start_of}
use Rattle.liq_disk_pair.specs.declared.side.Side.{Side}
use Rattle.liq_disk_pair.specs.Commands.{kept_behind, read_back}
use Rattle.liq_disk_pair.specs.Kept.{IsKept, IsKeptWith}
use Rattle.liq_disk_pair.specs.Pair.{commands_on}
use Rattle.liq_disk_pair.specs.Sides.{has_odd, on}
use Rattle.liq_rule_step.proofs.AlikeReads.{Alike}
use Rattle.liq_core.proofs.Alike.{core_alike}
use Rattle.liq_disk_pair.proofs.Alike.{settled_alike}
use Rattle.liq_disk_pair.proofs.Around.{kept_around, settled_after}
use Rattle.liq_disk_pair.proofs.Hints.{heard_after, heard_ruling}
use Rattle.liq_store.specs.Calling.{WritesOn}
use Rattle.liq_store.specs.Keeping.{IsAtRest, IsKeptAround, IsKeptNear}
use Rattle.liq_store.specs.Rotating.{is_rotation}
use Rattle.liq_store.specs.Stored.{Stored}
use Rattle.liq_store.specs.Within.{HasRecords, IsWithin, stored}
use Rattle.liq_store.proofs.Calling.{answer_stays, other_stays, writes_on}
use Rattle.liq_store.proofs.Going.{Going, going_by, rest_now, rest_only}
use Rattle.liq_store.proofs.OneDisk.{some_same, told_too}
use Rattle.liq_store.proofs.Steps.{prepared_allowed}

pub some_isnt_none : (n : ℕ) → Some n ≡ None → ⊥
some_isnt_none n is = cc

-- the same records, by the same numbers
pub has_same : (o : Option (List ℕ)) (generation start count generation' start' count' : ℕ) → generation' ≡ generation
    → start' ≡ start → count' ≡ count → IfSome o (HasRecords generation start count)
    → IfSome o (HasRecords generation' start' count')
has_same o generation start count generation' start' count' a b c has =
    subst (λ (n : ℕ). IfSome o (HasRecords n start' count')) (sym a)
    (subst (λ (n : ℕ). IfSome o (HasRecords generation n count')) (sym b)
    (subst (λ (n : ℕ). IfSome o (HasRecords generation start n)) (sym c) has))

-- the state after an allowed command is the step's, also by what is read back of it
pub step_is_after : (s : State) (c : Command) → ruling s c ≡ Allowed → (step s (Do c)).0 ≡ after s c
step_is_after s c allowed = ap (λ r. (after_ruling s c r).0) allowed

-- behind one that is accepted its command stands
pub behind_newly : (held : List Command) (s : State) (c : Command) → ruling s c ≡ Allowed
    → kept_behind held (newly_accepted s (Do c)) ≡ kept_behind held (c ∷ [])
behind_newly held s c allowed =
    ap (λ (x : Ruling). kept_behind held (if is_allowed x then c ∷ [] else [])) allowed

behind_appended : (held : List Command) (s : State) (c : Command) → ruling s c ≡ Allowed → is_rotate c.call ≡ false
    → kept_behind held (newly_accepted s (Do c)) ≡ held ++ read_back c ∷ []
behind_appended held s c allowed stays =
    behind_newly held s c allowed ∙ ap (λ (b : Bool). if b then [] else held ++ read_back c ∷ []) stays

one_record : (odd : Bool) (generation start count : ℕ) (bytes : List ℕ) (w : Written) → is_odd generation ≡ odd
    → found_on odd bytes ≡ Open w → w.generation ≡ generation → start_of w ≡ start → count ≤ length w.commands
    → HasRecords generation start count bytes
one_record odd generation start count bytes w parity found generation_is start_is within = record {
  written = w;
  journal = record {
    found = subst (λ (o : Bool). found_on o bytes ≡ Open w) (sym parity) found;
    generation_is = generation_is;
    start_is = start_is;
  };
  within = within;
}

pub settled_has : (generation start count : ℕ) (bytes : List ℕ) → IsSettled generation start count bytes
    → HasRecords generation start count bytes
settled_has generation start count bytes is = one_record (is_odd generation) generation start count bytes is.written
    refl is.stands.found is.generation_is is.start_is (omega (arith, is.count_is))

pub all_has : (o : Option (List ℕ)) (generation start count : ℕ) → IfSome o (IsSettled generation start count)
    → IfSome o (HasRecords generation start count)
all_has None generation start count is = tt
all_has (Some bytes) generation start count is = settled_has generation start count bytes is

-- whatever an append leaves, the records before it are there
pub around_has : (generation start count : ℕ) (held image : List ℕ) (c : Command)
    (is : IsSettled generation start count held) → BeforeOrAfter (is_odd generation) is.written c image
    → HasRecords generation start count image
around_has generation start count held image c is (inl stands) =
    one_record (is_odd generation) generation start count image is.written refl stands.found is.generation_is
    is.start_is (omega (arith, is.count_is))
around_has generation start count held image c is (inr (inl pending)) =
    one_record (is_odd generation) generation start count image is.written refl pending.found is.generation_is
    is.start_is (omega (arith, is.count_is))
around_has generation start count held image c is (inr (inr stands)) =
    one_record (is_odd generation) generation start count image (and_then is.written c) refl stands.found
    is.generation_is is.start_is (let n = length-append is.written.commands (c ∷ []) in omega (arith, is.count_is, n))

-- a call that appends the record of an allowed command, on a store that was not stopped
pub record Appends {D : Type 0} (at : D → DiskAt) (side : Side) (taken new : JournalOn D) (b : D) (core : Core)
    (c : Command) : Type 0 where
  pub going : Going at side taken.disk b core
  pub parity : is_odd taken.generation ≡ has_odd side
  pub settled : IfSome (at taken.disk).seen (IsSettled taken.generation taken.start taken.count)
  pub allowed : (s : State) → StandsFor core s → ruling s c ≡ Allowed
  pub telling : IsSome (at new.disk).seen ↔ IsSome (at taken.disk).seen
  pub crash : (held : List ℕ) (w : Written) → (at taken.disk).seen ≡ Some held → Only held (LeftNow at taken.disk)
      → Stands (is_odd taken.generation) held w
      → LeavesOnly at taken.disk new.disk (BeforeOrAfter (is_odd taken.generation) w (read_back c))

pub appends : {D : Type 0} {changes : List ListChange} (at : D → DiskAt) (side : Side) (taken new : JournalOn D) (b : D)
    (core : Core) (stopped : Option ℕ) (c : Command) (plan : Plan)
    → stopped ≡ None → IsWithin at side taken b core stopped changes
    → ((s : State) → StandsFor core s → (plan.command ≡ unhinted c) × IsPlan s plan)
    → (IsSome (at new.disk).seen ↔ IsSome (at taken.disk).seen)
    → ((held : List ℕ) (w : Written) → (at taken.disk).seen ≡ Some held → Only held (LeftNow at taken.disk)
    → Stands (is_odd taken.generation) held w
    → LeavesOnly at taken.disk new.disk (BeforeOrAfter (is_odd taken.generation) w (read_back c)))
    → Appends at side taken new b core c
appends {D} {changes} at side taken new b core stopped c plan none within planned telling crash = record {
  going = going_by at changes side taken b core stopped none within.order;
  parity = within.parity_is;
  settled = within.settled none;
  allowed = λ s stands. prepared_allowed s c plan (planned s stands);
  telling = telling;
  crash = crash;
}

module _ {D : Type 0} (at : D → DiskAt) (side : Side) (taken new : JournalOn D) (b : D) (core : Core) (c : Command)
    (app : Appends at side taken new b core c) where
  pub settled_on : (held : List ℕ) → (at taken.disk).seen ≡ Some held
      → IsSettled taken.generation taken.start taken.count held
  settled_on held told = subst (λ (o : Option (List ℕ)). IfSome o (IsSettled taken.generation taken.start taken.count))
      told app.settled

  -- what a crash in it may have left of the disk that is taken
  pub leaves : (held : List ℕ) (told : (at taken.disk).seen ≡ Some held)
      → LeavesOnly at taken.disk new.disk (BeforeOrAfter (is_odd taken.generation) (settled_on held told).written
      (read_back c))
  leaves held told =
      let only : Only held (LeftNow at taken.disk) =
      subst (λ (o : Option (List ℕ)). IfSome o (λ l. Only l (LeftNow at taken.disk))) told app.going.taken_rests in
      app.crash held (settled_on held told).written told only (settled_on held told).stands

  around : (held other image : List ℕ) (told : (at taken.disk).seen ≡ Some held) → (at b).seen ≡ Some other
      → (s : State) → StandsFor core s
      → BeforeOrAfter (is_odd taken.generation) (settled_on held told).written (read_back c) image
      → IsKeptWith (on side image other) (on side other image) s (commands_on (on side held other) (on side other held))
      ⊎ IsKeptWith (on side image other) (on side other image) (after s (read_back c))
      (commands_on (on side held other) (on side other held) ++ read_back c ∷ [])
  around held other image told to s stands left =
      let is = settled_on held told in
      kept_around side held other image s is.written (read_back c) (app.going.settled held other told to s stands)
      (subst (λ (o : Bool). found_on o held ≡ Open is.written) app.parity is.stands.found)
      (heard_ruling s c ∙ app.allowed s stands)
      (subst (λ (o : Bool). BeforeOrAfter o is.written (read_back c) image) app.parity left)

  -- every pair that a crash in it may have left
  kept_pairs : is_rotate c.call ≡ false → (held other : List ℕ) (s : State) → (at taken.disk).seen ≡ Some held
      → (at b).seen ≡ Some other → StandsFor core s
      → (x y : List ℕ) → LeftSince at new.disk (at taken.disk).moment x → LeftSince at b (at b).moment y
      → IsKeptAround s (commands_on (on side held other) (on side other held)) (Do c) (on side x y) (on side y x)
  kept_pairs stays held other s told to stands x y lx ly =
      let same : y ≡ other = rest_only at b other to app.going.beside_rests y ly in
      let one : (step s (Do c)).0 ≡ after s (read_back c) = step_is_after s c (app.allowed s stands)
      ∙ sym (heard_after s c) in
      let kept = around held other x told to s stands ((leaves held told).each x lx) in
      let begun = commands_on (on side held other) (on side other held) in
      subst (λ (z : List ℕ). IsKeptAround s begun (Do c) (on side x z) (on side z x)) (sym same)
      (⊎_elim (λ before. inl before) (λ more. inr (record {
        kept = subst (λ (t : State). IsKept (on side x other) (on side other x) t) (sym one) more.kept;
        commands = more.commands ∙ sym (behind_appended begun s c (app.allowed s stands) stays);
      })) kept)

  -- every pair that a crash after it may leave
  pub kept_near : (now other x y : List ℕ) → (at new.disk).seen ≡ Some now → (at b).seen ≡ Some other
      → LeftNow at new.disk x → LeftNow at b y
      → (s : State) → StandsFor core s → IsKeptNear s (on side x y) (on side y x)
  kept_near now other x y tn to lx ly s stands =
      let before = told_too (at new.disk).seen (at taken.disk).seen (app.telling.1, app.telling.0) now tn in
      let same : y ≡ other = rest_now at b other to app.going.beside_rests y ly in
      let left = at_last at taken.disk new.disk _ (leaves before.0 before.1) x lx in
      let kept = around before.0 other x before.1 to s stands left in
      subst (λ (z : List ℕ). IsKeptNear s (on side x z) (on side z x)) (sym same)
      (⊎_elim (λ still. inl still.kept) (λ next. inr (read_back c, heard_ruling s c ∙ app.allowed s stands, next.kept))
      kept)

  -- the records before it are there after it, whatever became of it
  pub still_has : ((disk : D) (held : List ℕ) → (at disk).seen ≡ Some held → LeftNow at disk held)
      → IfSome (at new.disk).seen (HasRecords taken.generation taken.start taken.count)
  still_has stays = by (at new.disk).seen refl
    where
      by : (o : Option (List ℕ)) → (at new.disk).seen ≡ o
          → IfSome o (HasRecords taken.generation taken.start taken.count)
      by None none = tt
      by (Some now) told =
          let before = told_too (at new.disk).seen (at taken.disk).seen (app.telling.1, app.telling.0) now told in
          let left = at_last at taken.disk new.disk _ (leaves before.0 before.1) now (stays new.disk now told) in
          around_has taken.generation taken.start taken.count before.0 now (read_back c)
          (settled_on before.0 before.1) left

  -- ---- what it does to the disks

  written_as : (held : List ℕ) (w : Written) → (at taken.disk).seen ≡ Some held → found_on (has_odd side) held ≡ Open w
      → LeavesOnly at taken.disk new.disk (BeforeOrAfter (has_odd side) w (read_back c))
  written_as held w told found =
      let is = settled_on held told in
      let opens : Open is.written ≡ Open w = sym is.stands.found ∙ subst (λ (o : Bool). found_on o held
      ≡ Open w) (sym app.parity) found in
      let one : is.written ≡ w = cc (opens) in
      subst (λ (o : Bool). LeavesOnly at taken.disk new.disk (BeforeOrAfter o w (read_back c))) app.parity
      (subst (λ (v : Written). LeavesOnly at taken.disk new.disk (BeforeOrAfter (is_odd taken.generation) v
      (read_back c))) one (leaves held told))

  not_one : (s : State) → is_rotate c.call ≡ false → is_rotation s (Do c) ≡ true → ⊥
  not_one s stays rotation = let no : true ≡ false = sym rotation ∙ other_stays s c stays in absurd (cc (no))

  pub appends_on : {before : List ListChange} (old : Stored D) (stopped : Option ℕ)
      → stored side taken b core stopped before ≡ old → is_rotate c.call ≡ false
      → new.start ≡ taken.start → GoesOn at taken.disk new.disk → (a : Answer) → (a ≡ answer.NoMemory → ⊥)
      → (next : Core) (later : Option ℕ) (changes : List ListChange)
      → WritesOn at old (Do c) a (stored side new b next later changes)
  appends_on {before} old stopped same stays start time a some next later changes =
      subst (λ (o : Stored D). WritesOn at o (Do c) a (stored side new b next later changes)) same
      (writes_on at side side core next taken.start new.start stopped later before changes (Do c) a taken.disk b
      new.disk b
      (record {
        side_is = λ s stands. sym (answer_stays a s (Do c) side taken.start (other_stays s c stays)).0;
        start_is = λ s stands. start ∙ sym (answer_stays a s (Do c) side taken.start (other_stays s c stays)).1;
        taken = λ s stands rotation. absurd (not_one s stays rotation);
        aside = λ s stands none. refl;
        unwritten = λ s stands refused. absurd (refused (app.allowed s stands));
        no_memory = λ none. absurd (some none);
        written = λ none held w k told found is_k. let one : c ≡ k = cc (is_k) in
            subst (λ (d : Command). LeavesOnly at taken.disk new.disk (BeforeOrAfter (has_odd side) w (read_back d)))
            one (written_as held w told found);
        created = λ none s stands held k told is_k rotation. absurd (not_one s stays rotation);
        kept = λ none held other s th to stands x y lx ly. kept_pairs stays held other s th to stands x y lx ly;
        taken_telling = app.telling;
        aside_telling = (λ told. told, λ told. told);
        taken_time = time;
        aside_time = unmoved at b;
      }))

  -- ---- the record is on the disk, and the step is made

  pub went_on : (next : Core) (s : State) → StandsFor core s → ((t : State) → StandsFor core t
      → StandsFor next (after t c)) → IsAtRest at new.disk
      → ((held : List ℕ) (w : Written) → (at taken.disk).seen ≡ Some held → Stands (is_odd taken.generation) held w
      → (now : List ℕ) × ((at new.disk).seen ≡ Some now)
      × Stands (is_odd taken.generation) now (and_then w (read_back c)))
      → Going at side new.disk b next
  went_on next s stands steps rests appended = record {
    taken_rests = rests;
    beside_rests = app.going.beside_rests;
    settled = λ now other tn to t so.
        let before = told_too (at new.disk).seen (at taken.disk).seen (app.telling.1, app.telling.0) now tn in
        let is = settled_on before.0 before.1 in
        let one = appended before.0 is.written before.1 is.stands in
        let same : one.0 ≡ now = some_same one.0 now (at new.disk).seen one.1 tn in
        let last : Stands (has_odd side) now (and_then is.written (read_back c)) =
        subst (λ (o : Bool). Stands o now (and_then is.written (read_back c))) app.parity
        (subst (λ (l : List ℕ). Stands (is_odd taken.generation) l (and_then is.written (read_back c))) same one.2) in
        let settled = settled_after side before.0 other now s is.written (read_back c)
        (app.going.settled before.0 other before.1 to s stands)
        (subst (λ (o : Bool). found_on o before.0 ≡ Open is.written) app.parity is.stands.found) (heard_ruling s c
        ∙ app.allowed s stands) last in
        let alike : Alike (after s (read_back c)) t = subst (λ (u : State). Alike u t) (sym (heard_after s c))
        (core_alike next (after s c) t (steps s stands) so) in
        settled_alike alike side (on side now other) (on side other now) settled;
  }
