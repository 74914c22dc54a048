-- A store whose disk was only looked at.
use Rattle.std.proofs.Common.{◌≡◌, inl, ℕ, ◌≤◌, List, length, take, Option, Some, None, IfSome, Bool, refl, sym, ◌∙◌, ap, subst, arith}
use Rattle.std.proofs.lemmas.List.{take_all}
use Rattle.liq_outside.specs.At.{DiskAt}
use Rattle.liq_outside.specs.Disk.{LeftNow, Looked, Only}
use Rattle.liq_types.specs.declared.events.ListChange.{ListChange}
use Rattle.liq_types.specs.declared.requests.Command.{Command}
use Rattle.liq_types.specs.State.{State}
use Rattle.liq_core.specs.Core.{Core, StandsFor}
use Rattle.liq_journal.specs.Bodies.{IsJournalOf}
use Rattle.liq_journal.specs.Crash.{is_odd}
use Rattle.liq_journal.specs.Settled.{IsSettled, JournalOn}
use Rattle.liq_journal.specs.Written.{Open, Written, found_on, start_of}
use Rattle.liq_disk_pair.specs.declared.side.Side.{Side}
use Rattle.liq_disk_pair.specs.declared.side.Side.TheVariants.{Left, Right}
use Rattle.liq_disk_pair.specs.Kept.{IsKept}
use Rattle.liq_disk_pair.specs.Sides.{beside, has_odd, on}
use Rattle.liq_disk_pair.proofs.Keeping.{settled_kept}
use Rattle.liq_store.specs.Keeping.{IsAtRest, IsInOrder, IsKeptNear}
use Rattle.liq_store.specs.Stored.{Stored, disk_beside, taken_disk}
use Rattle.liq_store.specs.Within.{HasRecords, IsWithin, stored}
use Rattle.liq_store.proofs.Appending.{has_same}
use Rattle.liq_store.proofs.Going.{Going, beside_is, going_by, order_going, order_halted, rest_now, taken_is}

settled_same : (o : Option (List ℕ)) (generation start count generation' start' count' : ℕ) → generation' ≡ generation
    → start' ≡ start → count' ≡ count → IfSome o (IsSettled generation start count)
    → IfSome o (IsSettled generation' start' count')
settled_same o generation start count generation' start' count' a b c is =
    subst (λ (n : ℕ). IfSome o (IsSettled n start' count')) (sym a)
    (subst (λ (n : ℕ). IfSome o (IsSettled generation n count')) (sym b)
    (subst (λ (n : ℕ). IfSome o (IsSettled generation start n)) (sym c) is))

module _ {D : Type 0} (at : D → DiskAt) (stays : (disk : D) (held : List ℕ) → (at disk).seen ≡ Some held
    → LeftNow at disk held) where
  -- what a crash now may leave of a store is kept for its state, or for it with one command more
  near_of : (changes : List ListChange) (side : Side) (taken : JournalOn D) (b : D) (core : Core) (stopped : Option ℕ)
      → IsInOrder at (stored side taken b core stopped changes)
      → (held other x y : List ℕ) → (at taken.disk).seen ≡ Some held → (at b).seen ≡ Some other
      → LeftNow at taken.disk x → LeftNow at b y → (s : State) → StandsFor core s
      → IsKeptNear s (on side x y) (on side y x)
  near_of changes side taken b core None order held other x y th to lx ly s stands =
      let going = going_by at changes side taken b core None refl order in
      let ex = rest_now at taken.disk held th going.taken_rests x lx in
      let ey = rest_now at b other to going.beside_rests y ly in
      let kept = settled_kept side (on side held other) (on side other held) s (going.settled held other th to s stands)
      in
      inl (subst (λ (m : List ℕ). IsKept (on side m y) (on side y m) s) (sym ex)
      (subst (λ (n : List ℕ). IsKept (on side held n) (on side n held) s) (sym ey) kept))
  near_of changes Left taken b core (Some sum) order held other x y th to lx ly s stands =
      order.left_so held other x y th to lx ly s stands
  near_of changes Right taken b core (Some sum) order held other x y th to lx ly s stands =
      order.left_so other held y x to th ly lx s stands

  module _ (side : Side) (taken new : JournalOn D) (b : D) (core : Core) (looked : Looked at taken.disk new.disk) where
    pub halted_looked : (before : List ListChange) {now : List ListChange} (stopped : Option ℕ)
        → IsInOrder at (stored side taken b core stopped before) → (sum : ℕ)
        → IsInOrder at (stored side new b core (Some sum) now)
    halted_looked before stopped order sum = order_halted at side new b core sum stays
        (λ held other x y th to lx ly s stands. near_of before side taken b core stopped order held other x y
        (sym looked.same ∙ th) to (looked.within x lx) ly s stands)

    going_looked : Going at side taken.disk b core → Going at side new.disk b core
    going_looked going = record {
      taken_rests = rests (at taken.disk).seen refl going.taken_rests;
      beside_rests = going.beside_rests;
      settled = λ held other th to s stands. going.settled held other (sym looked.same ∙ th) to s stands;
    }
      where
        rests : (o : Option (List ℕ)) → (at taken.disk).seen ≡ o → IfSome o (λ l. Only l (LeftNow at taken.disk))
            → IsAtRest at new.disk
        rests None none is = subst (λ (o : Option (List ℕ)). IfSome o (λ l. Only l (LeftNow at new.disk)))
            (sym (looked.same ∙ none)) tt
        rests (Some held) told is = subst (λ (o : Option (List ℕ)). IfSome o (λ l. Only l (LeftNow at new.disk)))
            (sym (looked.same ∙ told)) (λ image left. is image (looked.within image left))

    pub order_looked : (before now : List ListChange) (stopped : Option ℕ)
        → IsInOrder at (stored side taken b core stopped before) → IsInOrder at (stored side new b core stopped now)
    order_looked before now None order =
        order_going at side new b core (going_looked (going_by at before side taken b core None refl order))
    order_looked before now (Some sum) order = halted_looked before (Some sum) order sum

    -- the same journal, by which a store that goes on, or one that stops, keeps what it kept
    pub within_looked : {before now : List ListChange} (stopped later : Option ℕ)
        → new ≡ record taken { disk = new.disk } → IsWithin at side taken b core stopped before
        → IsInOrder at (stored side new b core later now) → (later ≡ None → stopped ≡ None)
        → IsWithin at side new b core later now
    within_looked stopped later same within order goes =
        let generation : new.generation ≡ taken.generation = ap (λ (j : JournalOn D). j.generation) same in
        let start : new.start ≡ taken.start = ap (λ (j : JournalOn D). j.start) same in
        let count : new.count ≡ taken.count = ap (λ (j : JournalOn D). j.count) same in
        record {
          order = order;
          generation_is = generation ∙ within.generation_is;
          parity_is = ap is_odd generation ∙ within.parity_is;
          count_is = count ∙ within.count_is;
          told = has_same (at new.disk).seen taken.generation taken.start taken.count new.generation new.start new.count
              generation start count
              (subst (λ (o : Option (List ℕ)). IfSome o (HasRecords taken.generation taken.start taken.count))
              (sym looked.same) within.told);
          settled = λ none. settled_same (at new.disk).seen taken.generation taken.start taken.count new.generation
              new.start new.count generation start count
              (subst (λ (o : Option (List ℕ)). IfSome o (IsSettled taken.generation taken.start taken.count))
              (sym looked.same) (within.settled (goes none)));
        }

-- while it is not stopped, the commands that are counted are all
pub all_read : {D : Type 0} {changes : List ListChange} (at : D → DiskAt) (side : Side) (taken : JournalOn D) (b : D)
    (core : Core) (stopped : Option ℕ) → IsWithin at side taken b core stopped changes
    → (old : Stored D) → stored side taken b core stopped changes ≡ old → (items : List Command)
    → ((held : List ℕ) (w : Written) → (at taken.disk).seen ≡ Some held
    → IsJournalOf taken.generation taken.start held w → taken.count ≤ length w.commands
    → items ≡ take taken.count w.commands)
    → old.stopped ≡ None → (held : List ℕ) (w : Written) → (at (taken_disk old)).seen ≡ Some held
    → found_on (has_odd old.side) held ≡ Open w → items ≡ w.commands
all_read {D} {changes} at side taken b core stopped within old same items read none held w told found =
    let P : Stored D → Type 0 = λ o. o.stopped ≡ None → (at (taken_disk o)).seen ≡ Some held
    → found_on (has_odd o.side) held ≡ Open w → items ≡ w.commands in
    subst P same here none told found
  where
    here : stopped ≡ None → (at (on side (on side taken.disk b) (on side b taken.disk))).seen ≡ Some held
        → found_on (has_odd side) held ≡ Open w → items ≡ w.commands
    here none t f =
        let told_here : (at taken.disk).seen ≡ Some held =
        ap (λ (d : D). (at d).seen) (sym (taken_is side taken.disk b)) ∙ t in
        let is : IsSettled taken.generation taken.start taken.count held =
        subst (λ (o : Option (List ℕ)). IfSome o (IsSettled taken.generation taken.start taken.count)) told_here
        (within.settled none) in
        let found_here : found_on (is_odd taken.generation) held ≡ Open w = subst (λ (o : Bool). found_on o held
        ≡ Open w) (sym within.parity_is) f in
        let opens : Open is.written ≡ Open w = sym is.stands.found ∙ found_here in
        let one : is.written ≡ w = cc (opens) in
        let counted : length w.commands ≡ taken.count = ap (λ (v : Written). length v.commands) (sym one)
        ∙ is.count_is in
        let journal : IsJournalOf taken.generation taken.start held w = record {
          found = found_here;
          generation_is = ap (λ (v : Written). v.generation) (sym one) ∙ is.generation_is;
          start_is = ap start_of (sym one) ∙ is.start_is;
        } in
        read held w told_here journal (omega arith) ∙ take_all taken.count w.commands (omega arith)

-- what callers see of both disks: the one that is taken was only looked at, and the other one stays
pub looked_from : {D : Type 0} (at : D → DiskAt) (side : Side) (taken b new : D) (old : Stored D)
    → on side taken b ≡ old.left → on side b taken ≡ old.right → side ≡ old.side
    → Looked at taken new → Looked at (taken_disk old) (on side (on side new b) (on side b new))
looked_from {D} at side taken b new old left right same looked =
    let was : taken ≡ taken_disk old = sym (taken_is side taken b) ∙ (λ i. on (same i) (left i) (right i)) in
    subst (λ (d : D). Looked at d (on side (on side new b) (on side b new))) was
    (subst (λ (d : D). Looked at taken d) (sym (taken_is side new b)) looked)

-- what callers see of a store of which only the journal's disk was looked at
pub seen_looked : {D : Type 0} {changes : List ListChange} (side : Side) (taken new : JournalOn D) (b : D) (core : Core)
    (stopped later : Option ℕ) (old : Stored D) → new ≡ record taken { disk = new.disk }
    → stored side taken b core stopped changes ≡ old → stored side new b core later changes
    ≡ record old { left = on side new.disk b; right = on side b new.disk; stopped = later }
seen_looked {D} {changes} side taken new b core stopped later old same is =
    let now = stored side new b core later changes in
    subst (λ (o : Stored D). now ≡ record o { left = now.left; right = now.right; stopped = later }) is
    (ap (λ (start : ℕ). record now { start = start }) (ap (λ (j : JournalOn D). j.start) same))

-- the disk beside it stays
pub beside_looked : {D : Type 0} {changes : List ListChange} (side : Side) (taken : JournalOn D) (b new : D)
    (core : Core) (stopped : Option ℕ) (old : Stored D) → stored side taken b core stopped changes ≡ old
    → beside side (on side new b) (on side b new) ≡ disk_beside old
beside_looked {D} side taken b new core stopped old is =
    beside_is side new b ∙ sym (beside_is side taken.disk b) ∙ ap (λ (o : Stored D). disk_beside o) is
