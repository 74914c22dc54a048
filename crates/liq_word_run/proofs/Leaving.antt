-- The disks of a run, as it leaves them.
use Rattle.std.proofs.Common.{◌≡◌, ℕ, List, [], ◌∷◌, ◌++◌, length, Option, Some, None, Result, Ok, Err, refl, ap, sym, subst, ◌∙◌, append-nil, arith, inl, inr, ⊎_elim}
use Rattle.std.specs.Prelude.{◌⊎◌}
use Rattle.liq_outside.specs.At.{DiskAt}
use Rattle.liq_outside.specs.declared.showing.Showing.{Showing}
use Rattle.liq_outside.specs.Disk.{GoesOn, LeftNow, LeftSince, Only}
use Rattle.liq_outside.specs.Showings.{AllNeighbours, LeavesBetween, shown_as}
use Rattle.liq_outside.proofs.Moments.{unmoved}
use Rattle.liq_types.specs.declared.requests.Command.{Command}
use Rattle.liq_types.specs.declared.requests.Request.{Request}
use Rattle.liq_types.specs.State.{State}
use Rattle.liq_rule_step.specs.Step.{accepted, run}
use Rattle.liq_text_lines.specs.Lines.{lines_in}
use Rattle.liq_text_lines.proofs.Bytes.{writes_nothing}
use Rattle.liq_disk_pair.specs.declared.side.Side.{Side}
use Rattle.liq_disk_pair.specs.declared.side.Side.TheVariants.{Left, Right}
use Rattle.liq_disk_pair.specs.Kept.{IsKeptWith}
use Rattle.liq_disk_pair.specs.Pair.{commands_on, state_on}
use Rattle.liq_disk_pair.specs.Past.{AtCommand, Fault, InOpening, KeptAtEnd, LeavesPast, NoFault, held_at_end}
use Rattle.liq_disk_pair.specs.Sides.{on}
use Rattle.liq_disk_pair.specs.Unfinished.{IsRecovered}
use Rattle.liq_store.specs.declared.answers.StoreWhy.{StoreWhy}
use Rattle.liq_store.specs.declared.answers.StoreWhy.TheVariants as why
use Rattle.liq_store.specs.Keeping.{IsInOrder}
use Rattle.liq_rule_step.specs.Memory.{IsAccepted}
use Rattle.liq_store.specs.Opening.{IsNotOpened, OnlyOpens}
use Rattle.liq_store.specs.Stored.{Stored}
use Rattle.liq_store.proofs.Past.{joins}
use Rattle.liq_word_exit.specs.declared.halts.Halt.{Halt}
use Rattle.liq_word_exit.specs.declared.halts.Halt.TheVariants.{BadLine, ReadFault, WriteFault, DiskFault, DamagedInput, NoMemory, Limit, Rotated}
use Rattle.liq_word_exit.specs.declared.halts.Halt.TheVariants as halts
use Rattle.liq_word_exit.specs.Answered.{HoldsAnswered, KeepsAnswered, Told}
use Rattle.liq_word_exit.specs.Disks.{DisksHold, IsFaultOfRun, LeavesOfRun, OfBoth}
use Rattle.liq_word_exit.specs.Requests.{IsNext}
use Rattle.liq_word_exit.specs.Unopened.{halt_of}
use Rattle.liq_word_exit.proofs.Opened.{standing_still, unopened}
use Rattle.liq_word_run.specs.Calls.{GoOn, IsStopped}
use Rattle.liq_word_run.specs.Passing.{Begun, BeginsNone, BeginsRun, IsOver, IsPastOf, IsStoppedPastOf}
use Rattle.liq_word_run.specs.Progress.{Begins, GivesBack, HaltsAt}
use Rattle.liq_word_run.specs.Turns.{HasEnded, Reached}
use Rattle.liq_word_run.proofs.Passing.{ended_past}
use Rattle.liq_word_run.proofs.Shown.{opening_left}

module _ {D : Type 0} (at : D → DiskAt) where
  -- ---- no store was opened

  module _ (left right : D) (l r : List ℕ) (told before : Option (List ℕ))
      (shown : Option (List Showing)) (start : State) where
    -- no line was read
    nothing_read : (o : Option (List ℕ)) → Begins o []
    nothing_read None = tt
    nothing_read (Some bytes) = (lines_in bytes, ([], tt, refl))

    -- nothing was shown, and nothing answered
    none_answered : (why_is : StoreWhy) (fault : Fault) (fl fr : D) (last : Option (List ℕ))
        → BeginsNone at left right l r start why_is fl fr
        → Told before shown last shown
        (λ was earlier is all. KeepsAnswered at l r start [] fault left right was earlier fl fr is all)
    none_answered why_is fault fl fr last none was earlier is all b e n a = record {
      since = [];
      are = cc (sym a ∙ e) ∙ sym (append-nil earlier);
      begun = inl refl;
      opening = λ only_l only_r kept.
          opening_left at left right fl fr fl fr (unmoved at fl) (unmoved at fr)
          none.left_time none.right_time (IsRecovered l r start) was is (none.recovers only_l only_r kept);
      each = tt;
      rested = λ first later same. absurd (cc same);
    }

    pub unopened_by : (why_is : StoreWhy) (fl fr : D)
        → IsNotOpened at left right (record { left = fl; right = fr; why = why_is })
        → (at left).seen ≡ Some l → (at right).seen ≡ Some r → state_on l r ≡ Ok start
        → BeginsNone at left right l r start why_is fl fr
        → GivesBack at left right start (Err (halt_of why_is)) told l r told before before shown shown fl fr
    unopened_by why.DiskFault fl fr h told_l told_r is none =
        record {
          requests = [];
          few = omega arith;
          why = omega arith;
          read = nothing_read told;
          written = writes_nothing before;
          disks = λ a b told_a told_b. inl
              ((refl, refl), λ kept. h.reads l r a b start told_l told_r kept told_a told_b);
          fault = InOpening;
          fault_is = inl (refl, (refl, refl));
          past = λ only_l only_r kept. let so = none.past only_l only_r kept in
              record { fault = so.fault; fault_is = so.fault_is; images = so.images; rests = so.rests };
          answered = λ last. none_answered why.DiskFault InOpening fl fr last none;
        }
    unopened_by (why.Damaged side damage) fl fr h told_l told_r is none = absurd
        (cc (h.is_why l r told_l told_r, is))
    unopened_by why.NoMemory fl fr h told_l told_r is none =
        record {
          requests = [];
          few = omega arith;
          why = inl (refl, refl);
          read = nothing_read told;
          written = writes_nothing before;
          disks = standing_still at fl fr l r told told start refl is
              (unopened at left right (record { left = fl; right = fr; why = why.NoMemory }) h (λ e. cc)
              (λ m n a b told_m told_n told_a told_b.
              let left_is : l ≡ m = cc (sym told_l ∙ told_m) in
              let right_is : r ≡ n = cc (sym told_r ∙ told_n) in
              subst (λ (x : List ℕ). OnlyOpens x n a b) left_is
              (subst (λ (y : List ℕ). OnlyOpens l y a b) right_is (none.opens (λ e. cc) a b told_a told_b)))
              l r start told_l told_r is);
          fault = NoFault;
          fault_is = refl;
          past = λ only_l only_r kept. let so = none.past only_l only_r kept in
              record { fault = so.fault; fault_is = so.fault_is; images = so.images; rests = so.rests };
          answered = λ last. none_answered why.NoMemory NoFault fl fr last none;
        }

  -- ---- a store was opened

  -- where no disk met a fault
  ended : (begun : Begun D) (l r : List ℕ) (requests : List Request) (fault : Fault) (left right : D)
      (shown : Option (List Showing)) → commands_on l r ≡ commands_on begun.l begun.r → fault ≡ NoFault
      → IsOver at begun requests fault left right shown
      → OfBoth at left right (λ a b. IsKeptWith a b (run begun.start requests).0
      (held_at_end l r begun.start requests))
  ended begun l r requests fault left right shown same none over a b told_a told_b =
      subst (λ (f : Fault). KeptAtEnd l r begun.start requests f a b) none (over.ends l r a b same told_a told_b)

  -- a run that is over left them so
  pub left_by : (begun : Begun D) (end : Result (Unit {0}) Halt) (told unread : Option (List ℕ)) (l r : List ℕ)
      (requests : List Request) (fault : Fault) (left right : D) (shown : Option (List Showing))
      → commands_on l r ≡ commands_on begun.l begun.r
      → IsFaultOfRun begun.start end told unread requests fault → IsOver at begun requests fault left right shown
      → DisksHold at end told unread l r begun.start left right requests
  left_by begun (Err DiskFault) told unread l r requests fault left right shown same (inl opening) over =
      λ a b told_a told_b. inl (
        opening.1,
        λ kept. (subst (λ (f : Fault). KeptAtEnd l r begun.start requests f a b) opening.0
            (over.ends l r a b same told_a told_b)).1,
      )
  left_by begun (Err DiskFault) told unread l r requests fault left right shown same (inr (c, is, next, allowed)) over =
      λ a b told_a told_b. inr (⊎_elim
      (λ kept. inl kept)
      (λ more. inr (c, next, more.0, more.1))
      (subst (λ (f : Fault). KeptAtEnd l r begun.start requests f a b) is (over.ends l r a b same told_a told_b)))
  left_by begun (Ok done) told unread l r requests fault left right shown same is over =
      ended begun l r requests fault left right shown same is over
  left_by begun (Err (BadLine n)) told unread l r requests fault left right shown same is over =
      ended begun l r requests fault left right shown same is over
  left_by begun (Err ReadFault) told unread l r requests fault left right shown same is over =
      ended begun l r requests fault left right shown same is over
  left_by begun (Err WriteFault) told unread l r requests fault left right shown same is over =
      ended begun l r requests fault left right shown same is over
  left_by begun (Err (halts.Damaged side number)) told unread l r requests fault left right shown same is over =
      ended begun l r requests fault left right shown same is over
  left_by begun (Err NoMemory) told unread l r requests fault left right shown same is over =
      λ a b told_a told_b.
      let so = ended begun l r requests fault left right shown same is over a b told_a told_b in
      (so.kept.stands, so.commands, λ were. so.kept)
  left_by begun (Err (Limit number)) told unread l r requests fault left right shown same is over =
      ended begun l r requests fault left right shown same is over
  left_by begun (Err (Rotated generation)) told unread l r requests fault left right shown same is over =
      ended begun l r requests fault left right shown same is over
  left_by begun (Err (DamagedInput number)) told unread l r requests fault left right shown same is over =
      ended begun l r requests fault left right shown same is over

  module _ (stays : (disk : D) (held : List ℕ) → (at disk).seen ≡ Some held → LeftNow at disk held)
      (begun : Begun D) where
    abbrev PastOf : List Request → Stored D → Option (List Showing) → Type 0
    PastOf = IsPastOf at begun

    -- where no disk met a fault
    calm : (store : Stored D) (shown : Option (List Showing)) (requests : List Request) (P : Fault → Type 0)
        → P NoFault → PastOf requests store shown
        → (fault : Fault) × P fault × IsOver at begun requests fault store.left store.right shown
    calm store shown requests P is past = (
      NoFault,
      is,
      ended_past at stays begun requests [] store shown
          (ap (accepted begun.start) (append-nil requests))
          (subst (λ (rs : List Request). PastOf rs store shown) (sym (append-nil requests)) past),
    )

    over_by : (store : Stored D) (shown : Option (List Showing)) (end : Result (Unit {0}) Halt)
        (told unread : Option (List ℕ)) (requests : List Request) (kept : State → Request → Type 0)
        → IsStopped end store.stopped
        → HaltsAt end told requests [] begun.start (λ rs. PastOf rs store shown) kept
        (λ rs q. IsStoppedPastOf at begun rs q store shown)
        → (fault : Fault) × IsFaultOfRun begun.start end told unread requests fault
        × IsOver at begun requests fault store.left store.right shown
    over_by store shown (Err DiskFault) told unread requests kept stopped halted =
        let so = halted.5 in
        let s = (run begun.start requests).0 in (
          AtCommand so.0,
          inr (so.0, refl, subst (IsNext told requests) so.1 halted.1, subst (IsAccepted s) so.1 halted.2),
          so.2,
        )
    over_by store shown (Ok done) told unread requests kept stopped halted = calm store shown requests _ refl
        halted
    over_by store shown (Err (BadLine n)) told unread requests kept stopped halted = calm store shown requests _
        refl halted
    over_by store shown (Err ReadFault) told unread requests kept stopped halted = calm store shown requests _
        refl halted
    over_by store shown (Err WriteFault) told unread requests kept stopped halted =
        (NoFault, refl, ended_past at stays begun requests halted.0 store shown halted.1 halted.2)
    over_by store shown (Err (halts.Damaged side number)) told unread requests kept stopped halted = calm store
        shown requests _ refl halted
    over_by store shown (Err NoMemory) told unread requests kept stopped halted = calm store shown requests _ refl
        halted
    over_by store shown (Err (Limit number)) told unread requests kept stopped halted = calm store shown requests
        _ refl halted
    over_by store shown (Err (Rotated generation)) told unread requests kept stopped halted = absurd stopped
    over_by store shown (Err (DamagedInput number)) told unread requests kept stopped halted = calm store shown
        requests _ refl halted

  -- a run is at its end, and its store is closed
  module _ (stays : (disk : D) (held : List ℕ) → (at disk).seen ≡ Some held → LeftNow at disk held)
      (old_left old_right : D) (l r : List ℕ) (start : State) (opened : Stored D)
      (before : Option (List ℕ)) (was shown_first : Option (List Showing))
      (begins : BeginsRun at old_left old_right l r start opened before was shown_first) where
    abbrev here : Begun D
    here = record {
      left = opened.left;
      right = opened.right;
      l = begins.left;
      r = begins.right;
      start = start;
      held = before;
      shown = was;
    }

    now_on : (side : Side) → (at (on side opened.left opened.right)).moment ≡ on side (at opened.left).moment
        (at opened.right).moment
    now_on Left = refl
    now_on Right = refl

    module _ (store : Stored D) (requests : List Request) (fault : Fault) (shown_now : Option (List Showing))
        (time : GoOn at opened store)
        (over : IsOver at here requests fault store.left store.right shown_now) where
      past_over : LeavesOfRun at old_left old_right (λ met. met ≡ fault) l r start requests
          store.left store.right
      past_over only_l only_r kept = record {
        fault = fault;
        fault_is = refl;
        images = joins at stays (λ side. (at (on side old_left old_right)).moment) l r start requests
            fault opened store.left store.right begins.left begins.right
            (begins.past only_l only_r kept) begins.begun.order begins.left_is begins.right_is time.left time.right
            over.images;
        rests = over.rests l r (sym begins.holds);
      }

      -- nothing was pending when the run was opened
      rested_so : (old now : D) (held : List ℕ) → GoesOn at old now
          → Only held (LeftNow at old) → Only held ((at now).left_at (at old).moment)
      rested_so old now held goes only image so = only image (goes.past (at old).moment image (omega arith) so)

      -- each image since then
      since_opened : LeavesPast at (λ side. on side (at opened.left).moment (at opened.right).moment)
          begins.left begins.right start requests fault store.left store.right
      since_opened = record {
        images = λ side image so. over.images.images side image
            (subst (λ (n : ℕ). LeftSince at (on side store.left store.right) n image) (sym (now_on side)) so);
        whole = λ side first few image so absent. over.images.whole side first few image
            (subst (λ (n : ℕ). LeftSince at (on side store.left store.right) n image) (sym (now_on side)) so)
            absent;
      }

      answered_over : (last : Option (List ℕ))
          → Told before was last shown_now
          (λ held earlier is all. KeepsAnswered at l r start requests fault old_left old_right held
          earlier store.left store.right is all)
      answered_over last held earlier is all b e n a =
          let shown = over.told held earlier all b e a in
          let first = shown_as at held opened.left opened.right in
          record {
            since = first ∷ shown.since;
            are = shown.are;
            begun = inr (omega arith);
            opening = λ only_l only_r kept.
                opening_left at old_left old_right opened.left opened.right store.left store.right
                time.left time.right begins.left_time begins.right_time (IsRecovered l r start) held held
                (begins.recovers only_l only_r kept);
            each = subst (λ (cs : List Command). AllNeighbours (LeavesBetween at store.left store.right
                (HoldsAnswered cs start requests fault (length held))) first
                (shown.since ++ shown_as at is store.left store.right ∷ [])) begins.holds (shown.each is);
            rested = λ s later same.
                let so : first ≡ s = cc same in
                subst (λ (s : Showing). (x y : List ℕ) × Only x ((at store.left).left_at s.left)
                × Only y ((at store.right).left_at s.right) × IsKeptWith x y start (commands_on l r)
                × LeavesPast at (λ side. on side s.left s.right) x y start requests fault store.left
                store.right) so (
                  begins.left,
                  begins.right,
                  rested_so opened.left store.left begins.left time.left begins.left_rests,
                  rested_so opened.right store.right begins.right time.right begins.right_rests,
                  record { kept = over.kept; commands = begins.holds },
                  since_opened,
                );
          }

    pub gives_back : (store : Stored D) (end : Result (Unit {0}) Halt) (told : Option (List ℕ)) (place : Reached D)
        → place.store ≡ store → GoOn at opened store → IsStopped end store.stopped
        → IsInOrder at store
        → HasEnded at here told place end
        → GivesBack at old_left old_right start end told l r place.left before place.sink.held was
        place.sink.shown store.left store.right
    gives_back store end told place same time stopped order ended =
        let h = subst (λ (s : Stored D). HasEnded at here told (record place { store = s }) end)
        same ended in
        let over = over_by stays here store place.sink.shown end told place.left h.requests _ stopped h.halted in
        record {
          requests = h.requests;
          few = h.few;
          why = h.why;
          read = h.read;
          written = h.written;
          disks = left_by here end told place.left l r h.requests over.0 store.left store.right place.sink.shown
              (sym begins.holds) over.1 over.2;
          fault = over.0;
          fault_is = over.1;
          past = past_over store h.requests over.0 place.sink.shown time over.2;
          answered = answered_over store h.requests over.0 place.sink.shown time over.2;
        }
