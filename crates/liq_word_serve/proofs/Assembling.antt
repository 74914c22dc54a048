-- What serving leaves, put together from what the closed book tells of each script.
use Rattle.std.proofs.Common.{ℕ, suc, ◌+◌, ◌≤◌, ◌<◌, ◌≡◌, List, [], ◌∷◌, ◌++◌, ◌⊎◌, inl, inr, map, length, drop, zip, Bool, true, false, Option, Some, None, refl, sym, ap, ◌∙◌, subst, arith}
use Rattle.std.specs.Prelude.{◌↔◌, All, Contains, IsTrue, slice_index_or, sum_by}
use Rattle.std.specs.List.{AllByRecursion, AllZip}
use Rattle.std.proofs.lemmas.List.{length-map}
use Rattle.std.proofs.lemmas.Slice.Zip.{AllZip-long}
use Rattle.std.proofs.lemmas.List.Elements.{Contains-append_left, Contains-append_right}
use Rattle.liq_outside.specs.At.{DiskAt}
use Rattle.liq_outside.specs.Disk.{LeftNow}
use Rattle.liq_types.specs.State.{State}
use Rattle.liq_rule_step.specs.History.{requests_of, state_after}
use Rattle.liq_rule_step.proofs.Histories.{legal-empty}
use Rattle.liq_lock.specs.declared.lock.Lock.{Lock}
use Rattle.liq_lock.specs.History.{Behind}
use Rattle.liq_lock.specs.Seats.{lock_id, seat_id}
use Rattle.liq_lock.proofs.Histories.{one_in}
use Rattle.liq_sessions.specs.declared.done.SessionDone.{SessionDone}
use Rattle.liq_sessions.specs.declared.done.SessionEnd.{SessionEnd}
use Rattle.liq_sessions.specs.declared.done.SessionEnd.TheVariants as session_end
use Rattle.liq_sessions.specs.declared.done.Work.{Work}
use Rattle.liq_sessions.specs.declared.script.Script.{Script}
use Rattle.liq_sessions.specs.Ran.{EndsAt, faulted_at}
use Rattle.liq_sessions.specs.Sessions.{HasRun}
use Rattle.liq_store.specs.Keeping.{IsInOrder}
use Rattle.liq_store.specs.Stored.{Stored}
use Rattle.liq_types.specs.declared.entries.Entry.{Entry}
use Rattle.liq_types.specs.declared.requests.Request.{Request}
use Rattle.liq_book.specs.declared.items.Halt.{Halt}
use Rattle.liq_book.specs.declared.items.Item.{Item}
use Rattle.liq_book.specs.declared.items.Item.TheVariants as item
use Rattle.liq_book.specs.declared.origin.Origin.{Ghosts}
use Rattle.liq_book.specs.declared.seat.BookSeat.{BookSeat}
use Rattle.liq_book.specs.declared.items.TheConstants.{ENTRIES_MOST}
use Rattle.liq_book.specs.Items.{calls_of, chronicle, entries_of, faulted_in, session_of}
use Rattle.liq_book.specs.Origin.{IsAtOrigin}
use Rattle.liq_book.specs.Seats.{AreSeated, IsNewSeat, items_seen, session_at}
use Rattle.liq_book.proofs.Chronicles.{entries_of-chronicle}
use Rattle.liq_book.specs.Moments.{KeepsBetween, tried}
use Rattle.liq_book.proofs.Moments.{begins_between}
use Rattle.liq_book.proofs.Pasts.{begins_past, past_left}
use Rattle.liq_word_serve.specs.Answered.{IsServedFrom, IsServedWhole, LacksMemory, answered_of}
use Rattle.liq_word_serve.specs.declared.served.End.{End}
use Rattle.liq_word_serve.specs.declared.served.End.TheVariants as end
use Rattle.liq_word_serve.specs.declared.served.Served.{Served}
use Rattle.liq_word_serve.specs.Ends.{end_of, halt_of}
use Rattle.liq_word_serve.specs.Leaves.{Leaves, chronicle_of}
use Rattle.liq_word_serve.specs.Running.{ComesTo}
use Rattle.liq_word_serve.specs.Serves.{AreNumbered, LeavesDisks, Serves}
use Rattle.liq_word_serve.proofs.Counting.{has_room, none_left}
use Rattle.liq_word_serve.proofs.Leaving.{settles}
use Rattle.liq_word_serve.proofs.Told.{IsTold, all_from, all_mapped, all_so, all_to, all_unmap, answered_none, front_told, next_told, script_of, short_told, told_by, told_none, whole_told}

-- ---- works with their seats

-- the seat is the script's, and has seen nothing
pub record IsSet {T K H O : Type 0} {o : Ghosts O} (lock : Lock T Item) (work : Work K H (BookSeat O o)) : Type 0 where
  pub own : seat_id work.seat.seat ≡ lock_id lock
  pub session : session_at work.seat ≡ work.script.session
  pub seen : items_seen work.seat ≡ []

-- what is left begins with what the seat has seen, and has no more of its session
abbrev pub IsBackIn : {O : Type 0} {o : Ghosts O} → List Item → BookSeat O o → Type 0
IsBackIn left seat = Behind session_of left (session_at seat ∷ []) (items_seen seat)

-- what a session at the book came to
abbrev pub Ran : {K H O : Type 0} {o : Ghosts O} → (BookSeat O o → Type 0) → (BookSeat O o → Type 0)
    → Work K H (BookSeat O o) → SessionDone K H (BookSeat O o) → Type 0
Ran Belongs KnowsEnd work done = HasRun Belongs session_at (λ seat. calls_of (session_at seat) (items_seen seat))
    KnowsEnd (λ seat. faulted_in (session_at seat) (items_seen seat)) work done

module _ {T K H O : Type 0} {o : Ghosts O} where
  pub all_set : (lock : Lock T Item) (number : ℕ → ℕ) (works : List (Work K H (BookSeat O o)))
      → ((k : ℕ) (d : BookSeat O o) → k < length (map (λ (w : Work K H (BookSeat O o)). w.seat) works)
      → IsNewSeat lock (number k) (slice_index_or (map (λ (w : Work K H (BookSeat O o)). w.seat) works) k d))
      → ((k : ℕ) (d : Script) → k < length (map (λ (w : Work K H (BookSeat O o)). w.script) works)
      → (slice_index_or (map (λ (w : Work K H (BookSeat O o)). w.script) works) k d).session ≡ number k)
      → AllByRecursion (IsSet lock) works
  all_set lock number [] seats scripts = tt
  all_set lock number (work ∷ works) seats scripts =
      let seat = seats 0 work.seat (omega arith) in
      let script = scripts 0 work.script (omega arith) in (
        record { own = seat.own; session = seat.session_is ∙ sym script; seen = seat.seen },
        all_set lock (λ k. number (suc k)) works (λ k d within. seats (suc k) d (omega arith)) (λ k d within. scripts
            (suc k) d (omega arith)),
      )

  module _ (left : List Item) (lock : Lock T Item) (Belongs KnowsEnd : BookSeat O o → Type 0) where
    sessions_same : (w : Work K H (BookSeat O o)) (d : SessionDone K H (BookSeat O o)) → IsSet lock w
        → Ran Belongs KnowsEnd w d → session_at d.seat ≡ w.script.session
    sessions_same w d set ran = ran.number ∙ set.session

    calls_are : (w : Work K H (BookSeat O o)) (d : SessionDone K H (BookSeat O o)) → IsSet lock w
        → Ran Belongs KnowsEnd w d → calls_of w.script.session (items_seen d.seat) ≡ zip w.script.requests d.replies
    calls_are w d set ran =
        ap (λ session. calls_of session (items_seen d.seat)) (sym (sessions_same w d set ran))
        ∙ (ran.own ∙ ap (λ (items : List Item). calls_of (session_at w.seat) items ++ zip w.script.requests d.replies)
        set.seen)

    back_is : (w : Work K H (BookSeat O o)) (d : SessionDone K H (BookSeat O o)) → IsSet lock w
        → Ran Belongs KnowsEnd w d → IsBackIn left d.seat
        → Behind session_of left (w.script.session ∷ []) (items_seen d.seat)
    back_is w d set ran back = subst (λ session. Behind session_of left (session ∷ []) (items_seen d.seat))
        (sessions_same w d set ran) back

    tells : (w : Work K H (BookSeat O o)) (d : SessionDone K H (BookSeat O o)) → IsSet lock w → Ran Belongs KnowsEnd w d
        → IsBackIn left d.seat → IsTold left w.script
    tells w d set ran back =
        told_by left (items_seen d.seat) w.script d.replies d.end (back_is w d set ran back) (calls_are w d set ran)
        ran.within
        (ap (λ session. faulted_in session (items_seen d.seat)) (sym (sessions_same w d set ran))
        ∙ (ran.faulted ∙ ap (λ (items : List Item). faulted_at (faulted_in (session_at w.seat) items)
        (drop (length d.replies) w.script.requests) d.end) set.seen))

    pub all_told : (works : List (Work K H (BookSeat O o))) (done : List (SessionDone K H (BookSeat O o)))
        → AllByRecursion (IsSet lock) works → AllZip (Ran Belongs KnowsEnd) works done
        → AllByRecursion (λ (d : SessionDone K H (BookSeat O o)). IsBackIn left d.seat) done
        → AllByRecursion (λ (w : Work K H (BookSeat O o)). IsTold left w.script) works
    all_told [] [] set ran back = tt
    all_told [] (d ∷ done) set ran back = absurd ran
    all_told (w ∷ works) [] set ran back = absurd ran
    all_told (w ∷ works) (d ∷ done) set ran back = (
      tells w d set.0 ran.0 back.0,
      all_told works done set.1 ran.1 back.1,
    )

    pub all_whole : (works : List (Work K H (BookSeat O o))) (done : List (SessionDone K H (BookSeat O o)))
        → AllByRecursion (IsSet lock) works → AllZip (Ran Belongs KnowsEnd) works done
        → AllByRecursion (λ (d : SessionDone K H (BookSeat O o)). IsBackIn left d.seat) done
        → AllByRecursion (λ (d : SessionDone K H (BookSeat O o)). d.end ≡ session_end.All) done
        → AllByRecursion (λ (w : Work K H (BookSeat O o)). IsServedWhole (entries_of left) w.script) works
    all_whole [] [] set ran back ends = tt
    all_whole [] (d ∷ done) set ran back ends = absurd ran
    all_whole (w ∷ works) [] set ran back ends = absurd ran
    all_whole (w ∷ works) (d ∷ done) set ran back ends = (
      whole_told left (items_seen d.seat) w.script d.replies (back_is w d set.0 ran.0 back.0)
          (calls_are w d set.0 ran.0) ran.0.within
          (subst (EndsAt (KnowsEnd d.seat) (drop (length d.replies) w.script.requests)) ends.0 ran.0.ends),
      all_whole works done set.1 ran.1 back.1 ends.1,
    )

    -- a session that did not end with all lacks a reply
    pub some_short : (works : List (Work K H (BookSeat O o))) (done : List (SessionDone K H (BookSeat O o)))
        → AllByRecursion (IsSet lock) works → AllZip (Ran Belongs KnowsEnd) works done
        → AllByRecursion (λ (d : SessionDone K H (BookSeat O o)). IsBackIn left d.seat) done
        → (AllByRecursion (λ (d : SessionDone K H (BookSeat O o)). d.end ≡ session_end.All) done → ⊥)
        → (script : Script) × Contains (map (λ (w : Work K H (BookSeat O o)). w.script) works) script
        × (IsServedWhole (entries_of left) script → ⊥)
    some_short [] [] set ran back short = absurd (short tt)
    some_short [] (d ∷ done) set ran back short = absurd ran
    some_short (w ∷ works) [] set ran back short = absurd ran
    some_short (w ∷ works) (d ∷ done) set ran back short =
        by d.end refl (λ others. some_short works done set.1 ran.1 back.1 others) where
          by : (e : SessionEnd) → d.end ≡ e
              → ((AllByRecursion (λ (d : SessionDone K H (BookSeat O o)). d.end ≡ session_end.All) done → ⊥)
              → (script : Script) × Contains (map (λ (w : Work K H (BookSeat O o)). w.script) works) script
              × (IsServedWhole (entries_of left) script → ⊥))
              → (script : Script) × Contains (map (λ (w : Work K H (BookSeat O o)). w.script) (w ∷ works)) script
              × (IsServedWhole (entries_of left) script → ⊥)
          by session_end.All is later_so =
              let later = later_so (λ others. short (is, others)) in
              (later.0, (suc later.1.0, omega (arith, later.1.1), later.1.2), later.2)
          by (session_end.Fault answer) is later_so = (
            w.script,
            (0, omega arith, refl),
            short_told left (items_seen d.seat) w.script d.replies (back_is w d set.0 ran.0 back.0)
                (calls_are w d set.0 ran.0) ran.0.within
                (subst (EndsAt (KnowsEnd d.seat) (drop (length d.replies) w.script.requests)) is ran.0.ends).0,
          )

  -- of works that were not begun
  pub none_answered : (left : List Item) (lock : Lock T Item) (works : List (Work K H (BookSeat O o)))
      → AllByRecursion (IsSet lock) works → AllByRecursion (λ (w : Work K H (BookSeat O o)). IsBackIn left w.seat) works
      → AllByRecursion (λ (w : Work K H (BookSeat O o)). answered_of w.script.session (entries_of left) ≡ []) works
  none_answered left lock [] set back = tt
  none_answered left lock (w ∷ works) set back = (
    answered_none left w.script
        (subst (λ (items : List Item). Behind session_of left (w.script.session ∷ []) items) set.0.seen
        (subst (λ session. Behind session_of left (session ∷ []) (items_seen w.seat)) set.0.session back.0)),
    none_answered left lock works set.1 back.1,
  )

  pub none_told : (left : List Item) (lock : Lock T Item) (works : List (Work K H (BookSeat O o)))
      → AllByRecursion (IsSet lock) works → AllByRecursion (λ (w : Work K H (BookSeat O o)). IsBackIn left w.seat) works
      → AllByRecursion (λ (w : Work K H (BookSeat O o)). IsTold left w.script) works
  none_told left lock [] set back = tt
  none_told left lock (w ∷ works) set back = (
    told_none left w.script
        (subst (λ (items : List Item). Behind session_of left (w.script.session ∷ []) items) set.0.seen
        (subst (λ session. Behind session_of left (session ∷ []) (items_seen w.seat)) set.0.session back.0)),
    none_told left lock works set.1 back.1,
  )

-- ---- what is left

all_at : {X : Type 0} (P : X → Type 0) (xs : List X) (x : X) → All P xs → Contains xs x → P x
all_at P xs x all there = subst P there.2 (all there.0 x there.1)

whole_end : (halt : Option Halt) (all : Bool) → end_of halt all ≡ end.All → IsTrue all
whole_end None true is = refl
whole_end None false is = absurd (let e : end.NoMemory ≡ end.All = is in cc)
whole_end (Some halt) all is = absurd (let e : end.DiskFault halt ≡ end.All = is in cc)

lacking_end : (halt : Option Halt) (all : Bool) → end_of halt all ≡ end.NoMemory → IsTrue all → ⊥
lacking_end None true is whole = let e : end.All ≡ end.NoMemory = is in cc
lacking_end None false is whole = let e : false ≡ true = whole in cc
lacking_end (Some halt) all is whole = let e : end.DiskFault halt ≡ end.NoMemory = is in cc

entries_within : (P : ℕ → Type 0) (entries : List Entry) → ((i : Item) → Contains (map item.Entry entries) i
    → P (session_of i)) → AllByRecursion (λ (e : Entry). P e.session) entries
entries_within P [] within = tt
entries_within P (e ∷ entries) within = (
  within (item.Entry e) (one_in (item.Entry e) (map item.Entry entries)),
  entries_within P entries (λ i there. within i (suc there.0, omega (arith, there.1), there.2)),
)

entries_there : (entries : List Entry) (halt : Option Halt) (i : Item) → Contains (map item.Entry entries) i
    → Contains (chronicle entries halt) i
entries_there entries None i there = there
entries_there entries (Some halt) i there = Contains-append_left (map item.Entry entries) (item.Halt halt ∷ []) i there

-- no script has a reply, or one lacks one
abbrev LacksReply : List Script → List Entry → Type 0
LacksReply scripts entries =
    AllByRecursion (λ (script : Script). answered_of script.session entries ≡ []) scripts ⊎ ((script : Script)
    × Contains scripts script × (IsServedWhole entries script → ⊥))

lacks : (scripts : List Script) → AreNumbered scripts → sum_by (λ (script : Script). length script.requests) scripts
    ≤ ENTRIES_MOST
    → (entries : List Entry) → AllByRecursion (λ (e : Entry). (1 ≤ e.session) × (e.session ≤ length scripts)) entries
    → AllByRecursion (IsServedFrom entries) scripts
    → LacksReply scripts entries → LacksMemory scripts entries
lacks scripts numbered total entries within fronts (inl none) = inl (none_left scripts numbered entries within none)
lacks scripts numbered total entries within fronts (inr one) =
    let front = all_at (IsServedFrom entries) scripts one.0 (all_to (IsServedFrom entries)
    scripts fronts) one.1 in
    inr (has_room scripts numbered total entries within fronts one.0 one.1 front one.2, one)

module _ {D : Type 0} (at : D → DiskAt) (base : State) (left_origin right_origin : DiskAt) (scripts : List Script) where
  disks_by : {O : Type 0} {o : Ghosts O} (all : Bool) (seats : List (BookSeat O o)) (served : Served D)
      → AreNumbered scripts → Leaves at base left_origin right_origin (length scripts) all seats served
      → All (IsTold (chronicle_of served)) scripts
      → (e : End) → served.end ≡ e
      → LeavesDisks at scripts served.history (state_after base served.history) e served.left served.right
  disks_by all seats served numbered l told end.All is = rw is at l.disks
  disks_by all seats served numbered l told end.NoMemory is = rw is at l.disks
  disks_by all seats served numbered l told (end.DiskFault halt) is =
      let left : List Item = map item.Entry served.history ++ item.Halt halt ∷ [] in
      let items : chronicle_of served ≡ left = ap (λ e. chronicle served.history (halt_of e)) is in
      let there : Contains left (item.Halt halt) = Contains-append_right (map item.Entry served.history) (item.Halt halt
      ∷ []) (item.Halt halt) (one_in (item.Halt halt) []) in
      let range = l.within (item.Halt halt) (rw items there) in
      let script = script_of scripts numbered halt.session range.0 range.1 in
      let entries : entries_of left ≡ served.history = entries_of-chronicle served.history (Some halt) in
      let next = next_told (map item.Entry served.history) halt script.0
      (rw items at (all_at (IsTold (chronicle_of served)) scripts script.0 told script.1)) script.2 in
      let kept = rw is at l.disks in
      ((script.0, script.1, script.2, rw entries at next), kept.0, kept.1)

  serves : {O : Type 0} {o : Ghosts O} (all : Bool) (seats : List (BookSeat O o)) (served : Served D)
      → AreNumbered scripts → Leaves at base left_origin right_origin (length scripts) all seats served
      → AllByRecursion (IsTold (chronicle_of served)) scripts
      → (IsTrue all → AllByRecursion (IsServedWhole (entries_of (chronicle_of served))) scripts)
      → sum_by (λ (script : Script). length script.requests) scripts ≤ ENTRIES_MOST
      → ((IsTrue all → ⊥) → LacksReply scripts (entries_of (chronicle_of served)))
      → Serves at base left_origin right_origin scripts served
  serves all seats served numbered l told whole total short =
      let items : List Item = chronicle_of served in
      let entries : entries_of items ≡ served.history =
      entries_of-chronicle served.history (halt_of served.end) in
      let fronts : AllByRecursion (IsServedFrom served.history) scripts =
      subst (λ es. AllByRecursion (IsServedFrom es) scripts) entries (all_so (IsTold items)
      (IsServedFrom (entries_of items)) (front_told items) scripts told) in
      let within = entries_within (λ n. (1 ≤ n) × (n ≤ length scripts)) served.history (λ i there. l.within i
      (entries_there served.history (halt_of served.end) i there)) in
      record {
        legal = l.legal;
        fronts = all_to (IsServedFrom served.history) scripts fronts;
        whole = λ is. rw (← entries) (all_to (IsServedWhole (entries_of items)) scripts
            (whole (whole_end (halt_of served.end) all (sym l.end ∙ is))));
        memory = λ is. lacks scripts numbered total served.history within fronts (subst (LacksReply scripts) entries
            (short (lacking_end (halt_of served.end) all (sym l.end ∙ is))));
        sessions = all_to (λ (e : Entry). (1 ≤ e.session) × (e.session ≤ length scripts)) served.history within;
        disks = disks_by all seats served numbered l (all_to (IsTold (chronicle_of served)) scripts told)
            served.end refl;
        since = l.since;
      }

  abbrev Between : List Request → D → D → Type 0
  Between requests left right = KeepsBetween at left_origin right_origin base requests left right

  -- where there was no memory for a book
  pub serves_none :
      (may_stay : (disk : D) (held : List ℕ) → (at disk).seen ≡ Some held → LeftNow at disk held)
      (store : Stored D) (served : Served D) → served.left ≡ store.left → served.right ≡ store.right
      → served.history ≡ [] → served.end ≡ end.NoMemory
      → store.stopped ≡ None → IsInOrder at store → IsAtOrigin at base left_origin right_origin store
      → Serves at base left_origin right_origin scripts served
  serves_none may_stay store served left_is right_is history_is end_is going order origin = record {
    legal = rw history_is (legal-empty base);
    fronts = rw history_is (λ k d within. ((slice_index_or scripts k d).requests, refl));
    whole = λ is. absurd (let e : end.NoMemory ≡ end.All = sym end_is ∙ is in cc);
    memory = λ is. inl history_is;
    sessions = rw history_is (λ k d within. absurd (omega arith));
    disks = rw (end_is, history_is, left_is, right_is) (settles at store base order going origin.state);
    since = record {
      cause = rw (end_is, left_is, right_is, origin.left.faults, origin.right.faults) refl;
      left_time = rw left_is origin.left.time;
      right_time = rw right_is origin.right.time;
      past =
          rw (end_is, history_is, left_is, right_is)
          (past_left at left_origin right_origin base [] None store order going
          (begins_past at left_origin right_origin may_stay base store going origin order));
      between =
          subst (λ (e : End). Between (tried (requests_of served.history) (halt_of e)) served.left served.right)
          (sym end_is)
          (subst (λ (entries : List Entry). Between (requests_of entries) served.left served.right) (sym history_is)
          (subst (λ (x : D). Between [] x served.right) (sym left_is)
          (subst (λ (y : D). Between [] store.left y) (sym right_is)
          (begins_between at left_origin right_origin base store origin))));
    };
  }

-- ---- what serving owes at each step

module _ {T K H O : Type 0} {o : Ghosts O} (lock : Lock T Item) (works : List (Work K H (BookSeat O o)))
    (new_seats : List (BookSeat O o)) (scripts : List Script) where
  pub set_of : map (λ (w : Work K H (BookSeat O o)). w.seat) works ≡ new_seats
      → map (λ (w : Work K H (BookSeat O o)). w.script) works ≡ scripts
      → AreSeated lock new_seats → AreNumbered scripts → AllByRecursion (IsSet lock) works
  set_of seats_are scripts_are new numbered = all_set lock (λ k. k + 1) works (rw seats_are new)
      (rw scripts_are numbered)

module _ {K H O : Type 0} {o : Ghosts O} (works : List (Work K H (BookSeat O o))) (scripts : List Script)
    (scripts_are : map (λ (w : Work K H (BookSeat O o)). w.script) works ≡ scripts) where
  pub works_many : length works ≡ length scripts
  works_many = sym (length-map works (λ (w : Work K H (BookSeat O o)). w.script)) ∙ ap length scripts_are

module _ {K H O : Type 0} {o : Ghosts O} (Belongs KnowsEnd : BookSeat O o → Type 0) where
  done_back : (works : List (Work K H (BookSeat O o))) (done : List (SessionDone K H (BookSeat O o)))
      → AllZip (Ran Belongs KnowsEnd) works done
      → AllByRecursion (λ (d : SessionDone K H (BookSeat O o)). Belongs d.seat) done
  done_back [] [] ran = tt
  done_back [] (d ∷ done) ran = absurd ran
  done_back (w ∷ works) [] ran = absurd ran
  done_back (w ∷ works) (d ∷ done) ran = (ran.0.belongs, done_back works done ran.1)

  pub done_belong : (works : List (Work K H (BookSeat O o))) (done : List (SessionDone K H (BookSeat O o)))
      (seats : List (BookSeat O o))
      → AllZip (Ran Belongs KnowsEnd) works done → seats ≡ map (λ (d : SessionDone K H (BookSeat O o)). d.seat) done
      → All Belongs seats
  done_belong works done seats ran seats_are =
      rw seats_are (all_to Belongs (map (λ (d : SessionDone K H (BookSeat O o)). d.seat) done)
      (all_mapped Belongs (λ (d : SessionDone K H (BookSeat O o)). d.seat) done (done_back works done ran)))

module _ {D : Type 0} (at : D → DiskAt) (base : State) (left_origin right_origin : DiskAt) (scripts : List Script) where
  -- all sessions have ended
  pub serves_done : {T K H O : Type 0} {o : Ghosts O} (lock : Lock T Item) (Belongs KnowsEnd : BookSeat O o → Type 0)
      (works : List (Work K H (BookSeat O o))) (done : List (SessionDone K H (BookSeat O o)))
      (seats : List (BookSeat O o)) (most : ℕ) (all : Bool) (served : Served D)
      → map (λ (w : Work K H (BookSeat O o)). w.script) works ≡ scripts → AreNumbered scripts
      → AllByRecursion (IsSet lock) works
      → AllZip (Ran Belongs KnowsEnd) works done → seats ≡ map (λ (d : SessionDone K H (BookSeat O o)). d.seat) done
      → (IsTrue all ↔ AllByRecursion (λ (d : SessionDone K H (BookSeat O o)). d.end ≡ session_end.All) done)
      → sum_by (λ (script : Script). length script.requests) scripts ≤ ENTRIES_MOST
      → most ≡ length scripts
      → Leaves at base left_origin right_origin most all seats served
      → Serves at base left_origin right_origin scripts served
  serves_done {K = K} {H = H} {O = O} {o = o} lock Belongs KnowsEnd works done seats most all served scripts_are
      numbered set ran seats_are ends total most_is l =
      let left : List Item = chronicle_of served in
      let back : AllByRecursion (λ (d : SessionDone K H (BookSeat O o)). IsBackIn left d.seat) done =
      all_unmap (IsBackIn left) (λ (d : SessionDone K H (BookSeat O o)). d.seat) done (all_from (IsBackIn left)
      (map (λ (d : SessionDone K H (BookSeat O o)). d.seat) done) (subst (All (IsBackIn left)) seats_are l.back)) in
      serves at base left_origin right_origin scripts all seats served numbered
      (subst (λ n. Leaves at base left_origin right_origin n all seats served) most_is l)
      (subst (AllByRecursion (IsTold left)) scripts_are (all_mapped (IsTold left) (λ (w : Work K H (BookSeat O o)).
      w.script) works (all_told left lock Belongs KnowsEnd works done set ran back)))
      (λ whole. subst (AllByRecursion (IsServedWhole (entries_of left))) scripts_are
      (all_mapped (IsServedWhole (entries_of left)) (λ (w : Work K H (BookSeat O o)). w.script) works
      (all_whole left lock Belongs KnowsEnd works done set ran back (ends.0 whole))))
      total
      (λ not_all. inr (subst (λ (list : List Script). (script : Script) × Contains list script
      × (IsServedWhole (entries_of left) script → ⊥)) scripts_are (some_short left lock Belongs KnowsEnd works done
      set ran back (λ all_ended. not_all (ends.1 all_ended)))))

  -- no session was begun
  pub serves_works : {T K H O : Type 0} {o : Ghosts O} (lock : Lock T Item)
      (works : List (Work K H (BookSeat O o))) (seats : List (BookSeat O o)) (most : ℕ) (served : Served D)
      → map (λ (w : Work K H (BookSeat O o)). w.script) works ≡ scripts → AreNumbered scripts
      → AllByRecursion (IsSet lock) works
      → seats ≡ map (λ (w : Work K H (BookSeat O o)). w.seat) works
      → sum_by (λ (script : Script). length script.requests) scripts ≤ ENTRIES_MOST
      → most ≡ length scripts
      → Leaves at base left_origin right_origin most false seats served
      → Serves at base left_origin right_origin scripts served
  serves_works {K = K} {H = H} {O = O} {o = o} lock works seats most served scripts_are numbered set seats_are total
      most_is l =
      let left : List Item = chronicle_of served in
      let back : AllByRecursion (λ (w : Work K H (BookSeat O o)). IsBackIn left w.seat) works =
      all_unmap (IsBackIn left) (λ (w : Work K H (BookSeat O o)). w.seat) works (all_from (IsBackIn left)
      (map (λ (w : Work K H (BookSeat O o)). w.seat) works) (subst (All (IsBackIn left)) seats_are l.back)) in
      serves at base left_origin right_origin scripts false seats served numbered
      (subst (λ n. Leaves at base left_origin right_origin n false seats served) most_is l)
      (subst (AllByRecursion (IsTold left)) scripts_are (all_mapped (IsTold left) (λ (w : Work K H (BookSeat O o)).
      w.script) works (none_told left lock works set back)))
      (λ whole. absurd (let e : false ≡ true = whole in cc))
      total
      (λ not_all. inl (subst (AllByRecursion (λ (script : Script). answered_of script.session (entries_of left)
      ≡ [])) scripts_are
      (all_mapped (λ (script : Script). answered_of script.session (entries_of left)
      ≡ []) (λ (w : Work K H (BookSeat O o)). w.script) works (none_answered left lock works set back))))

-- ---- what running at the seats comes to

abbrev pub Came : (K H : Type 0) {O : Type 0} {o : Ghosts O} → (BookSeat O o → Type 0) → (BookSeat O o → Type 0)
    → List Script → (seats back : List (BookSeat O o)) → Bool → Type 0
Came K H Belongs KnowsEnd = ComesTo K H Belongs session_at (λ seat. calls_of (session_at seat) (items_seen seat))
    KnowsEnd (λ seat. faulted_in (session_at seat) (items_seen seat))

-- a work for each script, with the seat at its place
set_up : {S : Type 0} (scripts : List Script) (seats : List S) → length seats ≡ length scripts
    → (works : List (Work (Unit {0}) (Unit {0}) S)) × (map (λ (w : Work (Unit {0}) (Unit {0}) S). w.script) works
    ≡ scripts) × (map (λ (w : Work (Unit {0}) (Unit {0}) S). w.seat) works ≡ seats)
set_up [] [] same = ([], refl, refl)
set_up [] (seat ∷ seats) same = absurd (omega (arith, same))
set_up (script ∷ scripts) [] same = absurd (omega (arith, same))
set_up (script ∷ scripts) (seat ∷ seats) same =
    let rest = set_up scripts seats (omega (arith, same)) in (
      record { script = script; seat = seat; hinter = tt } ∷ rest.0,
      ap (λ (l : List Script). script ∷ l) rest.1,
      ap (λ l. seat ∷ l) rest.2,
    )

module _ {K H O : Type 0} {o : Ghosts O} (Belongs KnowsEnd : BookSeat O o
    → Type 0) (scripts : List Script) (seats back : List (BookSeat O o)) (whole : Bool) where
  -- the seats that came back are the desk's, and as many
  pub came_own : Came K H Belongs KnowsEnd scripts seats back whole → All Belongs seats → All Belongs back
  came_own (inl run) own = done_belong Belongs KnowsEnd run.works run.done back run.ran run.back_are
  came_own (inr none) own = subst (All Belongs) (sym none.0) own

  pub came_many : Came K H Belongs KnowsEnd scripts seats back whole → length seats ≡ length scripts
      → length back ≡ length scripts
  came_many (inl run) same =
      let works = works_many run.works scripts run.scripts_are in
      let done = AllZip-long _ run.works run.done run.ran in
      let seats_are = ap length run.back_are ∙ length-map run.done (λ (d : SessionDone K H (BookSeat O o)). d.seat) in
      omega (arith, works, done, seats_are)
  came_many (inr none) same = ap length none.0 ∙ same

  module _ {D : Type 0} (at : D → DiskAt) (base : State) (left_origin right_origin : DiskAt) where
    pub serves_came : {T : Type 0} (lock : Lock T Item) (most : ℕ) (served : Served D)
        → AreNumbered scripts → AreSeated lock seats → length seats ≡ length scripts
        → sum_by (λ (script : Script). length script.requests) scripts ≤ ENTRIES_MOST
        → most ≡ length scripts
        → Leaves at base left_origin right_origin most whole back served
        → Came K H Belongs KnowsEnd scripts seats back whole
        → Serves at base left_origin right_origin scripts served
    serves_came lock most served numbered new same total most_is l (inl run) =
        serves_done at base left_origin right_origin scripts lock Belongs KnowsEnd run.works run.done back most
        whole served
        run.scripts_are numbered (set_of lock run.works seats scripts run.seats_are run.scripts_are new numbered)
        run.ran run.back_are run.ends total most_is l
    serves_came lock most served numbered new same total most_is l (inr none) =
        let set = set_up scripts seats same in
        serves_works at base left_origin right_origin scripts lock set.0 back most served
        set.1 numbered (set_of lock set.0 seats scripts set.2 set.1 new numbered) (none.0 ∙ sym set.2) total most_is
        (subst (λ b. Leaves at base left_origin right_origin most b back served) none.1 l)
