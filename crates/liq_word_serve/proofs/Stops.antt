-- What a stop leaves of the disks, at any moment of serving an input.
use Rattle.std.proofs.Common.{is_some, ◌++◌, ℕ, ◌≡◌, ◌≢◌, ◌≤◌, inl, inr, List, [], ◌∷◌, Option, Some, None, Ok, refl, sym, ap, ◌∙◌, subst, arith}
use Rattle.std.specs.Prelude.{IfSome, IsSome, ◌↔◌, ◌⊎◌, false, map}
use Rattle.liq_outside.specs.At.{DiskAt}
use Rattle.liq_outside.specs.Disk.{GoesOn, LeavesOnly, LeftNow, Only}
use Rattle.liq_outside.proofs.Moments.{started, unmoved}
use Rattle.liq_types.specs.declared.requests.Command.{Command}
use Rattle.liq_types.specs.declared.requests.Request.{Request}
use Rattle.liq_types.specs.declared.requests.Request.TheVariants.{Do, Ask}
use Rattle.liq_types.specs.State.{State}
use Rattle.liq_types.proofs.Tests.{value_of}
use Rattle.liq_types.specs.declared.entries.Entry.{Entry}
use Rattle.liq_rule_step.specs.History.{requests_of}
use Rattle.liq_journal.specs.Opened.{OpenLeaves}
use Rattle.liq_disk_pair.specs.declared.side.Side.{Side}
use Rattle.liq_disk_pair.specs.declared.side.Side.TheVariants.{Left, Right}
use Rattle.liq_disk_pair.specs.Kept.{IsKept}
use Rattle.liq_disk_pair.specs.Commands.{kept_behind}
use Rattle.liq_disk_pair.specs.Pair.{commands_on, state_on}
use Rattle.liq_disk_pair.specs.Past.{AtCommand, Fault, InOpening, KeptAtEnd, LeavesPast, NoFault, failed_commands}
use Rattle.liq_rule_step.specs.Step.{accepted}
use Rattle.liq_disk_pair.specs.Sides.{on}
use Rattle.liq_disk_pair.specs.Unfinished.{IsRecovered, LeftLeaves}
use Rattle.liq_store.specs.declared.answers.StoreWhy.{StoreWhy}
use Rattle.liq_store.specs.declared.answers.StoreWhy.TheVariants as why
use Rattle.liq_store.specs.Keeping.{IsAtRest, IsInOrder, LeavesPairs}
use Rattle.liq_store.specs.Leaving.{LeavesBoth, RestAtEnd}
use Rattle.liq_store.specs.Opening.{OpensOn}
use Rattle.liq_store.specs.Past.{Past}
use Rattle.liq_store.specs.Stored.{Stored}
use Rattle.liq_store.proofs.Past.{begins, joins, opened_holds, opening_leaves}
use Rattle.liq_text_lines.specs.declared.stops.Stop.{Stop}
use Rattle.liq_core.specs.Core.{StandsFor}
use Rattle.liq_book.specs.Moments.{AreKeptAlong, HasMoments, tried}
use Rattle.liq_book.specs.Past.{IsFaultOf, since_origin}
use Rattle.liq_book.proofs.Moments.{within_opening}
use Rattle.std.proofs.lemmas.List.{append-nil}
use Rattle.liq_sessions.specs.declared.script.Script.{Script}
use Rattle.liq_word_serve.specs.declared.input.Finish.{Finish}
use Rattle.liq_word_serve.specs.declared.input.Finish.TheVariants as finish
use Rattle.liq_word_serve.specs.declared.served.End.{End}
use Rattle.liq_word_serve.specs.declared.served.End.TheVariants as end
use Rattle.liq_word_serve.specs.declared.served.Served.{Served}
use Rattle.liq_word_serve.specs.Ends.{halt_of}
use Rattle.liq_word_serve.specs.Input.{IsFaultAt, IsFinishOf}
use Rattle.liq_word_serve.specs.Serves.{Serves}

-- a session and its command
abbrev pub called : ℕ → Request → Option (ℕ × Command)
called session (Do c) = Some (session, c)
called session (Ask query) = None

-- what is kept behind the ones is kept behind others with the same commands
pub ended_behind : (m n l r : List ℕ) (start : State) (requests : List Request) (a b : List ℕ)
    → commands_on m n ≡ commands_on l r → KeptAtEnd m n start requests NoFault a b
    → KeptAtEnd l r start requests NoFault a b
ended_behind m n l r start requests a b same kept = record {
  kept = kept.kept;
  commands = kept.commands ∙ ap (λ (cs : List Command). kept_behind cs (accepted start requests)) same;
}

pub ends_behind : (m n l r : List ℕ) (start : State) (requests : List Request) (c : Command) (a b : List ℕ)
    → commands_on m n ≡ commands_on l r → KeptAtEnd m n start requests (AtCommand c) a b
    → KeptAtEnd l r start requests (AtCommand c) a b
ends_behind m n l r start requests c a b same (inl kept) = inl (ended_behind m n l r start requests a b same kept)
ends_behind m n l r start requests c a b same (inr (allowed, kept)) = inr (
  allowed,
  record {
    kept = kept.kept;
    commands = kept.commands
        ∙ ap (λ (cs : List Command). kept_behind (kept_behind cs (accepted start requests)) (c ∷ [])) same;
  },
)

-- the request whose call met a disk's fault
abbrev pub tried_of : Option (ℕ × Command) → List Request
tried_of None = []
tried_of (Some call) = Do call.1 ∷ []

-- the one request of a call that met a fault
called_is : (session : ℕ) (request : Request) (c : Command) → request ≡ Do c
    → request ∷ [] ≡ tried_of (called session request)
called_is session (Do d) c is = refl
called_is session (Ask query) c is = absurd (cc (is))

-- the call that met a disk's fault
abbrev pub halted_in : End → Option (ℕ × Command)
halted_in (end.DiskFault halt) = called halt.session halt.request
halted_in end.All = None
halted_in end.NoMemory = None

-- what a book tried, by the call that met a fault
tried_is : (requests : List Request) (e : End) (fault : Fault) → IsFaultOf (halt_of e) fault
    → tried requests (halt_of e) ≡ requests ++ tried_of (halted_in e)
tried_is requests end.All fault is = sym (append-nil requests)
tried_is requests end.NoMemory fault is = sym (append-nil requests)
tried_is requests (end.DiskFault halt) fault is =
    ap (λ (rs : List Request). requests ++ rs) (called_is halt.session halt.request is.0 is.1)

-- a fault that is nowhere, or in the opening, has no command
none_failed : (fault : Fault) → (fault ≡ NoFault) ⊎ (fault ≡ InOpening) → [] ≡ map Do (failed_commands fault)
none_failed fault (inl is) = ap (λ (f : Fault). map Do (failed_commands f)) (sym is)
none_failed fault (inr is) = ap (λ (f : Fault). map Do (failed_commands f)) (sym is)

pub none_tried : (how : Finish) (fault : Fault) → IsFaultAt how None fault → [] ≡ map Do (failed_commands fault)
none_tried finish.All fault is = none_failed fault (inl is)
none_tried finish.WriteFault fault is = none_failed fault (inl is)
none_tried finish.NoMemory fault is = none_failed fault (inl is)
none_tried finish.DiskFault fault is = absurd is
none_tried (finish.NotRead why_not) fault is = none_failed fault (inl is)
none_tried (finish.NotOpened why.DiskFault) fault is = none_failed fault (inr is)
none_tried (finish.NotOpened why.NoMemory) fault is = none_failed fault (inl is)
none_tried (finish.NotOpened (why.Damaged side damage)) fault is = none_failed fault (inl is)

-- the request whose call met a fault is that of the fault's command
request_tried : (session : ℕ) (request : Request) (fault : Fault)
    → IsFaultAt finish.DiskFault (called session request) fault
    → tried_of (called session request) ≡ map Do (failed_commands fault)
request_tried session (Do c) fault is = ap (λ (f : Fault). map Do (failed_commands f)) (sym is)
request_tried session (Ask query) fault is = absurd is

pub tried_failed : (e : End) (how : Finish) → IsFinishOf e how → (fault : Fault) → IsFaultAt how (halted_in e) fault
    → tried_of (halted_in e) ≡ map Do (failed_commands fault)
tried_failed end.All how (inl how_is) fault is =
    none_failed fault (inl (subst (λ (h : Finish). IsFaultAt h None fault) how_is is))
tried_failed end.All how (inr how_is) fault is =
    none_failed fault (inl (subst (λ (h : Finish). IsFaultAt h None fault) how_is is))
tried_failed end.NoMemory how how_is fault is =
    none_failed fault (inl (subst (λ (h : Finish). IsFaultAt h None fault) how_is is))
tried_failed (end.DiskFault halt) how how_is fault is =
    request_tried halt.session halt.request fault
    (subst (λ (h : Finish). IsFaultAt h (called halt.session halt.request) fault) how_is is)

module _ {D : Type 0} (at : D → DiskAt) (left right : D) where
  -- what a stop leaves of these disks, when serving them finished so
  abbrev pub LeavesAt : Finish → Option (ℕ × Command) → List Entry → D → D → Type 0
  LeavesAt how halted entries now_left now_right =
      (l r : List ℕ) (start : State) → (at left).seen ≡ Some l → (at right).seen ≡ Some r
      → Only l (LeftNow at left) → Only r (LeftNow at right)
      → state_on l r ≡ Ok start → IsKept l r start
      → LeavesBoth at left right (IsFaultAt how halted) l r start (requests_of entries) now_left now_right

  -- what an opening says of each disk, and of both
  pub record LeavesOpening (now_left now_right : D) : Type 0 where
    pub left_leaves : (l r : List ℕ) → (at left).seen ≡ Some l → (at right).seen ≡ Some r → Only l (LeftNow at left)
        → LeavesOnly at left now_left (LeftLeaves l r)
    pub right_leaves : (r : List ℕ) → (at right).seen ≡ Some r → Only r (LeftNow at right)
        → LeavesOnly at right now_right (OpenLeaves false r)
    pub recovers : (l r : List ℕ) (s : State) → (at left).seen ≡ Some l → (at right).seen ≡ Some r
        → Only l (LeftNow at left) → Only r (LeftNow at right) → IsKept l r s
        → LeavesPairs at left right now_left now_right (IsRecovered l r s)

module _ {D : Type 0} (at : D → DiskAt)
    (may_stay : (disk : D) (held : List ℕ) → (at disk).seen ≡ Some held → LeftNow at disk held) (left right : D) where
  abbrev At : Finish → Option (ℕ × Command) → List Entry → D → D → Type 0
  At = LeavesAt at left right

  -- ---- nothing was opened

  -- nothing is pending on a disk of which a crash leaves what it tells
  rests_as : (disk : D) (held : List ℕ) → (at disk).seen ≡ Some held → Only held (LeftNow at disk) → IsAtRest at disk
  rests_as disk held told only =
      subst (λ (o : Option (List ℕ)). IfSome o (λ h. Only h (LeftNow at disk))) (sym told) only

  -- the input was not read to its end, and nobody touched the disks
  pub leaves_unread : (stop : Stop) → At (finish.NotRead stop) None [] left right
  leaves_unread stop l r start told_l told_r only_l only_r is kept = record {
    fault = NoFault;
    fault_is = refl;
    images =
        opening_leaves at may_stay l r start left right left right kept
        (started at left (LeftLeaves l r) (λ image there. inl (inl (only_l image there))))
        (started at right (OpenLeaves false r) (λ image there. inl (only_r image there)))
        NoFault;
    rests = (rests_as left l told_l only_l, rests_as right r told_r only_r);
  }

  -- no store was opened
  pub leaves_unopened : (why_not : StoreWhy) (now_left now_right : D) → LeavesOpening at left right now_left now_right
      → GoesOn at left now_left → GoesOn at right now_right
      → (why_not ≢ why.DiskFault → IsAtRest at now_left × IsAtRest at now_right)
      → At (finish.NotOpened why_not) None [] now_left now_right
  leaves_unopened why_not now_left now_right opening left_time right_time rest l r start told_l told_r only_l only_r is
      kept = by why_not rest where
        images : (fault : Fault) → LeavesPast at (λ side. (at (on side left right)).moment) l r start
            [] fault now_left now_right
        images fault =
            opening_leaves at may_stay l r start left right now_left now_right kept
            (opening.left_leaves l r told_l told_r only_l) (opening.right_leaves r told_r only_r) fault

        by : (w : StoreWhy) → (w ≢ why.DiskFault → IsAtRest at now_left × IsAtRest at now_right)
            → LeavesBoth at left right (IsFaultAt (finish.NotOpened w) None) l r start [] now_left now_right
        by why.DiskFault rest = record {
          fault = InOpening;
          fault_is = refl;
          images = images InOpening;
          rests = λ a b in_left in_right. (
            refl,
            opening.recovers l r start told_l told_r only_l only_r kept a b
                ((at now_left).moment, left_time.later, omega arith, in_left)
                ((at now_right).moment, right_time.later, omega arith, in_right),
          );
        }
        by (why.Damaged side damage) rest = record {
          fault = NoFault;
          fault_is = refl;
          images = images NoFault;
          rests = rest (λ e. cc);
        }
        by why.NoMemory rest =
            record { fault = NoFault; fault_is = refl; images = images NoFault; rests = rest (λ e. cc) }

  -- the moments between no calls
  pub moments_unread : (l r : List ℕ) (start : State) → HasMoments at left right l r start [] left right
  moments_unread l r start = record {
    opened = ((at left).moment, (at right).moment);
    later = [];
    opening = λ only_l only_r kept.
        within_opening at left right left right left right (IsRecovered l r start) (unmoved at left) (unmoved at right)
        (unmoved at left) (unmoved at right) (λ a b in_left in_right.
        let one = (started at left (λ x. x ≡ l) only_l).each a in_left in
        let two = (started at right (λ x. x ≡ r) only_r).each b in_right in
        subst (λ (x : List ℕ). IsRecovered l r start x b) (sym one)
        (subst (λ (y : List ℕ). IsRecovered l r start l y) (sym two)
        (inl (record { kept = kept; commands = refl }))));
    each = refl;
  }

  pub moments_unopened : (now_left now_right : D) → LeavesOpening at left right now_left now_right
      → (l r : List ℕ) (start : State) → (at left).seen ≡ Some l → (at right).seen ≡ Some r
      → HasMoments at left right l r start [] now_left now_right
  moments_unopened now_left now_right opening l r start told_l told_r = record {
    opened = ((at now_left).moment, (at now_right).moment);
    later = [];
    opening = λ only_l only_r kept.
        within_opening at left right now_left now_right now_left now_right (IsRecovered l r start)
        (opening.left_leaves l r told_l told_r only_l).goes_on (opening.right_leaves r told_r only_r).goes_on
        (unmoved at now_left) (unmoved at now_right) (opening.recovers l r start told_l told_r only_l only_r kept);
    each = refl;
  }

  -- ---- the sessions were served

  module _ (store : Stored D) (scripts : List Script) (served : Served D) where
    abbrev entries : List Entry
    entries = served.history

    -- what was left by the book, whose disks told a and b at its origin
    abbrev LeftBy : List ℕ → List ℕ → State → Fault → Type 0
    LeftBy a b start fault =
        LeavesPast at (since_origin (at store.left) (at store.right)) a b start
        (requests_of entries) fault served.left served.right
        × RestAtEnd at a b start (requests_of entries) fault served.left served.right

    -- what is left at the finish, by the disks that there were at first
    abbrev Finishes : List ℕ → List ℕ → State → Finish → Option (ℕ × Command) → Type 0
    Finishes l r start h halted =
        LeavesBoth at left right (IsFaultAt h halted) l r start (requests_of entries) served.left served.right

    -- images are counted from the same moments
    leaves_since : (l r : List ℕ) (start : State) (requests : List Request) (fault : Fault)
        → LeavesPast at (since_origin (at store.left) (at store.right)) l r start requests fault
        served.left served.right
        → LeavesPast at (λ side. (at (on side store.left store.right)).moment) l r start requests fault
        served.left served.right
    leaves_since l r start requests fault leaves = record {
      images = λ side image there. leaves.images side image (
        there.0,
        subst (λ k. k ≤ there.0) (same side) there.1,
        there.2,
        there.3,
      );
      whole = λ side first few image there. leaves.whole side first few image (
        there.0,
        subst (λ k. k ≤ there.0) (same side) there.1,
        there.2,
        there.3,
      );
    } where
      same : (side : Side) → (at (on side store.left store.right)).moment
          ≡ on side (at store.left).moment (at store.right).moment
      same Left = refl
      same Right = refl

    pub leaves_served : LeavesOpening at left right store.left store.right → OpensOn at left right store
        → IsInOrder at store
        → (IsSome (at store.left).seen ↔ IsSome (at left).seen)
        → (IsSome (at store.right).seen ↔ IsSome (at right).seen)
        → GoesOn at store.left served.left → GoesOn at store.right served.right
        → ((l r : List ℕ) (start : State) → (at left).seen ≡ Some l → (at right).seen ≡ Some r → state_on l r ≡ Ok start
        → Serves at start (at store.left) (at store.right) scripts served)
        → (how : Finish) → IsFinishOf served.end how → At how (halted_in served.end) entries served.left served.right
    leaves_served opening opened order left_telling right_telling left_time right_time serves how how_is l r start
        told_l told_r only_l only_r is kept =
        let from = (serves l r start told_l told_r is).since.past a.0 b.0 a.1 b.1 in
        by_end served.end (from.0, from.1, (from.2, from.3)) how how_is where
          past : Past at (λ side. (at (on side left right)).moment) l r start [] store
          past =
              begins at may_stay l r start left right store told_l told_r kept
              (opening.left_leaves l r told_l told_r only_l) (opening.right_leaves r told_r only_r) left_telling
              right_telling opened order

          a : (held : List ℕ) × ((at store.left).seen ≡ Some held)
          a = value_of (at store.left).seen past.left_tells

          b : (held : List ℕ) × ((at store.right).seen ≡ Some held)
          b = value_of (at store.right).seen past.right_tells

          along : (fault : Fault) → LeavesPast at (since_origin (at store.left) (at store.right)) a.0 b.0 start
              (requests_of entries) fault served.left served.right
              → LeavesPast at (λ side. (at (on side left right)).moment) l r start
              (requests_of entries) fault served.left served.right
          along fault leaves =
              joins at may_stay (λ side. (at (on side left right)).moment) l r start
              (requests_of entries) fault store served.left served.right a.0 b.0
              past order a.1 b.1 left_time right_time (leaves_since a.0 b.0 start (requests_of entries) fault leaves)

          calm : LeftBy a.0 b.0 start NoFault → (h : Finish) → IsFaultAt h None NoFault → Finishes l r start h None
          calm from h so = record { fault = NoFault; fault_is = so; images = along NoFault from.0; rests = from.1 }

          by_end : (e : End) → (fault : Fault) × IsFaultOf (halt_of e) fault × LeftBy a.0 b.0 start fault → (h : Finish)
              → IsFinishOf e h → Finishes l r start h (halted_in e)
          by_end end.All from h (inl h_is) = subst (λ (h : Finish). Finishes l r start h None) (sym h_is)
              (calm (subst (LeftBy a.0 b.0 start) from.1 from.2) finish.All refl)
          by_end end.All from h (inr h_is) = subst (λ (h : Finish). Finishes l r start h None) (sym h_is)
              (calm (subst (LeftBy a.0 b.0 start) from.1 from.2) finish.WriteFault refl)
          by_end end.NoMemory from h h_is = subst (λ (h : Finish). Finishes l r start h None) (sym h_is)
              (calm (subst (LeftBy a.0 b.0 start) from.1 from.2) finish.NoMemory refl)
          by_end (end.DiskFault halt) from h h_is =
              let c : Command = from.1.0 in
              let at_c : LeftBy a.0 b.0 start (AtCommand c) = subst (LeftBy a.0 b.0 start) from.1.2 from.2 in
              let here : IsFaultAt finish.DiskFault (called halt.session halt.request) (AtCommand c) =
              subst (λ (q : Request). IsFaultAt finish.DiskFault (called halt.session q) (AtCommand c))
              (sym from.1.1) refl in
              subst (λ (h : Finish). Finishes l r start h (called halt.session halt.request)) (sym h_is)
              (record {
                fault = AtCommand c;
                fault_is = here;
                images = along (AtCommand c) at_c.0;
                rests = λ x y in_left in_right. ends_behind a.0 b.0 l r start (requests_of entries) c x y
                    (past.holds a.0 b.0 a.1 b.1) (at_c.1 x y in_left in_right);
              })

    -- the moments between the calls
    pub moments_served : LeavesOpening at left right store.left store.right → OpensOn at left right store
        → IsInOrder at store
        → (IsSome (at store.left).seen ↔ IsSome (at left).seen)
        → (IsSome (at store.right).seen ↔ IsSome (at right).seen)
        → GoesOn at store.left served.left → GoesOn at store.right served.right
        → (l r : List ℕ) (start : State) → (at left).seen ≡ Some l → (at right).seen ≡ Some r
        → StandsFor store.core start → Serves at start (at store.left) (at store.right) scripts served
        → HasMoments at left right l r start (requests_of entries ++ tried_of (halted_in served.end)) served.left
        served.right
    moments_served opening opened order left_telling right_telling left_time right_time l r start told_l told_r stands
        serves =
        let a = value_of (at store.left).seen (left_telling.1 (ap is_some told_l)) in
        let b = value_of (at store.right).seen (right_telling.1 (ap is_some told_r)) in
        let same = opened_holds at l r start left right store told_l told_r opened order stands a.0 b.0 a.1 b.1 in
        let from = serves.since.past a.0 b.0 a.1 b.1 in
        let between = serves.since.between a.0 b.0 a.1 b.1 in
        let first : ℕ × ℕ = ((at store.left).moment, (at store.right).moment) in
        let Along : List Command → List Request → Type 0 = λ held requests.
        AreKeptAlong at served.left served.right start held requests first between.0 in
        record {
          opened = first;
          later = between.0;
          opening = λ only_l only_r kept.
              within_opening at left right store.left store.right served.left served.right (IsRecovered l r start)
              (opening.left_leaves l r told_l told_r only_l).goes_on (opening.right_leaves r told_r only_r).goes_on
              left_time right_time (opening.recovers l r start told_l told_r only_l only_r kept);
          each = subst (Along (commands_on l r)) (tried_is (requests_of entries) served.end from.0 from.1)
              (subst (λ (held : List Command). Along held (tried (requests_of entries) (halt_of served.end))) same
              between.1);
        }
