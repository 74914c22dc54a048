-- What serving an input comes to, by what was read, opened and served.
use Rattle.std.proofs.Common.{ℕ, zero, suc, ◌+◌, ◌<◌, ◌≤◌, ◌≡◌, inl, inr, ⊎_elim, List, [], ◌∷◌, map, length, false, true, Option, Some, None, is_some, Result, Ok, Err, refl, sym, ap, ap₂, ◌∙◌, subst, arith, ◌++◌}
use Rattle.std.specs.Prelude.{◌↔◌, ◌≢◌, All, Contains, IsSome, Vec, slice_index_or}
use Rattle.std.specs.List.{AllByRecursion}
use Rattle.std.specs.Global.{Global}
use Rattle.liq_outside.specs.At.{DiskAt, SinkAt}
use Rattle.liq_outside.specs.Disk.{GoesOn, LeftNow}
use Rattle.liq_outside.proofs.Moments.{joined, started}
use Rattle.liq_types.specs.declared.amounts.TheConstants.{LINES_MOST}
use Rattle.liq_types.specs.declared.requests.Command.{Command}
use Rattle.liq_types.specs.declared.requests.Request.{Request}
use Rattle.liq_types.specs.declared.requests.Request.TheVariants.{Do, Ask}
use Rattle.liq_types.specs.State.{State}
use Rattle.liq_core.specs.Core.{StandsFor}
use Rattle.liq_types.specs.declared.entries.Entry.{Entry}
use Rattle.liq_types.proofs.Tests.{value_of}
use Rattle.liq_rule_step.specs.History.{state_after}
use Rattle.liq_rule_step.specs.History as histories
use Rattle.liq_rule_step.specs.Memory.{IsAccepted}
use Rattle.liq_rule_step.proofs.Histories.{legal-empty}
use Rattle.liq_journal.specs.declared.damage.Damage.{Damage}
use Rattle.liq_journal.specs.Opened.{OpenLeaves}
use Rattle.liq_disk_pair.specs.declared.side.Side.{Side}
use Rattle.liq_disk_pair.specs.Kept.{IsKept}
use Rattle.liq_disk_pair.specs.Pair.{commands_on, state_on}
use Rattle.liq_disk_pair.specs.Past.{Fault, KeptAtEnd, NoFault}
use Rattle.liq_disk_pair.specs.Unfinished.{LeftLeaves}
use Rattle.liq_disk_pair.proofs.Standings.{state_none}
use Rattle.liq_store.specs.declared.answers.StoreWhy.{StoreWhy}
use Rattle.liq_store.specs.declared.answers.StoreWhy.TheVariants as why
use Rattle.liq_store.specs.Causes.{Faults, counts_of}
use Rattle.liq_store.specs.Keeping.{IsAtRest, IsInOrder}
use Rattle.liq_store.specs.Opening.{IsNotOpened, OnlyOpens, OpensOn}
use Rattle.liq_store.specs.Standing.{OnlyShuts}
use Rattle.liq_store.specs.Stored.{Stored}
use Rattle.liq_store.proofs.Past.{opened_holds}
use Rattle.liq_store.proofs.Recovered.{opens_commands, still_kept}
use Rattle.liq_sessions.specs.declared.script.Script.{Script}
use Rattle.liq_text_lines.specs.Lines.{lines_in}
use Rattle.liq_text_lines.specs.declared.stops.Stop.{Stop}
use Rattle.liq_text_lines.specs.declared.stops.Stop.TheVariants as stop
use Rattle.liq_text_scripts.specs.declared.scripts.TheConstants.{SESSIONS}
use Rattle.liq_text_scripts.specs.BySession.{requests_of, script_of, scripts_of}
use Rattle.liq_text_scripts.specs.Gathering.{EndsAfter, Gathers}
use Rattle.liq_text_scripts.specs.Sessions.{sessions}
use Rattle.liq_book.specs.declared.items.Halt.{Halt}
use Rattle.liq_book.specs.Booked.{CausesHalt}
use Rattle.liq_book.specs.Origin.{GoesOnFrom}
use Rattle.liq_book.specs.Past.{IsFaultOf}
use Rattle.liq_word_serve.specs.Answered.{AreServedFrom, IsNextOf, IsServedFrom, IsServedWhole, LacksMemory}
use Rattle.liq_word_serve.specs.declared.input.Finish.{Finish}
use Rattle.liq_word_serve.specs.declared.input.Finish.TheVariants as finish
use Rattle.liq_word_serve.specs.declared.input.Finished.{Finished}
use Rattle.liq_word_serve.specs.declared.served.End.{End}
use Rattle.liq_word_serve.specs.declared.served.End.TheVariants as end
use Rattle.liq_word_serve.specs.declared.served.Served.{Served}
use Rattle.liq_word_serve.specs.Ends.{halt_of}
use Rattle.liq_word_serve.specs.Input.{Answers, AreAtRest, DiskCause, EndsDamaged, HoldsAfter, IsFinishOf, LeavesDamaged, ServesInput, StayFor, Written, reading_of}
use Rattle.liq_word_serve.specs.Serves.{AreNumbered, LeavesDisks, Serves}
use Rattle.liq_book.specs.Moments.{HasMoments}
use Rattle.liq_word_serve.proofs.Stops.{LeavesAt, LeavesOpening, called, ended_behind, ends_behind, halted_in, leaves_served, leaves_unopened, leaves_unread, moments_served, moments_unopened, moments_unread, none_tried, tried_failed}
use Rattle.liq_word_serve.proofs.Told.{all_from, all_to, all_unmap}

-- ---- the scripts of what was asked

by_session : (P : Script → Type 0) (asked : List (ℕ × Request)) (scripts : List Script) → scripts ≡ scripts_of asked
    → All P scripts → All (λ session. P (script_of asked session)) sessions
by_session P asked scripts are all =
    all_to (λ session. P (script_of asked session)) sessions (all_unmap P (script_of asked) sessions
    (all_from P (scripts_of asked) (subst (All P) are all)))

mapped : {X Y : Type 0} (f : X → Y) (xs : List X) (k : ℕ) (y : Y) → k < length (map f xs)
    → slice_index_or (map f xs) k y ≡ y → (x : X) × (y ≡ f x)
mapped f [] k y within is = absurd (omega arith)
mapped f (x ∷ xs) zero y within is = (x, sym is)
mapped f (x ∷ xs) (suc k) y within is = mapped f xs k y (omega arith) is

-- the next request of a script is that of its session
next_asked : (asked : List (ℕ × Request)) (scripts : List Script) (entries : List Entry) (request : Request)
    (script : Script) (session : ℕ) → scripts ≡ scripts_of asked
    → Contains scripts script → script.session ≡ session → IsNextOf entries request script
    → IsNextOf entries request (script_of asked session)
next_asked asked scripts entries request script session are there whose next =
    let found : Contains (scripts_of asked) script = subst (λ (list : List Script). Contains list script) are there in
    let of_one = mapped (script_of asked) sessions found.0 script found.1 found.2 in
    let same : of_one.0 ≡ session = ap (λ (s : Script). s.session) (sym of_one.1) ∙ whose in
    subst (λ n. IsNextOf entries request (script_of asked n)) same (subst (IsNextOf entries request) of_one.1 next)

-- numbers that go up one by one
abbrev GoUp : ℕ → List ℕ → Type 0
GoUp first [] = Unit {0}
GoUp first (n ∷ list) = (n ≡ first) × GoUp (suc first) list

numbered_at : (asked : List (ℕ × Request)) (list : List ℕ) (first : ℕ) → GoUp first list → (k : ℕ) (d : Script)
    → k < length (map (script_of asked) list)
    → (slice_index_or (map (script_of asked) list) k d).session ≡ k + first
numbered_at asked [] first up k d within = absurd (omega arith)
numbered_at asked (n ∷ list) first up zero d within = omega (arith, up.0)
numbered_at asked (n ∷ list) first up (suc k) d within =
    omega (arith, numbered_at asked list (suc first) up.1 k d (omega arith))

pub are_numbered : (asked : List (ℕ × Request)) (scripts : List Script) → scripts ≡ scripts_of asked
    → AreNumbered scripts
are_numbered asked scripts are = subst AreNumbered (sym are) (numbered_at asked sessions 1 (
  refl,
  (refl, (refl, (refl, (refl, (refl, (refl, (refl, tt))))))),
))

pub are_eight : (asked : List (ℕ × Request)) (scripts : List Script) → scripts ≡ scripts_of asked → length scripts ≡ 8
are_eight asked scripts are = ap length are

-- the session of a script is one of the eight
in_range : (asked : List (ℕ × Request)) (scripts : List Script) (script : Script) (session : ℕ)
    → scripts ≡ scripts_of asked → Contains scripts script → script.session ≡ session → (1 ≤ session)
    × (session ≤ SESSIONS)
in_range asked scripts script session are there whose =
    let at : session ≡ there.0 + 1 = sym whose ∙ ap (λ (s : Script). s.session) (sym there.2)
    ∙ are_numbered asked scripts are there.0 script there.1 in
    (omega (arith, at), omega (arith, at, there.1, are_eight asked scripts are))

-- ---- by the finish

by_finish : (P : Finish → Type 0) (e : End) (how : Finish) → IsFinishOf e how
    → (e ≡ end.All → P finish.All × P finish.WriteFault) → (e ≡ end.NoMemory → P finish.NoMemory)
    → ((halt : Halt) → e ≡ end.DiskFault halt → P finish.DiskFault) → P how
by_finish P end.All how (inl is) all memory fault = subst P (sym is) (all refl).0
by_finish P end.All how (inr is) all memory fault = subst P (sym is) (all refl).1
by_finish P end.NoMemory how is all memory fault = subst P (sym is) (memory refl)
by_finish P (end.DiskFault halt) how is all memory fault = subst P (sym is) (fault halt refl)

-- all was read
pub reads_whole : (e : End) (how : Finish) → IsFinishOf e how → reading_of how ≡ Ok tt
reads_whole e how how_is = by_finish (λ (h : Finish). reading_of h ≡ Ok tt) e how how_is (λ is. (refl, refl))
    (λ is. refl) (λ halt is. refl)

-- ---- nothing was answered

nothing_front : (asked : List (ℕ × Request)) → AreServedFrom asked []
nothing_front asked = all_to (λ session. IsServedFrom [] (script_of asked session)) sessions (each sessions) where
  each : (list : List ℕ) → AllByRecursion (λ session. IsServedFrom [] (script_of asked session)) list
  each [] = tt
  each (session ∷ list) = ((requests_of asked session, refl), each list)

module _ {D : Type 0} (disk_at : D → DiskAt) (left right : D) where
  same_state : (l r a b : List ℕ)
      → (disk_at left).seen ≡ Some l → (disk_at right).seen ≡ Some r
      → (disk_at left).seen ≡ Some a → (disk_at right).seen ≡ Some b → state_on a b ≡ state_on l r
  same_state l r a b told_l told_r told_a told_b =
      let left_is : a ≡ l = cc in
      let right_is : b ≡ r = cc in
      ap₂ state_on left_is right_is

  -- disks that nobody touched
  untouched : (l r : List ℕ) (start : State)
      → (disk_at left).seen ≡ Some l → (disk_at right).seen ≡ Some r → state_on l r ≡ Ok start
      → StayFor disk_at l r start left right
  untouched l r start told_l told_r is a b told_a told_b =
      let left_is : a ≡ l = cc in
      let right_is : b ≡ r = cc in (
        ap₂ state_on left_is right_is ∙ is,
        ap₂ commands_on left_is right_is,
        λ kept.
            subst (λ (x : List ℕ). IsKept x b start) (sym left_is)
            (subst (λ (x : List ℕ). IsKept l x start) (sym right_is) kept),
      )

module _ {K D : Type 0} (sink_at : K → SinkAt) (disk_at : D → DiskAt)
    (may_stay : (disk : D) (bytes : List ℕ) → (disk_at disk).seen ≡ Some bytes → LeftNow disk_at disk bytes) where
  -- nothing was answered or written
  serves_none : (before unread : Option (List ℕ)) (out : K) (left right : D) (finished : Finished D)
      (asked : List (ℕ × Request)) → length asked ≤ LINES_MOST
      → ((bytes : List ℕ) → before ≡ Some bytes → EndsAfter (reading_of finished.finish) bytes unread asked)
      → Answers finished.finish None asked [] → Written sink_at finished.finish [] out out
      → ((l r : List ℕ) (start : State)
      → (disk_at left).seen ≡ Some l → (disk_at right).seen ≡ Some r → state_on l r ≡ Ok start
      → HoldsAfter disk_at finished.finish None [] l r start finished.left finished.right)
      → ((l r : List ℕ) (side : Side) (damage : Damage)
      → (disk_at left).seen ≡ Some l → (disk_at right).seen ≡ Some r → state_on l r ≡ Err (side, damage)
      → LeavesDamaged disk_at left right l r side damage finished.finish finished.left finished.right)
      → LeavesAt disk_at left right finished.finish None [] finished.left finished.right
      → ((l r : List ℕ) (start : State) → (disk_at left).seen ≡ Some l → (disk_at right).seen ≡ Some r
      → HasMoments disk_at left right l r start [] finished.left finished.right)
      → ServesInput sink_at disk_at before unread out out left right finished
  serves_none before unread out left right finished asked few read answers written disks damaged past moments = record {
    asked = asked;
    history = [];
    answered = record {
      few = few;
      read = read;
      fronts = nothing_front asked;
      sessions = λ k d within. absurd (omega arith);
      halted = None;
      answers = answers;
      legal = λ l r start told_l told_r is. legal-empty start;
      disks = disks;
      past = past;
      moments = λ l r start told_l told_r is fault at.
          subst (λ (rs : List Request). HasMoments disk_at left right l r start rs finished.left finished.right)
          (none_tried finished.finish fault at) (moments l r start told_l told_r);
      damaged = damaged;
    };
    written = written;
  }

  -- the input was not read to its end
  pub serves_unread : (before unread : Option (List ℕ)) (out : K) (left right : D) (why_not : Stop)
      → Gathers (Err why_not) before unread
      → ServesInput sink_at disk_at before unread out out left right
      (record { left = left; right = right; finish = finish.NotRead why_not })
  serves_unread before unread out left right why_not gathers =
      serves_none before unread out left right
      (record { left = left; right = right; finish = finish.NotRead why_not })
      gathers.asked gathers.few gathers.read refl refl
      (λ l r start told_l told_r is. untouched disk_at left right l r start told_l told_r is)
      (λ l r side damage told_l told_r is. record {
        ends = λ a b told_a told_b. same_state disk_at left right l r a b told_l told_r told_a told_b ∙ is;
        left_leaves = λ only. started disk_at left (LeftLeaves l r) (λ image there. inl (inl (only image there)));
        right_leaves = λ only. started disk_at right (OpenLeaves false r) (λ image there. inl (only image there));
        shut = λ other a b told_a told_b. (inl (cc (sym told_a ∙ told_l)), inl (cc (sym told_b ∙ told_r)));
      })
      (leaves_unread disk_at may_stay left right why_not)
      (λ l r start told_l told_r. moments_unread disk_at may_stay left right l r start)

  -- there was no memory for the output, and nothing was read
  pub serves_nothing : (before : Option (List ℕ)) (out : K) (left right : D)
      → ServesInput sink_at disk_at before before out out left right
      (record { left = left; right = right; finish = finish.NotRead stop.NoMemory })
  serves_nothing before out left right = serves_unread before before out left right stop.NoMemory (record {
    asked = [];
    few = omega arith;
    scripts = tt;
    read = λ bytes told. (lines_in bytes, ([], tt, refl));
  })

-- an opening that met no disk's fault only opened
abbrev pub OnlyOpened : {D : Type 0} → (D → DiskAt) → D → D → StoreWhy → D → D → Type 0
OnlyOpened disk_at left right why_not now_left now_right = why_not ≢ why.DiskFault → (l r a b : List ℕ)
    → (disk_at left).seen ≡ Some l → (disk_at right).seen ≡ Some r
    → (disk_at now_left).seen ≡ Some a → (disk_at now_right).seen ≡ Some b → OnlyOpens l r a b

damaged_shuts : (l r a b : List ℕ) (first : Side × Damage) → OnlyOpens l r a b → state_on l r ≡ Err first
    → OnlyShuts true l a × OnlyShuts false r b
damaged_shuts l r a b first (right, inl left) is = (left, right)
damaged_shuts l r a b first (right, inr created) is = absurd (cc (state_none l r created.0 created.1, is))

module _ {D : Type 0} (disk_at : D → DiskAt) (left right : D) where
  unopened_holds : (why_not : StoreWhy) (now_left now_right : D)
      → IsNotOpened disk_at left right (record { left = now_left; right = now_right; why = why_not })
      → OnlyOpened disk_at left right why_not now_left now_right → (l r : List ℕ) (start : State)
      → (disk_at left).seen ≡ Some l → (disk_at right).seen ≡ Some r → state_on l r ≡ Ok start
      → HoldsAfter disk_at (finish.NotOpened why_not) None [] l r start now_left now_right
  unopened_holds why.DiskFault now_left now_right unopened opens l r start told_l told_r is =
      λ kept a b told_a told_b. unopened.reads l r a b start told_l told_r kept told_a told_b
  unopened_holds (why.Damaged side damage) now_left now_right unopened opens l r start told_l told_r is =
      cc (unopened.is_why l r told_l told_r, is)
  unopened_holds why.NoMemory now_left now_right unopened opens l r start told_l told_r is = λ a b told_a told_b.
      let stands : state_on a b ≡ Ok start = unopened.stays (λ e. cc) l r a b told_l told_r told_a told_b ∙ is in (
        stands,
        opens_commands l r a b (opens (λ e. cc) l r a b told_l told_r told_a told_b),
        λ kept. (still_kept l r a b start stands (unopened.reads l r a b start told_l told_r kept told_a told_b)).kept,
      )

  unopened_damaged : (why_not : StoreWhy) (now_left now_right : D)
      → IsNotOpened disk_at left right (record { left = now_left; right = now_right; why = why_not })
      → (l r : List ℕ) (side : Side) (damage : Damage)
      → (disk_at left).seen ≡ Some l → (disk_at right).seen ≡ Some r → state_on l r ≡ Err (side, damage)
      → EndsDamaged disk_at (finish.NotOpened why_not) side damage now_left now_right
  unopened_damaged why.DiskFault now_left now_right unopened l r side damage told_l told_r is = tt
  unopened_damaged (why.Damaged which found) now_left now_right unopened l r side damage told_l told_r is =
      let told = unopened.is_why l r told_l told_r in
      let same : ◌≡◌ {A = Side × Damage} (which, found) (side, damage) = cc (told, is) in (
        ap (λ (p : Side × Damage). p.0) same,
        ap (λ (p : Side × Damage). p.1) same,
        λ a b told_a told_b. unopened.stays (λ e. cc) l r a b told_l told_r told_a told_b ∙ is,
      )
  unopened_damaged why.NoMemory now_left now_right unopened l r side damage told_l told_r is =
      λ a b told_a told_b. unopened.stays (λ e. cc) l r a b told_l told_r told_a told_b ∙ is

module _ {K D : Type 0} (sink_at : K → SinkAt) (disk_at : D → DiskAt)
    (may_stay : (disk : D) (bytes : List ℕ) → (disk_at disk).seen ≡ Some bytes → LeftNow disk_at disk bytes)
    (before unread : Option (List ℕ)) (out : K) (left right : D) where
  -- all was read, and no store was opened
  pub serves_unopened : (scripts : Vec Script Global) (why_not : StoreWhy) (now_left now_right : D)
      → Gathers (Ok scripts) before unread
      → IsNotOpened disk_at left right (record { left = now_left; right = now_right; why = why_not })
      → LeavesOpening disk_at left right now_left now_right
      → GoesOn disk_at left now_left → GoesOn disk_at right now_right
      → (why_not ≢ why.DiskFault → IsAtRest disk_at now_left × IsAtRest disk_at now_right)
      → OnlyOpened disk_at left right why_not now_left now_right
      → ServesInput sink_at disk_at before unread out out left right
      (record { left = now_left; right = now_right; finish = finish.NotOpened why_not })
  serves_unopened scripts why_not now_left now_right gathers unopened opening left_time right_time rest opens =
      serves_none sink_at disk_at may_stay before unread out left right
      (record { left = now_left; right = now_right; finish = finish.NotOpened why_not })
      gathers.asked gathers.few gathers.read refl refl
      (unopened_holds disk_at left right why_not now_left now_right unopened opens)
      (λ l r side damage told_l told_r is. record {
        ends = unopened_damaged disk_at left right why_not now_left now_right unopened l r side damage told_l told_r is;
        left_leaves = opening.left_leaves l r told_l told_r;
        right_leaves = opening.right_leaves r told_r;
        shut = λ other a b told_a told_b. damaged_shuts l r a b (side, damage)
            (opens (λ is_why. other (ap finish.NotOpened is_why)) l r a b told_l told_r told_a told_b) is;
      })
      (leaves_unopened disk_at may_stay left right why_not now_left now_right opening left_time right_time rest)
      (moments_unopened disk_at may_stay left right now_left now_right opening)

-- ---- the sessions were served

module _ {D : Type 0} (disk_at : D → DiskAt) where
  time_since : (old new : D) → GoesOnFrom (disk_at old) (disk_at new) → GoesOn disk_at old new
  time_since old new from = record { later = from.later; past = from.past; kept = from.kept }

  module _ (first opened last : D) (since : GoesOnFrom (disk_at opened) (disk_at last)) where
    -- time went on, in the opening and since
    pub time_by : GoesOn disk_at first opened → GoesOn disk_at first last
    time_by opening = joined disk_at first opened last opening (time_since opened last since)

    -- a disk that told its bytes tells them, through the opening and since
    pub telling_by : IsSome (disk_at opened).seen ↔ IsSome (disk_at first).seen
        → IsSome (disk_at last).seen ↔ IsSome (disk_at first).seen
    telling_by opening = (λ now. opening.0 (since.telling.0 now), λ then. since.telling.1 (opening.1 then))

module _ {D : Type 0} (disk_at : D → DiskAt) (store : Stored D) (scripts : List Script) (served : Served D) where
  abbrev ServesAt : State → Type 0
  ServesAt s = Serves disk_at s (disk_at store.left) (disk_at store.right) scripts served

  abbrev entries : List Entry
  entries = served.history

  -- what both disks tell at the end of the run that began with these bytes
  abbrev EndsAt : End → List ℕ → List ℕ → State → Type 0
  EndsAt e l r start =
      (fault : Fault) × IsFaultOf (halt_of e) fault
      × ((a b : List ℕ) → (disk_at served.left).seen ≡ Some a → (disk_at served.right).seen ≡ Some b
      → KeptAtEnd l r start (histories.requests_of entries) fault a b)

  abbrev HoldsAt : Finish → End → List ℕ → List ℕ → State → Type 0
  HoldsAt how e l r start = HoldsAfter disk_at how (halted_in e) entries l r start served.left served.right

  -- behind the bytes that stood there before the opening
  ends_by : (left right : D) (l r : List ℕ) (start : State) → ServesAt start → (disk_at left).seen ≡ Some l
      → (disk_at right).seen ≡ Some r → OpensOn disk_at left right store → IsInOrder disk_at store
      → StandsFor store.core start
      → (IsSome (disk_at store.left).seen ↔ IsSome (disk_at left).seen)
      → (IsSome (disk_at store.right).seen ↔ IsSome (disk_at right).seen) → EndsAt served.end l r start
  ends_by left right l r start serves told_l told_r opened order stands left_telling right_telling =
      let a = value_of (disk_at store.left).seen (left_telling.1 (ap is_some told_l)) in
      let b = value_of (disk_at store.right).seen (right_telling.1 (ap is_some told_r)) in
      let same = opened_holds disk_at l r start left right store told_l told_r opened order stands a.0 b.0 a.1 b.1 in
      let from = serves.since.past a.0 b.0 a.1 b.1 in (
        from.0,
        from.1,
        λ x y told_x told_y. by (halt_of served.end) from.0 from.1 a.0 b.0 same x y (from.4 x y told_x told_y),
      )
    where
      by : (halt : Option Halt) (fault : Fault) → IsFaultOf halt fault → (m n : List ℕ)
          → commands_on m n ≡ commands_on l r → (x y : List ℕ)
          → KeptAtEnd m n start (histories.requests_of entries) fault x y
          → KeptAtEnd l r start (histories.requests_of entries) fault x y
      by None fault is m n same x y kept =
          subst (λ (f : Fault). KeptAtEnd l r start (histories.requests_of entries) f x y) (sym is)
          (ended_behind m n l r start (histories.requests_of entries) x y same
          (subst (λ (f : Fault). KeptAtEnd m n start (histories.requests_of entries) f x y) is kept))
      by (Some halt) fault is m n same x y kept =
          subst (λ (f : Fault). KeptAtEnd l r start (histories.requests_of entries) f x y) (sym is.2)
          (ends_behind m n l r start (histories.requests_of entries) is.0 x y same
          (subst (λ (f : Fault). KeptAtEnd m n start (histories.requests_of entries) f x y) is.2 kept))

  disks_by : (start : State) → ServesAt start → (how : Finish) → IsFinishOf served.end how → (l r : List ℕ)
      → EndsAt served.end l r start → HoldsAt how served.end l r start
  disks_by start serves how how_is l r ends =
      by_finish (λ (h : Finish). HoldsAt h served.end l r start) served.end how how_is
      (λ is. let so = calm (rw is at ends) in (so, so))
      (λ is. calm (rw is at ends))
      (λ halt is. subst (λ (e : End). HoldsAt finish.DiskFault e l r start) (sym is)
      (fault halt (rw is at serves.disks) (rw is at ends))) where
        calm : (fault : Fault) × (fault ≡ NoFault)
            × ((a b : List ℕ) → (disk_at served.left).seen ≡ Some a → (disk_at served.right).seen ≡ Some b
            → KeptAtEnd l r start (histories.requests_of entries) fault a b)
            → (a b : List ℕ) → (disk_at served.left).seen ≡ Some a → (disk_at served.right).seen ≡ Some b
            → KeptAtEnd l r start (histories.requests_of entries) NoFault a b
        calm so a b told_a told_b = subst (λ (f : Fault). KeptAtEnd l r start (histories.requests_of entries) f a b) so.1
            (so.2 a b told_a told_b)

        fault : (halt : Halt)
            → LeavesDisks disk_at scripts entries (state_after start entries)
            (end.DiskFault halt) served.left served.right
            → EndsAt (end.DiskFault halt) l r start → HoldsAt finish.DiskFault (end.DiskFault halt) l r start
        fault halt left so =
            let c : Command = so.1.0 in
            subst (λ (q : Request). HoldsAfter disk_at finish.DiskFault (called halt.session q) entries l r start
            served.left served.right) (sym so.1.1) (
              subst (IsAccepted (state_after start entries)) so.1.1 left.1,
              λ a b told_a told_b. ⊎_elim (λ kept. inl kept) (λ more. inr more.1)
                  (subst (λ (f : Fault). KeptAtEnd l r start (histories.requests_of entries) f a b) so.1.2
                  (so.2 a b told_a told_b)),
            )

  -- where all was answered nothing is pending
  pub rests_by : (s : State) → ServesAt s → (how : Finish) → IsFinishOf served.end how
      → AreAtRest disk_at served.left served.right how
  rests_by s serves how how_is =
      by_finish (λ (h : Finish). AreAtRest disk_at served.left served.right h) served.end how how_is
      (λ is.
      let both = rw is at serves.disks in
      ((both.left_rests, both.right_rests), (both.left_rests, both.right_rests)))
      (λ is. tt) (λ halt is. tt)

  -- a count rose exactly where a call met a fault
  pub cause_by : (left right : D) (s : State) → ServesAt s → OpensOn disk_at left right store
      → (how : Finish) → IsFinishOf served.end how
      → DiskCause how (counts_of disk_at left right) (counts_of disk_at served.left served.right)
  cause_by left right s serves opened how how_is =
      by_finish (λ (h : Finish). DiskCause h (counts_of disk_at left right)
      (counts_of disk_at served.left served.right))
      served.end how how_is
      (λ is. let calm = rw is at cause in (calm, calm)) (λ is. rw is at cause) (λ halt is. rw is at cause) where
        cause :
            CausesHalt (halt_of served.end) (counts_of disk_at left right) (counts_of disk_at served.left served.right)
        cause =
            subst (λ (counts : Faults).
            CausesHalt (halt_of served.end) counts (counts_of disk_at served.left served.right))
            opened.counts serves.since.cause

  module _ (asked : List (ℕ × Request)) (are : scripts ≡ scripts_of asked) where
    answers_by : (s : State) → ServesAt s → (how : Finish) → IsFinishOf served.end how
        → Answers how (halted_in served.end) asked entries
    answers_by s serves how how_is =
        by_finish (λ (h : Finish). Answers h (halted_in served.end) asked entries) served.end how how_is
        (λ is. let whole = by_session (IsServedWhole entries) asked scripts are (serves.whole is) in (whole, whole))
        (λ is. subst (λ (list : List Script). LacksMemory list entries) are (serves.memory is))
        (λ halt is.
        let disks = rw is at serves.disks in
        let next = disks.0 in
        let range = in_range asked scripts next.0 halt.session are next.1 next.2 in
        subst (λ (e : End). Answers finish.DiskFault (halted_in e) asked entries) (sym is)
        (by halt.session halt.request disks.1 range.0 range.1
        (next_asked asked scripts entries halt.request next.0 halt.session are next.1 next.2 next.3))) where
          by : (session : ℕ) (request : Request)
              → IsAccepted (state_after s entries) request → 1 ≤ session → session ≤ SESSIONS
              → IsNextOf entries request (script_of asked session)
              → Answers finish.DiskFault (called session request) asked entries
          by session (Do c) accepted least most next = (least, most, next)
          by session (Ask query) accepted least most next = absurd accepted

    module _ {K : Type 0} (sink_at : K → SinkAt) (before unread : Option (List ℕ)) (out out_now : K)
        (left right : D) where
      pub serves_input :
          length asked ≤ LINES_MOST
          → ((bytes : List ℕ) → before ≡ Some bytes → EndsAfter {T = Unit {0}} (Ok tt) bytes unread asked)
          → OpensOn disk_at left right store
          → (base : State) → ServesAt base → ((s : State) → StandsFor store.core s → ServesAt s)
          → (may_stay : (disk : D) (bytes : List ℕ) → (disk_at disk).seen ≡ Some bytes → LeftNow disk_at disk bytes)
          → LeavesOpening disk_at left right store.left store.right → IsInOrder disk_at store
          → (IsSome (disk_at store.left).seen ↔ IsSome (disk_at left).seen)
          → (IsSome (disk_at store.right).seen ↔ IsSome (disk_at right).seen)
          → (how : Finish) → IsFinishOf served.end how → Written sink_at how served.history out out_now
          → ServesInput sink_at disk_at before unread out out_now left right
          (record { left = served.left; right = served.right; finish = how })
      serves_input few read opened base serves serves_at may_stay opening order left_telling right_telling how how_is
          written =
          record {
            asked = asked;
            history = served.history;
            answered = record {
              few = few;
              read = λ bytes told.
                  subst (λ (r : Result (Unit {0}) Stop). EndsAfter r bytes unread asked)
                  (sym (reads_whole served.end how how_is)) (read bytes told);
              fronts = by_session (IsServedFrom served.history) asked scripts are serves.fronts;
              sessions = λ k d within.
                  let range = serves.sessions k d within in (range.0, omega (arith, range.1, ap length are));
              halted = halted_in served.end;
              answers = answers_by base serves how how_is;
              legal = λ l r start told_l told_r is. (serves_at start (stands_at l r start told_l told_r is)).legal;
              disks = λ l r start told_l told_r is.
                  let stands = stands_at l r start told_l told_r is in
                  disks_by start (serves_at start stands) how how_is l r
                  (ends_by left right l r start (serves_at start stands) told_l told_r opened order stands left_telling
                  right_telling);
              past =
                  leaves_served disk_at may_stay left right store scripts served opening opened order
                  left_telling right_telling
                  (time_since disk_at store.left served.left serves.since.left_time)
                  (time_since disk_at store.right served.right serves.since.right_time)
                  (λ l r start told_l told_r is. serves_at start (stands_at l r start told_l told_r is)) how how_is;
              moments = λ l r start told_l told_r is fault at.
                  let stands = stands_at l r start told_l told_r is in
                  subst (λ (rs : List Request). HasMoments disk_at left right l r start
                  (histories.requests_of entries ++ rs) served.left served.right)
                  (tried_failed served.end how how_is fault at)
                  (moments_served disk_at may_stay left right store scripts served opening opened order
                  left_telling right_telling
                  (time_since disk_at store.left served.left serves.since.left_time)
                  (time_since disk_at store.right served.right serves.since.right_time)
                  l r start told_l told_r stands (serves_at start stands));
              damaged = λ l r side damage told_l told_r is. absurd (cc ((opened.state l r told_l told_r).1, is));
            };
            written = written;
          } where
            stands_at : (l r : List ℕ) (start : State)
                → (disk_at left).seen ≡ Some l → (disk_at right).seen ≡ Some r → state_on l r ≡ Ok start
                → StandsFor store.core start
            stands_at l r start told_l told_r is =
                let found = opened.state l r told_l told_r in
                let same : found.0 ≡ start = cc (found.1, is) in
                subst (λ (s : State). StandsFor store.core s) same found.2
