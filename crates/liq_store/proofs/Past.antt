-- A store in the midst of a run: how that begins, goes on and ends, by what a call says of both disks.
use Rattle.std.proofs.Common.{◌≡◌, ◌⊎◌, ◌↔◌, inl, inr, ⊎_elim, ℕ, ◌+◌, ◌≤◌, List, [], ◌∷◌, ◌++◌, fold, Ok, Option, Some, None, IfSome, IsSome, is_some, Bool, true, false, ◌&&◌, if◌then◌else◌, refl, sym, ◌∙◌, ap, ap₂, subst, arith}
use Rattle.std.specs.Prelude.{count_by}
use Rattle.std.proofs.lemmas.List.{append-nil}
use Rattle.liq_outside.specs.At.{DiskAt}
use Rattle.liq_outside.specs.Disk.{GoesOn, LeavesOnly, LeftNow, LeftSince, Only}
use Rattle.liq_outside.proofs.Moments.{law}
use Rattle.liq_types.specs.declared.events.ListChange.{ListChange}
use Rattle.liq_types.specs.declared.image.Image.{Image}
use Rattle.liq_types.specs.declared.replies.Answer.{Answer}
use Rattle.liq_types.specs.declared.replies.Answer.TheVariants as answer
use Rattle.liq_types.specs.declared.replies.Reply.{Reply}
use Rattle.liq_types.specs.declared.requests.Command.{Command}
use Rattle.liq_types.specs.declared.requests.Request.{Request}
use Rattle.liq_types.specs.declared.requests.Request.TheVariants.{Do, Ask}
use Rattle.liq_types.specs.State.{State}
use Rattle.liq_core.specs.Core.{StandsFor}
use Rattle.liq_rule_step.specs.Step.{Allowed, Refused, Repeated, Ruling, accepted, after, is_allowed, newly_accepted, ruling, run, step}
use Rattle.liq_rule_step.specs.Image.{image}
use Rattle.liq_rule_step.proofs.AlikeReads.{Alike}
use Rattle.liq_rule_step.proofs.AlikeReplies.{accepted_alike}
use Rattle.liq_rule_step.proofs.Runs.{run_state}
use Rattle.liq_journal.specs.Crash.{BeforeOrAfter, CreateLeaves, is_odd}
use Rattle.liq_journal.specs.Opened.{OpenLeaves}
use Rattle.liq_types.specs.Verbs.{is_rotate}
use Rattle.liq_journal.specs.Written.{Absent, Open, Written, found_on}
use Rattle.liq_disk_pair.specs.declared.side.Side.{Side}
use Rattle.liq_disk_pair.specs.declared.side.Side.TheVariants.{Left, Right}
use Rattle.liq_disk_pair.specs.Commands.{kept_behind, read_back}
use Rattle.liq_disk_pair.specs.Kept.{IsKept, IsKeptWith, IsSettledFor}
use Rattle.liq_disk_pair.specs.Past.{AtCommand, Fault, IsAsItStood, IsOfRun, IsTakenFirst, KeptAtEnd, LeavesPast, NoFault, failed_commands, held_at_end, rotations}
use Rattle.liq_disk_pair.specs.Pair.{StandFor, commands_on, state_on}
use Rattle.liq_disk_pair.specs.Sides.{beside, has_odd, on, other}
use Rattle.liq_disk_pair.specs.Unfinished.{LeftLeaves}
use Rattle.liq_disk_pair.proofs.Alone.{IsOpenFor, first_parity, isnt_absent, later_leads, of_append, of_creation, open_alone, open_with, settled_first, settled_holds_none, settled_open}
use Rattle.liq_disk_pair.proofs.Behind.{held_longer}
use Rattle.liq_disk_pair.proofs.KeptWith.{settled_commands}
use Rattle.liq_disk_pair.proofs.FirstPlace.{absent_isnt_open}
use Rattle.liq_disk_pair.proofs.Hints.{heard_after, heard_ruling}
use Rattle.liq_disk_pair.proofs.Keeping.{LeadsTo, leads_generation, none_alike, settled_kept, settled_leads, settled_parity}
use Rattle.liq_disk_pair.proofs.Past.{generation_counts, left_of, left_whole, of_alike, of_halted, of_longer, of_same, opening_of, opening_whole, opening_with, prefix_whole, rotations_failed, rotations_halted, rotations_longer, rotations_more, run_folds}
use Rattle.liq_disk_pair.proofs.Standings.{pair_ends}
use Rattle.liq_store.specs.Answering.{Answers}
use Rattle.liq_store.specs.Calling.{WritesOn}
use Rattle.liq_store.specs.Keeping.{IsAtRest, IsGoing, IsInOrder, IsKeptAround, LeavesPairs}
use Rattle.liq_rule_step.specs.Memory.{IsAccepted}
use Rattle.liq_store.specs.Opening.{OpensOn}
use Rattle.liq_store.specs.Past.{Past}
use Rattle.liq_store.specs.Rotating.{is_rotation, rotation_of}
use Rattle.liq_store.specs.Stored.{Stored, disk_beside, taken_disk}
use Rattle.liq_store.proofs.Appending.{behind_newly, step_is_after}
use Rattle.liq_store.proofs.Going.{going_of, rest_now, rest_only}
use Rattle.liq_store.proofs.OneDisk.{some_same}
use Rattle.liq_store.proofs.Recovered.{accepted_changes}

-- ---- sides

told_of : (o : Option (List ℕ)) → IsSome o → (held : List ℕ) × (o ≡ Some held)
told_of None is = absurd (cc (is))
told_of (Some held) is = (held, refl)

sides_differ : (side : Side) → has_odd (other side) ≡ has_odd side → ⊥
sides_differ Left is = absurd (cc (is))
sides_differ Right is = absurd (cc (is))

one_side : (a b : Side) → has_odd a ≡ has_odd b → a ≡ b
one_side Left Left is = refl
one_side Right Right is = refl
one_side Left Right is = absurd (cc (is))
one_side Right Left is = absurd (cc (is))

other_twice : (side : Side) → other (other side) ≡ side
other_twice Left = refl
other_twice Right = refl

on_other : {D : Type 0} (side : Side) (x y : D) → on (other side) x y ≡ beside side x y
on_other Left x y = refl
on_other Right x y = refl

beside_other : {D : Type 0} (side : Side) (x y : D) → beside (other side) x y ≡ on side x y
beside_other Left x y = refl
beside_other Right x y = refl

and_false : (b : Bool) → (b && false) ≡ false
and_false true = refl
and_false false = refl

on_told : {D : Type 0} (at : D → DiskAt) (side : Side) (x y : D) (a b : List ℕ) → (at x).seen ≡ Some a
    → (at y).seen ≡ Some b → (at (on side x y)).seen ≡ Some (on side a b)
on_told at Left x y a b tx ty = tx
on_told at Right x y a b tx ty = ty

beside_told : {D : Type 0} (at : D → DiskAt) (side : Side) (x y : D) (a b : List ℕ) → (at x).seen ≡ Some a
    → (at y).seen ≡ Some b → (at (beside side x y)).seen ≡ Some (beside side a b)
beside_told at Left x y a b tx ty = ty
beside_told at Right x y a b tx ty = tx

module _ {D : Type 0} (at : D → DiskAt) where
  pair_by : (side : Side) (left right now_left now_right : D) (P : List ℕ → List ℕ → Type 0)
      → LeavesPairs at left right now_left now_right P → (x y : List ℕ)
      → LeftSince at (on side now_left now_right) (at (on side left right)).moment x
      → LeftSince at (beside side now_left now_right) (at (beside side left right)).moment y
      → P (on side x y) (on side y x)
  pair_by Left left right now_left now_right P leaves x y lx ly = leaves x y lx ly
  pair_by Right left right now_left now_right P leaves x y lx ly = leaves y x ly lx

-- an opening leaves the commands that lead to the state
pub opened_holds : {D : Type 0} (at : D → DiskAt) (l r : List ℕ) (s : State) (left right : D) (store : Stored D) → (at left).seen ≡ Some l
    → (at right).seen ≡ Some r → OpensOn at left right store → IsInOrder at store → StandsFor store.core s
    → (a b : List ℕ) → (at store.left).seen ≡ Some a → (at store.right).seen ≡ Some b
    → commands_on a b ≡ commands_on l r
opened_holds at l r s left right store told_left told_right opened order stands a b ta tb =
    let settled = (going_of at store opened.going order).settled a b ta tb s stands in
    let holds = opened.commands l r (on store.side a b) told_left told_right
    (on_told at store.side store.left store.right a b ta tb) in
    let both : Open settled.written ≡ Open holds.written = sym settled.open_on.found ∙ holds.found in
    let one : settled.written ≡ holds.written = cc (both) in
    settled_commands store.side a b s settled ∙ ap (λ (w : Written). w.commands) one ∙ holds.are

-- ---- what was accepted

-- a request that isn't accepted adds no command
none_ruled : (c : Command) (r : Ruling) → (r ≡ Allowed → ⊥) → (if is_allowed r then c ∷ [] else []) ≡ []
none_ruled c Allowed isnt = absurd (isnt refl)
none_ruled c (Refused refusal) isnt = refl
none_ruled c (Repeated kept) isnt = refl

none_newly : (s : State) (request : Request) → (IsAccepted s request → ⊥) → newly_accepted s request ≡ []
none_newly s (Do c) refused = none_ruled c (ruling s c) refused
none_newly s (Ask query) refused = refl

-- two states for which a pair stands have one image
one_image : (a b : List ℕ) (s t : State) → StandFor a b s → StandFor a b t → image s ≡ image t
one_image a b s t first second =
    let both : pair_ends first.state ≡ pair_ends second.state = sym first.is ∙ second.is in
    let same : first.state ≡ second.state = cc (both) in
    sym first.same.image ∙ ap image same ∙ second.same.image

-- ---- what a run leaves of one disk

-- the images of a run are images of one that goes on from there
record Grows (l r : List ℕ) (start : State) (requests later : List Request) (fault : Fault) : Type 0 where
  images :
      (side : Side) (image : List ℕ) → IsOfRun side l r start requests NoFault image
      → IsOfRun side l r start later fault image
  fewer : rotations start requests NoFault ≤ rotations start later fault

grows_more : (l r : List ℕ) (start : State) (requests more : List Request)
    → Grows l r start requests (requests ++ more) NoFault
grows_more l r start requests more = record {
  images = λ side image is. of_longer side l r start requests image more is;
  fewer = rotations_longer start requests more;
}

grows_halted : (l r : List ℕ) (start : State) (requests : List Request) (fault : Fault)
    → Grows l r start requests requests fault
grows_halted l r start requests fault = record {
  images = λ side image is. of_halted side l r start requests image fault is;
  fewer = rotations_halted start requests fault;
}

-- a run that an opening begins
grows_all : (l r : List ℕ) (start : State) (requests : List Request) (fault : Fault)
    → Grows l r start [] requests fault
grows_all l r start requests fault =
    let more = grows_more l r start [] requests in
    let halted = grows_halted l r start requests fault in
    record {
      images = λ side image is. halted.images side image (more.images side image is);
      fewer = let first = more.fewer in let second = halted.fewer in omega (arith, first, second);
    }

grows_same : (l r : List ℕ) (start : State) (requests others : List Request)
    → accepted start requests ≡ accepted start others → Grows l r start requests others NoFault
grows_same l r start requests others same = record {
  images = λ side image is. of_same side l r start requests image others NoFault same is;
  fewer =
      let equal : rotations start requests NoFault ≡ rotations start others NoFault =
      ap (λ (cs : List Command). count_by (λ (c : Command). is_rotate c.call) (cs ++ [])) same in
      omega (arith, equal);
}

module _ {D : Type 0} (at : D → DiskAt) (l r : List ℕ) (start : State) where
  record LeavesOne (side : Side) (from : ℕ) (requests : List Request) (fault : Fault) (disk : D) : Type 0 where
    images : (image : List ℕ) → LeftSince at disk from image → IsOfRun side l r start requests fault image
    whole :
        IsTakenFirst side l r → rotations start requests fault ≤ 1 → (image : List ℕ)
        → LeftSince at disk from image → found_on (has_odd side) image ≡ Absent → ⊥

  module _ (since : Side → ℕ) (requests : List Request) (fault : Fault) (left right : D) where
    abbrev Leaves : Type 0
    Leaves = LeavesPast at since l r start requests fault left right

    one_of : Leaves → (side : Side) → LeavesOne side (since side) requests fault (on side left right)
    one_of past side = record {
      images = λ image was. past.images side image was;
      whole = λ first few image was absent. past.whole side first few image was absent;
    }

    one_beside : Leaves → (side : Side)
        → LeavesOne (other side) (since (other side)) requests fault (beside side left right)
    one_beside past Left = one_of past Right
    one_beside past Right = one_of past Left

    all_of : ((side : Side) → LeavesOne side (since side) requests fault (on side left right)) → Leaves
    all_of all = record {
      images = λ side image was. (all side).images image was;
      whole = λ side first few image was absent. (all side).whole first few image was absent;
    }

    by_side : (taken : Side) → LeavesOne taken (since taken) requests fault (on taken left right)
        → LeavesOne (other taken) (since (other taken)) requests fault (beside taken left right) → Leaves
    by_side taken here there = all_of (both taken here there)
      where
        both : (taken : Side) → LeavesOne taken (since taken) requests fault (on taken left right)
            → LeavesOne (other taken) (since (other taken)) requests fault (beside taken left right)
            → (side : Side) → LeavesOne side (since side) requests fault (on side left right)
        both Left here there Left = here
        both Left here there Right = there
        both Right here there Left = there
        both Right here there Right = here

  grown : (side : Side) (from : ℕ) (requests later : List Request) (fault : Fault) (disk : D)
      → Grows l r start requests later fault → LeavesOne side from requests NoFault disk
      → LeavesOne side from later fault disk
  grown side from requests later fault disk grows one = record {
    images = λ image was. grows.images side image (one.images image was);
    whole = λ first few image was absent.
        let fewer = grows.fewer in one.whole first (omega (arith, fewer, few)) image was absent;
  }

  -- and of the calls after them
  goes : (side : Side) (from : ℕ) (requests : List Request) (fault : Fault) (old new : D)
      → GoesOn at old new → from ≤ (at old).moment → LeavesOne side from requests fault old
      → LeavesOne side (at old).moment requests fault new → LeavesOne side from requests fault new
  goes side from requests fault old new time le before done = record {
    images = λ image was. ⊎_elim
        (λ earlier. before.images image earlier)
        (λ later. done.images image later)
        (law at old new time from image le was);
    whole = λ first few image was absent. ⊎_elim
        (λ earlier. before.whole first few image earlier absent)
        (λ later. done.whole first few image later absent)
        (law at old new time from image le was);
  }

  -- ---- at an accepted command

  record Makes (requests later : List Request) (fault : Fault) (c : Command) : Type 0 where
    grows : Grows l r start requests later fault
    made :
        (side : Side) (image : List ℕ) → IsOpenFor side image (after (run start requests).0 c)
        → IsOfRun side l r start later fault image
    more : is_rotate c.call ≡ true → rotations start later fault ≡ rotations start requests NoFault + 1

  -- an accepted command that is answered
  makes_replied : (requests : List Request) (c : Command) → ruling (run start requests).0 c ≡ Allowed
      → Makes requests (requests ++ Do c ∷ []) NoFault c
  makes_replied requests c allowed =
      let later = requests ++ Do c ∷ [] in
      let s = (run start requests).0 in
      let ends : (run start later).0 ≡ after s c =
      run_state start requests (Do c ∷ []) ∙ step_is_after s c allowed in
      record {
        grows = grows_more l r start requests (Do c ∷ []);
        made = λ side image opens. inr (inr (inl (prefix_whole side start later image
            (subst (λ (t : State). IsOpenFor side image t) (sym ends) opens))));
        more = λ rotate. rotations_more start requests c rotate allowed;
      }

  -- at which a disk met a fault
  makes_failed : (requests : List Request) (c : Command) → ruling (run start requests).0 c ≡ Allowed
      → Makes requests requests (AtCommand c) c
  makes_failed requests c allowed = record {
    grows = grows_halted l r start requests (AtCommand c);
    made = λ side image opens. inr (inr (inr (inr
        (allowed, open_alone side image (after (run start requests).0 c) opens))));
    more = λ rotate. rotations_failed start requests c rotate;
  }

module _ {D : Type 0} (at : D → DiskAt)
    (stays : (disk : D) (held : List ℕ) → (at disk).seen ≡ Some held → LeftNow at disk held) where
  -- ---- what stays

  module _ (since : Side → ℕ) (l r : List ℕ) (start : State) (requests : List Request) (old new : Stored D)
      (past : Past at since l r start requests old) where
    module _ (later : List Request) (grows : Grows l r start requests later NoFault) (none : new.stopped ≡ None)
        (stands : StandsFor new.core (run start later).0) where
      grown_past : LeavesPast at since l r start later NoFault old.left old.right
      grown_past = all_of at l r start since later NoFault old.left old.right (λ side.
          grown at l r start side (since side) requests later NoFault (on side old.left old.right) grows
          (one_of at l r start since requests NoFault old.left old.right past.leaves side))

      -- where both disks are as they were, and no more commands were accepted
      still : held_at_end l r start later ≡ held_at_end l r start requests
          → new.left ≡ old.left → new.right ≡ old.right → new.side ≡ old.side
          → Past at since l r start later new
      still none_more same_left same_right same_side = record {
        kept = past.kept;
        going = none;
        stands = stands;
        left_tells = subst (λ (d : D). IsSome (at d).seen) (sym same_left) past.left_tells;
        right_tells = subst (λ (d : D). IsSome (at d).seen) (sym same_right) past.right_tells;
        later = λ side. subst (λ (d : D). since side ≤ (at d).moment) (sym (there side)) (past.later side);
        leaves = subst (λ (d : D). LeavesPast at since l r start later NoFault d new.right) (sym same_left)
            (subst (λ (d : D). LeavesPast at since l r start later NoFault old.left d) (sym same_right)
            grown_past);
        holds = λ a b ta tb. past.holds a b (ap (λ (d : D). (at d).seen) (sym same_left) ∙ ta)
            (ap (λ (d : D). (at d).seen) (sym same_right) ∙ tb) ∙ sym none_more;
        aside = λ held image told stood.
            subst (λ (side : Side). IsOfRun (other side) l r start later NoFault image) (sym same_side)
            (grows.images (other old.side) image (past.aside held image (ap (λ (d : D). (at d).seen) (sym aside_there)
            ∙ told) stood));
      }
        where
          there : (side : Side) → on side new.left new.right ≡ on side old.left old.right
          there Left = same_left
          there Right = same_right

          aside_there : disk_beside new ≡ disk_beside old
          aside_there = λ i. beside (same_side i) (same_left i) (same_right i)

  -- ---- a call that is accepted

  module _ (since : Side → ℕ) (l r : List ℕ) (start : State) (requests : List Request) (old new : Stored D)
      (past : Past at since l r start requests old) (order : IsInOrder at old)
    where
      abbrev now : State
      now = (run start requests).0

      going : IsGoing at old
      going = going_of at old past.going order

      left_held : (held : List ℕ) × ((at old.left).seen ≡ Some held)
      left_held = told_of (at old.left).seen past.left_tells

      right_held : (held : List ℕ) × ((at old.right).seen ≡ Some held)
      right_held = told_of (at old.right).seen past.right_tells

      abbrev taken_bytes : List ℕ
      taken_bytes = on old.side left_held.0 right_held.0

      abbrev beside_bytes : List ℕ
      beside_bytes = beside old.side left_held.0 right_held.0

      taken_told : (at (taken_disk old)).seen ≡ Some taken_bytes
      taken_told = on_told at old.side old.left old.right left_held.0 right_held.0 left_held.1 right_held.1

      aside_told : (at (disk_beside old)).seen ≡ Some beside_bytes
      aside_told = beside_told at old.side old.left old.right left_held.0 right_held.0 left_held.1 right_held.1

      settled : IsSettledFor old.side left_held.0 right_held.0 now
      settled = going.settled left_held.0 right_held.0 left_held.1 right_held.1 now past.stands

      leads_now : LeadsTo settled.written now
      leads_now = settled_leads old.side left_held.0 right_held.0 now settled

      open_now : IsOpenFor old.side taken_bytes now
      open_now = settled_open old.side left_held.0 right_held.0 now settled

      rotation_is : (c : Command) → ruling now c ≡ Allowed → (b : Bool) → is_rotate c.call ≡ b
          → is_rotation now (Do c) ≡ (b && true)
      rotation_is c allowed b is =
          ap (λ (x : Bool). x && is_allowed (ruling now c)) is ∙ ap (λ (x : Ruling). b && is_allowed x) allowed

      module _ (c : Command) (a : Answer) (allowed : ruling now c ≡ Allowed)
          (writes : WritesOn at old (Do c) a new) (later : List Request) (fault : Fault)
          (makes : Makes at l r start requests later fault c) where
        abbrev One : Side → ℕ → D → Type 0
        One side from disk = LeavesOne at l r start side from later fault disk

        before_taken : One old.side (since old.side) (taken_disk old)
        before_taken =
            grown at l r start old.side (since old.side) requests later fault (taken_disk old) makes.grows
            (one_of at l r start since requests NoFault old.left old.right past.leaves old.side)

        before_beside : One (other old.side) (since (other old.side)) (disk_beside old)
        before_beside =
            grown at l r start (other old.side) (since (other old.side)) requests later fault
            (disk_beside old)
            makes.grows
            (one_beside at l r start since requests NoFault old.left old.right past.leaves old.side)

        -- a record behind the taken disk's journal
        module _ (is : is_rotate c.call ≡ false) where
          append_leaves : LeavesOnly at (taken_disk old) (on old.side new.left new.right)
              (BeforeOrAfter (has_odd old.side) settled.written (read_back c))
          append_leaves = writes.written past.going taken_bytes settled.written c taken_told settled.open_on.found refl

          append_open : (image : List ℕ)
              → LeftSince at (on old.side new.left new.right) (at (taken_disk old)).moment image
              → IsOpenFor old.side image now ⊎ IsOpenFor old.side image (after now c)
          append_open image was = ⊎_elim
              (λ before. inl before)
              (λ done. inr (subst (λ (s : State). IsOpenFor old.side image s) (heard_after now c) done))
              (of_append old.side settled.written (read_back c) now image leads_now
              (heard_ruling now c ∙ allowed) (append_leaves.each image was))

          append_one : One old.side (at (taken_disk old)).moment (on old.side new.left new.right)
          append_one = record {
            images = λ image was. ⊎_elim
                (λ before. makes.grows.images old.side image
                (inr (inr (inl (prefix_whole old.side start requests image before)))))
                (λ done. makes.made old.side image done)
                (append_open image was);
            whole = λ first few image was absent. ⊎_elim
                (λ before. isnt_absent old.side image now before absent)
                (λ done. isnt_absent old.side image (after now c) done absent)
                (append_open image was);
          }

          appended : LeavesPast at since l r start later fault new.left new.right
          appended =
              by_side at l r start since later fault new.left new.right old.side
              (goes at l r start old.side (since old.side) later fault (taken_disk old)
              (on old.side new.left new.right) append_leaves.goes_on (past.later old.side) before_taken append_one)
              (subst (λ (d : D). One (other old.side) (since (other old.side)) d)
              (sym (writes.aside now past.stands (rotation_is c allowed false is))) before_beside)

        -- the next generation on the other disk
        module _ (is : is_rotate c.call ≡ true) where
          rotated : is_rotation now (Do c) ≡ true
          rotated = rotation_is c allowed true is

          abbrev next : Written
          next = rotation_of now c

          turn_leaves : LeavesOnly at (disk_beside old) (beside old.side new.left new.right)
              (CreateLeaves (has_odd (other old.side)) beside_bytes next)
          turn_leaves = writes.created past.going now past.stands beside_bytes c aside_told refl rotated

          still_taken : LeftSince at (on old.side new.left new.right) (at (taken_disk old)).moment taken_bytes
          still_taken =
              subst (λ (d : D). LeftSince at d (at (taken_disk old)).moment taken_bytes)
              (sym (writes.taken now past.stands rotated))
              ((at (taken_disk old)).moment, omega arith, omega arith, stays (taken_disk old) taken_bytes taken_told)

          -- beside the taken disk it is kept for the state, or for it after the rotation
          turn_kept : (image : List ℕ)
              → LeftSince at (beside old.side new.left new.right) (at (disk_beside old)).moment image
              → IsKeptAround now (commands_on left_held.0 right_held.0) (Do c) (on old.side taken_bytes image)
              (on old.side image taken_bytes)
          turn_kept image was =
              pair_by at old.side old.left old.right new.left new.right
              (IsKeptAround now (commands_on left_held.0 right_held.0) (Do c))
              (writes.kept past.going left_held.0 right_held.0 now left_held.1 right_held.1 past.stands)
              taken_bytes image still_taken was

          turn_open : (image : List ℕ)
              → LeftSince at (beside old.side new.left new.right) (at (disk_beside old)).moment image
              → found_on (has_odd (other old.side)) image ≡ Open next → IsOpenFor (other old.side) image (after now c)
          turn_open image was found = by (turn_kept image was)
            where
              generation : settled.written.generation ≡ now.generation
              generation =
                  leads_generation (has_odd old.side) taken_bytes settled.written now settled.open_on.found leads_now

              leads : (t : State) → IsKept (on old.side taken_bytes image) (on old.side image taken_bytes) t
                  → LeadsTo next t
              leads t kept =
                  later_leads old.side taken_bytes image settled.written next now t leads_now
                  settled.open_on.found found
                  (let g = generation in omega (arith, g)) kept.stands

              by : IsKeptAround now (commands_on left_held.0 right_held.0) (Do c) (on old.side taken_bytes image)
                  (on old.side image taken_bytes) → IsOpenFor (other old.side) image (after now c)
              by (inl kept) =
                  let same : next.generation ≡ now.generation =
                  leads_generation (has_odd (other old.side)) image next now found (leads now kept.kept) in
                  absurd (omega (arith, same))
              by (inr kept) =
                  let done = leads (step now (Do c)).0 kept.kept in
                  record {
                    written = next;
                    found = found;
                    leads = subst (λ (t : State). LeadsTo next t) (step_is_after now c allowed) done;
                  }

          turn_one : One (other old.side) (at (disk_beside old)).moment (beside old.side new.left new.right)
          turn_one = record {
            images = λ image was. by image was
                (of_creation (other old.side) beside_bytes image next (turn_leaves.each image was));
            whole = λ first few image was absent. not_first first few;
          }
            where
              by : (image : List ℕ)
                  → LeftSince at (beside old.side new.left new.right) (at (disk_beside old)).moment image
                  → (found_on (has_odd (other old.side)) image ≡ Absent)
                  ⊎ (IsAsItStood beside_bytes image ⊎ (found_on (has_odd (other old.side)) image ≡ Open next))
                  → IsOfRun (other old.side) l r start later fault image
              by image was (inl absent) = inl absent
              by image was (inr (inl stood)) =
                  makes.grows.images (other old.side) image (past.aside beside_bytes image aside_told stood)
              by image was (inr (inr found)) = makes.made (other old.side) image (turn_open image was found)

              -- the disk that was taken first is beside only after a first rotation
              not_first : IsTakenFirst (other old.side) l r → rotations start later fault ≤ 1 → ⊥
              not_first first few =
                  let more = makes.more is in
                  let counts = generation_counts start requests in
                  let same : now.generation ≡ start.generation = omega (arith, more, counts, few) in
                  sides_differ old.side
                  (first_parity (other old.side) l r start past.kept first ∙ ap is_odd (sym same)
                  ∙ sym (settled_parity old.side left_held.0 right_held.0 now settled))

          turned : LeavesPast at since l r start later fault new.left new.right
          turned =
              by_side at l r start since later fault new.left new.right old.side
              (subst (λ (d : D). One old.side (since old.side) d) (sym (writes.taken now past.stands rotated))
              before_taken)
              (goes at l r start (other old.side) (since (other old.side)) later fault (disk_beside old)
              (beside old.side new.left new.right) turn_leaves.goes_on (later_beside old.side) before_beside turn_one)
            where
              later_beside : (side : Side) → since (other side) ≤ (at (beside side old.left old.right)).moment
              later_beside Left = past.later Right
              later_beside Right = past.later Left

        called : LeavesPast at since l r start later fault new.left new.right
        called = by (is_rotate c.call) refl
          where
            by : (b : Bool) → is_rotate c.call ≡ b
                → LeavesPast at since l r start later fault new.left new.right
            by true is = turned is
            by false is = appended is

      -- ---- what is known after it

      -- an accepted command is answered
      module _ (c : Command) (reply : Reply) (allowed : ruling now c ≡ Allowed)
          (writes : WritesOn at old (Do c) (answer.Reply reply) new) where
        abbrev longer : List Request
        longer = requests ++ Do c ∷ []

        makes : Makes at l r start requests longer NoFault c
        makes = makes_replied at l r start requests c allowed

        later_then : (side : Side) → since side ≤ (at (on side new.left new.right)).moment
        later_then Left =
            let before = past.later Left in let time = writes.left_time.later in omega (arith, before, time)
        later_then Right =
            let before = past.later Right in let time = writes.right_time.later in omega (arith, before, time)

        aside_appended : is_rotate c.call ≡ false → (held image : List ℕ) → (at (disk_beside new)).seen ≡ Some held
            → IsAsItStood held image → IsOfRun (other new.side) l r start longer NoFault image
        aside_appended is held image told stood =
            let is_no = rotation_is c allowed false is in
            let side : new.side ≡ old.side = writes.side now past.stands
            ∙ ap (λ (b : Bool). if b then other old.side else old.side) is_no in
            let same : disk_beside new ≡ disk_beside old =
            ap (λ (s : Side). beside s new.left new.right) side ∙ writes.aside now past.stands is_no in
            subst (λ (s : Side). IsOfRun (other s) l r start longer NoFault image) (sym side)
            (makes.grows.images (other old.side) image (past.aside held image (ap (λ (d : D). (at d).seen) (sym same)
            ∙ told) stood))

        aside_turned : is_rotate c.call ≡ true → (held image : List ℕ) → (at (disk_beside new)).seen ≡ Some held
            → IsAsItStood held image → IsOfRun (other new.side) l r start longer NoFault image
        aside_turned is held image told stood =
            let is_yes = rotation_is c allowed true is in
            let side : new.side ≡ other old.side = writes.side now past.stands
            ∙ ap (λ (b : Bool). if b then other old.side else old.side) is_yes in
            let same : disk_beside new ≡ taken_disk old =
            ap (λ (s : Side). beside s new.left new.right) side ∙ beside_other old.side new.left new.right
            ∙ writes.taken now past.stands is_yes in
            let bytes : taken_bytes ≡ held =
            some_same taken_bytes held (at (taken_disk old)).seen taken_told (ap (λ (d : D). (at d).seen) (sym same)
            ∙ told) in
            let opens : IsOpenFor old.side held now = subst (λ (l : List ℕ). IsOpenFor old.side l now) bytes open_now in
            subst (λ (s : Side). IsOfRun s l r start longer NoFault image)
            (sym (ap other side ∙ other_twice old.side))
            (⊎_elim (λ absent. inl absent)
            (λ still_open. makes.grows.images old.side image
            (inr (inr (inl (prefix_whole old.side start requests image still_open)))))
            (open_with old.side held image now opens stood))

        -- what both tell then holds the command
        holds_then : IsGoing at new → StandsFor new.core (step now (Do c)).0 → (a b : List ℕ)
            → (at new.left).seen ≡ Some a → (at new.right).seen ≡ Some b
            → commands_on a b ≡ held_at_end l r start longer
        holds_then goes_then stands a b ta tb =
            let begun = commands_on left_held.0 right_held.0 in
            let kept : IsKeptAround now begun (Do c) a b =
            writes.kept past.going left_held.0 right_held.0 now left_held.1 right_held.1 past.stands a b
            ((at new.left).moment, writes.left_time.later, omega arith, stays new.left a ta)
            ((at new.right).moment, writes.right_time.later, omega arith, stays new.right b tb) in
            let settled_then = (goes_then.settled a b ta tb (step now (Do c)).0 stands).stands in
            ⊎_elim
            (λ (before : IsKeptWith a b now begun). absurd (accepted_changes now c allowed
            (one_image a b now (after now c) before.kept.stands
            (subst (λ (s : State). StandFor a b s) (step_is_after now c allowed) settled_then))))
            (λ (done : IsKeptWith a b (step now (Do c)).0 (kept_behind begun (newly_accepted now (Do c)))).
            done.commands
            ∙ ap (λ (cs : List Command). kept_behind cs (newly_accepted now (Do c)))
            (past.holds left_held.0 right_held.0 left_held.1 right_held.1)
            ∙ ap (kept_behind (held_at_end l r start requests)) (sym (append-nil (newly_accepted now (Do c))))
            ∙ sym (held_longer l r start requests (Do c ∷ [])))
            kept

        replied : new.stopped ≡ None → IsInOrder at new → StandsFor new.core (step now (Do c)).0
            → Past at since l r start longer new
        replied none order_then stands = record {
          kept = past.kept;
          going = none;
          stands = subst (λ (s : State). StandsFor new.core s) (sym (run_state start requests (Do c ∷ []))) stands;
          left_tells = writes.left_telling.1 past.left_tells;
          right_tells = writes.right_telling.1 past.right_tells;
          later = later_then;
          leaves = called c (answer.Reply reply) allowed writes longer NoFault makes;
          holds = holds_then (going_of at new none order_then) stands;
          aside = by (is_rotate c.call) refl;
        }
          where
            by : (b : Bool) → is_rotate c.call ≡ b → (held image : List ℕ) → (at (disk_beside new)).seen ≡ Some held
                → IsAsItStood held image → IsOfRun (other new.side) l r start longer NoFault image
            by true is = aside_turned is
            by false is = aside_appended is

      -- any other request
      idle : (request : Request) (reply : Reply) → new.stopped ≡ None → StandsFor new.core (step now request).0
          → WritesOn at old request (answer.Reply reply) new → (IsAccepted now request → ⊥)
          → is_rotation now request ≡ false → Past at since l r start (requests ++ request ∷ []) new
      idle request reply none stands writes refused stays_here =
          let same = writes.unwritten now past.stands refused in
          let side : new.side ≡ old.side = writes.side now past.stands
          ∙ ap (λ (b : Bool). if b then other old.side else old.side) stays_here in
          still since l r start requests old new past (requests ++ request ∷ [])
          (grows_more l r start requests (request ∷ [])) none
          (subst (λ (s : State). StandsFor new.core s) (sym (run_state start requests (request ∷ []))) stands)
          (held_longer l r start requests (request ∷ [])
          ∙ ap (λ (cs : List Command). kept_behind (held_at_end l r start requests) (cs ++ []))
          (none_newly now request refused)) same.0 same.1 side

      -- A request is answered.
      pub goes_on : (request : Request) (reply : Reply) → new.stopped ≡ None → IsInOrder at new
          → ((s : State) → StandsFor old.core s → Answers s request (answer.Reply reply) new.core)
          → WritesOn at old request (answer.Reply reply) new
          → Past at since l r start (requests ++ request ∷ []) new
      goes_on (Do c) reply none order_then answers writes = by (ruling now c) refl
        where
          stands : StandsFor new.core (step now (Do c)).0
          stands = (answers now past.stands).0

          refused : (x : Ruling) → ruling now c ≡ x → is_allowed x ≡ false → (x ≡ Allowed → ⊥)
              → Past at since l r start (requests ++ Do c ∷ []) new
          refused x is not_one isnt =
              let all : is_rotation now (Do c) ≡ (is_rotate c.call && false) =
              ap (λ (y : Ruling). is_rotate c.call && is_allowed y) is
              ∙ ap (λ (b : Bool). is_rotate c.call && b) not_one in
              idle (Do c) reply none stands writes (λ allowed. isnt (sym is ∙ allowed))
              (all ∙ and_false (is_rotate c.call))

          by : (x : Ruling) → ruling now c ≡ x → Past at since l r start (requests ++ Do c ∷ []) new
          by Allowed is = replied c reply is writes none order_then stands
          by (Refused refusal) is = refused (Refused refusal) is refl (λ is_one. absurd (cc (is_one)))
          by (Repeated kept) is = refused (Repeated kept) is refl (λ is_one. absurd (cc (is_one)))
      goes_on (Ask query) reply none order_then answers writes =
          idle (Ask query) reply none (answers now past.stands).0 writes (λ accepted. accepted) refl

      -- Memory was wanted for it.
      pub waits : (request : Request) → new.stopped ≡ None
          → ((s : State) → StandsFor old.core s → Answers s request answer.NoMemory new.core)
          → WritesOn at old request answer.NoMemory new
          → Past at since l r start requests new
      waits request none answers writes =
          let same = writes.no_memory refl in
          still since l r start requests old new past requests (grows_halted l r start requests NoFault) none
          (answers now past.stands).0 refl same.0 same.1 (writes.side now past.stands)

      -- A disk met a fault at it.
      stops_at : (c : Command) → ((s : State) → StandsFor old.core s → Answers s (Do c) answer.DiskFault new.core)
          → WritesOn at old (Do c) answer.DiskFault new
          → LeavesPast at since l r start requests (AtCommand c) new.left new.right
      stops_at c answers writes =
          let allowed = (answers now past.stands).1 in
          called c answer.DiskFault allowed writes requests (AtCommand c)
          (makes_failed at l r start requests c allowed)

      pub stops : (request : Request) (c : Command) → request ≡ Do c
          → ((s : State) → StandsFor old.core s → Answers s request answer.DiskFault new.core)
          → WritesOn at old request answer.DiskFault new
          → LeavesPast at since l r start requests (AtCommand c) new.left new.right
      stops request c is =
          subst (λ (q : Request). ((s : State) → StandsFor old.core s → Answers s q answer.DiskFault new.core)
          → WritesOn at old q answer.DiskFault new
          → LeavesPast at since l r start requests (AtCommand c) new.left new.right) (sym is) (stops_at c)

      kept_at : (c : Command) → ((s : State) → StandsFor old.core s → Answers s (Do c) answer.DiskFault new.core)
          → WritesOn at old (Do c) answer.DiskFault new
          → (a b : List ℕ) → LeftNow at new.left a → LeftNow at new.right b
          → KeptAtEnd l r start requests (AtCommand c) a b
      kept_at c answers writes a b la lb =
          let allowed = (answers now past.stands).1 in
          let begun = commands_on left_held.0 right_held.0 in
          let here : begun ≡ held_at_end l r start requests =
          past.holds left_held.0 right_held.0 left_held.1 right_held.1 in
          let kept : IsKeptAround now begun (Do c) a b =
          writes.kept past.going left_held.0 right_held.0 now left_held.1 right_held.1 past.stands a b
          ((at new.left).moment, writes.left_time.later, omega arith, la)
          ((at new.right).moment, writes.right_time.later, omega arith, lb) in
          ⊎_elim
          (λ (before : IsKeptWith a b now begun).
          inl (record { kept = before.kept; commands = before.commands ∙ here }))
          (λ (done : IsKeptWith a b (step now (Do c)).0 (kept_behind begun (newly_accepted now (Do c)))).
          inr (
            allowed,
            record {
              kept = subst (λ (s : State). IsKept a b s) (step_is_after now c allowed) done.kept;
              commands = done.commands ∙ behind_newly begun now c allowed
                  ∙ ap (λ (cs : List Command). kept_behind cs (c ∷ [])) here;
            },
          )) kept

      pub stops_kept : (request : Request) (c : Command) → request ≡ Do c
          → ((s : State) → StandsFor old.core s → Answers s request answer.DiskFault new.core)
          → WritesOn at old request answer.DiskFault new
          → (a b : List ℕ) → LeftNow at new.left a → LeftNow at new.right b
          → KeptAtEnd l r start requests (AtCommand c) a b
      stops_kept request c is =
          subst (λ (q : Request). ((s : State) → StandsFor old.core s → Answers s q answer.DiskFault new.core)
          → WritesOn at old q answer.DiskFault new
          → (a b : List ℕ) → LeftNow at new.left a → LeftNow at new.right b
          → KeptAtEnd l r start requests (AtCommand c) a b) (sym is) (kept_at c)

  -- ---- the end of a run that met no fault

  pub ends_kept : (since : Side → ℕ) (l r : List ℕ) (start : State) (requests : List Request) (store : Stored D)
      → Past at since l r start requests store → IsInOrder at store
      → (a b : List ℕ) → LeftNow at store.left a → LeftNow at store.right b
      → KeptAtEnd l r start requests NoFault a b
  ends_kept since l r start requests store past order a b la lb =
      let go = going since l r start requests store store past order in
      let left = left_held since l r start requests store store past order in
      let right = right_held since l r start requests store store past order in
      let same_left : a ≡ left.0 = rest_now at store.left left.0 left.1 go.left a la in
      let same_right : b ≡ right.0 = rest_now at store.right right.0 right.1 go.right b lb in
      let held = held_at_end l r start requests in
      let kept : IsKeptWith left.0 right.0 (run start requests).0 held = record {
        kept = settled_kept store.side left.0 right.0 (run start requests).0
            (settled since l r start requests store store past order);
        commands = past.holds left.0 right.0 left.1 right.1;
      } in
      subst (λ (x : List ℕ). IsKeptWith x b (run start requests).0 held) (sym same_left)
      (subst (λ (y : List ℕ). IsKeptWith left.0 y (run start requests).0 held) (sym same_right) kept)

  -- ---- the same run

  -- of other requests with the same accepted commands
  pub cut : (since : Side → ℕ) (l r : List ℕ) (start : State) (requests others : List Request) (store : Stored D)
      → Past at since l r start requests store → accepted start others ≡ accepted start requests
      → Past at since l r start others store
  cut since l r start requests others store past same =
      let ends : (run start requests).0 ≡ (run start others).0 =
      run_folds start requests ∙ ap (fold after start) (sym same) ∙ sym (run_folds start others) in
      still since l r start requests store store past others (grows_same l r start requests others (sym same))
      past.going
      (subst (λ (s : State). StandsFor store.core s) ends past.stands)
      (ap (kept_behind (commands_on l r)) same) refl refl refl

  -- of a store with other changes of the list
  pub with_changes : (since : Side → ℕ) (l r : List ℕ) (start : State) (requests : List Request) (store : Stored D)
      (changes : List ListChange) → Past at since l r start requests store
      → Past at since l r start requests (record store { changes = changes })
  with_changes since l r start requests store changes past =
      still since l r start requests store (record store { changes = changes }) past requests
      (grows_halted l r start requests NoFault) past.going past.stands refl refl refl refl

  -- ---- how a run begins

  -- with a store that goes on
  module _ (l r : List ℕ) (start : State) (store : Stored D) (told_left : (at store.left).seen ≡ Some l)
      (told_right : (at store.right).seen ≡ Some r) (none : store.stopped ≡ None)
      (order : IsInOrder at store) (stands : StandsFor store.core start) where
    here_going : IsGoing at store
    here_going = going_of at store none order

    here_settled : IsSettledFor store.side l r start
    here_settled = here_going.settled l r told_left told_right start stands

    here_only : (side : Side) (image : List ℕ)
        → LeftSince at (on side store.left store.right) (at (on side store.left store.right)).moment image
        → image ≡ on side l r
    here_only Left image was = rest_only at store.left l told_left here_going.left image was
    here_only Right image was = rest_only at store.right r told_right here_going.right image was

    here_aside : (held image : List ℕ) → (at (disk_beside store)).seen ≡ Some held → IsAsItStood held image
        → IsOfRun (other store.side) l r start [] NoFault image
    here_aside held image told stood =
        let bytes : held ≡ beside store.side l r =
        some_same held (beside store.side l r) (at (disk_beside store)).seen told
        (beside_told at store.side store.left store.right l r told_left told_right) in
        inr (inl (subst (λ (x : List ℕ). IsAsItStood x image) (bytes ∙ sym (on_other store.side l r)) stood))

    here_holds : (a b : List ℕ) → (at store.left).seen ≡ Some a → (at store.right).seen ≡ Some b
        → commands_on a b ≡ commands_on l r
    here_holds a b ta tb = ap₂ commands_on (some_same a l (at store.left).seen ta told_left)
        (some_same b r (at store.right).seen tb told_right)

    pub begins_here : Past at (λ side. (at (on side store.left store.right)).moment) l r start [] store
    begins_here = record {
      kept = settled_kept store.side l r start here_settled;
      going = none;
      stands = stands;
      left_tells = ap is_some told_left;
      right_tells = ap is_some told_right;
      later = λ side. omega arith;
      leaves = record {
        images = λ side image was. inr (inl (inl (here_only side image was)));
        whole = λ side first few image was absent. absent_isnt_open (has_odd side) image first.written absent
            (ap (found_on (has_odd side)) (here_only side image was) ∙ first.found);
      };
      holds = here_holds;
      aside = here_aside;
    }

    -- whose disks have these moments
    pub begins_at : (since : Side → ℕ) → ((side : Side) → since side ≡ (at (on side store.left store.right)).moment)
        → Past at since l r start [] store
    begins_at since starts = record {
      kept = begins_here.kept;
      going = none;
      stands = stands;
      left_tells = begins_here.left_tells;
      right_tells = begins_here.right_tells;
      later = λ side. let same = starts side in omega (arith, same);
      leaves = record {
        images = λ side image was. begins_here.leaves.images side image
            (subst (λ (n : ℕ). LeftSince at (on side store.left store.right) n image) (starts side) was);
        whole = λ side first few image was absent. begins_here.leaves.whole side first few image
            (subst (λ (n : ℕ). LeftSince at (on side store.left store.right) n image) (starts side) was) absent;
      };
      holds = here_holds;
      aside = here_aside;
    }

  -- With an opening's store, whatever was pending before, and whatever its disks were kept for: nothing is pending, and
  -- what both tell is kept for the state for which they stood.
  module _ (l r : List ℕ) (start : State) (left right : D) (store : Stored D)
      (told_left : (at left).seen ≡ Some l) (told_right : (at right).seen ≡ Some r) (stood : state_on l r ≡ Ok start)
      (left_telling : IsSome (at store.left).seen ↔ IsSome (at left).seen)
      (right_telling : IsSome (at store.right).seen ↔ IsSome (at right).seen)
      (opened : OpensOn at left right store) (order : IsInOrder at store) where
    opened_for : StandsFor store.core start
    opened_for =
        let state = opened.state l r told_left told_right in
        let both : pair_ends state.0 ≡ pair_ends start = sym state.1 ∙ stood in
        let same : state.0 ≡ start = cc (both) in
        subst (λ (s : State). StandsFor store.core s) same state.2

    now_only : (disk : D) (held : List ℕ) → (at disk).seen ≡ Some held → IsAtRest at disk
        → Only held (LeftNow at disk)
    now_only disk held told rests =
        subst (λ (o : Option (List ℕ)). IfSome o (λ bytes. Only bytes (LeftNow at disk))) told rests

    pub opened_rests :
        (a b : List ℕ) × ((at store.left).seen ≡ Some a) × ((at store.right).seen ≡ Some b)
        × Only a (LeftNow at store.left) × Only b (LeftNow at store.right)
        × Past at (λ side. (at (on side store.left store.right)).moment) a b start [] store
    opened_rests =
        let a = told_of (at store.left).seen (left_telling.1 (ap is_some told_left)) in
        let b = told_of (at store.right).seen (right_telling.1 (ap is_some told_right)) in
        let going = going_of at store opened.going order in (
          a.0,
          b.0,
          a.1,
          b.1,
          now_only store.left a.0 a.1 going.left,
          now_only store.right b.0 b.1 going.right,
          begins_here a.0 b.0 start store a.1 b.1 opened.going order opened_for,
        )

  -- with an opening, whatever it answers
  module _ (l r : List ℕ) (start : State) (left right now_left now_right : D) (kept : IsKept l r start)
      (left_leaves : LeavesOnly at left now_left (LeftLeaves l r))
      (right_leaves : LeavesOnly at right now_right (OpenLeaves false r)) where
    pub opening_leaves : (fault : Fault)
        → LeavesPast at (λ side. (at (on side left right)).moment) l r start [] fault now_left now_right
    opening_leaves fault = record { images = images; whole = whole }
      where
        images : (side : Side) (image : List ℕ)
            → LeftSince at (on side now_left now_right) (at (on side left right)).moment image
            → IsOfRun side l r start [] fault image
        images Left image was = left_of l r start fault image kept (left_leaves.each image was)
        images Right image was = opening_of Right l r start fault image kept (right_leaves.each image was)

        whole : (side : Side) → IsTakenFirst side l r → rotations start [] fault ≤ 1 → (image : List ℕ)
            → LeftSince at (on side now_left now_right) (at (on side left right)).moment image
            → found_on (has_odd side) image ≡ Absent → ⊥
        whole Left first few image was absent =
            left_whole l r start fault image kept first.written first.found (left_leaves.each image was) absent
        whole Right first few image was absent =
            opening_whole Right l r start fault image kept first.written first.found (right_leaves.each image was)
            absent

  -- an opening's store
  module _ (l r : List ℕ) (start : State) (left right : D) (store : Stored D)
      (told_left : (at left).seen ≡ Some l) (told_right : (at right).seen ≡ Some r) (kept : IsKept l r start)
      (left_leaves : LeavesOnly at left store.left (LeftLeaves l r))
      (right_leaves : LeavesOnly at right store.right (OpenLeaves false r))
      (left_telling : IsSome (at store.left).seen ↔ IsSome (at left).seen)
      (right_telling : IsSome (at store.right).seen ↔ IsSome (at right).seen)
      (opened : OpensOn at left right store) (order : IsInOrder at store) where
    opened_stands : StandsFor store.core start
    opened_stands =
        let state = opened.state l r told_left told_right in
        let both : pair_ends state.0 ≡ Ok kept.stands.state = sym state.1 ∙ kept.stands.is in
        let same : state.0 ≡ kept.stands.state = cc (both) in
        record {
          image = state.2.image ∙ ap image same ∙ kept.stands.same.image;
          records = state.2.records ∙ ap (λ (s : State). s.records) same ∙ kept.stands.same.records;
          formed = kept.stands.formed;
        }

    opened_left_tells : IsSome (at store.left).seen
    opened_left_tells = left_telling.1 (ap is_some told_left)

    opened_right_tells : IsSome (at store.right).seen
    opened_right_tells = right_telling.1 (ap is_some told_right)

    -- the first generation was begun on the left disk
    right_not_begun : store.side ≡ Right → found_on true l ≡ Absent → found_on false r ≡ Absent → ⊥
    right_not_begun side left_none right_none =
        let a = told_of (at store.left).seen opened_left_tells in
        let b = told_of (at store.right).seen opened_right_tells in
        let go = going_of at store opened.going order in
        let parity = settled_parity store.side a.0 b.0 start (go.settled a.0 b.0 a.1 b.1 start opened_stands) in
        let first : start.generation ≡ 1 =
        sym (ap (λ (i : Image). i.generation) (none_alike l r start kept.stands left_none right_none).image) in
        let no : false ≡ true = ap has_odd (sym side) ∙ parity ∙ ap is_odd first in
        absurd (cc (no))

    left_since : (held : List ℕ) → (at store.left).seen ≡ Some held → LeftSince at store.left (at left).moment held
    left_since held told =
        let time = left_leaves.goes_on.later in ((at store.left).moment, time, omega arith, stays store.left held told)

    right_since : (held : List ℕ) → (at store.right).seen ≡ Some held
        → LeftSince at store.right (at right).moment held
    right_since held told =
        let time = right_leaves.goes_on.later in (
          (at store.right).moment,
          time,
          omega arith,
          stays store.right held told,
        )

    opened_aside : (side : Side) → store.side ≡ side → (held image : List ℕ)
        → (at (beside side store.left store.right)).seen ≡ Some held → IsAsItStood held image
        → IsOfRun (other side) l r start [] NoFault image
    opened_aside Left is held image told stood =
        opening_with Right l r start NoFault image kept held (right_leaves.each held (right_since held told)) stood
    opened_aside Right is held image told stood = by (left_leaves.each held (left_since held told))
      where
        by : LeftLeaves l r held → IsOfRun Left l r start [] NoFault image
        by (inl opens) = opening_with Left l r start NoFault image kept held opens stood
        by (inr (left_none, right_none, created)) = absurd (right_not_begun is left_none right_none)

    pub begins : Past at (λ side. (at (on side left right)).moment) l r start [] store
    begins = record {
      kept = kept;
      going = opened.going;
      stands = opened_stands;
      left_tells = opened_left_tells;
      right_tells = opened_right_tells;
      later = later;
      leaves = opening_leaves l r start left right store.left store.right kept left_leaves right_leaves NoFault;
      holds = opened_holds at l r start left right store told_left told_right opened order opened_stands;
      aside = λ held image told stood. opened_aside store.side refl held image told stood;
    }
      where
        later : (side : Side) → (at (on side left right)).moment ≤ (at (on side store.left store.right)).moment
        later Left = left_leaves.goes_on.later
        later Right = right_leaves.goes_on.later

  -- ---- an opening, and then a part of the run from there

  module _ (since : Side → ℕ) (l r : List ℕ) (start : State) (requests : List Request) (fault : Fault)
      (store : Stored D) (left right : D) (a b : List ℕ)
      (past : Past at since l r start [] store) (order : IsInOrder at store)
      (told_left : (at store.left).seen ≡ Some a) (told_right : (at store.right).seen ≡ Some b) where
    join_settled : IsSettledFor store.side a b start
    join_settled =
        (going_of at store past.going order).settled a b told_left told_right start past.stands

    join_grows : Grows l r start [] requests fault
    join_grows = grows_all l r start requests fault

    -- as the one disk stood there, or so with some byte at place 0, where no shut gate was; or as the other did
    join_taken : (image : List ℕ) → IsAsItStood (on store.side a b) image
        → IsOfRun store.side l r start requests fault image
    join_taken image stood = join_grows.images store.side image (⊎_elim
        (λ absent. inl absent)
        (λ opens. inr (inr (inl (prefix_whole store.side start [] image opens))))
        (open_with store.side (on store.side a b) image start (settled_open store.side a b start join_settled) stood))

    join_beside : (image : List ℕ) → IsAsItStood (beside store.side a b) image
        → IsOfRun (other store.side) l r start requests fault image
    join_beside image stood = join_grows.images (other store.side) image
        (past.aside (beside store.side a b) image
        (beside_told at store.side store.left store.right a b told_left told_right) stood)

    join_stood : (side : Side) (image : List ℕ) → IsAsItStood (on side a b) image
        → IsOfRun side l r start requests fault image
    join_stood side image stood = by store.side side join_taken join_beside stood
      where
        by : (taken side : Side)
            → ((x : List ℕ) → IsAsItStood (on taken a b) x → IsOfRun taken l r start requests fault x)
            → ((x : List ℕ) → IsAsItStood (beside taken a b) x → IsOfRun (other taken) l r start requests fault x)
            → IsAsItStood (on side a b) image → IsOfRun side l r start requests fault image
        by Left Left here there was = here image was
        by Right Right here there was = here image was
        by Left Right here there was = there image was
        by Right Left here there was = there image was

    join_image : (side : Side) (image : List ℕ) → IsOfRun side a b start requests fault image
        → IsOfRun side l r start requests fault image
    join_image side image (inl absent) = inl absent
    join_image side image (inr (inl stood)) = join_stood side image stood
    join_image side image (inr (inr (inl prefix))) = inr (inr (inl prefix))
    join_image side image (inr (inr (inr (inl (c, holds, alone))))) =
        absurd (settled_holds_none store.side a b start c join_settled holds)
    join_image side image (inr (inr (inr (inr failed)))) = inr (inr (inr (inr failed)))

    -- the disk that was taken first is the one that was taken there
    join_first : (side : Side) → IsTakenFirst side l r → IsTakenFirst side a b
    join_first side first =
        let same : store.side ≡ side = one_side store.side side
        (settled_parity store.side a b start join_settled ∙ sym (first_parity side l r start past.kept first)) in
        subst (λ (s : Side). IsTakenFirst s a b) same (settled_first store.side a b start join_settled)

    module _ (left_time : GoesOn at store.left left) (right_time : GoesOn at store.right right)
        (further : LeavesPast at (λ side. (at (on side store.left store.right)).moment) a b start requests fault
        left right) where
      time_on : (side : Side) → GoesOn at (on side store.left store.right) (on side left right)
      time_on Left = left_time
      time_on Right = right_time

      pub joins : LeavesPast at since l r start requests fault left right
      joins = all_of at l r start since requests fault left right (λ side.
          goes at l r start side (since side) requests fault (on side store.left store.right)
          (on side left right) (time_on side) (past.later side) (before side) (done side))
        where
          before : (side : Side)
              → LeavesOne at l r start side (since side) requests fault (on side store.left store.right)
          before side = record {
            images = λ image was. join_grows.images side image (past.leaves.images side image was);
            whole = λ first few image was absent.
                let fewer = join_grows.fewer in
                past.leaves.whole side first (omega (arith, fewer, few)) image was absent;
          }

          done : (side : Side) → LeavesOne at l r start side (at (on side store.left store.right)).moment
              requests fault (on side left right)
          done side = record {
            images = λ image was. join_image side image (further.images side image was);
            whole = λ first few image was absent. further.whole side (join_first side first) few image was absent;
          }

-- From a state that is the same.
pub past_alike : {D : Type 0} (at : D → DiskAt) (since : Side → ℕ) (l r : List ℕ)
    (s t : State) (requests : List Request) (fault : Fault) (left right : D) → Alike s t
    → LeavesPast at since l r s requests fault left right
    → LeavesPast at since l r t requests fault left right
past_alike at since l r s t requests fault left right alike past = record {
  images = λ side image was. of_alike side l r s t requests fault image alike (past.images side image was);
  whole = λ side first few image was absent. past.whole side first
      (subst (λ (cs : List Command). count_by (λ (c : Command). is_rotate c.call) (cs ++ failed_commands fault) ≤ 1)
      (sym (accepted_alike requests alike)) few) image was absent;
}
