-- The disks of a store, and what its sink was shown of them, over the parts of a run.
use Rattle.std.proofs.Common.{◌≡◌, ◌⊎◌, inl, inr, ℕ, List, [], ◌∷◌, ◌++◌, length, Option, Some, None, option_map, Ok, Err, false, refl, sym, ap, subst, ◌∙◌, arith, length-append}
use Rattle.std.specs.Prelude.{◌↔◌, IsSome}
use Rattle.liq_outside.specs.At.{DiskAt}
use Rattle.liq_outside.specs.declared.showing.Showing.{Showing}
use Rattle.liq_outside.specs.Disk.{GoesOn, LeavesOnly, LeftNow, LeftSince, Only}
use Rattle.liq_outside.specs.Showings.{Notes, shown_as}
use Rattle.liq_outside.proofs.Moments.{joined, unmoved}
use Rattle.liq_types.specs.declared.replies.Answer.{Answer}
use Rattle.liq_types.specs.declared.replies.Answer.TheVariants as answer
use Rattle.liq_types.specs.declared.replies.Reply.{Reply}
use Rattle.liq_types.specs.declared.requests.Command.{Command}
use Rattle.liq_types.specs.declared.requests.Query.{Query}
use Rattle.liq_types.specs.declared.requests.Request.{Request}
use Rattle.liq_types.specs.declared.requests.Request.TheVariants.{Do, Ask}
use Rattle.liq_types.specs.State.{State}
use Rattle.liq_core.specs.Core.{StandsFor}
use Rattle.liq_rule_step.specs.Memory.{IsAccepted}
use Rattle.liq_rule_step.specs.Step.{Allowed, accepted, ruling, run}
use Rattle.liq_text_lines.specs.Writing.{Writes}
use Rattle.liq_journal.specs.Opened.{OpenLeaves}
use Rattle.liq_disk_pair.specs.declared.side.Side.{Side}
use Rattle.liq_disk_pair.specs.Commands.{kept_behind}
use Rattle.liq_disk_pair.specs.Kept.{IsKept, IsKeptWith}
use Rattle.liq_disk_pair.specs.Pair.{commands_on, state_on}
use Rattle.liq_disk_pair.specs.Past.{AtCommand, KeptAtEnd, NoFault, held_at_end}
use Rattle.liq_disk_pair.specs.Sides.{on}
use Rattle.liq_disk_pair.specs.Unfinished.{LeftLeaves}
use Rattle.liq_store.specs.declared.answers.StoreWhy.TheVariants as why
use Rattle.liq_store.specs.Answering.{Answers}
use Rattle.liq_store.specs.Calling.{WritesOn}
use Rattle.liq_store.specs.Keeping.{IsInOrder, IsInOrderWith, IsKeptAround, LeavesPairs}
use Rattle.liq_store.specs.Opening.{OpensOn}
use Rattle.liq_store.specs.Past.{Past}
use Rattle.liq_store.specs.Stored.{Stored}
use Rattle.liq_store.proofs.Appending.{behind_newly, step_is_after}
use Rattle.liq_store.proofs.Past.{begins, cut, ends_kept, goes_on, opened_holds, opened_rests, stops, stops_kept, waits, with_changes}
use Rattle.liq_word_exit.specs.declared.halts.Halt.{Halt}
use Rattle.liq_word_exit.specs.declared.halts.Halt.TheVariants.{BadLine, ReadFault, WriteFault, DiskFault, Damaged, DamagedInput, NoMemory, Limit, Rotated}
use Rattle.liq_word_run.specs.Calls.{GoOn}
use Rattle.liq_word_exit.specs.Output.{lines}
use Rattle.liq_word_exit.proofs.Opened.{some_of}
use Rattle.liq_word_exit.proofs.Passing.{untouched_past}
use Rattle.liq_word_run.specs.Passing.{Begun, BeginsNone, BeginsRun, IsOver, IsPastOf, IsShown, IsStoppedPastOf, PassesBy, Recovers}
use Rattle.liq_word_run.proofs.Progressing.{asked-more}
use Rattle.liq_word_run.proofs.Shown.{IsKeptFailed, shown_again, shown_ended, shown_failed, shown_first, shown_on}

-- one after another
pub both : {P Q R : Type 0} → (Q ↔ P) → (R ↔ Q) → (R ↔ P)
both first second = (λ r. first.0 (second.0 r), λ p. second.1 (first.1 p))

-- what holds where the next request was not answered, whatever it was to give
pub passes_as : (T U : Type 0) (past : List Request → Type 0) (stopped : List Request → Request → Type 0)
    (requests : List Request) (request : Request) (halt : Halt)
    → PassesBy {T = T} past stopped requests request (Err halt)
    → PassesBy {T = U} past stopped requests request (Err halt)
passes_as T U past stopped requests request (BadLine n) h = h
passes_as T U past stopped requests request ReadFault h = h
passes_as T U past stopped requests request WriteFault h = h
passes_as T U past stopped requests request DiskFault h = h
passes_as T U past stopped requests request (Damaged side number) h = h
passes_as T U past stopped requests request NoMemory h = h
passes_as T U past stopped requests request (Limit number) h = h
passes_as T U past stopped requests request (Rotated generation) h = h
passes_as T U past stopped requests request (DamagedInput number) h = h

module _ {D : Type 0} (at : D → DiskAt) where
  -- nothing was done
  pub still : (store : Stored D) → GoOn at store store
  still store = record {
    left = unmoved at store.left;
    right = unmoved at store.right;
    left_telling = (λ tells. tells, λ tells. tells);
    right_telling = (λ tells. tells, λ tells. tells);
  }

  -- one part after another
  pub behind : (old mid new : Stored D) → GoOn at old mid → GoOn at mid new → GoOn at old new
  behind old mid new first second = record {
    left = joined at old.left mid.left new.left first.left second.left;
    right = joined at old.right mid.right new.right first.right second.right;
    left_telling = both first.left_telling second.left_telling;
    right_telling = both first.right_telling second.right_telling;
  }

  -- one call, whose changes were let go
  pub called : (old mid new : Stored D) (request : Request) (said : Answer)
      → WritesOn at old request said mid → new ≡ record mid { changes = [] } → GoOn at old new
  called old mid new request said writes cleared =
      subst (GoOn at old) (sym cleared) (record {
        left = writes.left_time;
        right = writes.right_time;
        left_telling = writes.left_telling;
        right_telling = writes.right_telling;
      })

-- what was kept at an end is kept behind other bytes with the same commands
ended_alike : (m n l r : List ℕ) (start : State) (requests : List Request) (a b : List ℕ)
    → commands_on m n ≡ commands_on l r → KeptAtEnd m n start requests NoFault a b
    → KeptAtEnd l r start requests NoFault a b
ended_alike m n l r start requests a b same kept = record {
  kept = kept.kept;
  commands = kept.commands ∙ ap (λ (cs : List Command). kept_behind cs (accepted start requests)) same;
}

ends_alike : (m n l r : List ℕ) (start : State) (requests : List Request) (c : Command) (a b : List ℕ)
    → commands_on m n ≡ commands_on l r → KeptAtEnd m n start requests (AtCommand c) a b
    → KeptAtEnd l r start requests (AtCommand c) a b
ends_alike m n l r start requests c a b same (inl kept) = inl (record {
  kept = kept.kept;
  commands = kept.commands ∙ ap (λ (cs : List Command). kept_behind cs (accepted start requests)) same;
})
ends_alike m n l r start requests c a b same (inr (allowed, kept)) = inr (
  allowed,
  record {
    kept = kept.kept;
    commands = kept.commands
        ∙ ap (λ (cs : List Command). kept_behind (kept_behind cs (accepted start requests)) (c ∷ [])) same;
  },
)

-- where a showing is told afterwards, what came before it was
told_before : {D : Type 0} (at : D → DiskAt) (bytes : List ℕ) (left right : D) (was is : Option (List Showing))
    (all : List Showing) → is ≡ Some all → Notes at (Some bytes) left right was is
    → (some : List Showing) × (was ≡ Some some) × (all ≡ some ++ shown_as at bytes left right ∷ [])
told_before at bytes left right was is all told (inl none) = absurd (cc (sym none ∙ told))
told_before at bytes left right None is all told (inr more) = absurd (cc (sym more ∙ told))
told_before at bytes left right (Some some) is all told (inr more) = (some, refl, cc (sym told ∙ more))

module _ {D : Type 0} (at : D → DiskAt)
    (stays : (disk : D) (held : List ℕ) → (at disk).seen ≡ Some held → LeftNow at disk held) where
  -- only the moment of now
  now_only : (disk : D) (image : List ℕ) → LeftSince at disk (at disk).moment image → LeftNow at disk image
  now_only disk image left = subst (λ (k : ℕ). (at disk).left_at k image) (omega (arith, left.1, left.2)) left.3

  module _ (begun : Begun D) where
    abbrev since : Side → ℕ
    since = λ side. (at (on side begun.left begun.right)).moment

    abbrev at_first : State
    at_first = begun.start

    -- the commands with which it began
    abbrev begun_with : List Command
    begun_with = commands_on begun.l begun.r

    abbrev held_behind : List Request → List Command
    held_behind requests = held_at_end begun.l begun.r at_first requests

    abbrev PastOf : List Request → Stored D → Option (List Showing) → Type 0
    PastOf = IsPastOf at begun

    abbrev ShownTo : List ℕ → List Showing → List Request → Stored D → List Showing → Type 0
    ShownTo before earlier requests store all =
        IsShown at begun_with at_first (length before) requests store.left store.right
        (shown_as at before begun.left begun.right) earlier all

    -- the sink was shown nothing more
    pub unshown_past : (requests : List Request) (store : Stored D) (was is : Option (List Showing)) → is ≡ was
        → PastOf requests store was → PastOf requests store is
    unshown_past requests store was is same past = subst (PastOf requests store) (sym same) past

    -- a query leaves it
    pub asked_past : (requests : List Request) (query : Query) (store : Stored D) (was is : Option (List Showing))
        → is ≡ was → PastOf requests store was → PastOf (requests ++ Ask query ∷ []) store is
    asked_past requests query store was is same past = record {
      past = cut at stays since begun.l begun.r at_first requests (requests ++ Ask query ∷ []) store
          past.past (asked-more at_first requests query);
      order = past.order;
      told = λ before earlier all b e a.
          shown_on at begun_with at_first (length before) (shown_as at before begun.left begun.right) earlier
          requests (Ask query ∷ []) store.left store.right all
          (unmoved at store.left) (unmoved at store.right)
          (past.told before earlier all b e (sym same ∙ a));
    }

    -- ---- a call, whose changes were let go

    module _ (requests : List Request) (request : Request) (old mid new : Stored D)
        (cleared : new ≡ record mid { changes = [] }) (order : IsInOrder at new)
        (was : Option (List Showing)) (past : PastOf requests old was) where
      -- what it leaves of both disks
      leaves : (said : Answer) → WritesOn at old request said mid
          → LeavesPairs at old.left old.right mid.left mid.right
          (IsKeptAround (run at_first requests).0 (held_behind requests) request)
      leaves said writes =
          let left = some_of (at old.left).seen past.past.left_tells in
          let right = some_of (at old.right).seen past.past.right_tells in
          subst (λ (cs : List Command). LeavesPairs at old.left old.right mid.left mid.right
          (IsKeptAround (run at_first requests).0 cs request)) (past.past.holds left.0 right.0 left.1 right.1)
          (writes.kept past.past.going left.0 right.0 (run at_first requests).0 left.1 right.1 past.past.stands)

      -- it replied, when all replies before it were out, and the sink was shown the disks
      replied_to : (held : Option (List ℕ)) (is : Option (List Showing)) (reply : Reply)
          → WritesOn at old request (answer.Reply reply) mid
          → Writes begun.held (lines at_first requests) held → Notes at held new.left new.right was is
          → (before : List ℕ) (earlier all : List Showing) → begun.held ≡ Some before → begun.shown ≡ Some earlier
          → is ≡ Some all
          → ShownTo before earlier (requests ++ request ∷ []) mid all
      replied_to held is reply writes out notes before earlier all b e a =
          let now = before ++ lines at_first requests in
          let told : held ≡ Some now = out
          ∙ ap (λ (h : Option (List ℕ)). option_map (λ bytes. bytes ++ lines at_first requests) h) b in
          let here : Notes at (Some now) mid.left mid.right was is =
          subst (λ (s : Stored D). Notes at (Some now) s.left s.right was is) cleared
          (subst (λ (h : Option (List ℕ)). Notes at h new.left new.right was is) told notes) in
          let first = told_before at now mid.left mid.right was is all a here in
          subst (λ (t : List Showing). ShownTo before earlier (requests ++ request ∷ []) mid t) (sym first.2)
          (shown_again at begun_with at_first (length before) (shown_as at before begun.left begun.right)
          earlier requests old.left old.right mid.left mid.right first.0
          writes.left_time writes.right_time (past.told before earlier first.0 b e first.1) request now
          (omega (arith, length-append before (lines at_first requests))) (leaves (answer.Reply reply) writes))

      pub replied_past : (held : Option (List ℕ)) (is : Option (List Showing)) (reply : Reply) → mid.stopped ≡ None
          → IsInOrder at mid → ((s : State) → StandsFor old.core s → Answers s request (answer.Reply reply) mid.core)
          → WritesOn at old request (answer.Reply reply) mid
          → Writes begun.held (lines at_first requests) held → Notes at held new.left new.right was is
          → PastOf (requests ++ request ∷ []) new is
      replied_past held is reply going order_then answers writes out notes = record {
        past = subst (Past at since begun.l begun.r at_first (requests ++ request ∷ [])) (sym cleared)
            (with_changes at stays since begun.l begun.r at_first (requests ++ request ∷ []) mid []
            (goes_on at stays since begun.l begun.r at_first requests old mid past.past past.order
            request reply going order_then answers writes));
        order = order;
        told = λ before earlier all b e a.
            subst (λ (s : Stored D). ShownTo before earlier (requests ++ request ∷ []) s all) (sym cleared)
            (replied_to held is reply writes out notes before earlier all b e a);
      }

      -- memory was wanted
      pub waiting_past : mid.stopped ≡ None
          → ((s : State) → StandsFor old.core s → Answers s request answer.NoMemory mid.core)
          → WritesOn at old request answer.NoMemory mid
          → PastOf requests new was
      waiting_past going answers writes =
          let same = writes.no_memory refl in
          record {
            past = subst (Past at since begun.l begun.r at_first requests) (sym cleared)
                (with_changes at stays since begun.l begun.r at_first requests mid []
                (waits at stays since begun.l begun.r at_first requests old mid past.past past.order
                request going answers writes));
            order = order;
            told = λ before earlier all b e a.
                let first = shown_as at before begun.left begun.right in
                subst (λ (s : Stored D). ShownTo before earlier requests s all) (sym cleared)
                (subst (λ (d : D). IsShown at begun_with at_first (length before) requests d mid.right first earlier
                all)
                (sym same.0)
                (subst (λ (d : D). IsShown at begun_with at_first (length before) requests old.left d first earlier
                all)
                (sym same.1) (past.told before earlier all b e a)));
          }

      -- a disk met a fault
      pub stopped_past : (c : Command) → request ≡ Do c
          → ((s : State) → StandsFor old.core s → Answers s request answer.DiskFault mid.core)
          → WritesOn at old request answer.DiskFault mid
          → IsStoppedPastOf at begun requests request new was
      stopped_past c is answers writes =
          let s = (run at_first requests).0 in
          let allowed : ruling s c ≡ Allowed = subst (λ (q : Request). IsAccepted s q) is
          (answers s past.past.stands).1 in (
            c,
            is,
            subst (λ (t : Stored D). IsOver at begun requests (AtCommand c) t.left t.right was)
                (sym cleared) (record {
                  kept = past.past.kept;
                  images = stops at stays since begun.l begun.r at_first requests old mid past.past
                      past.order request c is answers writes;
                  rests = λ l r same x y at_x at_y. ends_alike begun.l begun.r l r at_first requests c x y (sym same)
                      (kept_then c is answers writes x y at_x at_y);
                  ends = λ l r x y same told_x told_y. ends_alike begun.l begun.r l r at_first requests c x y (sym same)
                      (kept_then c is answers writes x y (stays mid.left x told_x) (stays mid.right y told_y));
                  told = λ before earlier all b e a.
                      shown_failed at begun_with at_first (length before) (shown_as at before begun.left begun.right) earlier
                      requests (AtCommand c) old.left old.right mid.left mid.right all
                      writes.left_time writes.right_time (past.told before earlier all b e a)
                      (λ x y at_x at_y. failed s c x y allowed
                      (subst (λ (q : Request). IsKeptAround s (held_behind requests) q x y) is
                      (leaves answer.DiskFault writes x y at_x at_y)));
                }),
          )
        where
          kept_then : (c : Command) → request ≡ Do c
              → ((s : State) → StandsFor old.core s → Answers s request answer.DiskFault mid.core)
              → WritesOn at old request answer.DiskFault mid
              → (x y : List ℕ) → LeftNow at mid.left x → LeftNow at mid.right y
              → KeptAtEnd begun.l begun.r at_first requests (AtCommand c) x y
          kept_then c is answers writes = stops_kept at stays since begun.l begun.r at_first requests old mid past.past
              past.order request c is answers writes

          failed : (s : State) (c : Command) (x y : List ℕ) → ruling s c ≡ Allowed
              → IsKeptAround s (held_behind requests) (Do c) x y
              → IsKeptWith x y s (held_behind requests) ⊎ IsKeptFailed (AtCommand c) s (held_behind requests) x y
          failed s c x y allowed (inl kept) = inl kept
          failed s c x y allowed (inr kept) = inr (
            c,
            refl,
            allowed,
            record {
              kept = subst (λ (t : State). IsKept x y t) (step_is_after s c allowed) kept.kept;
              commands = kept.commands ∙ behind_newly (held_behind requests) s c allowed;
            },
          )

    -- ---- at its end

    -- no disk met a fault; the replies to some later requests may have been cut, of which none was accepted
    pub ended_past : (requests later : List Request) (store : Stored D) (shown : Option (List Showing))
        → accepted at_first (requests ++ later) ≡ accepted at_first requests → PastOf (requests ++ later) store shown
        → IsOver at begun requests NoFault store.left store.right shown
    ended_past requests later store shown same past =
        let here = cut at stays since begun.l begun.r at_first (requests ++ later) requests store past.past
        (sym same) in
        let now = subst (λ (stopped : Option ℕ). IsInOrderWith at stopped store) here.going past.order in
        record {
          kept = here.kept;
          images = here.leaves;
          rests = λ l r same. (now.left, now.right);
          ends = λ l r x y same told_x told_y. ended_alike begun.l begun.r l r at_first requests x y (sym same)
              (ends_kept at stays since begun.l begun.r at_first requests store here past.order x y
              (stays store.left x told_x) (stays store.right y told_y));
          told = λ before earlier all b e a.
              shown_ended at begun_with at_first (length before) (shown_as at before begun.left begun.right)
              earlier requests later NoFault store.left store.right all (sym same)
              (unmoved at store.left) (unmoved at store.right)
              (past.told before earlier all b e a)
              (λ x y at_x at_y. ends_kept at stays since begun.l begun.r at_first requests store
              here past.order x y (now_only store.left x at_x) (now_only store.right y at_y));
        }

  -- ---- a store was opened, its changes were let go, and the sink was shown its disks

  pub begins_run : (old_left old_right : D) (l r : List ℕ) (start : State) (store new : Stored D)
      (held : Option (List ℕ)) (was is : Option (List Showing)) → new ≡ record store { changes = [] }
      → IsInOrder at new → (at old_left).seen ≡ Some l → (at old_right).seen ≡ Some r → state_on l r ≡ Ok start
      → (Only l (LeftNow at old_left) → LeavesOnly at old_left store.left (LeftLeaves l r))
      → (Only r (LeftNow at old_right) → LeavesOnly at old_right store.right (OpenLeaves false r))
      → (IsSome (at store.left).seen ↔ IsSome (at old_left).seen)
      → (IsSome (at store.right).seen ↔ IsSome (at old_right).seen)
      → GoesOn at old_left store.left → GoesOn at old_right store.right
      → Recovers at old_left old_right l r start store.left store.right
      → OpensOn at old_left old_right store → IsInOrder at store
      → Notes at held new.left new.right was is
      → BeginsRun at old_left old_right l r start new held was is
  begins_run old_left old_right l r start store new held was is cleared order told_l told_r found left right
      left_tells right_tells left_time right_time recovers opened order_first notes =
      let here = opened_rests at stays l r start old_left old_right store told_l told_r found
      left_tells right_tells opened order_first in
      subst (λ (s : Stored D). BeginsRun at old_left old_right l r start s held was is)
      (sym cleared) (record {
        left = here.0;
        right = here.1;
        left_is = here.2;
        right_is = here.3;
        holds = opened_holds at l r start old_left old_right store told_l told_r opened order_first
            here.6.stands here.0 here.1 here.2 here.3;
        left_rests = here.4;
        right_rests = here.5;
        begun = record {
          past = with_changes at stays _ here.0 here.1 start [] store [] here.6;
          order = subst (IsInOrder at) cleared order;
          told = λ before earlier all before_is earlier_is all_is.
              let noted : Notes at (Some before) store.left store.right was is =
              subst (λ (s : Stored D). Notes at (Some before) s.left s.right was is) cleared
              (subst (λ (h : Option (List ℕ)). Notes at h new.left new.right was is) before_is notes) in
              let told = told_before at before store.left store.right was is all all_is noted in
              let first = shown_as at before store.left store.right in
              let same : told.0 ≡ earlier = cc (sym told.1 ∙ earlier_is) in
              subst (λ (t : List Showing). IsShown at (commands_on here.0 here.1) start (length before) []
              store.left store.right first earlier t) (sym (told.2 ∙ ap (λ (t : List Showing). t ++ first ∷ []) same))
              (shown_first at (commands_on here.0 here.1) start (length before) first earlier store.left store.right refl refl);
        };
        past = λ only_l only_r kept.
            with_changes at stays _ l r start [] store []
            (begins at stays l r start old_left old_right store told_l told_r kept
            (left only_l) (right only_r) left_tells right_tells opened order_first);
        left_time = left_time.later;
        right_time = right_time.later;
        recovers = recovers;
      })

  -- ---- none was opened

  -- nobody touched the disks
  pub begins_untouched : (left right : D) (l r : List ℕ) (start : State)
      → (at left).seen ≡ Some l → (at right).seen ≡ Some r
      → BeginsNone at left right l r start why.NoMemory left right
  begins_untouched left right l r start told_l told_r = record {
    left_time = omega arith;
    right_time = omega arith;
    past = untouched_past at stays left right l r start _ refl told_l told_r;
    opens = λ other a b told_a told_b. (inl (cc (sym told_b ∙ told_r)), inl (inl (cc (sym told_a ∙ told_l))));
    recovers = λ only_l only_r kept a b at_a at_b.
        inl (subst (λ (x : List ℕ). IsKeptWith x b start (commands_on l r)) (sym (only_l a (now_only left a at_a)))
        (subst (λ (y : List ℕ). IsKeptWith l y start (commands_on l r)) (sym (only_r b (now_only right b at_b)))
        (record { kept = kept; commands = refl })));
  }
