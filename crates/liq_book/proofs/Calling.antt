-- What a call of the store leaves of a book.
use Rattle.std.proofs.Common.{◌≡◌, ℕ, ◌+◌, ◌≤◌, ◌<◌, List, [], ◌∷◌, ◌++◌, length, Option, Some, None, Result, Ok, Err, Bool, ◌==◌, sym, refl, ap, ◌∙◌, subst, arith, inl, inr, length-append}
use Rattle.std.specs.Result.{MatchResult}
use Rattle.std.specs.Prelude.{IsSome, ◌↔◌}
use Rattle.std.specs.Option.{IsSomeAnd, option_map}
use Rattle.std.proofs.lemmas.List.Sums.{count_by-le-length, length-filter}
use Rattle.liq_outside.specs.At.{DiskAt}
use Rattle.liq_outside.specs.Disk.{GoesOn, LeftNow}
use Rattle.liq_types.specs.declared.events.ListChange.{ListChange}
use Rattle.liq_types.specs.declared.replies.Answer.{Answer}
use Rattle.liq_types.specs.declared.replies.Answer.TheVariants as answer
use Rattle.liq_types.specs.declared.replies.Reply.{Reply}
use Rattle.liq_types.specs.declared.requests.Command.{Command}
use Rattle.liq_types.specs.declared.requests.Request.{Request}
use Rattle.liq_types.specs.declared.requests.Request.TheVariants.{Ask, Do}
use Rattle.liq_types.specs.State.{State}
use Rattle.liq_core.specs.Core.{StandsFor}
use Rattle.liq_rule_step.specs.History.{own_entries, requests_of, state_after}
use Rattle.liq_rule_step.specs.Step.{run}
use Rattle.liq_rule_step.proofs.Histories.{legal-empty, legal-snoc, state-snoc}
use Rattle.liq_disk_pair.specs.Past.{AtCommand}
use Rattle.liq_disk_pair.proofs.Keeping.{settled_kept}
use Rattle.liq_disk_pair.specs.Pair.{commands_on}
use Rattle.liq_store.specs.Keeping.{IsInOrder, IsInOrderWith, IsKeptAround, LeavesPairs}
use Rattle.liq_rule_step.specs.Memory.{IsAccepted}
use Rattle.liq_store.specs.Stored.{Stored}
use Rattle.liq_store.proofs.Past.{goes_on, stops, stops_kept, waits}
use Rattle.liq_types.specs.declared.entries.Entry.{Entry}
use Rattle.liq_book.specs.Entering.{IsCalled}
use Rattle.liq_book.specs.declared.items.Halt.{Halt}
use Rattle.liq_book.specs.declared.items.TheConstants.{ENTRIES_MOST}
use Rattle.liq_book.specs.Booked.{IsBook, IsKeptByStep, KeepsDisks}
use Rattle.liq_book.specs.Entered.{Enters, IsTestedFirst}
use Rattle.liq_book.specs.Moments.{KeepsBetween, tried}
use Rattle.liq_book.specs.Origin.{GoesOnFrom, IsAtOrigin}
use Rattle.liq_book.specs.Past.{KeepsPast, since_origin}
use Rattle.liq_book.proofs.Moments.{along_more, begins_between}
use Rattle.liq_book.proofs.Pasts.{begins_past, forgets_past, requests_more}
use Rattle.liq_types.proofs.Tests.{value_of}

-- a session has no more entries than there are
pub own_few : (session : ℕ) (entries : List Entry) → length (own_entries session entries)
    ≤ length entries
own_few session entries =
    let p : Entry → Bool = λ (e : Entry). e.session == session in
    omega (arith, length-filter p entries, count_by-le-length p entries)

-- a store that answers otherwise was not stopped
pub goes : (stopped : Option ℕ) → ((sum : ℕ) → stopped ≡ Some sum → ⊥) → stopped ≡ None
goes None some = refl
goes (Some sum) some = absurd (some sum refl)

-- what is kept with its commands is kept
by_step : (s : State) (request : Request) (held : List Command) (a b : List ℕ) → IsKeptAround s held request a b
    → IsKeptByStep s request a b
by_step s request held a b (inl kept) = inl kept.kept
by_step s request held a b (inr kept) = inr kept.kept

-- only a command is accepted
a_command : (s : State) (request : Request) → IsAccepted s request → (c : Command) × (request ≡ Do c)
a_command s (Do c) is = (c, refl)
a_command s (Ask query) is = absurd is

-- a book whose store goes on has no halt
pub no_halt : (halt : Option Halt) (stopped : Option ℕ) → stopped ≡ option_map (λ h. h.faults) halt → stopped
    ≡ None
    → halt ≡ None
no_halt None stopped is none = refl
no_halt (Some halt) stopped is none = absurd (let e : Some halt.faults ≡ None = sym is ∙ none in cc)

-- one whose store is stopped has a halt, with the faults that are told
a_halt : (halt : Option Halt) (stopped : Option ℕ) (sum : ℕ) → stopped ≡ option_map (λ h. h.faults) halt
    → stopped ≡ Some sum → IsSomeAnd halt (λ h. h.faults ≡ sum)
a_halt None stopped sum is some = absurd (let e : Some sum ≡ None = sym some ∙ is in cc)
a_halt (Some halt) stopped sum is some = let e : Some halt.faults ≡ Some sum = sym is ∙ some in cc

module _ {D : Type 0} (at : D → DiskAt) where
  pub goes_from : (origin : DiskAt) (old new : D)
      → GoesOnFrom origin (at old) → GoesOn at old new → IsSome (at new).seen ↔ IsSome (at old).seen
      → GoesOnFrom origin (at new)
  goes_from origin old new from on tells = record {
    telling = (λ now. from.telling.0 (tells.0 now), λ then. tells.1 (from.telling.1 then));
    later = omega (arith, from.later, on.later);
    past = λ k image early there. from.past k image early (on.past k image (omega (arith, from.later, early)) there);
    kept = λ k image early there. on.kept k image (omega (arith, from.later, early)) (from.kept k image early there);
  }

  -- a call at the book's store
  abbrev pub Called : Stored D → Request → Answer → Stored D → Type 0
  Called old request a new = IsCalled at old request a new

  -- a store that goes on keeps its disks for its state
  pub going_keeps : (store : Stored D) (s : State)
      → IsInOrder at store → store.stopped ≡ None → StandsFor store.core s → KeepsDisks at None s store
  going_keeps store s order going stands l r told_left told_right =
      let P : Option ℕ → Type 0 = λ o. IsInOrderWith at o store in
      let keeps = subst P going order in
      settled_kept store.side l r s (keeps.settled l r told_left told_right s stands)

  module _
      (may_stay : (disk : D) (held : List ℕ) → (at disk).seen ≡ Some held → LeftNow at disk held)
      (base : State) (left_origin right_origin : DiskAt) where
    abbrev pub Booking : Stored D → List Entry → Option Halt → Type 0
    Booking store entries halt =
        IsBook at base left_origin right_origin (record { store = store; entries = entries; halt = halt })

    abbrev Keeps : List Entry → Option Halt → Stored D → Type 0
    Keeps entries halt store = KeepsPast at left_origin right_origin base (requests_of entries) halt store

    -- what is kept of the past where there is no halt
    past_of : (store : Stored D) (entries : List Entry) (halt : Option Halt)
        → halt ≡ None → Booking store entries halt → Keeps entries None store
    past_of store entries halt none b = subst (λ (h : Option Halt). Keeps entries h store) none b.past

    -- and between its calls
    between_of : (store : Stored D) (entries : List Entry) (halt : Option Halt) → halt ≡ None
        → Booking store entries halt
        → KeepsBetween at left_origin right_origin base (requests_of entries) store.left store.right
    between_of store entries halt none b =
        let P : Option Halt → Type 0 = λ h.
        KeepsBetween at left_origin right_origin base (tried (requests_of entries) h) store.left store.right in
        subst P none b.between

    -- one call more, whatever it answers
    between_more : (old new : Stored D) (entries : List Entry) (halt : Option Halt) (request : Request) (a : Answer)
        → Booking old entries halt → halt ≡ None → old.stopped ≡ None → Called old request a new
        → KeepsBetween at left_origin right_origin base (requests_of entries ++ request ∷ []) new.left new.right
    between_more old new entries halt request a b none going c l r told_left told_right =
        let past = past_of old entries halt none b l r told_left told_right in
        let before = between_of old entries halt none b l r told_left told_right in
        let s : State = (run base (requests_of entries)).0 in
        let x = value_of (at old.left).seen past.left_tells in
        let y = value_of (at old.right).seen past.right_tells in
        let P : List Command → Type 0 = λ held.
        LeavesPairs at old.left old.right new.left new.right (IsKeptAround s held request) in (
          before.0 ++ ((at new.left).moment, (at new.right).moment) ∷ [],
          along_more at old.left old.right new.left new.right c.disks.left_time c.disks.right_time base
              (commands_on l r) (requests_of entries) request (left_origin.moment, right_origin.moment) before.0 before.1
              (subst P (past.holds x.0 y.0 x.1 y.1) (c.disks.kept going x.0 y.0 s x.1 y.1 past.stands)),
        )

    pub begins : (store : Stored D)
        → store.stopped ≡ None → IsAtOrigin at base left_origin right_origin store → IsInOrder at store
        → Booking store [] None
    begins store going origin order = record {
      few = omega arith;
      legal = legal-empty base;
      state = origin.state;
      halt = going;
      keeps = going_keeps store base order going origin.state;
      cause = rw (origin.left.faults, origin.right.faults) refl;
      left = origin.left.time;
      right = origin.right.time;
      past = begins_past at left_origin right_origin may_stay base store going origin order;
      between = begins_between at left_origin right_origin base store origin;
    }

    -- the same with other changes
    pub forgets :
        (old new : Stored D) (entries : List Entry) (halt : Option Halt) (changes : List ListChange)
        → new ≡ record old { changes = changes } → Booking old entries halt → Booking new entries halt
    forgets old new entries halt changes same b = subst (λ (s : Stored D). Booking s entries halt) (sym same) (record {
      few = b.few;
      legal = b.legal;
      state = b.state;
      halt = b.halt;
      keeps = other b.keeps;
      cause = b.cause;
      left = b.left;
      right = b.right;
      past = forgets_past at left_origin right_origin base (requests_of entries) halt old changes b.past;
      between = b.between;
    }) where
      other : KeepsDisks at halt (state_after base entries) old
          → KeepsDisks at halt (state_after base entries) (record old { changes = changes })
      other keeps = by halt keeps where
        by : (h : Option Halt) → KeepsDisks at h (state_after base entries) old
            → KeepsDisks at h (state_after base entries) (record old { changes = changes })
        by None k = k
        by (Some h) k = k

    -- the same whether the changes are let go or kept
    pub forgets_or_keeps :
        {X Y : Type 0} (r : Result X Y) (old new : Stored D) (entries : List Entry) (halt : Option Halt)
        → MatchResult r (λ _. new ≡ record old { changes = [] }) (λ _. new ≡ old)
        → Booking old entries halt → Booking new entries halt
    forgets_or_keeps (Ok x) old new entries halt same b = forgets old new entries halt [] same b
    forgets_or_keeps (Err y) old new entries halt same b = subst (λ (s : Stored D). Booking s entries halt) (sym same) b

    -- a reply is entered
    pub enters :
        (old new : Stored D) (entries : List Entry) (halt : Option Halt)
        (request : Request) (reply : Reply) (session calls : ℕ)
        → Booking old entries halt → length entries < ENTRIES_MOST
        → length (own_entries session entries) ≡ calls
        → old.stopped ≡ None → IsInOrder at old → Called old request (answer.Reply reply) new
        → Booking new (entries ++ record { session = session; index = calls + 1; request = request; reply = reply }
        ∷ []) halt
    enters old new entries halt request reply session calls b few counted going ordered c =
        let e : Entry = record { session = session; index = calls + 1; request = request; reply = reply } in
        let s : State = state_after base entries in
        let none : halt ≡ None = no_halt halt old.stopped b.halt going in
        let step = c.step_is going s b.state in
        let stands : StandsFor new.core (state_after base (entries ++ e ∷ [])) =
        rw (state-snoc base entries e) step.0 in
        let still : new.stopped ≡ None = c.stops ∙ going in
        subst (λ (h : Option Halt). Booking new (entries ++ e ∷ []) h) (sym none) (record {
          few = omega (arith, length-append entries (e ∷ []), few);
          legal = legal-snoc base entries e b.legal (record {
            reply_is = sym step.1;
            index_is = ap (λ n. n + 1) (sym counted);
          });
          state = stands;
          halt = still;
          keeps = going_keeps new (state_after base (entries ++ e ∷ [])) c.order still stands;
          cause = c.cause ∙ (rw none at b.cause);
          left = goes_from left_origin old.left new.left b.left c.disks.left_time c.disks.left_telling;
          right = goes_from right_origin old.right new.right b.right c.disks.right_time c.disks.right_telling;
          past =
              subst (λ requests. KeepsPast at left_origin right_origin base requests None new)
              (sym (requests_more entries e))
              (λ l r told_left told_right.
              goes_on at may_stay (since_origin left_origin right_origin) l r base
              (requests_of entries) old new
              (past_of old entries halt none b l r told_left told_right) ordered request reply still c.order (c.step_is going)
              c.disks);
          between =
              subst (λ requests. KeepsBetween at left_origin right_origin base requests new.left new.right)
              (sym (requests_more entries e))
              (between_more old new entries halt request (answer.Reply reply) b none going c);
        })

    -- without memory nothing happened
    pub stays : (old new : Stored D) (entries : List Entry) (halt : Option Halt) (request : Request)
        → Booking old entries halt → old.stopped ≡ None → IsInOrder at old → Called old request answer.NoMemory new
        → Booking new entries halt
    stays old new entries halt request b going ordered c =
        let s : State = state_after base entries in
        let none : halt ≡ None = no_halt halt old.stopped b.halt going in
        let stands = (c.step_is going s b.state).0 in
        let still : new.stopped ≡ None = c.stops ∙ going in
        subst (λ (h : Option Halt). Booking new entries h) (sym none) (record {
          few = b.few;
          legal = b.legal;
          state = stands;
          halt = still;
          keeps = going_keeps new s c.order still stands;
          cause = c.cause ∙ (rw none at b.cause);
          left = goes_from left_origin old.left new.left b.left c.disks.left_time c.disks.left_telling;
          right = goes_from right_origin old.right new.right b.right c.disks.right_time c.disks.right_telling;
          past = λ l r told_left told_right.
              waits at may_stay (since_origin left_origin right_origin) l r base
              (requests_of entries) old new
              (past_of old entries halt none b l r told_left told_right) ordered request still (c.step_is going)
              c.disks;
          between = rw ((c.disks.no_memory refl).0, (c.disks.no_memory refl).1) (between_of old entries halt none b);
        })

    -- a fault of a disk is the halt
    pub halts : (old new : Stored D) (entries : List Entry) (halt : Option Halt) (request : Request)
        (session sum : ℕ)
        → Booking old entries halt → old.stopped ≡ None → IsInOrder at old → Called old request answer.DiskFault new
        → new.stopped ≡ Some sum
        → Booking new entries (Some (record { session = session; request = request; faults = sum }))
    halts old new entries halt request session sum b going ordered c stopped =
        let s : State = state_after base entries in
        let none : halt ≡ None = no_halt halt old.stopped b.halt going in
        let stands = (c.step_is going s b.state).0 in
        record {
          few = b.few;
          legal = b.legal;
          state = stands;
          halt = stopped;
          keeps = (
            (c.step_is going s b.state).1,
            λ l r told_left told_right.
                let before_left = value_of (at old.left).seen (c.disks.left_telling.0 (rw told_left refl)) in
                let before_right = value_of (at old.right).seen (c.disks.right_telling.0 (rw told_right refl)) in
                let around = c.disks.kept going before_left.0 before_right.0 s before_left.1 before_right.1 b.state in
                let now = λ (a b : List ℕ) (in_left : LeftNow at new.left a) (in_right : LeftNow at new.right b).
                by_step s request (commands_on before_left.0 before_right.0) a b
                (around a b ((at new.left).moment, c.disks.left_time.later, omega arith, in_left)
                ((at new.right).moment, c.disks.right_time.later, omega arith, in_right)) in
                (now l r (may_stay new.left l told_left) (may_stay new.right r told_right), now),
          );
          cause = rw (rw none at b.cause) at c.cause;
          left = goes_from left_origin old.left new.left b.left c.disks.left_time c.disks.left_telling;
          right = goes_from right_origin old.right new.right b.right c.disks.right_time c.disks.right_telling;
          past = λ l r told_left told_right.
              let failed = a_command s request (c.step_is going s b.state).1 in
              let earlier = past_of old entries halt none b l r told_left told_right in (
                AtCommand failed.0,
                (failed.0, failed.1, refl),
                stops at may_stay (since_origin left_origin right_origin) l r base
                    (requests_of entries) old new earlier ordered request failed.0 failed.1
                    (c.step_is going) c.disks,
                stops_kept at may_stay (since_origin left_origin right_origin) l r base
                    (requests_of entries) old new earlier ordered request failed.0 failed.1
                    (c.step_is going) c.disks,
                λ x y told_x told_y. stops_kept at may_stay (since_origin left_origin right_origin) l r base
                    (requests_of entries) old new earlier ordered request failed.0 failed.1
                    (c.step_is going) c.disks x y (may_stay new.left x told_x) (may_stay new.right y told_y),
              );
          between = between_more old new entries halt request answer.DiskFault b none going c;
        }

    -- any other answer leaves the book as it was
    pub others : (old new : Stored D) (entries : List Entry) (halt : Option Halt) (request : Request)
        (a : Answer)
        → Booking old entries halt → IsInOrder at old → Called old request a new
        → ((reply : Reply) → a ≡ answer.Reply reply → ⊥) → (a ≡ answer.DiskFault → ⊥)
        → Booking new entries halt
    others old new entries halt request a b ordered c no_reply no_fault = by_stop old.stopped refl where
      going_on : (a' : Answer) → a ≡ a' → old.stopped ≡ None → Booking new entries halt
      going_on (answer.Reply reply) is going = absurd (no_reply reply is)
      going_on answer.NoMemory is going = stays old new entries halt request b going ordered (rw is at c)
      going_on answer.DiskFault is going = absurd (no_fault is)
      going_on (answer.Stopped faults) is going =
          absurd (rw is at (c.step_is going (state_after base entries) b.state))
      going_on (answer.HistoryFull most) is going =
          absurd (rw is at (c.step_is going (state_after base entries) b.state))

      by_stop : (o : Option ℕ) → old.stopped ≡ o → Booking new entries halt
      by_stop None is = going_on a refl is
      by_stop (Some sum) is = rw ((c.stopped sum is).1) b

    -- what any other answer says of the book
    pub others_answer : (first old new : Stored D) (entries : List Entry) (halt : Option Halt)
        (request : Request)
        (a : Answer) (session calls : ℕ)
        → Booking old entries halt → Called old request a new → length entries < ENTRIES_MOST
        → ((reply : Reply) → a ≡ answer.Reply reply → ⊥) → (a ≡ answer.DiskFault → ⊥)
        → Enters base session calls request a (record { store = first; entries = entries; halt = halt })
        (record { store = new; entries = entries; halt = halt }) × IsTestedFirst entries a
    others_answer first old new entries halt request a session calls b c few no_reply no_fault =
        by_stop old.stopped refl where
          going_on : (a' : Answer) → a ≡ a' → old.stopped ≡ None
              → Enters base session calls request a' (record { store = first; entries = entries; halt = halt })
              (record { store = new; entries = entries; halt = halt }) × IsTestedFirst entries a'
          going_on (answer.Reply reply) is going = absurd (no_reply reply is)
          going_on answer.NoMemory is going = ((refl, refl), few)
          going_on answer.DiskFault is going = absurd (no_fault is)
          going_on (answer.Stopped faults) is going =
              absurd (rw is at (c.step_is going (state_after base entries) b.state))
          going_on (answer.HistoryFull most) is going =
              absurd (rw is at (c.step_is going (state_after base entries) b.state))

          by_stop : (o : Option ℕ) → old.stopped ≡ o
              → Enters base session calls request a (record { store = first; entries = entries; halt = halt })
              (record { store = new; entries = entries; halt = halt }) × IsTestedFirst entries a
          by_stop None is = going_on a refl is
          by_stop (Some sum) is = rw ((c.stopped sum is).0) (((refl, refl), a_halt halt old.stopped sum b.halt is), few)
