use Rattle.std.proofs.Common.{◌≡◌, ℕ, ◌+◌, ◌<◌, ◌≤◌, true, false, Result, Ok, Err, Some, None, arith, refl, sym, ◌∙◌, ap, subst}
use Rattle.std.specs.Option.{option_map}
use Rattle.std.specs.Result.{OnOk, is_err}
use Rattle.liq_types.specs.declared.replies.Answer.TheVariants as answer
use Rattle.liq_types.specs.Soundness.{IsSoundImage}
use Rattle.liq_core.specs.Core.{Core}
use Rattle.liq_store.specs.Causes.{stopped_after, sum_of}
use Rattle.liq_book.proofs.Unentered.{entries_stay}
use Rattle.liq_book.specs.Entering.{faults_in}
use Rattle.liq_book.proofs.Calling.{enters, forgets, goes, halts, no_halt, others, others_answer, own_few}
use Rattle.liq_book.proofs.Telling.{entry_more, nothing_more, nothing_published}
use Rattle.liq_book.proofs.book.Book.call.Given.{Over}
use Rattle.liq_book.proofs.book.Book.call.Goals as goal

-- there is room for one more, where room was made
room_made : {T E : Type 0} (made : Result T E) (len capacity : ℕ) → is_err made ≡ false → OnOk made (len + 1 ≤ capacity)
    → len < capacity
room_made (Ok x) len capacity ok room = let more : len + 1 ≤ capacity = room in omega arith
room_made (Err e) len capacity ok room = let differ : true ≡ false = ok in absurd (cc)

pub enter-requires-clause-room : goal.enter-requires-clause-room
enter-requires-clause-room g c = room_made c.try_reserve.result _ _ (sym c.is_err.ensures.value
    ∙ c.if-is_err.false) c.try_reserve.ensures.ok

pub enter-requires-clause-calls : goal.enter-requires-clause-calls
enter-requires-clause-calls g c =
    let most = own_few c.args.session c.self.inside.entries.items in
    omega (arith, most, c.self.invariant.0.few, rw (← c.self.view_is) at c.requires.calls)

-- Where a disk met a fault the store went on before. It is stopped by the faults that are counted
-- then, and the halt has them.
record IsHalted (g : Over) (c : goal.After-self-1 g) : Type 0 where
  sum : ℕ
  going : c.forget_opening.new.store.stopped ≡ None
  stopped : c.enter.new.store.stopped ≡ Some sum
  halt : c.halt_by-self-inside.result
      ≡ Some (record { session = c.args.session; request = c.args.request.now; faults = sum })

is_halted : (g : Over) (c : goal.After-self-1 g) → IsHalted g c
is_halted g c =
    let going : c.forget_opening.new.store.stopped ≡ None =
    goes _ (λ sum is. let no = (c.in-DiskFault.ensures.store.stopped sum is).0 in cc) in
    let sum : ℕ = sum_of (faults_in g.D.Disk.at c.enter.new.store) in
    let stopped : c.enter.new.store.stopped ≡ Some sum = c.in-DiskFault.ensures.store.stops
    ∙ ap (λ o. stopped_after o answer.DiskFault (faults_in g.D.Disk.at c.enter.new.store)) going in
    record {
      sum = sum;
      going = going;
      stopped = stopped;
      halt = c.halt_by-self-inside.ensures
          ∙ ap (option_map (λ n. record { session = c.args.session; request = c.args.request.now; faults = n }))
          (c.stopped.ensures.sum ∙ stopped);
    }

pub invariant_of-self-in-Reply : goal.invariant_of-self-in-Reply
invariant_of-self-in-Reply g c =
    let going : c.forget_opening.new.store.stopped ≡ None =
    goes _ (λ sum is. let no = (c.in-Reply.ensures.store.stopped sum is).0 in cc) in
    let book = forgets _ g.met.D.Disk.seen_may_stay _ _ _ _ _ _ _ _ c.forget_opening.ensures.store c.self.invariant.0 in
    rw (c.in-Reply.ensures.entered, c.try_reserve.ensures.items) (
      enters _ g.met.D.Disk.seen_may_stay _ _ _ _ _ _ _ _ _ _ _
          book (omega (
            arith,
            c.if-len-eq-ENTRIES_MOST.false,
            c.len.ensures,
            c.self.invariant.0.few,
            c.self.inside.entries.ok.0,
          )) (rw (← c.self.view_is) at c.requires.calls) going
          c.forget_opening.ensures.order c.in-Reply.ensures.store,
      entry_more _ c.forget_opening.new.store _ _ _ c.self.inside.halt _ _ _
          (nothing_more _ _ c.forget_opening.new.store _ _ c.self.inside.halt _ _ c.self.invariant.1
          (rw (c.as_slice.ensures.value, c.try_reserve.ensures.items) at c.forget_opening.ensures.changes))
          (subst (λ (core : Core). IsSoundImage core.image core.records) c.protocol.ensures
          c.protocols_are_sound.ensures) book.state (c.in-Reply.ensures.store.tells _ book.state),
    )

pub invariant_of-self-in-DiskFault : goal.invariant_of-self-in-DiskFault
invariant_of-self-in-DiskFault g c =
    let book = forgets _ g.met.D.Disk.seen_may_stay _ _ _ _ _ _ _ _ c.forget_opening.ensures.store c.self.invariant.0 in
    let halted = is_halted g c in
    rw (c.in-DiskFault.ensures.entered, c.try_reserve.ensures.items, halted.halt) (
      halts _ g.met.D.Disk.seen_may_stay _ _ _ _ _ _ _ c.args.request.now c.args.session halted.sum book halted.going
          c.forget_opening.ensures.order c.in-DiskFault.ensures.store halted.stopped,
      nothing_published _ _ c.forget_opening.new.store c.enter.new.store _ c.self.inside.halt _ c.args.request.now
          answer.DiskFault _ _ c.self.invariant.1
          (rw (c.as_slice.ensures.value, c.try_reserve.ensures.items) at c.forget_opening.ensures.changes)
          (λ reply is. cc) (c.in-DiskFault.ensures.store.tells _ book.state),
    )

pub invariant_of-self-in_default : goal.invariant_of-self-in_default
invariant_of-self-in_default g c =
    let book = forgets _ g.met.D.Disk.seen_may_stay _ _ _ _ _ _ _ _ c.forget_opening.ensures.store c.self.invariant.0 in
    rw (
      entries_stay c.args.session c.args.calls c.args.request.now c.enter.result _ _ c.in_default.not-Reply
          c.enter.ensures.entered,
      c.try_reserve.ensures.items,
    ) (
      others _ g.met.D.Disk.seen_may_stay _ _ _ _ _ _ _ c.args.request.now c.enter.result
          book c.forget_opening.ensures.order c.enter.ensures.store c.in_default.not-Reply c.in_default.not-DiskFault,
      nothing_published _ _ c.forget_opening.new.store c.enter.new.store _ c.self.inside.halt _ c.args.request.now
          c.enter.result _ _ c.self.invariant.1
          (rw (c.as_slice.ensures.value, c.try_reserve.ensures.items) at c.forget_opening.ensures.changes)
          c.in_default.not-Reply (c.enter.ensures.store.tells _ book.state),
    )

pub returns-in-Reply-clause-enters : goal.returns-in-Reply-clause-enters
returns-in-Reply-clause-enters g c =
    let going : c.forget_opening.new.store.stopped ≡ None =
    goes _ (λ sum is. let no = (c.in-Reply.ensures.store.stopped sum is).0 in cc) in
    let book = forgets _ g.met.D.Disk.seen_may_stay _ _ _ _ _ _ _ _ c.forget_opening.ensures.store c.self.invariant.0 in
    let none = no_halt c.self.inside.halt c.forget_opening.new.store.stopped book.halt going in
    rw (← c.self.view_is, c.in-Reply.ensures.entered, c.try_reserve.ensures.items) (
      none,
      none,
      refl,
      sym (c.in-Reply.ensures.store.step_is going _ book.state).1,
    )

pub returns-in-Reply-clause-legal : goal.returns-in-Reply-clause-legal
returns-in-Reply-clause-legal g c = (invariant_of-self-in-Reply g c).0.legal

pub returns-in-Reply-clause-few : goal.returns-in-Reply-clause-few
returns-in-Reply-clause-few g c = (invariant_of-self-in-Reply g c).0.few

pub returns-in-DiskFault-clause-enters : goal.returns-in-DiskFault-clause-enters
returns-in-DiskFault-clause-enters g c =
    let book = forgets _ g.met.D.Disk.seen_may_stay _ _ _ _ _ _ _ _ c.forget_opening.ensures.store c.self.invariant.0 in
    let halted = is_halted g c in
    rw (← c.self.view_is) (
      no_halt c.self.inside.halt c.forget_opening.new.store.stopped book.halt halted.going,
      c.in-DiskFault.ensures.entered ∙ c.try_reserve.ensures.items,
      (halted.sum, halted.halt),
    )

pub returns-in_default : goal.returns-in_default
returns-in_default g c =
    let book = forgets _ g.met.D.Disk.seen_may_stay _ _ _ _ _ _ _ _ c.forget_opening.ensures.store c.self.invariant.0 in
    let says =
    others_answer _ g.met.D.Disk.seen_may_stay _ _ _ c.self.inside.store _ c.enter.new.store _ _
    c.args.request.now c.enter.result c.args.session c.args.calls book
    c.enter.ensures.store
    (omega (arith, c.if-len-eq-ENTRIES_MOST.false, c.len.ensures, c.self.invariant.0.few, c.self.inside.entries.ok.0))
    c.in_default.not-Reply c.in_default.not-DiskFault in
    rw (
      ← c.self.view_is,
      entries_stay c.args.session c.args.calls c.args.request.now c.enter.result _ _
          c.in_default.not-Reply c.enter.ensures.entered,
      c.try_reserve.ensures.items,
    ) (record {
      enters = says.0;
      first = says.1;
      legal = book.legal;
      few = book.few;
      silent = (refl, refl);
    })

pub returns-in-Reply-clause-silent : goal.returns-in-Reply-clause-silent
returns-in-Reply-clause-silent g c = rw (← c.self.view_is) (refl, refl)

pub returns-in-DiskFault-clause-silent : goal.returns-in-DiskFault-clause-silent
returns-in-DiskFault-clause-silent g c = rw (← c.self.view_is) (refl, refl)
