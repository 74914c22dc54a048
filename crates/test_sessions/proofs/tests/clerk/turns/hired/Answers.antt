use Rattle.std.proofs.Common.{rules, ◌≡◌, [], ◌∷◌, sym, subst, length-append}
use Rattle.std.proofs.lemmas.List.Elements.{All-append, All-cons, All-nil}
use Rattle.std.specs.Prelude.{All}
use Rattle.liq_lock.specs.Seats.{lock_id, seat_id, AreFresh}
use Rattle.liq_lock.proofs.Fresh.{fresh_pop}
use Rattle.test_sessions.specs.declared.tests.clerk.Clerk.{Clerk}
use Rattle.test_sessions.proofs.tests.clerk.turns.hired.Goals as goal

pub loop-seat-preserved : goal.loop-seat-preserved
loop-seat-preserved c =
    let id = lock_id c.args.lock.now in
    let before = c.loop-seat.invariant in
    let left = c.pop.new.self.items in
    let seat = c.in-Some.seat in
    let fresh = fresh_pop id left seat (subst (AreFresh id) c.in-Some.ensures.items before.0) in
    let own = fresh.1.own in
    let seats = length-append left (seat ∷ []) in
    let P : Clerk → Type 0 = λ clerk. seat_id clerk.seat ≡ id in (
      fresh.0,
      search rules,
      search rules,
      subst (All P) (sym c.push_reserved.ensures.items) (All-append P c.loop-seat.clerks.items (_ ∷ []) before.3
          (All-cons P _ [] own (All-nil P))),
    )
