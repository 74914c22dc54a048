use Rattle.std.proofs.Common.{◌≡◌, [], length, Ok, Err, Result, sym, ap, ◌∙◌, append-nil}
use Rattle.liq_lock.specs.Seats.{seen_in, seen_of}
use Rattle.liq_lock.proofs.Histories.{nothing_in_nil}
use Rattle.liq_book.proofs.Chronicles.{entries_of-chronicle, own_behind}
use Rattle.liq_book.specs.Booked.{Booked}
use Rattle.liq_book.specs.Entered.{IsAsBefore}
use Rattle.liq_book.specs.Items.{entries_of}
use Rattle.liq_book.specs.Publishing.{OpenBook, Publishes}
use Rattle.liq_book.proofs.Learning.{items_in, same_items}
use Rattle.liq_book.proofs.service.Service.publish.Goals as goal

-- a publication enters nothing
as_before : {D T E : Type 0} (old : OpenBook D) (result : Result T E) (new : OpenBook D)
    → Publishes old result new → IsAsBefore old.book new.book
as_before {D} old (Ok sent) new it = (ap (λ (b : Booked D). b.entries) it.2, ap (λ (b : Booked D). b.halt) it.2)
as_before {D} old (Err e) new it = (ap (λ (b : Booked D). b.entries) it.1, ap (λ (b : Booked D). b.halt) it.1)

all_as_before : {D T E : Type 0} (old : OpenBook D) (result : Result T E) (new : OpenBook D)
    → Publishes old result new → items_in new.book ≡ items_in old.book
all_as_before old result new it = same_items old.book new.book (as_before old result new it)

pub give-requires-clause-grows : goal.give-requires-clause-grows
give-requires-clause-grows g c =
    let same = all_as_before c.take-held.result.1.boxed.value c.publish-sent.result c.publish-sent.new.self.boxed.value
    c.publish-sent.ensures.sent in (
      [],
      same ∙ c.take-held.ensures.value ∙ sym (append-nil (seen_in c.take-held.result.0)),
      λ i there. absurd (nothing_in_nil i there),
    )

pub invariant_of-seat : goal.invariant_of-seat
invariant_of-seat g c = record {
  numbered = c.give.ensures.number ∙ (c.take-held.ensures.number ∙ c.args.seat.numbered);
  stands = c.give.ensures.stands ∙ (c.take-held.ensures.stands ∙ c.args.seat.stands);
  share = c.give.ensures.shares ∙ (c.take-held.ensures.shares ∙ c.args.seat.share);
  counted =
      rw (
        c.give.ensures.seen,
        all_as_before c.take-held.result.1.boxed.value c.publish-sent.result c.publish-sent.new.self.boxed.value
            c.publish-sent.ensures.sent,
      )
      (ap length (own_behind c.args.seat.session (items_in c.take-held.result.1.boxed.value.book)
      (seen_of c.args.seat.seat) (rw c.args.seat.stands at c.take-held.ensures.behind)) ∙ c.args.seat.counted);
}

pub returns-clause-others : goal.returns-clause-others
returns-clause-others g c =
    rw (
      c.give.ensures.seen,
      all_as_before c.take-held.result.1.boxed.value c.publish-sent.result c.publish-sent.new.self.boxed.value
          c.publish-sent.ensures.sent,
    ) (rw c.args.seat.stands at c.take-held.ensures.behind)

pub returns-clause-sent : goal.returns-clause-sent
returns-clause-sent g c =
    let old = c.take-held.result.1.boxed.value.book in
    let new = c.publish-sent.new.self.boxed.value.book in
    let same = as_before c.take-held.result.1.boxed.value c.publish-sent.result c.publish-sent.new.self.boxed.value
    c.publish-sent.ensures.sent in
    let many : length (entries_of (items_in new)) ≡ length old.entries =
    ap length (entries_of-chronicle new.entries new.halt)
    ∙ ap length same.0 in
    rw (c.give.ensures.seen, many) c.publish-sent.ensures.number
