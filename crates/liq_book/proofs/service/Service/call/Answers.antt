use Rattle.std.proofs.Common.{length, arith, refl, ◌∙◌, ap}
use Rattle.liq_types.specs.declared.replies.Answer.TheVariants as answer
use Rattle.liq_lock.specs.Seats.{seen_of}
use Rattle.liq_book.proofs.Calling.{own_few}
use Rattle.liq_book.proofs.Chronicles.{entries_of-chronicle}
use Rattle.liq_book.proofs.Learning.{counts, counts_reply, grows, items_in, learns, limits, own_other}
use Rattle.liq_book.proofs.service.Service.call.Goals as goal

pub call-requires : goal.call-requires
call-requires g c = record {
  calls = counts c.args.seat.session c.args.seat.calls c.take-held.result.1.boxed.value.book
      (seen_of c.args.seat.seat) (rw c.args.seat.stands at c.take-held.ensures.behind) c.args.seat.counted;
}

pub give-requires-clause-grows : goal.give-requires-clause-grows
give-requires-clause-grows g c =
    rw (
      ← c.take-held.ensures.value,
      c.take-held.ensures.number
          ∙ c.args.seat.numbered,
    ) (grows g.O.Origin.state c.args.seat.session c.args.seat.calls c.args.request.now
    (answer.Reply c.in-Reply.reply) c.take-held.result.1.boxed.value.book c.call.new.self.boxed.value.book
    c.in-Reply.ensures.enters)

pub overflow_add-seat : goal.overflow_add-seat
overflow_add-seat g c =
    let counted = counts c.args.seat.session c.args.seat.calls c.take-held.result.1.boxed.value.book
    (seen_of c.args.seat.seat) (rw c.args.seat.stands at c.take-held.ensures.behind) c.args.seat.counted in
    record {
      fits = omega (
        arith,
        counted,
        own_few c.args.seat.session c.take-held.result.1.boxed.value.book.entries,
        c.in-Reply.ensures.first,
      );
    }

pub invariant_of-seat : goal.invariant_of-seat
invariant_of-seat g c =
    let learnt = learns g.O.Origin.state c.args.seat.session c.args.seat.calls c.args.request.now
    (answer.Reply c.in-Reply.reply) c.take-held.result.1.boxed.value.book c.call.new.self.boxed.value.book
    (seen_of c.args.seat.seat) (rw c.args.seat.stands at c.take-held.ensures.behind) c.in-Reply.ensures.enters in
    record {
      numbered = c.give.ensures.number ∙ (c.take-held.ensures.number ∙ c.args.seat.numbered);
      stands = c.give.ensures.stands ∙ (c.take-held.ensures.stands ∙ c.args.seat.stands);
      share = c.give.ensures.shares ∙ (c.take-held.ensures.shares ∙ c.args.seat.share);
      counted = rw c.give.ensures.seen (counts_reply g.O.Origin.state c.args.seat.session c.args.seat.calls
          c.args.request.now c.in-Reply.reply (seen_of c.args.seat.seat) (items_in c.call.new.self.boxed.value.book)
          learnt c.args.seat.counted);
    }

pub give-requires-in_default : goal.give-requires-in_default
give-requires-in_default g c = record {
  own = c.take-held.ensures.own;
  grows = rw (
    ← c.take-held.ensures.value,
    c.take-held.ensures.number
        ∙ c.args.seat.numbered,
  ) (grows g.O.Origin.state c.args.seat.session c.args.seat.calls c.args.request.now
      c.call.result c.take-held.result.1.boxed.value.book c.call.new.self.boxed.value.book c.call.ensures.enters);
}

pub invariant_of-seat-in_default : goal.invariant_of-seat-in_default
invariant_of-seat-in_default g c =
    let learnt = learns g.O.Origin.state c.args.seat.session c.args.seat.calls c.args.request.now c.call.result
    c.take-held.result.1.boxed.value.book c.call.new.self.boxed.value.book (seen_of c.args.seat.seat)
    (rw c.args.seat.stands at c.take-held.ensures.behind) c.call.ensures.enters in
    record {
      numbered = c.give-in_default.ensures.number ∙ (c.take-held.ensures.number ∙ c.args.seat.numbered);
      stands = c.give-in_default.ensures.stands ∙ (c.take-held.ensures.stands ∙ c.args.seat.stands);
      share = c.give-in_default.ensures.shares ∙ (c.take-held.ensures.shares ∙ c.args.seat.share);
      counted = rw c.give-in_default.ensures.seen
          (ap length (own_other g.O.Origin.state c.args.seat.session c.args.seat.calls c.args.request.now c.call.result
          (seen_of c.args.seat.seat) (items_in c.call.new.self.boxed.value.book) c.in_default.not-Reply learnt)
          ∙ c.args.seat.counted);
    }

pub returns-in-Reply-clause-answered : goal.returns-in-Reply-clause-answered
returns-in-Reply-clause-answered g c =
    rw c.give.ensures.seen (learns g.O.Origin.state c.args.seat.session c.args.seat.calls c.args.request.now
    (answer.Reply c.in-Reply.reply) c.take-held.result.1.boxed.value.book c.call.new.self.boxed.value.book
    (seen_of c.args.seat.seat) (rw c.args.seat.stands at c.take-held.ensures.behind) c.in-Reply.ensures.enters)

pub returns-in-Reply-clause-limited : goal.returns-in-Reply-clause-limited
returns-in-Reply-clause-limited g c =
    rw c.give.ensures.seen (limits g.O.Origin.state c.args.seat.session c.args.seat.calls c.args.request.now
    (answer.Reply c.in-Reply.reply) c.take-held.result.1.boxed.value.book c.call.new.self.boxed.value.book
    c.in-Reply.ensures.enters c.in-Reply.ensures.first)

pub returns-in-Reply-clause-legal : goal.returns-in-Reply-clause-legal
returns-in-Reply-clause-legal g c =
    rw (
      c.give.ensures.seen,
      entries_of-chronicle c.call.new.self.boxed.value.book.entries
          c.call.new.self.boxed.value.book.halt,
    ) c.in-Reply.ensures.legal

pub returns-in_default : goal.returns-in_default
returns-in_default g c = record {
  own = c.give-in_default.ensures.own;
  session = refl;
  answered = rw c.give-in_default.ensures.seen (learns g.O.Origin.state c.args.seat.session c.args.seat.calls
      c.args.request.now c.call.result c.take-held.result.1.boxed.value.book c.call.new.self.boxed.value.book
      (seen_of c.args.seat.seat) (rw c.args.seat.stands at c.take-held.ensures.behind) c.call.ensures.enters);
  limited = rw c.give-in_default.ensures.seen (limits g.O.Origin.state c.args.seat.session c.args.seat.calls
      c.args.request.now c.call.result c.take-held.result.1.boxed.value.book c.call.new.self.boxed.value.book
      c.call.ensures.enters c.call.ensures.first);
  legal = rw (
    c.give-in_default.ensures.seen,
    entries_of-chronicle c.call.new.self.boxed.value.book.entries
        c.call.new.self.boxed.value.book.halt,
  ) c.call.ensures.legal;
}
