use Rattle.liq_book.proofs.Unentered.{not_entered}
use Rattle.liq_book.proofs.entering.enter.Goals as goal

pub returns-in_default-clause-entered : goal.returns-in_default-clause-entered
returns-in_default-clause-entered g c =
    not_entered c.args.session c.args.calls c.args.request.now c.call.result c.args.entries.now.items
    c.in_default.not-Reply

pub returns-in-Reply-clause-store : goal.returns-in-Reply-clause-store
returns-in-Reply-clause-store g c = record {
  stopped = c.in-Reply.ensures.stopped;
  step_is = c.in-Reply.ensures.step;
  stops = c.in-Reply.ensures.stops;
  tells = c.in-Reply.ensures.told;
  cause = c.in-Reply.ensures.cause;
  disks = c.in-Reply.ensures.disks;
  order = c.in-Reply.ensures.order;
}

pub returns-in_default-clause-store : goal.returns-in_default-clause-store
returns-in_default-clause-store g c = record {
  stopped = c.call.ensures.stopped;
  step_is = c.call.ensures.step;
  stops = c.call.ensures.stops;
  tells = c.call.ensures.told;
  cause = c.call.ensures.cause;
  disks = c.call.ensures.disks;
  order = c.call.ensures.order;
}
