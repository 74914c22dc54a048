use Rattle.std.proofs.Common.{drop}
use Rattle.left_right.specs.Sides.{view}
use Rattle.liq_views.proofs.Keeping.{waits_more, stays_made, last_given}
use Rattle.liq_views.proofs.publisher.Publisher.publish.Goals as goal

pub replace_with-sent-requires : goal.replace_with-sent-requires
replace_with-sent-requires g c =
    let old = c.args.self.now.writer in
    let new = c.append.new.self in
    waits_more old.desk new.desk (λ d. d.shown.value) (λ d. view d.place) (drop old.behind old.log.items)
    (drop new.behind new.log.items)
    c.in_ok-batch.batch (record { changes = c.args.changes.now; number = c.args.number }) c.in-Ok.ensures.desk
    (c.args.self.now.knows, c.args.self.now.rise)
    c.requires c.in_ok-batch.ensures c.in-Ok.ensures.pending

pub invariant_of-self-2 : goal.invariant_of-self-2
invariant_of-self-2 g c =
    let old = c.args.self.now.writer in
    let new = c.append.new.self in
    let sent = c.replace_with-sent.new.dest in
    let made = waits_more old.desk new.desk (λ d. d.shown.value) (λ d. view d.place) (drop old.behind old.log.items)
    (drop new.behind new.log.items)
    c.in_ok-batch.batch (record { changes = c.args.changes.now; number = c.args.number }) c.in-Ok.ensures.desk
    (c.args.self.now.knows, c.args.self.now.rise)
    c.requires c.in_ok-batch.ensures c.in-Ok.ensures.pending in
    let stays = stays_made c.replace_with-sent.result new.desk.shown.value sent.desk.shown.value (view new.desk.place)
    (view sent.desk.place)
    (drop new.behind new.log.items) (drop sent.behind sent.log.items) made c.replace_with-sent.ensures in
    record { knows = stays.0; rise = stays.1 }

pub returns-in-Ok-sent-clause-last : goal.returns-in-Ok-sent-clause-last
returns-in-Ok-sent-clause-last g c =
    last_given c.replace_with-sent.result c.args.self.now.writer c.append.new.self c.replace_with-sent.new.dest
    (λ w. w.desk.shown.value) (λ w. view w.desk.place) (λ w. drop w.behind w.log.items)
    c.in_ok-batch.batch (record { changes = c.args.changes.now; number = c.args.number }) c.in-Ok.ensures.pending
    c.in_ok-batch.ensures c.replace_with-sent.ensures

pub returns-in-Err-sent-clause-last : goal.returns-in-Err-sent-clause-last
returns-in-Err-sent-clause-last g c =
    last_given c.replace_with-sent.result c.args.self.now.writer c.append.new.self c.replace_with-sent.new.dest
    (λ w. w.desk.shown.value) (λ w. view w.desk.place) (λ w. drop w.behind w.log.items)
    c.in_ok-batch.batch (record { changes = c.args.changes.now; number = c.args.number }) c.in-Ok.ensures.pending
    c.in_ok-batch.ensures c.replace_with-sent.ensures
