use Rattle.std.proofs.Common.{drop}
use Rattle.left_right.specs.Sides.{view}
use Rattle.liq_views.proofs.Keeping.{sends_these}
use Rattle.liq_views.proofs.publisher.sent.send_these.Goals as goal

pub publish_as-requires : goal.publish_as-requires
publish_as-requires g c next is =
    let writer = c.args.writer in
    sends_these writer.desk.place.id (view writer.desk.place) g.B.Pending.batches (drop writer.behind writer.log.items)
    writer.desk.shown.value next
    c.requires.these c.requires.made is
