use Rattle.std.proofs.Common.{drop}
use Rattle.liq_views.proofs.publisher.sent.send.Given as goal

abbrev pub ghosts-send_these : goal.ghosts-send_these
ghosts-send_these g a = record { batches = drop a.writer.behind a.writer.log.items }
