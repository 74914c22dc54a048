use Rattle.liq_book.proofs.Pasts.{at_itself}
use Rattle.liq_core.proofs.Alike.{core_alike}
use Rattle.liq_word_serve.proofs.Alike.{serves_alike}
use Rattle.liq_word_serve.proofs.serving.serve_sessions.Goals as goal

pub serve_from-requires-clause-origin : goal.serve_from-requires-clause-origin
serve_from-requires-clause-origin g c κs within =
    at_itself g.D.Disk.at c.args.store (rw c.protocol.ensures at c.protocols_stand.ensures)

pub returns : goal.returns
returns g c s stands =
    serves_alike _ (core_alike c.args.store.core _ s (rw c.protocol.ensures at c.protocols_stand.ensures) stands) _ _
    c.args.scripts.items c.serve_from.result c.serve_from.ensures
