use Rattle.liq_word_serve.proofs.Leaving.{leaves}
use Rattle.liq_word_serve.proofs.serving.close_service.Goals as goal

pub returns : goal.returns
returns g c =
    leaves _ _ _ _ _ _ _ c.end_of_service.result c.in-Ok.closed.store c.in-Ok.closed.history c.in-Ok.closed.halt
    c.end_of_service.ensures.left c.end_of_service.ensures.right c.end_of_service.ensures.history
    c.end_of_service.ensures.end c.end_of_service.ensures.order
    c.in-Ok.ensures.book c.in-Ok.ensures.seen c.in-Ok.ensures.sessions
