use Rattle.std.proofs.Common.{sym}
use Rattle.liq_word_serve.proofs.Mapped.{mapped_more}
use Rattle.liq_word_serve.proofs.seats.+seats_of.Goals as goal

pub returns-clause-seats : goal.returns-clause-seats
returns-clause-seats g t c = sym (mapped_more _ _ _ _ _ _ c.in-Some.ensures.items c.push_reserved.ensures.items
    (sym c.seats_of-seats.ensures.seats))
