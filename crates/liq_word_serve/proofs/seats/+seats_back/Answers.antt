use Rattle.std.proofs.Common.{length, sym, ap, arith, ◌∙◌}
use Rattle.std.proofs.lemmas.List.{length-map}
use Rattle.liq_word_serve.proofs.Mapped.{mapped_more}
use Rattle.liq_word_serve.proofs.Told.{all_tested, not_all_tested}
use Rattle.liq_word_serve.proofs.seats.+seats_back.Goals as goal
use Rattle.liq_word_serve.proofs.seats.+seats_back.Goals.{then-others, else-others}

pub push_reserved-requires : goal.push_reserved-requires
push_reserved-requires g t c =
    omega (
      arith,
      ap length c.seats_back-seats.ensures.seats,
      length-map c.pop.new.self.items (λ d. d.seat),
      c.seats_back-seats.ensures.room,
      c.in-Some.ensures.len,
      c.requires.room,
      c.seats_back-seats.result.0.ok.0,
      c.pop.new.self.ok.0,
      c.args.done.ok.0,
    )

pub returns-clause-seats : goal.returns-clause-seats
returns-clause-seats g t c = sym (mapped_more _ _ _ _ _ _ c.in-Some.ensures.items c.push_reserved.ensures.items
    (sym c.seats_back-seats.ensures.seats))

pub returns-clause-whole : goal.returns-clause-whole
returns-clause-whole g t c =
    elim c.if-others.branch [
      | then-others w ↦ all_tested _ c.pop.new.self.items c.args.done.items c.in-Some.last _ _ c.if-others.result
          c.in-Some.ensures.items c.seats_back-seats.ensures.whole c.got_all-is_whole.ensures w.if-others.true
          w.result-is
      | else-others w ↦ not_all_tested _ c.pop.new.self.items c.args.done.items c.in-Some.last _ _ c.if-others.result
          c.in-Some.ensures.items c.seats_back-seats.ensures.whole c.got_all-is_whole.ensures w.if-others.false
          (w.result-is ∙ w.if-others.false)
    ]
