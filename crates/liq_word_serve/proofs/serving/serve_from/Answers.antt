use Rattle.std.proofs.Common.{◌∙◌, arith}
use Rattle.liq_word_serve.proofs.Assembling.{came_many, came_own, serves_came, serves_none}
use Rattle.liq_word_serve.proofs.Counting.{each_short}
use Rattle.liq_word_serve.proofs.serving.serve_from.Goals as goal

pub returns-in-Err : goal.returns-in-Err
returns-in-Err g c =
    let none = c.end_without_service.ensures in
    let back = c.in-Err.ensures.err in
    serves_none _ _ _ _ _ (g.met.D.Disk g.world.𝓛 g.world.𝓜 g.world.𝓡 (
      (λ s x. x),
      (λ x. x),
      (λ x. x),
      λ x. x,
    )).seen_may_stay c.in-Err.store c.end_without_service.result none.left none.right none.history none.end
    (rw back c.args.asked.servable.going) none.order (rw back c.requires.origin)

pub run_at-seats-requires-clause-short : goal.run_at-seats-requires-clause-short
run_at-seats-requires-clause-short g c κs within = each_short c.args.asked.scripts.items c.args.asked.servable.total

pub close_service-requires-clause-own : goal.close_service-requires-clause-own
close_service-requires-clause-own g c =
    rw (← c.new-desk.ensures) (came_own _ _ _ _ _ _ c.run_at-seats.ensures (λ k d within. rw c.new-desk.ensures
    ((c.in-Ok.ensures.seats k d within).own)))

pub close_service-requires-clause-all : goal.close_service-requires-clause-all
close_service-requires-clause-all g c =
    omega (
      arith,
      came_many _ _ c.args.asked.scripts.items c.in-Ok.made.1.items c.run_at-seats.result.0.items _
          c.run_at-seats.ensures (c.in-Ok.ensures.count ∙ c.len-count.ensures ∙ c.args.asked.scripts.ok.0),
      c.in-Ok.ensures.sessions,
      c.len-count.ensures,
      c.args.asked.scripts.ok.0,
    )

pub returns : goal.returns
returns g c =
    serves_came _ _ c.args.asked.scripts.items c.in-Ok.made.1.items c.run_at-seats.result.0.items
    c.run_at-seats.result.1 _ _ _ _ c.in-Ok.made.0.lock _ c.close_service.result
    c.args.asked.servable.numbered c.in-Ok.ensures.seats
    (c.in-Ok.ensures.count ∙ c.len-count.ensures ∙ c.args.asked.scripts.ok.0) c.args.asked.servable.total (omega (
      arith,
      c.in-Ok.ensures.sessions,
      c.len-count.ensures,
      c.args.asked.scripts.ok.0,
    )) c.close_service.ensures c.run_at-seats.ensures

pub run_at-seats-requires-clause-belong : goal.run_at-seats-requires-clause-belong
run_at-seats-requires-clause-belong g c κs within k d less =
    rw c.new-desk.ensures ((c.in-Ok.ensures.seats k d less).own)
