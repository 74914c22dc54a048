use Rattle.std.proofs.Common.{◌≡◌, ◌+◌, ◌∷◌, [], arith, ap, refl, sym, ◌∙◌}
use Rattle.liq_lock.specs.Seats.{number_of}
use Rattle.liq_lock.proofs.Fresh.{fresh_pop}
use Rattle.liq_book.proofs.Seating.{seated_more}
use Rattle.liq_book.proofs.service.made.+make_seats.Goals as goal

pub invariant_of-push_reserved : goal.invariant_of-push_reserved
invariant_of-push_reserved g t c =
    let fresh = (fresh_pop _ _ _ (rw c.in-Some.ensures.items at c.requires.fresh)).1 in
    let numbered : number_of c.in-Some.seat ≡ c.len.result + 1 = omega (
      arith,
      fresh.number_is,
      c.len.ensures,
      c.pop.new.self.ok.0,
    ) in
    record {
      numbered = numbered;
      stands = fresh.stands ∙ ap (λ n. n ∷ []) (sym fresh.number_is ∙ numbered);
      share = fresh.share;
      counted = rw fresh.seen refl;
    }

pub returns-clause-seated : goal.returns-clause-seated
returns-clause-seated g t c =
    let fresh = (fresh_pop _ _ _ (rw c.in-Some.ensures.items at c.requires.fresh)).1 in
    seated_more _ _ _ _ c.push_reserved.ensures.items c.make_seats-all.ensures.seated
    (record {
      own = fresh.own;
      session_is = omega (
        arith,
        c.make_seats-all.ensures.count,
        c.len.ensures,
        c.pop.new.self.ok.0,
      );
      calls = refl;
      seen = fresh.seen;
    })
