use Rattle.std.proofs.Common.{sym, ap, subst, ◌∙◌, ◌++◌, Option, take, length-drop, length-take, arith}
use Rattle.std.specs.Prelude.{unwrap_or}
use Rattle.liq_follower.specs.declared.answers.FedEnd.{FedEnd}
use Rattle.liq_follower.specs.declared.answers.FedEnd.TheVariants as end
use Rattle.liq_follower.specs.Fed.{EndsWith}
use Rattle.std.proofs.lemmas.List.{take_rest}
use Rattle.liq_follower.proofs.Phases.{completes_at, ended_stands, ends_stopped, ends_there, fed_on, for_good, goes_inside, goes_over, memory_there, none_over, told_again}
use Rattle.liq_follower.proofs.follower.Follower.feed.Goals as goal

-- ---- it is kept

pub returns-then-keeps-clause-fed : goal.returns-then-keeps-clause-fed
returns-then-keeps-clause-fed c bytes is = c.keeps.ensures.fed c.if-keeps.true bytes is

pub returns-then-keeps-clause-end : goal.returns-then-keeps-clause-end
returns-then-keeps-clause-end c bytes is = goes_inside _ _ (c.keeps.ensures.fed c.if-keeps.true bytes is)
    (c.keeps.ensures.inside c.if-keeps.true).1

pub returns-then-keeps-clause-over : goal.returns-then-keeps-clause-over
returns-then-keeps-clause-over c bytes is over =
    absurd (over (goes_inside bytes c.args.self.now is (c.keeps.ensures.inside c.if-keeps.true).0))

pub returns-then-keeps-clause-stays : goal.returns-then-keeps-clause-stays
returns-then-keeps-clause-stays c bytes is over =
    absurd (over (goes_inside bytes c.args.self.now is (c.keeps.ensures.inside c.if-keeps.true).0))

pub returns-then-keeps-clause-again : goal.returns-then-keeps-clause-again
returns-then-keeps-clause-again c bytes is over e ends =
    absurd (over (goes_inside bytes c.args.self.now is (c.keeps.ensures.inside c.if-keeps.true).0))

pub returns-then-keeps-clause-first : goal.returns-then-keeps-clause-first
returns-then-keeps-clause-first c bytes is over = absurd (over (returns-then-keeps-clause-end c bytes is))

-- ---- it had ended

pub returns-in-Some-clause-end : goal.returns-in-Some-clause-end
returns-in-Some-clause-end c bytes is = ends_stopped _ _ _ (c.loop-taken.invariant.fed bytes is) (sym c.stopped.ensures
    ∙ c.in-Some.is)

pub returns-in-Some-clause-again : goal.returns-in-Some-clause-again
returns-in-Some-clause-again c bytes is over e ends =
    told_again bytes c.args.piece.now c.loop-taken.taken _ e (c.loop-taken.invariant.over bytes is over) over
    (ends_stopped _ _ _ (c.loop-taken.invariant.fed bytes is) (sym c.stopped.ensures ∙ c.in-Some.is)) ends

pub returns-in-Some-clause-first : goal.returns-in-Some-clause-first
returns-in-Some-clause-first c bytes is over = ended_stands _ _ (c.loop-taken.invariant.fed bytes is) over

pub returns-in-Some-clause-all : goal.returns-in-Some-clause-all
returns-in-Some-clause-all c is = absurd ((for_good _ _ (sym c.stopped.ensures ∙ c.in-Some.is)).0 is)

pub returns-in-Some-clause-memory : goal.returns-in-Some-clause-memory
returns-in-Some-clause-memory c is = absurd ((for_good _ _ (sym c.stopped.ensures ∙ c.in-Some.is)).1 is)

pub returns-in-Some-clause-right : goal.returns-in-Some-clause-right
returns-in-Some-clause-right c is = absurd ((for_good _ _ (sym c.stopped.ensures ∙ c.in-Some.is)).1 is)

-- ---- it goes on

pub loop-taken-preserved : goal.loop-taken-preserved
loop-taken-preserved c =
    let piece = c.args.piece.now in
    let before = c.loop-taken.taken in record {
      within = omega (
        arith,
        c.in-Ok.ensures.count.1,
        c.loop-taken-test.true,
        simp (length-take, length-drop) at c.in-Ok.ensures.count.1,
      );
      fed = λ bytes is.
          fed_on bytes piece _ before c.in-Ok.count _ (take_rest piece before) (c.in-Ok.ensures.fed (bytes
          ++ take before piece) (c.loop-taken.invariant.fed bytes is));
      over = λ bytes is over.
          none_over bytes before c.in-Ok.count piece (c.advance.ensures.going (bytes ++ take before piece)
          (c.loop-taken.invariant.fed bytes is)) over (c.loop-taken.invariant.over bytes is over);
      stays = λ bytes is over.
          absurd (goes_over bytes before piece (c.advance.ensures.going (bytes ++ take before piece)
          (c.loop-taken.invariant.fed bytes is)) over (c.loop-taken.invariant.over bytes is over));
    }

-- ---- a byte finds no memory

pub returns-in-Err-clause-right : goal.returns-in-Err-clause-right
returns-in-Err-clause-right c told bytes is =
    let piece = c.args.piece.now in
    let before = c.loop-taken.taken in
    let m = c.in-Err.ensures.memory (bytes ++ take before piece) (c.loop-taken.invariant.fed bytes is) in
    completes_at (bytes ++ take before piece) piece _ before (take_rest piece before) m.2

pub returns-in-Err-clause-stays : goal.returns-in-Err-clause-stays
returns-in-Err-clause-stays c bytes is over =
    let piece = c.args.piece.now in
    let before = c.loop-taken.taken in
    absurd (goes_over bytes before piece (c.advance.ensures.going (bytes ++ take before piece)
    (c.loop-taken.invariant.fed bytes is)) over (c.loop-taken.invariant.over bytes is over))

pub returns-in-Err-clause-again : goal.returns-in-Err-clause-again
returns-in-Err-clause-again c bytes is over e ends =
    let piece = c.args.piece.now in
    let before = c.loop-taken.taken in
    absurd (goes_over bytes before piece (c.advance.ensures.going (bytes ++ take before piece)
    (c.loop-taken.invariant.fed bytes is)) over (c.loop-taken.invariant.over bytes is over))

pub returns-in-Err-clause-first : goal.returns-in-Err-clause-first
returns-in-Err-clause-first c bytes is over =
    absurd (over (c.advance.ensures.going (bytes ++ take c.loop-taken.taken c.args.piece.now)
    (c.loop-taken.invariant.fed bytes is)))

-- ---- the whole piece is taken

pub returns-clause-end : goal.returns-clause-end
returns-clause-end c bytes is =
    subst (λ (e : FedEnd). EndsWith e (bytes ++ take c.loop-taken.taken c.args.piece.now))
    (sym (c.unwrap_or-end.ensures ∙ ap (λ (o : Option FedEnd). unwrap_or o end.All) c.stopped-2.ensures))
    (ends_there (bytes ++ take c.loop-taken.taken c.args.piece.now) c.loop-taken.self
    (c.loop-taken.invariant.fed bytes is))

pub returns-clause-again : goal.returns-clause-again
returns-clause-again c bytes is over e ends = told_again bytes c.args.piece.now c.loop-taken.taken _ e
    (c.loop-taken.invariant.over bytes is over) over (returns-clause-end c bytes is) ends

pub returns-clause-first : goal.returns-clause-first
returns-clause-first c bytes is over = ended_stands _ _ (c.loop-taken.invariant.fed bytes is) over

pub returns-clause-memory : goal.returns-clause-memory
returns-clause-memory c is =
    absurd (memory_there _ (sym (c.unwrap_or-end.ensures
    ∙ ap (λ (o : Option FedEnd). unwrap_or o end.All) c.stopped-2.ensures) ∙ is))

pub returns-clause-right : goal.returns-clause-right
returns-clause-right c is =
    absurd (memory_there _ (sym (c.unwrap_or-end.ensures
    ∙ ap (λ (o : Option FedEnd). unwrap_or o end.All) c.stopped-2.ensures) ∙ is))
