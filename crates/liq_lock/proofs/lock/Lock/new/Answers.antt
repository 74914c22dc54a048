use Rattle.std.proofs.Common.{◌∙◌, List, [], ◌∷◌, ◌++◌, sym, ap, subst}
use Rattle.std.specs.Prelude.{Option, Some}
use Rattle.atomic_table.specs.Table.{opening}
use Rattle.liq_lock.specs.declared.view.View.{View}
use Rattle.liq_lock.specs.Rule.{Ruled}
use Rattle.liq_lock.specs.Views.{opener}
use Rattle.liq_lock.proofs.Ends.{opens}
use Rattle.liq_lock.proofs.Fresh.{none_dealt}
use Rattle.liq_lock.proofs.lock.Lock.new.Goals as goal

pub new-requires : goal.new-requires
new-requires g c =
    subst (λ (l : List (Option g.row.T.Denot)). Ruled g.T.Chronicle.history g.T.Chronicle.maker c.args.seats
    (opening (0 ∷ 0 ∷ 0 ∷ []) l (opener c.args.seats)))
    (sym (c.push_reserved.ensures.items ∙ ap (λ (l : List (Option g.row.T.Denot)). l ++ Some c.args.value
    ∷ []) c.in-Ok-with_capacity.ensures.items))
    (opens g.T.Chronicle.history g.T.Chronicle.maker c.args.seats c.args.value c.requires.some_seat c.ranges.seats.fits
    c.requires.empty)

pub deal-seats-requires-clause-own : goal.deal-seats-requires-clause-own
deal-seats-requires-clause-own g c = c.in-Ok-new.ensures.ok.2

pub deal-seats-requires-clause-first : goal.deal-seats-requires-clause-first
deal-seats-requires-clause-first g c = c.in-Ok-new.ensures.ok.4 ∙ ap (λ (v : View g.row.T-Item.Denot). (v, []))
    (none_dealt c.args.seats)
