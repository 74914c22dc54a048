use Rattle.std.proofs.Common.{ℕ, List, Option, Some, sym, subst}
use Rattle.liq_order.specs.Examples.{entry, four}
use Rattle.liq_order.specs.Order.{Ranked, IsTight}
use Rattle.liq_order.proofs.Rising.{four_tight}
use Rattle.liq_order.proofs.examples.fifth_example.Goals as goal

pub returns-clause-tight : goal.returns-clause-tight
returns-clause-tight g c prev next =
    c.insert.ensures.tight
    (subst (λ (l : List Ranked). IsTight l (entry 25 9) c.args.hint.now.prev c.args.hint.now.next) (sym c.requires.four)
    (subst (λ (o : Option ℕ). IsTight four (entry 25 9) o c.args.hint.now.next) (sym prev)
    (subst (λ (o : Option ℕ). IsTight four (entry 25 9) (Some 2) o) (sym next) four_tight)))
