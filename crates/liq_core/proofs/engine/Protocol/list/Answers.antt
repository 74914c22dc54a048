use Rattle.std.specs.Prelude.{IfOk, Result, Ok, Err}
use Rattle.liq_core.proofs.FromNothing.{told_as, told_view}
use Rattle.liq_core.proofs.engine.Protocol.list.Goals as goal

if_ok : {A B : Type 0} (r : Result A B) (P Q : A → Type 0) → ((x : A) → P x → Q x) → IfOk r P → IfOk r Q
if_ok (Ok x) P Q f h = f x h
if_ok (Err e) P Q f h = tt

pub returns-clause-told : goal.returns-clause-told
returns-clause-told c =
    if_ok c.told_along.result _ _
    (λ changes is. told_as c.self.inside c.sums-sums.result.now c.sums-sums.ensures.sums changes.items is
    c.args.self.now c.self.view_is) c.told_along.ensures

pub returns-clause-followed : goal.returns-clause-followed
returns-clause-followed c =
    if_ok c.told_along.result _ _
    (λ changes is s h. told_view c.self.inside c.self.invariant c.sums-sums.result.now c.sums-sums.ensures.sums
    changes.items is c.args.self.now c.self.view_is s h) c.told_along.ensures
