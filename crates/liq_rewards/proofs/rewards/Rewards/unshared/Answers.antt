use Rattle.std.proofs.Common.{◌+◌, ◌≤◌, cond, Option, ap, sym, subst, ◌∙◌, arith}
use Rattle.std.specs.Option.{is_some}
use Rattle.liq_types.specs.PlainLedger.{over_accounts}
use Rattle.liq_rewards.specs.Issued.{issued}
use Rattle.liq_rewards.specs.Timed.{unshared_at}
use Rattle.liq_rewards.specs.Earning.{reward_at}
use Rattle.liq_rewards.specs.Kept.{Kept, IsKeptOf}
use Rattle.liq_rewards.specs.declared.sharing.Sharing.{Sharing}
use Rattle.liq_rewards.proofs.Following.{due_small, unshared_small, product_small, unshared_is, whole_kept}
use Rattle.liq_rewards.proofs.rewards.Rewards.unshared.Goals as goal

pub of-sharing-requires-clause-units : goal.of-sharing-requires-clause-units
of-sharing-requires-clause-units c = due_small _ c.self.invariant

pub of-sharing-requires-clause-product : goal.of-sharing-requires-clause-product
of-sharing-requires-clause-product c = product_small _ c.self.invariant

pub overflow_add-result : goal.overflow_add-result
overflow_add-result c = let small = unshared_small _ c.self.invariant
    in omega (arith, small, c.unshared_by.ensures.within)

pub returns-clause-unshared : goal.returns-clause-unshared
returns-clause-unshared c past h =
    ap (λ n. c.self.inside.unshared + n) (c.unshared_by.ensures.units
    ∙ ap (λ (o : Option Sharing). cond (is_some o) 0 c.self.inside.due) c.of-sharing.ensures.sharing)
    ∙ unshared_is _ past (subst (λ (v : Kept). IsKeptOf v past) (sym c.self.view_is) h)
    ∙ ap (λ (v : Kept). unshared_at v.minute past) c.self.view_is

pub returns-clause-whole : goal.returns-clause-whole
returns-clause-whole c past h n below =
    subst (λ (v : Kept). over_accounts n (λ account. reward_at account v.minute past) + (c.self.inside.unshared
    + c.unshared_by.result) ≤ issued v.minute) c.self.view_is
    (whole_kept _ past (subst (λ (v : Kept). IsKeptOf v past) (sym c.self.view_is) h) n below (c.self.inside.unshared
    + c.unshared_by.result)
    (ap (λ n. c.self.inside.unshared + n) (c.unshared_by.ensures.units
    ∙ ap (λ (o : Option Sharing). cond (is_some o) 0 c.self.inside.due) c.of-sharing.ensures.sharing)
    ∙ unshared_is _ past (subst (λ (v : Kept). IsKeptOf v past) (sym c.self.view_is) h)))
