use Rattle.std.proofs.Common.{◌≤◌, sym, subst, arith}
use Rattle.std.proofs.Math.Logic.{∥∥₁_map}
use Rattle.liq_rewards.specs.Kept.{Kept, IsKeptOf}
use Rattle.liq_rewards.proofs.Following.{due_small, minute_kept}
use Rattle.liq_rewards.proofs.rewards.Rewards.to_minute.Goals as goal

pub overflow_add-self : goal.overflow_add-self
overflow_add-self c = let small = due_small _ c.self.invariant in omega (arith, small, c.issued_between.ensures.within)

pub invariant_of-self : goal.invariant_of-self
invariant_of-self c = ∥∥₁_map c.self.invariant (λ k. (
  k.0,
  minute_kept _ k.0 c.args.minute c.issued_between.result (subst (λ (v : Kept). v.minute ≤ c.args.minute)
      (sym c.self.view_is) c.requires) c.issued_between.ensures.units k.1,
))

pub returns-clause-kept : goal.returns-clause-kept
returns-clause-kept c past h =
    minute_kept _ past c.args.minute c.issued_between.result (subst (λ (v : Kept). v.minute ≤ c.args.minute)
    (sym c.self.view_is) c.requires) c.issued_between.ensures.units (subst (λ (v : Kept). IsKeptOf v past)
    (sym c.self.view_is) h)
