use Rattle.std.proofs.Common.{[]}
use Rattle.liq_rewards.specs.Kept.{IsKeptOf}
use Rattle.test_rewards.proofs.Lists.{least_1, least_may_1, least_may_2}
use Rattle.test_rewards.proofs.tests.the_least_total.Goals as goal

pub provide-requires-2-clause-may : goal.provide-requires-2-clause-may
provide-requires-2-clause-may g c =
    let one : IsKeptOf c.provide.new.rewards least_1 = c.provide.ensures.kept [] c.new-rewards.ensures.kept least_may_1
    in
    ∣ (least_1, c.to_minute.ensures.kept least_1 one, least_may_2) ∣₁
