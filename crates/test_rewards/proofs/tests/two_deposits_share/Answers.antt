use Rattle.std.proofs.Common.{[]}
use Rattle.liq_rewards.specs.Kept.{IsKeptOf}
use Rattle.test_rewards.proofs.Lists.{shared_1, shared_2, shared_may_1, shared_may_2, shared_may_3}
use Rattle.test_rewards.proofs.tests.two_deposits_share.Goals as goal

pub offset-requires-clause-may : goal.offset-requires-clause-may
offset-requires-clause-may g c =
    let one : IsKeptOf c.provide.new.rewards shared_1 =
    c.provide.ensures.kept [] c.new-rewards.ensures.kept shared_may_1 in
    let two : IsKeptOf c.provide-2.new.rewards shared_2 = c.provide-2.ensures.kept shared_1 one shared_may_2 in
    ∣ (shared_2, two, shared_may_3) ∣₁

pub provide-requires-2-clause-may : goal.provide-requires-2-clause-may
provide-requires-2-clause-may g c =
    ∣ (shared_1, c.provide.ensures.kept [] c.new-rewards.ensures.kept shared_may_1, shared_may_2) ∣₁
