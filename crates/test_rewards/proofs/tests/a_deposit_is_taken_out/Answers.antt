use Rattle.std.proofs.Common.{[]}
use Rattle.liq_rewards.specs.Kept.{IsKeptOf}
use Rattle.test_rewards.proofs.Lists.{taken_1, taken_2, taken_may_1, taken_may_2, taken_may_3}
use Rattle.test_rewards.proofs.tests.a_deposit_is_taken_out.Goals as goal

pub withdraw-requires-clause-may : goal.withdraw-requires-clause-may
withdraw-requires-clause-may g c =
    let one : IsKeptOf c.provide.new.rewards taken_1 = c.provide.ensures.kept [] c.new-rewards.ensures.kept taken_may_1
    in
    let two : IsKeptOf c.provide-2.new.rewards taken_2 = c.provide-2.ensures.kept taken_1 one taken_may_2 in
    ∣ (taken_2, two, taken_may_3) ∣₁

pub provide-requires-2-clause-may : goal.provide-requires-2-clause-may
provide-requires-2-clause-may g c =
    ∣ (taken_1, c.provide.ensures.kept [] c.new-rewards.ensures.kept taken_may_1, taken_may_2) ∣₁
