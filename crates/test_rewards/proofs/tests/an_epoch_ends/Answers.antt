use Rattle.std.proofs.Common.{[]}
use Rattle.liq_rewards.specs.Kept.{IsKeptOf}
use Rattle.test_rewards.proofs.Lists.{ended_1, ended_2, ended_may_1, ended_may_2, ended_may_3}
use Rattle.test_rewards.proofs.tests.an_epoch_ends.Goals as goal

pub provide-requires-2-clause-may : goal.provide-requires-2-clause-may
provide-requires-2-clause-may g c =
    let one : IsKeptOf c.provide.new.rewards ended_1 = c.provide.ensures.kept [] c.new-rewards.ensures.kept ended_may_1
    in
    let two : IsKeptOf c.offset.new.rewards ended_2 = c.offset.ensures.kept ended_1 one ended_may_2 in
    ∣ (ended_2, c.to_minute.ensures.kept ended_2 two, ended_may_3) ∣₁

pub offset-requires-clause-may : goal.offset-requires-clause-may
offset-requires-clause-may g c =
    ∣ (ended_1, c.provide.ensures.kept [] c.new-rewards.ensures.kept ended_may_1, ended_may_2) ∣₁
