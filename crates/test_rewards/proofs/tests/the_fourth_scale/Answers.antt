use Rattle.std.proofs.Common.{[]}
use Rattle.liq_rewards.specs.Kept.{IsKeptOf}
use Rattle.test_rewards.proofs.Lists.{fourth_1, fourth_2, fourth_3, fourth_4, fourth_may_1, fourth_may_2, fourth_may_3, fourth_may_4, fourth_may_5}
use Rattle.test_rewards.proofs.tests.the_fourth_scale.Goals as goal

pub offset-requires-clause-may : goal.offset-requires-clause-may
offset-requires-clause-may g c = ∣ (
  fourth_1,
  c.provide.ensures.kept [] c.new-rewards.ensures.kept fourth_may_1,
  fourth_may_2,
) ∣₁

pub provide-requires-2-clause-may : goal.provide-requires-2-clause-may
provide-requires-2-clause-may g c =
    let one : IsKeptOf c.provide.new.rewards fourth_1 =
    c.provide.ensures.kept [] c.new-rewards.ensures.kept fourth_may_1 in
    ∣ (fourth_2, c.offset.ensures.kept fourth_1 one fourth_may_2, fourth_may_3) ∣₁

pub offset-requires-2-clause-may : goal.offset-requires-2-clause-may
offset-requires-2-clause-may g c =
    let one : IsKeptOf c.provide.new.rewards fourth_1 =
    c.provide.ensures.kept [] c.new-rewards.ensures.kept fourth_may_1 in
    let two : IsKeptOf c.offset.new.rewards fourth_2 = c.offset.ensures.kept fourth_1 one fourth_may_2 in
    ∣ (fourth_3, c.provide-2.ensures.kept fourth_2 two fourth_may_3, fourth_may_4) ∣₁

pub provide-requires-3-clause-may : goal.provide-requires-3-clause-may
provide-requires-3-clause-may g c =
    let one : IsKeptOf c.provide.new.rewards fourth_1 =
    c.provide.ensures.kept [] c.new-rewards.ensures.kept fourth_may_1 in
    let two : IsKeptOf c.offset.new.rewards fourth_2 = c.offset.ensures.kept fourth_1 one fourth_may_2 in
    let three : IsKeptOf c.provide-2.new.rewards fourth_3 = c.provide-2.ensures.kept fourth_2 two fourth_may_3 in
    ∣ (fourth_4, c.offset-2.ensures.kept fourth_3 three fourth_may_4, fourth_may_5) ∣₁
