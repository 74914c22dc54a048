use Rattle.std.proofs.Common.{[]}
use Rattle.liq_rewards.specs.Kept.{IsKeptOf}
use Rattle.test_rewards.proofs.Lists.{risen_1, risen_2, risen_3, risen_4, risen_may_1, risen_may_2, risen_may_3, risen_may_4, risen_may_5}
use Rattle.test_rewards.proofs.tests.the_scale_rises.Goals as goal

pub offset-requires-clause-may : goal.offset-requires-clause-may
offset-requires-clause-may g c = ∣ (
  risen_1,
  c.provide.ensures.kept [] c.new-rewards.ensures.kept risen_may_1,
  risen_may_2,
) ∣₁

pub provide-requires-2-clause-may : goal.provide-requires-2-clause-may
provide-requires-2-clause-may g c =
    let one : IsKeptOf c.provide.new.rewards risen_1 = c.provide.ensures.kept [] c.new-rewards.ensures.kept risen_may_1
    in
    ∣ (risen_2, c.offset.ensures.kept risen_1 one risen_may_2, risen_may_3) ∣₁

pub offset-requires-2-clause-may : goal.offset-requires-2-clause-may
offset-requires-2-clause-may g c =
    let one : IsKeptOf c.provide.new.rewards risen_1 = c.provide.ensures.kept [] c.new-rewards.ensures.kept risen_may_1
    in
    let two : IsKeptOf c.offset.new.rewards risen_2 = c.offset.ensures.kept risen_1 one risen_may_2 in
    ∣ (risen_3, c.provide-2.ensures.kept risen_2 two risen_may_3, risen_may_4) ∣₁

pub provide-requires-3-clause-may : goal.provide-requires-3-clause-may
provide-requires-3-clause-may g c =
    let one : IsKeptOf c.provide.new.rewards risen_1 = c.provide.ensures.kept [] c.new-rewards.ensures.kept risen_may_1
    in
    let two : IsKeptOf c.offset.new.rewards risen_2 = c.offset.ensures.kept risen_1 one risen_may_2 in
    let three : IsKeptOf c.provide-2.new.rewards risen_3 = c.provide-2.ensures.kept risen_2 two risen_may_3 in
    ∣ (risen_4, c.offset-2.ensures.kept risen_3 three risen_may_4, risen_may_5) ∣₁
