use Rattle.std.proofs.Common.{arith}
use Rattle.liq_rewards.proofs.Issuing.{issued-monotone}
use Rattle.liq_rewards.proofs.rewards.issued_between.Goals as goal

pub overflow_sub-result : goal.overflow_sub-result
overflow_sub-result c =
    let rises = issued-monotone c.args.from c.args.to c.requires in
    omega (arith, rises, c.issued.ensures.issued, c.issued-2.ensures.issued)
