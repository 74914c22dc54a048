use Rattle.std.proofs.Common.{sym, subst}
use Rattle.std.proofs.Math.Logic.{∥∥₁_map}
use Rattle.liq_rewards.specs.Timed.{timed}
use Rattle.liq_rewards.specs.Kept.{MayHappen}
use Rattle.test_rewards.proofs.tests.happens.Goals as goal

pub event-requires-clause-lawful : goal.event-requires-clause-lawful
event-requires-clause-lawful g c = ∥∥₁_map c.requires.may (λ k. (
  k.0,
  c.to_minute.ensures.kept k.0 (c.room.ensures.kept k.0 k.1),
  subst (λ minute. MayHappen (timed minute c.args.event) k.0) (sym c.to_minute.ensures.minute) k.2,
))
