use Rattle.std.proofs.Math.Logic.{∥∥₁_map}
use Rattle.liq_text_rewards.proofs.followed.follow.Goals as goal

pub event-requires-clause-lawful : goal.event-requires-clause-lawful
event-requires-clause-lawful c =
    ∥∥₁_map c.requires.lawful (λ k. (
      k.0,
      c.to_minute.ensures.kept k.0 (c.in_ok-reserve.ensures.kept k.0 k.1),
      record { lawful = k.2.lawful; few = k.2.few },
    ))
