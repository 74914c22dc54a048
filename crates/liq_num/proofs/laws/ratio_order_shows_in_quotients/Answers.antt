use Rattle.std.proofs.Common.{◌*◌}
use Rattle.liq_num.proofs.Fractions.{IsBelow_shown, IsBelow_at_debts}
use Rattle.liq_num.proofs.laws.ratio_order_shows_in_quotients.Goals as goal

pub returns : goal.returns
returns c c1 d1 c2 d2 p q = (
  λ below. (d1 * d2, IsBelow_at_debts c1 d1 c2 d2 p q below),
  λ (scale, less). IsBelow_shown c1 d1 c2 d2 scale p q less,
)
