use Rattle.liq_stability.proofs.Rising.{each_below}
use Rattle.liq_stability.proofs.laws.raised_products_fit.Goals as goal

pub returns : goal.returns
returns c = each_below
