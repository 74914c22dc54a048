use Rattle.liq_fees.proofs.Conserving.{all_gained}
use Rattle.liq_fees.proofs.laws.the_fees_cover_all.Goals as goal

pub returns : goal.returns
returns c asset n past owned covered = all_gained asset n past owned covered
