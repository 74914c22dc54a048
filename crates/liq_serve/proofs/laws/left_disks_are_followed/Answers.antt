use Rattle.liq_serve.proofs.LeftDisk.{left_followed}
use Rattle.liq_serve.proofs.laws.left_disks_are_followed.Goals as goal

pub returns : goal.returns
returns c = left_followed c.headers_lead_to_the_opening.ensures.shut
