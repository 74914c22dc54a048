use Rattle.liq_text_staking.proofs.Limits.{coll_adds_up, lusd_adds_up, can_be_shared}
use Rattle.liq_text_staking.proofs.laws.fees_add_up.Goals as goal

pub returns-clause-coll : goal.returns-clause-coll
returns-clause-coll c limit commands s came = coll_adds_up limit commands s came

pub returns-clause-lusd : goal.returns-clause-lusd
returns-clause-lusd c limit commands s came = lusd_adds_up limit commands s came

pub returns-clause-shared : goal.returns-clause-shared
returns-clause-shared c limit known commands none s came = can_be_shared limit commands s came known none
