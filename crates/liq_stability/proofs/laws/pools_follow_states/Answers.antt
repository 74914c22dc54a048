use Rattle.liq_stability.proofs.Following.{position_follows, owned_follows, offset_follows}
use Rattle.liq_stability.proofs.laws.pools_follow_states.Goals as goal

pub returns-clause-position : goal.returns-clause-position
returns-clause-position c s pool f h account = position_follows s pool f h account

pub returns-clause-owned : goal.returns-clause-owned
returns-clause-owned c s pool next covered h account put_in paid_out words finished rows =
    owned_follows s pool next covered h account put_in paid_out words finished rows

pub returns-clause-offset : goal.returns-clause-offset
returns-clause-offset c s pool next f marked covered h debt coll words finished rows =
    offset_follows s pool next f marked covered h debt coll words finished rows
