use Rattle.std.proofs.Common.{◌∙◌}
use Rattle.liq_rewards.proofs.Finding.{told}
use Rattle.liq_rewards.proofs.rows.Rows.has.Goals as goal

pub returns : goal.returns
returns c words =
    c.is_some.ensures ∙ told words c.args.self.now.offsets c.args.self.now.rows c.args.account c.place.result
    c.place.ensures.found c.place.ensures.none
