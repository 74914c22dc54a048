use Rattle.liq_follower.proofs.Beginnings.{beginning_leads}
use Rattle.liq_follower.proofs.laws.beginnings_lead_to_beginnings.Goals as goal

pub returns : goal.returns
returns c bytes rest w s found first came there = beginning_leads bytes rest w s found first came there
