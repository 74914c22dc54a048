use Rattle.liq_redemption.proofs.Following.{cut_follows, redeemed_follows, redeemed_pays}
use Rattle.liq_redemption.proofs.laws.redemptions_follow_states.Goals as goal

pub returns-clause-cut : goal.returns-clause-cut
returns-clause-cut c = cut_follows

pub returns-clause-parts : goal.returns-clause-parts
returns-clause-parts c = redeemed_follows

pub returns-clause-wallets : goal.returns-clause-wallets
returns-clause-wallets c = redeemed_pays
