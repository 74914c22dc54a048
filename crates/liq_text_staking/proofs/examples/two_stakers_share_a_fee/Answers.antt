use Rattle.std.proofs.Common.{refl}
use Rattle.std.specs.Fmt.{digits}
use Rattle.liq_text_staking.proofs.examples.two_stakers_share_a_fee.Goals as goal

pub returns-clause-replies : goal.returns-clause-replies
unfolding digits
returns-clause-replies c = refl
