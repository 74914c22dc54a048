use Rattle.liq_word_exit.proofs.Opened.{kept_again}
use Rattle.liq_word_exit.proofs.laws.kept_disks_begin_again.Goals as goal

pub returns : goal.returns
returns c l r s t kept is = kept_again l r s t kept is
