use Rattle.std.proofs.Common.{false, refl}
use Rattle.std.proofs.lemmas.List.{get_or-replicate}
use Rattle.liq_text_scripts.proofs.output.have_entries.Goals as goal

pub loop-entry-init : goal.loop-entry-init
loop-entry-init g c = (refl, λ session small. get_or-replicate 256 session false false small)
