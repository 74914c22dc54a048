use Rattle.std.proofs.Common.{ℕ, List, ap, ◌∙◌}
use Rattle.std.specs.Prelude.{fold}
use Rattle.liq_text_rewards.proofs.Finding.{found_in, all_found}
use Rattle.liq_text_rewards.proofs.owners.owners.Goals as goal

pub loop-event-init : goal.loop-event-init
loop-event-init c = ap (λ (keys : List ℕ). fold found_in keys c.args.notes.now) c.new-found.ensures.empty
    ∙ all_found c.args.notes.now
