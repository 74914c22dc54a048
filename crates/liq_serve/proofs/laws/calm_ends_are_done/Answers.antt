use Rattle.std.proofs.Common.{ℕ, ap, ◌∙◌}
use Rattle.liq_types.specs.State.{opening_with}
use Rattle.liq_disk_pair.specs.Pair.{commands_on}
use Rattle.liq_disk_pair.specs.Replay.{replay}
use Rattle.liq_serve.proofs.Calm.{complete}
use Rattle.liq_serve.proofs.laws.calm_ends_are_done.Goals as goal

pub returns : goal.returns
returns g c before after status words ends =
    complete g.S.Source.at g.K.Sink.at g.D.Disk.at before after
    (λ l r s is one. ap (λ (limit : ℕ). replay 1 (opening_with limit) (commands_on l r))
    (c.journals_keep_their_limit.ensures.pair l r s is) ∙ c.commands_lead_to_the_state.ensures.first l r s is one)
    c.faults_stay.ensures status words ends
