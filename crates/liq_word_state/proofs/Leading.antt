-- Commands that were read lead to the state that was found.
use Rattle.std.proofs.Common.{◌≡◌, ℕ, List, Ok, ap, ◌∙◌}
use Rattle.liq_types.specs.declared.requests.Command.{Command}
use Rattle.liq_types.specs.State.{State, opening_with}
use Rattle.liq_disk_pair.specs.Replay.{replay}
use Rattle.liq_word_state.specs.Leads.{LeadTo}

-- under the state's limit, and under the one that was found with them
pub record Led (limit : ℕ) (commands : List Command) (s : State) : Type 0 where
  pub leads : LeadTo commands s
  pub replayed : replay 1 (opening_with limit) commands ≡ Ok s

pub led : (limit : ℕ) (commands all : List Command) (s : State) → limit ≡ s.limit → commands ≡ all → LeadTo all s
    → Led limit commands s
led limit commands all s limit_is are leads =
    let replayed = ap (replay 1 (opening_with s.limit)) are ∙ leads.1 in
    record {
      leads = (leads.0, replayed);
      replayed = ap (λ (n : ℕ). replay 1 (opening_with n) commands) limit_is ∙ replayed;
    }
