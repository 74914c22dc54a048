-- A list is planned for a command in each of the states that are the same.
use Rattle.std.proofs.Common.{◌≡◌, ◌+◌, List, ◌++◌, ap, sym, ◌∙◌}
use Rattle.std.specs.Prelude.{map}
use Rattle.liq_types.specs.declared.figures.Client.{Client}
use Rattle.liq_types.specs.declared.figures.Market.{Market}
use Rattle.liq_types.specs.declared.figures.Wallet.{Wallet}
use Rattle.liq_types.specs.declared.requests.Call.{Call}
use Rattle.liq_types.specs.declared.requests.Call.TheVariants.{Redeem}
use Rattle.liq_types.specs.declared.requests.Command.{Command}
use Rattle.liq_types.specs.Rules.{Rule}
use Rattle.liq_types.specs.State.{State, wallet_of}
use Rattle.liq_types.specs.Totals.{market_of}
use Rattle.liq_redemption.specs.Redemption.{asking_rules}
use Rattle.liq_rule_step.specs.Lists.{PlansList, rules_before_list}
use Rattle.liq_rule_step.specs.Step.{accounts, first_refusal, in_range}
use Rattle.liq_rule_step.proofs.AlikeReads.{Alike, client_alike, market_alike, wallet_alike}
use Rattle.liq_rule_step.proofs.AlikeReplies.{rules_alike}

before_list_alike : {s t : State} → Alike s t → (call : Call) → rules_before_list s call ≡ rules_before_list t call
before_list_alike {s} {t} h (Redeem account lusd bound hint) =
    ap (λ (m : Market). asking_rules m (wallet_of s account) lusd bound) (market_alike h)
    ∙ ap (λ (w : Wallet). asking_rules (market_of t) w lusd bound) (wallet_alike h account)
before_list_alike h call = rules_alike h call

pub plans_list_alike : {s t : State} → Alike s t → (c : Command) → PlansList t c → PlansList s c
plans_list_alike h c planned =
    record {
      client = planned.client;
      turn = planned.turn ∙ sym (ap (λ (k : Client). k.last + 1) (client_alike h c.client));
      call = (
        planned.call.0,
        ap (λ (l : List Rule). first_refusal (map in_range (accounts c.call) ++ l))
            (before_list_alike h c.call) ∙ planned.call.1,
      );
    }
