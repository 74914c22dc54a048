-- For which commands a list of troves is planned: those that passed all that is tested without one.
use Rattle.std.specs.Prelude.{◌≡◌, ◌+◌, ◌<◌, ◌++◌, List, map, None, IsTrue}
use Rattle.liq_types.specs.declared.amounts.TheConstants.{ACCOUNTS}
use Rattle.liq_types.specs.declared.requests.Call.{Call}
use Rattle.liq_types.specs.declared.requests.Call.TheVariants.{Redeem}
use Rattle.liq_types.specs.declared.requests.Command.{Command}
use Rattle.liq_types.specs.Rules.{Rule}
use Rattle.liq_types.specs.State.{State, client_of, wallet_of}
use Rattle.liq_types.specs.Totals.{market_of}
use Rattle.liq_redemption.specs.Redemption.{asking_rules}
use Rattle.liq_rule_step.specs.Rules.{rules}
use Rattle.liq_rule_step.specs.Step.{accounts, first_refusal, in_range}
use Rattle.liq_rule_step.specs.Verbs.{plans_list}

-- What the verb tests before its list. Of a redemption it is what is tested before any trove is
-- visited; of the lowest troves it is all, also whether the very last may be liquidated.
abbrev pub rules_before_list : State → Call → List Rule
rules_before_list s (Redeem account lusd bound hint) =
    asking_rules (market_of s) (wallet_of s account) lusd bound
rules_before_list s call = rules s call

-- what the verb tests before its list is passed
abbrev pub VerbPlansList : State → Call → Type 0
VerbPlansList s call = IsTrue (plans_list call) × (first_refusal (rules_before_list s call) ≡ None)

-- the same where the call's accounts are in range
abbrev pub CallPlansList : State → Call → Type 0
CallPlansList s call =
    IsTrue (plans_list call)
    × (first_refusal (map in_range (accounts call) ++ rules_before_list s call) ≡ None)

-- the same where the command is its client's next
pub record PlansList (s : State) (c : Command) : Type 0 where
  pub client : c.client < ACCOUNTS
  pub turn : c.number ≡ (client_of s c.client).last + 1
  pub call : CallPlansList s c.call
