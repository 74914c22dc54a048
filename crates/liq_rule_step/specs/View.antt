-- The view of a state: what others see of it, and what they follow.
use Rattle.std.specs.Prelude.{ℕ, Bool, ◌==◌, List, [], ◌∷◌, ◌++◌, take}
use Rattle.std.specs.List.{list_any}
use Rattle.liq_types.specs.declared.events.ListChange.{ListChange}
use Rattle.liq_types.specs.declared.requests.Call.{Call}
use Rattle.liq_types.specs.declared.requests.Command.{Command}
use Rattle.liq_types.specs.State.{State}
pub use Rattle.liq_types.specs.Views.{View, followed, all_followed}
use Rattle.liq_troves.specs.StakeSums.{sums_now}
use Rattle.liq_order.specs.Order.{trove_order}
use Rattle.liq_rule_step.specs.History.{Entry, state_after}
use Rattle.liq_rule_step.specs.Rules.{call_changes}
use Rattle.liq_rule_step.specs.Step.{after}
use Rattle.liq_rule_step.specs.Verbs.{kind}

abbrev pub view_of : State → View
view_of s =
    record {
      list = trove_order s;
      snap_stakes = s.snap_stakes;
      snap_coll = s.snap_coll;
      sum_debt = (sums_now s).debt;
    }

-- the view after so many entries of a history
abbrev pub view_after : State → List Entry → ℕ → View
view_after s entries n = view_of (state_after s (take n entries))

-- ---- following

-- the changes of a list of commands, each allowed after those before it
abbrev pub changes : State → List Command → List ListChange
changes s [] = []
changes s (c ∷ cs) = call_changes s c.call ++ changes (after s c) cs

-- the kinds of commands that change the ordered list
abbrev pub list_kinds : List ℕ
list_kinds = 6 ∷ 7 ∷ 8 ∷ 11 ∷ 12 ∷ 13 ∷ 14 ∷ []

abbrev pub changes_list : Call → Bool
changes_list call = list_any (λ k. k == kind call) list_kinds
