-- Whom a command touches.
use Rattle.std.specs.Prelude.{ℕ, ◌==◌, ◌++◌, Bool, not, if◌then◌else◌, List, filter, filter_map}
use Rattle.std.specs.Prelude.{Option, Some, None}
use Rattle.std.specs.List.{list_any}
use Rattle.liq_types.specs.declared.events.ListChange.{ListChange}
use Rattle.liq_types.specs.declared.events.ListChange.TheVariants.{Put, Gone, Words}
use Rattle.liq_types.specs.declared.requests.Call.{Call}
use Rattle.liq_types.specs.declared.requests.Request.{Request}
use Rattle.liq_types.specs.declared.requests.Request.TheVariants.{Do, Ask}
use Rattle.liq_types.specs.State.{State}
use Rattle.liq_rule_step.specs.Rules.{call_changes}
use Rattle.liq_rule_step.specs.Step.{accounts, is_allowed, ruling}

-- the account whose place in the list a change changes
abbrev pub moved : ListChange → Option ℕ
moved (Put key account) = Some account
moved (Gone account) = Some account
moved (Words snap_stakes snap_coll sum_debt) = None

abbrev pub is_among : List ℕ → ℕ → Bool
is_among accounts account = list_any (λ a. a == account) accounts

-- the accounts that changes move beside some that are named
abbrev pub others : List ℕ → List ListChange → List ℕ
others named changes = filter (λ account. not (is_among named account)) (filter_map moved changes)

-- the accounts that a call names, in the order of its words, and then the others that are moved
abbrev pub touched : Call → List ListChange → List ℕ
touched call changes = accounts call ++ others (accounts call) changes

-- whom the last accepted command touched, after a request
abbrev pub touched_after : State → Request → List ℕ → List ℕ
touched_after s (Do c) before =
    if is_allowed (ruling s c) then touched c.call (call_changes s c.call) else before
touched_after s (Ask q) before = before
