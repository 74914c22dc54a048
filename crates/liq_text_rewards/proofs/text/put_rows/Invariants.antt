use Rattle.std.proofs.Common.{◌≡◌, ◌++◌, List, drop}
use Rattle.std.specs.List.{flat_map}
use Rattle.liq_rewards.specs.Timed.{Timed}
use Rattle.liq_rewards.specs.Kept.{IsKeptOf}
use Rattle.liq_text_rewards.specs.Rewarded.{row_line}
use Rattle.liq_text_rewards.proofs.text.put_rows.Given as goal

abbrev pub invariant-loop-account : goal.invariant-loop-account
invariant-loop-account l =
    (past : List Timed) → IsKeptOf l.rewards past
    → l.text.items ++ flat_map (row_line l.tags.entries l.rewards.minute past) (drop l.account-index l.accounts)
    ≡ l.initial.text.items ++ flat_map (row_line l.tags.entries l.rewards.minute past) l.accounts
