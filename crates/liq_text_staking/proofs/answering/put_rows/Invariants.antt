use Rattle.std.proofs.Common.{◌≡◌, ◌++◌, List}
use Rattle.std.specs.List.{flat_map}
use Rattle.liq_fees.specs.Happened.{Happened}
use Rattle.liq_fees.specs.Kept.{IsKeptOf}
use Rattle.liq_text_staking.specs.Staked.{row_line}
use Rattle.liq_text_staking.proofs.answering.put_rows.Given as goal

abbrev pub invariant-loop-account : goal.invariant-loop-account
invariant-loop-account l =
    (past : List Happened) → IsKeptOf l.kept past → l.text.items ++ flat_map (row_line past) l.account-iterator
    ≡ l.initial.text.items ++ flat_map (row_line past) l.stakers.keys
