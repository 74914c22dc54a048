use Rattle.std.proofs.Common.{◌≡◌, ◌++◌}
use Rattle.liq_text_rewards.proofs.owners.listed.Given as goal

abbrev pub invariant-loop-account : goal.invariant-loop-account
invariant-loop-account l = l.list.items ++ l.account-iterator ≡ l.accounts.keys
