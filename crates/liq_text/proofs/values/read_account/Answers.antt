use Rattle.std.proofs.Common.{◌≡◌, ℕ, List, Option, Some, None, ◌∙◌}
use Rattle.std.specs.Prelude.{IfSome, decimal}
use Rattle.liq_text.specs.Reading.{account_of}
use Rattle.liq_text.proofs.SpellingLaws.{account_takes, account_again}
use Rattle.liq_text.proofs.values.read_account.Goals as goal

is_written : (word : List ℕ) (read : Option ℕ) → read ≡ account_of word → IfSome read (λ a. word ≡ decimal a)
is_written word None is = tt
is_written word (Some a) is = (account_takes word a (cc)).1

pub returns-clause-account : goal.returns-clause-account
returns-clause-account c = is_written c.args.word.now c.account.result c.account.ensures

pub returns-clause-only : goal.returns-clause-only
returns-clause-only c a small is = c.account.ensures ∙ account_again c.args.word.now a small is
