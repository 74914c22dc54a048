use Rattle.std.proofs.Common.{◌≡◌, ℕ, List, Option, Some, None, ◌∙◌}
use Rattle.std.specs.Prelude.{IfSome, decimal}
use Rattle.liq_text.specs.Reading.{number_of}
use Rattle.liq_text.proofs.ReadingLaws.{number_of-decimal, number_of-some}
use Rattle.liq_text.proofs.values.read_number.Goals as goal

is_written : (word : List ℕ) (read : Option ℕ) → read ≡ number_of word → IfSome read (λ n. word ≡ decimal n)
is_written word None is = tt
is_written word (Some n) is = (number_of-some word n (cc)).1

pub returns-clause-number : goal.returns-clause-number
returns-clause-number c = is_written c.args.word.now c.number.result c.number.ensures

pub returns-clause-only : goal.returns-clause-only
returns-clause-only c n small is = c.number.ensures ∙ number_of-decimal c.args.word.now n small is
