-- A line that names a front end, read word by word.
use Rattle.std.specs.Prelude.{ℕ, List, [], ◌∷◌, Option, Some, None, codes, if◌then◌else◌}
use Rattle.std.specs.Str.{bytes_eq}
use Rattle.liq_text.specs.Reading.{◌>>=◌, number_of, account_of}
use Rattle.liq_rewards.specs.declared.lines.TagLine.{TagLine}

-- whether a line begins as it must
unfoldable pub tag_of : List ℕ → Option (Unit {0})
tag_of word = if bytes_eq word (codes "tag") then Some tt else None

-- what the words say
unfoldable pub line_by : Option (Unit {0}) → Option ℕ → Option ℕ → Option ℕ → Option TagLine
line_by tag account front rate =
    tag >>= λ tag. account >>= λ account. front >>= λ front. rate >>= λ rate.
    Some (record { account = account; front = front; kept_part = rate })

unfoldable pub line_of : List (List ℕ) → Option TagLine
line_of (verb ∷ account ∷ front ∷ rate ∷ []) =
    line_by (tag_of verb) (account_of account) (account_of front) (number_of rate)
line_of _ = None
