-- The text of an audit.
use Rattle.std.specs.Prelude.{ℕ, ◌+◌, ◌&&◌, nat_le, Bool, List, [], ◌∷◌, ◌++◌}
use Rattle.std.specs.Prelude.{length, map, count_by, codes, decimal}
use Rattle.std.specs.List.{flat_map, join_with_byte}
use Rattle.liq_audit.specs.declared.rows.Row.{Row}
use Rattle.liq_audit.specs.Rows.{numbers_of}

-- a line of numbers with one space between two
abbrev pub line_of : Row → List ℕ
line_of row = join_with_byte 32 (map decimal (numbers_of row)) ++ 10 ∷ []

-- neither balance nor gain is above the enclosure, nor below it by more than the allowance
abbrev pub is_within : Row → Bool
is_within row =
    nat_le row.balance row.balance_hi
    && nat_le row.balance_lo (row.balance + row.balance_allow)
    && nat_le row.gain row.gain_hi
    && nat_le row.gain_lo (row.gain + row.gain_allow)

abbrev pub last_line : ℕ → ℕ → List ℕ
last_line within all = codes "within " ++ decimal within ++ codes " of " ++ decimal all ++ 10 ∷ []

-- a line for each row, and how many of how many are within theirs
unfoldable pub shown : List Row → List ℕ
shown rows = flat_map line_of rows ++ last_line (count_by is_within rows) (length rows)
