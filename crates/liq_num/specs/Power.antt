-- Decimal fractions, kept as whole numbers over ONE: their product and their powers.
use Rattle.std.specs.Prelude.{ℕ, zero, suc, ◌*◌, ◌/◌, ◌+◌, ◌%◌, ◌^◌, ◌==◌, Bool, min, if◌then◌else◌}
use Rattle.liq_num.specs.declared.power.TheConstants.{ONE, HALF, MOST_MINUTES}

-- x times y, rounded to the nearest; a half is rounded up
abbrev pub rounded_product : ℕ → ℕ → ℕ
rounded_product x y = (x * y + HALF) / ONE

-- x after k squarings, each rounded
unfoldable pub squared : ℕ → ℕ → ℕ
squared x zero = x
squared x (suc k) = let square = squared x k in rounded_product square square

-- whether n has the binary digit 1 at place k, the lowest place being 0
abbrev pub has_digit : ℕ → ℕ → Bool
has_digit n k = n / 2 ^ k % 2 == 1

-- The product of x's squares at the digits 1 of n, over the k lowest places: the square of a place
-- is multiplied onto what the lower places give.
unfoldable pub digits_product : ℕ → ℕ → ℕ → ℕ
digits_product x n zero = ONE
digits_product x n (suc k) =
    let lower = digits_product x n k in
    if has_digit n k then rounded_product (squared x k) lower else lower

-- x to the power n; an exponent past the most counts as the most, which has fewer than 30 digits
unfoldable pub power_of : ℕ → ℕ → ℕ
power_of x n = digits_product x (min n MOST_MINUTES) 30
