-- The position of a deposit: what is left of it, and what it has gained.
use Rattle.std.specs.Prelude.{ℕ, ◌+◌, ◌-◌, ◌*◌, ◌^◌, ◌==◌, ◌&&◌, nat_le, min, Option, Some, None, [], ◌∷◌, take, sum_by, if◌then◌else◌}
use Rattle.liq_num.specs.Quotient.{floor_of}
use Rattle.liq_types.specs.declared.figures.Deposit.{Deposit}
use Rattle.liq_types.specs.Product.{ScaledProduct, sumat, mark_after}
use Rattle.liq_types.specs.State.{State, Mark, AtStart, After, PoolMark, DepositEntry}
use Rattle.liq_types.specs.Tables.{Table, at, map_rows}
use Rattle.liq_stability.specs.declared.words.PoolWords.{PoolWords}
use Rattle.liq_stability.specs.Words.{words_in, pool_words}
pub use Rattle.liq_stability.specs.Words.{words_of}

-- ---- by words and sums

-- what is left of an amount; nothing after the epoch's end, and too little to count after more than
-- three scales
abbrev pub balance_by : ℕ → PoolMark → ScaledProduct → ℕ
balance_by amount mark now =
    let rise = now.scale - mark.scale in
    if now.epoch == mark.epoch && nat_le rise 3
    then floor_of amount now.p (mark.p * 10 ^ (9 * rise)) else 0

-- how the sum grew since the mark, at the mark's scale and those above it
abbrev pub growth : PoolMark → (ℕ → ℕ) → ℕ → ℕ
growth mark sums i = if i == 0 then sums 0 - mark.sum else sums i

-- what an amount gained, at the mark's scale and the next three; the sums are told by their
-- distance from that scale
abbrev pub gain_by : ℕ → PoolMark → (ℕ → ℕ) → ℕ
gain_by amount mark sums =
    sum_by (λ i. floor_of amount (growth mark sums i) (mark.p * 10 ^ (9 * i))) (0 ∷ 1 ∷ 2 ∷ 3 ∷ [])

-- ---- of a deposit as it is kept

abbrev pub mark_in : Deposit → PoolMark
mark_in d = record { p = d.p; sum = d.sum; scale = d.scale; epoch = d.epoch }

-- Balance and gain of a deposit, by the pool's words and the sums of its epoch from its scale on.
-- No more is ever paid than there is.
abbrev pub position_by : Deposit → PoolWords → (ℕ → ℕ) → ℕ × ℕ
position_by d now sums = (
  min now.total (balance_by d.amount (mark_in d) (words_in now)),
  min now.coll (gain_by d.amount (mark_in d) sums),
)

-- a deposit that counts from now on
abbrev pub deposit_now : PoolWords → ℕ → Deposit
deposit_now now amount = record {
  amount = amount;
  p = now.p;
  sum = now.sum;
  scale = now.scale;
  epoch = now.epoch;
}

-- ---- in a state

-- product, sum and place as of a deposit's last own operation
abbrev pub mark_of : State → Mark PoolMark → PoolMark
mark_of s (AtStart fields) = fields
mark_of s (After items) = mark_after s.start (take items s.offsets)

-- the sums of the mark's epoch, from its scale on
abbrev pub sums_from : State → PoolMark → ℕ → ℕ
sums_from s mark i = sumat s.start s.offsets (mark.epoch, mark.scale + i)

-- the deposit as it is kept
abbrev pub deposit_row : State → DepositEntry → Deposit
deposit_row s d =
    let mark = mark_of s d.mark in
    record { amount = d.amount; p = mark.p; sum = mark.sum; scale = mark.scale; epoch = mark.epoch }

abbrev pub deposit_rows : State → Table Deposit
deposit_rows s = map_rows (deposit_row s) s.deposits

-- balance and gain of an entry
abbrev pub position_in : State → DepositEntry → ℕ × ℕ
position_in s d = position_by (deposit_row s d) (pool_words s) (sums_from s (mark_of s d.mark))

abbrev pub balance_in : State → Option DepositEntry → ℕ
balance_in s None = 0
balance_in s (Some d) = (position_in s d).0

abbrev pub gain_in : State → Option DepositEntry → ℕ
gain_in s None = 0
gain_in s (Some d) = (position_in s d).1

abbrev pub balance_of : State → ℕ → ℕ
balance_of s account = balance_in s (at s.deposits account)

abbrev pub gain_of : State → ℕ → ℕ
gain_of s account = gain_in s (at s.deposits account)
