-- The Stability Pool as its calls see it, and what holds of it at all times.
use Rattle.std.specs.Prelude.{◌≡◌, ℕ, ◌+◌, ◌-◌, ◌*◌, ◌≤◌, ◌&&◌, ◌==◌, Bool, nat_le, min, is_none, IsTrue, List, [], ◌∷◌, ◌++◌, map, Option, Some, None, Result, unwrap_or, if◌then◌else◌}
use Rattle.std.specs.List.{AllByRecursion}
use Rattle.std.specs.List.Sorted.{IsStrictlySortedBy}
use Rattle.std.specs.Map.{keys_of, lookup}
use Rattle.liq_types.specs.declared.amounts.TheConstants.{LIM, OFFSET_MOST, P_OPENING}
use Rattle.liq_types.specs.declared.figures.Deposit.{Deposit}
use Rattle.liq_types.specs.declared.replies.Refusal.{Refusal}
use Rattle.liq_types.specs.declared.replies.Refusal.TheVariants.{NoDeposit}
use Rattle.liq_types.specs.ImageRows.{finished_row}
use Rattle.liq_types.specs.Product.{place_order, is_place, finished_sums}
use Rattle.liq_types.specs.Rules.{Rule, first_refusal, outcome}
use Rattle.liq_types.specs.Soundness.{is_product, is_sum_beside, is_before, is_sound_deposit}
use Rattle.liq_types.specs.State.{State}
use Rattle.liq_types.specs.Tables.{EpochScale, Table, at, put, without}
use Rattle.liq_types.specs.WellFormed.{Ascends}
use Rattle.liq_tables.specs.WithRoom.{WithRoom}
use Rattle.liq_stability.specs.declared.words.PoolWords.{PoolWords}
use Rattle.liq_types.specs.declared.image.FinishedSum.{FinishedSum}
use Rattle.liq_stability.specs.Position.{position_by, deposit_now, deposit_rows}
use Rattle.liq_stability.specs.Words.{pool_words}

-- The six words; the finished sums, each beside its place; the deposits, with the accounts that
-- have room for one; for how many more finished sums there is room.
pub record Kept : Type 0 where
  pub words : PoolWords
  pub finished : List (EpochScale × ℕ)
  pub deposits : WithRoom Deposit
  pub spare : ℕ

-- ---- finished sums

abbrev pub finished_rows : List FinishedSum → List (EpochScale × ℕ)
finished_rows sums = map finished_row sums

abbrev pub finished_of : EpochScale × ℕ → FinishedSum
finished_of row = record { epoch = row.0.0; scale = row.0.1; sum = row.1 }

-- the sums with one more at their end, if there is one
abbrev pub with_last : List FinishedSum → Option FinishedSum → List FinishedSum
with_last sums None = sums
with_last sums (Some f) = sums ++ f ∷ []

-- the room that an offset takes for the sum that it finishes
abbrev pub room_for : Option FinishedSum → ℕ
room_for None = 0
room_for (Some f) = 1

-- the sum of a place: that of now is among the words, and one that is not kept is 0
abbrev pub sum_at : PoolWords → List (EpochScale × ℕ) → EpochScale → ℕ
sum_at words finished place =
    if is_place (words.epoch, words.scale) place then words.sum
    else unwrap_or (lookup (is_place place) finished) 0

-- the sums of a deposit's epoch, from its scale on
abbrev pub sums_for : PoolWords → List (EpochScale × ℕ) → Deposit → ℕ → ℕ
sums_for words finished d i = sum_at words finished (d.epoch, d.scale + i)

-- ---- what holds at all times

-- the rule on finished sums, of one of them, by the place of now
abbrev pub is_sound_sum : EpochScale → EpochScale × ℕ → Bool
is_sound_sum now row = nat_le row.1 (OFFSET_MOST * P_OPENING) && is_before row.0 now

-- the rule on deposits, of one of them, by the place of now and the sum of its own place
pub record IsSoundDeposit (now : EpochScale) (sum : ℕ) (d : Deposit) : Type 0 where
  pub amount : d.amount ≤ LIM
  pub sound : IsTrue (is_sound_deposit now sum d)

abbrev pub IsDepositOf : PoolWords → List (EpochScale × ℕ) → Deposit → Type 0
IsDepositOf words finished d = IsSoundDeposit (words.epoch, words.scale) (sum_at words finished
    (d.epoch, d.scale)) d

-- The rules on words, finished sums and deposits, as far as they speak of these; each table has
-- each key once, in order; and the pool has no more than may be inside.
pub record IsSoundPool (words : PoolWords) (finished : List (EpochScale × ℕ))
    (deposits : Table Deposit) : Type 0 where
  pub product : IsTrue (is_product words.p)
  pub sum : IsTrue (is_sum_beside words.sum words.p)
  pub sums : AllByRecursion (λ (row : EpochScale × ℕ). IsTrue (is_sound_sum (
    words.epoch,
    words.scale,
  ) row)) finished
  pub places : IsStrictlySortedBy place_order (keys_of finished)
  pub each : AllByRecursion (λ (row : ℕ × Deposit). IsDepositOf words finished row.1) deposits
  pub accounts : Ascends deposits
  pub total : words.total ≤ LIM
  pub coll : words.coll ≤ LIM

-- ---- own operations

-- balance and gain of an account; without a deposit it has nothing
abbrev pub position_of : Kept → Option Deposit → ℕ × ℕ
position_of pool None = (0, 0)
position_of pool (Some d) = position_by d pool.words (sums_for pool.words pool.finished d)

abbrev pub position_at : Kept → ℕ → ℕ × ℕ
position_at pool account = position_of pool (at pool.deposits.rows account)

-- the deposits after an own operation: this amount counts from now on, and a deposit of nothing
-- leaves no row
abbrev pub left_in : Table Deposit → PoolWords → ℕ → ℕ → Table Deposit
left_in deposits now account amount =
    if amount == 0 then without deposits account else put deposits account (deposit_now now amount)

-- LUSD is put in and paid out, and the gain is paid
abbrev pub words_owned : PoolWords → ℕ → ℕ → ℕ → PoolWords
words_owned words put_in paid_out gain =
    record words { total = words.total + put_in - paid_out; coll = words.coll - gain }

abbrev pub deposit_rules : Table Deposit → ℕ → List Rule
deposit_rules deposits account = (is_none (at deposits account), NoDeposit account) ∷ []

-- what is paid to an account that asks for so much: no more than its balance, and its gain
abbrev pub withdrawing : Kept → ℕ → ℕ → Result (ℕ × ℕ) Refusal
withdrawing pool account most =
    let own = position_at pool account in
    outcome (first_refusal (deposit_rules pool.deposits.rows account)) (min most own.0, own.1)

-- ---- of a state

-- the pool has what a state says of it
pub record IsPoolOf (s : State) (pool : Kept) : Type 0 where
  pub words : pool.words ≡ pool_words s
  pub finished : pool.finished ≡ finished_sums s.start s.offsets
  pub deposits : pool.deposits.rows ≡ deposit_rows s
