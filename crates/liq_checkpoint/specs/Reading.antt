-- Reading from left to right. A fault is told by its place: that of the first field that fits no
-- checkpoint, which is tested by its own number and by what stands before it; the end, where bytes
-- are missing; or where bytes follow. `end` is how many bytes there are in all, and `at` are those
-- that are still to be read.
use Rattle.std.specs.Prelude.{◌≡◌, ℕ, zero, suc, ◌-◌, List, [], ◌∷◌, length, take, drop, get_or}
use Rattle.std.specs.Prelude.{Option, Some, None, Result, Ok, Err, if◌then◌else◌}
use Rattle.std.specs.Prelude.{Bool, not, ◌==◌, ◌&&◌, nat_lt, nat_le}
use Rattle.std.specs.Str.{bytes_eq}
use Rattle.byteorder.specs.Endian.{big_number}
use Rattle.liq_types.specs.declared.amounts.TheConstants.{LIM, LIM_OF_VERSION_1}
use Rattle.liq_types.specs.declared.figures.Wallet.{Wallet}
use Rattle.liq_types.specs.declared.figures.Client.{Client}
use Rattle.liq_types.specs.declared.figures.Trove.{Trove}
use Rattle.liq_types.specs.declared.figures.Deposit.{Deposit}
use Rattle.liq_types.specs.declared.image.Image.{Image}
use Rattle.liq_types.specs.Image.{opening_image_with}
use Rattle.liq_types.specs.Tables.{EpochScale}
use Rattle.liq_disk_layout.specs.Keys.{follows, epoch_follows, place_follows}
use Rattle.liq_checkpoint.specs.declared.decoding.Words.{Words}
use Rattle.liq_checkpoint.specs.declared.image_bytes.ImageBytes.{ImageBytes}
use Rattle.liq_checkpoint.specs.declared.image_bytes.ImageBytes.TheVariants.{Bad, NoMemory}
use Rattle.liq_checkpoint.specs.Spelling.{name}

infixl 10 ◌>>=◌
abbrev pub ◌>>=◌ : {A B : Type 0} → Result A ℕ → (A → Result B ℕ) → Result B ℕ
(Ok x) >>= f = f x
(Err place) >>= f = Err place

-- What a function returned, seen by view, is what reading gives, unless memory ran out.
abbrev pub Fails : {Y : Type 0} → ImageBytes → Result Y ℕ → Type 0
Fails NoMemory read = Unit {0}
Fails (Bad place) read = read ≡ Err place

abbrev pub Gives : {X Y : Type 0} → (X → Y) → Result X ImageBytes → Result Y ℕ → Type 0
Gives view (Ok x) read = read ≡ Ok (view x)
Gives view (Err e) read = Fails e read

-- ---- fields

-- a number and the bytes behind it
unfoldable pub number_at : ℕ → ℕ → List ℕ → Result (ℕ × List ℕ) ℕ
number_at end count at = if nat_lt (length at) count then Err end
    else Ok (big_number count at, drop count at)

-- x where what begins here fits, else the place of that
abbrev pub tested : {X : Type 0} → Bool → ℕ → List ℕ → X → Result X ℕ
tested fits end at x = if fits then Ok x else Err (end - length at)

-- so many numbers of eight bytes
unfoldable pub numbers_at : ℕ → ℕ → List ℕ → Result (List ℕ × List ℕ) ℕ
numbers_at end zero at = Ok ([], at)
numbers_at end (suc n) at = do
  first ← number_at end 8 at
  others ← numbers_at end n first.1
  Ok (first.0 ∷ others.0, others.1)

-- a number that isn't 0
unfoldable pub some_at : ℕ → ℕ → List ℕ → Result (ℕ × List ℕ) ℕ
some_at end count at = do
  n ← number_at end count at
  tested (not (n.0 == 0)) end at n

-- ---- rows

-- the key of a row: an account or a client
unfoldable pub key_at : ℕ → Option ℕ → List ℕ → Result (ℕ × List ℕ) ℕ
key_at end last at = do
  key ← number_at end 4 at
  tested (follows last key.0) end at key

unfoldable pub wallet_at : ℕ → Option ℕ → List ℕ → Result ((ℕ × Wallet) × List ℕ) ℕ
wallet_at end last at = do
  account ← key_at end last at
  coll ← number_at end 8 account.1
  lusd ← number_at end 8 coll.1
  tested (not (coll.0 == 0 && lusd.0 == 0)) end coll.1 (
    (
      account.0,
      record {
        coll = coll.0;
        lusd = lusd.0;
      },
    ),
    lusd.1,
  )

unfoldable pub trove_at : ℕ → Option ℕ → List ℕ → Result ((ℕ × Trove) × List ℕ) ℕ
trove_at end last at = do
  account ← key_at end last at
  coll ← number_at end 8 account.1
  debt ← number_at end 8 coll.1
  stake ← number_at end 8 debt.1
  mark_coll ← number_at end 16 stake.1
  mark_debt ← number_at end 16 mark_coll.1
  Ok (
    (
      account.0,
      record {
        coll = coll.0;
        debt = debt.0;
        stake = stake.0;
        mark_coll = mark_coll.0;
        mark_debt = mark_debt.0;
      },
    ),
    mark_debt.1,
  )

unfoldable pub surplus_at : ℕ → Option ℕ → List ℕ → Result ((ℕ × ℕ) × List ℕ) ℕ
surplus_at end last at = do
  account ← key_at end last at
  coll ← some_at end 8 account.1
  Ok ((account.0, coll.0), coll.1)

unfoldable pub finished_at : ℕ → Option EpochScale → List ℕ → Result ((EpochScale × ℕ) × List ℕ) ℕ
finished_at end last at = do
  number ← number_at end 8 at
  epoch ← tested (epoch_follows last number.0) end at number
  next ← number_at end 8 epoch.1
  scale ← tested (place_follows last (epoch.0, next.0)) end epoch.1 next
  sum ← some_at end 16 scale.1
  Ok (((epoch.0, scale.0), sum.0), sum.1)

unfoldable pub deposit_at : ℕ → Option ℕ → List ℕ → Result ((ℕ × Deposit) × List ℕ) ℕ
deposit_at end last at = do
  account ← key_at end last at
  amount ← some_at end 8 account.1
  p ← number_at end 16 amount.1
  sum ← number_at end 16 p.1
  scale ← number_at end 8 sum.1
  epoch ← number_at end 8 scale.1
  Ok (
    (
      account.0,
      record {
        amount = amount.0;
        p = p.0;
        sum = sum.0;
        scale = scale.0;
        epoch = epoch.0;
      },
    ),
    epoch.1,
  )

-- the place of one of the sixteen verbs
abbrev pub is_kind : ℕ → Bool
is_kind kind = nat_le 1 kind && nat_le kind 16

unfoldable pub client_at : ℕ → Option ℕ → List ℕ → Result ((ℕ × Client) × List ℕ) ℕ
client_at end last at = do
  client ← key_at end last at
  number ← some_at end 8 client.1
  verb ← number_at end 1 number.1
  kind ← tested (is_kind verb.0) end number.1 verb
  values ← numbers_at end 6 kind.1
  Ok (
    (client.0, record { last = number.0; kept = record { kind = kind.0; values = values.0 } }),
    values.1,
  )

-- ---- tables

-- so many rows, the first of them behind a key
unfoldable pub rows_at :
    {K X : Type 0} → (Option K → List ℕ → Result ((K × X) × List ℕ) ℕ)
    → ℕ → Option K → List ℕ → Result (List (K × X) × List ℕ) ℕ
rows_at row_at zero last at = Ok ([], at)
rows_at row_at (suc n) last at = do
  row ← row_at last at
  others ← rows_at row_at n (Some row.0.0) row.1
  Ok (row.0 ∷ others.0, others.1)

unfoldable pub table_at :
    {K X : Type 0} → (Option K → List ℕ → Result ((K × X) × List ℕ) ℕ)
    → ℕ → List ℕ → Result (List (K × X) × List ℕ) ℕ
table_at row_at end at = do
  count ← number_at end 8 at
  rows_at row_at count.0 None count.1

-- ---- an image

-- the limit for which the name stands, if one stands here
abbrev pub limit_named : List ℕ → ℕ
limit_named front = if bytes_eq front (name LIM) then LIM else LIM_OF_VERSION_1

unfoldable pub limit_at : ℕ → List ℕ → Result (ℕ × List ℕ) ℕ
limit_at end at =
    let limit = limit_named (take 8 at) in
    if nat_lt (length at) 8 then Err end else tested (bytes_eq (take 8 at) (name limit)) end at
    (limit, drop 8 at)

-- An image without rows, of the numbers that are read: it differs from the opening one in its
-- words.
abbrev pub image_by : ℕ → Words → Image
image_by limit words =
    record (opening_image_with limit) {
      price = get_or words.times 0 0;
      minute = get_or words.times 1 0;
      base = get_or words.times 2 0;
      fee_minute = get_or words.times 3 0;
      generation = get_or words.times 4 0;
      brought = get_or words.times 5 0;
      active_coll = get_or words.pools 0 0;
      active_debt = get_or words.pools 1 0;
      default_coll = get_or words.pools 2 0;
      default_debt = get_or words.pools 3 0;
      reserve = get_or words.pools 4 0;
      surplus = get_or words.pools 5 0;
      fee_coll = get_or words.pools 6 0;
      fee_lusd = get_or words.pools 7 0;
      sum_coll = words.sum_coll;
      sum_debt = words.sum_debt;
      stakes = get_or words.stakes 0 0;
      snap_stakes = get_or words.stakes 1 0;
      snap_coll = get_or words.stakes 2 0;
      p = words.p;
      scale = get_or words.place 0 0;
      epoch = get_or words.place 1 0;
      sum = words.sum;
      total = get_or words.deposited 0 0;
      pool_coll = get_or words.deposited 1 0;
    }

unfoldable pub words_at : ℕ → ℕ → List ℕ → Result (Image × List ℕ) ℕ
words_at end limit at = do
  times ← numbers_at end 6 at
  pools ← numbers_at end 8 times.1
  sum_coll ← number_at end 16 pools.1
  sum_debt ← number_at end 16 sum_coll.1
  stakes ← numbers_at end 3 sum_debt.1
  p ← number_at end 16 stakes.1
  place ← numbers_at end 2 p.1
  sum ← number_at end 16 place.1
  deposited ← numbers_at end 2 sum.1
  Ok (
    image_by limit (record {
      times = times.0;
      pools = pools.0;
      sum_coll = sum_coll.0;
      sum_debt = sum_debt.0;
      stakes = stakes.0;
      p = p.0;
      place = place.0;
      sum = sum.0;
      deposited = deposited.0;
    }),
    deposited.1,
  )

-- the tables behind an image's words, up to the end
abbrev pub tables_at : ℕ → Image → List ℕ → Result Image ℕ
tables_at end words at = do
  wallets ← table_at (wallet_at end) end at
  troves ← table_at (trove_at end) end wallets.1
  surplus ← table_at (surplus_at end) end troves.1
  finished ← table_at (finished_at end) end surplus.1
  deposits ← table_at (deposit_at end) end finished.1
  clients ← table_at (client_at end) end deposits.1
  tested (length clients.1 == 0) end clients.1 (record words {
    wallets = wallets.0;
    troves = troves.0;
    surplus_rows = surplus.0;
    finished = finished.0;
    deposits = deposits.0;
    clients = clients.0;
  })

unfoldable pub image_at : ℕ → List ℕ → Result Image ℕ
image_at end at = do
  limit ← limit_at end at
  words ← words_at end limit.0 limit.1
  tables_at end words.0 words.1
