-- The rules that every image meets, in the order in which they are tested, and the form of its
-- tables. Beside the image stands the count of its records, which a checkpoint has as 0.
use Rattle.std.specs.Prelude.{◌≡◌, ℕ, ◌+◌, ◌-◌, ◌*◌, ◌≤◌, Bool, true, not, ◌&&◌, ◌||◌, ◌==◌, nat_lt, nat_le, List, [], ◌∷◌, length, sum, sum_by, drop, Option, Some, None, if◌then◌else◌}
use Rattle.std.specs.List.{list_all, AllByRecursion}
use Rattle.std.specs.List.Sorted.{IsStrictlySortedBy}
use Rattle.std.specs.Map.{keys_of, values_of}
use Rattle.liq_types.specs.declared.amounts.TheConstants.{ONE, LIM, LIM_OF_VERSION_1, PRICE_LEAST, PRICE_MOST, MINUTE_MOST, RESERVE, MIN_NET, P_OPENING, P_LEAST, SUM_MOST, OFFSET_MOST, ACCOUNTS, RECORDS_MOST, PLACES_A_RECORD, GENERATIONS_MOST}
use Rattle.liq_types.specs.declared.figures.Wallet.{Wallet}
use Rattle.liq_types.specs.declared.figures.Client.{Client}
use Rattle.liq_types.specs.declared.figures.Trove.{Trove}
use Rattle.liq_types.specs.declared.figures.Deposit.{Deposit}
use Rattle.liq_types.specs.Codes.{value_count}
use Rattle.liq_types.specs.Image.{Image, EpochScale}
use Rattle.liq_types.specs.Product.{place_order, start_sum}
use Rattle.liq_types.specs.State.{is_used_wallet}
use Rattle.liq_types.specs.Tables.{Table}
use Rattle.liq_types.specs.WellFormed.{Ascends}

-- ---- 1: ranges

-- the most collateral inside, and the most LUSD: a number of the image, of which the first rule
-- lets two values be
abbrev pub limit_in : Image → ℕ
limit_in i = i.limit

abbrev pub is_limit : ℕ → Bool
is_limit limit = limit == LIM_OF_VERSION_1 || limit == LIM

abbrev pub has_ranges : Image → ℕ → Bool
has_ranges i records =
    nat_le PRICE_LEAST i.price && nat_le i.price PRICE_MOST
    && nat_le i.minute MINUTE_MOST
    && nat_le i.fee_minute i.minute
    && nat_le i.base ONE
    && nat_le 1 i.generation && nat_le i.generation GENERATIONS_MOST
    && nat_le records RECORDS_MOST
    && is_limit i.limit
    && nat_le i.brought (limit_in i)

-- ---- 2: accounts and clients

abbrev pub has_keys_in_range : {X : Type 0} → Table X → Bool
has_keys_in_range table = list_all (λ key. nat_lt key ACCOUNTS) (keys_of table)

abbrev pub has_accounts : Image → Bool
has_accounts i =
    has_keys_in_range i.wallets && has_keys_in_range i.troves && has_keys_in_range i.surplus_rows
    && has_keys_in_range i.deposits && has_keys_in_range i.clients

-- ---- 3, 4, 5: what is conserved

-- the six homes of collateral
abbrev pub coll_homes : Image → ℕ
coll_homes i =
    sum_by (λ (w : Wallet). w.coll) (values_of i.wallets) + i.active_coll + i.default_coll
    + i.surplus + i.fee_coll + i.pool_coll

-- the four homes of LUSD
abbrev pub lusd_homes : Image → ℕ
lusd_homes i = sum_by (λ (w : Wallet). w.lusd) (values_of i.wallets) + i.total + i.reserve
    + i.fee_lusd

abbrev pub has_coll_at_home : Image → Bool
has_coll_at_home i = i.brought == coll_homes i

abbrev pub has_lusd_at_home : Image → Bool
has_lusd_at_home i =
    nat_le (i.active_debt + i.default_debt) (limit_in i)
    && (i.active_debt + i.default_debt) == lusd_homes i
    && i.reserve == RESERVE * length i.troves

abbrev pub has_surplus_at_home : Image → Bool
has_surplus_at_home i = i.surplus == sum (values_of i.surplus_rows)

-- ---- 6, 7, 8: troves

-- a trove is sound by these sums per stake
abbrev pub is_sound_trove : ℕ → ℕ → Trove → Bool
is_sound_trove sum_coll sum_debt t =
    nat_le 1 t.stake && nat_le t.stake t.coll
    && nat_le (RESERVE + MIN_NET) t.debt
    && nat_le t.mark_coll sum_coll && nat_le t.mark_debt sum_debt

abbrev pub has_sound_troves : Image → Bool
has_sound_troves i =
    list_all (is_sound_trove i.sum_coll i.sum_debt) (values_of i.troves)
    && nat_le i.sum_coll SUM_MOST && nat_le i.sum_debt SUM_MOST

-- the stakes and the active pool are the troves'; a snapshot has both of its words or none
abbrev pub has_troves_added_up : Image → Bool
has_troves_added_up i =
    i.stakes == sum_by (λ (t : Trove). t.stake) (values_of i.troves)
    && i.active_coll == sum_by (λ (t : Trove). t.coll) (values_of i.troves)
    && i.active_debt == sum_by (λ (t : Trove). t.debt) (values_of i.troves)
    && nat_le i.snap_stakes i.snap_coll
    && (i.snap_stakes == 0 && i.snap_coll == 0 || nat_lt 0 i.snap_stakes && nat_lt 0 i.snap_coll)

-- what is due to a trove before any rounding, over ONE
abbrev pub coll_due : ℕ → Trove → ℕ
coll_due sum t = t.stake * (sum - t.mark_coll)

abbrev pub debt_due : ℕ → Trove → ℕ
debt_due sum t = t.stake * (sum - t.mark_debt)

-- what is due to all troves before any rounding, over ONE
abbrev pub due_coll : Image → ℕ
due_coll i = sum_by (coll_due i.sum_coll) (values_of i.troves)

abbrev pub due_debt : Image → ℕ
due_debt i = sum_by (debt_due i.sum_debt) (values_of i.troves)

-- what is pending is in the default pool
abbrev pub is_backed : Image → Bool
is_backed i = nat_le (due_coll i) (i.default_coll * ONE) && nat_le (due_debt i)
    (i.default_debt * ONE)

-- ---- 9, 10: the Stability Pool

abbrev pub is_product : ℕ → Bool
is_product p = nat_le P_LEAST p && nat_le p P_OPENING

-- a place is before another
abbrev pub is_before : EpochScale → EpochScale → Bool
is_before a b = nat_lt a.0 b.0 || (a.0 == b.0 && nat_lt a.1 b.1)

-- each record raises scale and epoch by a bounded number
abbrev pub places_most : ℕ → ℕ → ℕ
places_most generation records = PLACES_A_RECORD * (RECORDS_MOST * (generation - 1) + records)

-- the most that a sum may be beside a product
abbrev pub is_sum_beside : ℕ → ℕ → Bool
is_sum_beside sum p = nat_le sum (OFFSET_MOST * (P_OPENING - p))

abbrev pub has_sound_words : Image → ℕ → Bool
has_sound_words i records =
    is_product i.p
    && is_sum_beside i.sum i.p
    && nat_le i.scale (places_most i.generation records) && nat_le i.epoch
    (places_most i.generation records)
    && list_all (λ (row : EpochScale × ℕ). nat_le row.1 (OFFSET_MOST * P_OPENING) && is_before row.0
    (i.epoch, i.scale)) i.finished

-- a deposit is sound by the place of now and the sum of its own place
abbrev pub is_sound_deposit : EpochScale → ℕ → Deposit → Bool
is_sound_deposit now sum d =
    is_product d.p
    && not (is_before now (d.epoch, d.scale))
    && nat_le d.sum sum

abbrev pub has_sound_deposits : Image → Bool
has_sound_deposits i =
    list_all (λ (d : Deposit). nat_le d.amount LIM && is_sound_deposit (i.epoch, i.scale)
    (start_sum i (d.epoch, d.scale)) d) (values_of i.deposits)

-- ---- 11: kept replies

abbrev pub is_sound_client : Client → Bool
is_sound_client c = list_all (λ value. value == 0) (drop (value_count c.kept.kind) c.kept.values)

abbrev pub has_sound_clients : Image → Bool
has_sound_clients i = list_all is_sound_client (values_of i.clients)

-- ---- all rules

abbrev pub soundness : Image → ℕ → List (ℕ × Bool)
soundness i records =
    (1, has_ranges i records)
    ∷ (2, has_accounts i)
    ∷ (3, has_coll_at_home i)
    ∷ (4, has_lusd_at_home i)
    ∷ (5, has_surplus_at_home i)
    ∷ (6, has_sound_troves i)
    ∷ (7, has_troves_added_up i)
    ∷ (8, is_backed i)
    ∷ (9, has_sound_words i records)
    ∷ (10, has_sound_deposits i)
    ∷ (11, has_sound_clients i)
    ∷ []

-- the number of the first rule that fails
abbrev pub first_failing : List (ℕ × Bool) → Option ℕ
first_failing [] = None
first_failing (rule ∷ rules) = if rule.1 then first_failing rules else Some rule.0

abbrev pub first_unsound : Image → ℕ → Option ℕ
first_unsound i records = first_failing (soundness i records)

-- ---- the tables

-- a row for a client has a reply of one of the sixteen kinds, with six values
pub record IsClientRow (c : Client) : Type 0 where
  pub last : 1 ≤ c.last
  pub kind : (1 ≤ c.kept.kind) × (c.kept.kind ≤ 16)
  pub values : length c.kept.values ≡ 6

-- each table has each key once, in order, and no empty row
pub record HasTables (i : Image) : Type 0 where
  pub wallets : Ascends i.wallets
  pub used_wallets : AllByRecursion (λ w. is_used_wallet w ≡ true) (values_of i.wallets)
  pub troves : Ascends i.troves
  pub surplus : Ascends i.surplus_rows
  pub some_surplus : AllByRecursion (λ coll. 1 ≤ coll) (values_of i.surplus_rows)
  pub finished : IsStrictlySortedBy place_order (keys_of i.finished)
  pub some_finished : AllByRecursion (λ sum. 1 ≤ sum) (values_of i.finished)
  pub deposits : Ascends i.deposits
  pub some_deposits : AllByRecursion (λ (d : Deposit). 1 ≤ d.amount) (values_of i.deposits)
  pub clients : Ascends i.clients
  pub client_rows : AllByRecursion IsClientRow (values_of i.clients)

-- ---- a sound image, beside its records

pub record IsSoundImage (i : Image) (records : ℕ) : Type 0 where
  pub rules : first_unsound i records ≡ None
  pub tables : HasTables i
