-- What an audit asks of its events, and what it answers.
use Rattle.std.specs.Prelude.{◌≡◌, ℕ, ◌+◌, ◌*◌, ◌^◌, ◌<◌, ◌≤◌, Bool, true, false, nat_lt, List, [], ◌∷◌, ◌++◌, length, map, fold, count_by, Option, Some, None, if◌then◌else◌}
use Rattle.std.specs.Map.{keys_of}
use Rattle.liq_types.specs.declared.amounts.TheConstants.{LIM}
use Rattle.liq_types.specs.declared.events.PoolEvent.{PoolEvent}
use Rattle.liq_types.specs.declared.events.PoolEvent.TheVariants as event
use Rattle.liq_types.specs.Allowance.{balance_allowance, gain_allowance}
use Rattle.liq_types.specs.PlainLedger.{exact_share, den_of, offsets_coll, AreOwnedBelow, over_accounts}
use Rattle.liq_types.specs.Product.{ScaledProduct, opening_words, after_offset, rise_of}
use Rattle.liq_types.specs.Tables.{Table, put}
use Rattle.liq_audit.specs.declared.rows.TheConstants.{OFFSETS_MOST, ACCOUNTS_MOST}
use Rattle.liq_audit.specs.declared.rows.EngineRow.{EngineRow}
use Rattle.liq_audit.specs.declared.rows.Row.{Row}
use Rattle.liq_audit.specs.Enclosure.{enclosed}

-- ---- the events

-- the words that the offsets of events leave
abbrev pub word_after : ScaledProduct → PoolEvent → ScaledProduct
word_after w (event.Own owner put paid gain amount) = w
word_after w (event.Offset debt coll total rise) =
    after_offset w (record { debt = debt; coll = coll; total = total })

abbrev pub words_along : List PoolEvent → ScaledProduct
words_along events = fold word_after opening_words events

-- after these events the plain balances of all accounts add up to so much
abbrev pub AddUpTo : List PoolEvent → ℕ → Type 0
AddUpTo events total = (n : ℕ) → AreOwnedBelow n events
    → over_accounts n (λ account. (exact_share account events).bal) ≡ total * den_of events

-- the exact balances of all accounts together are at most so much
abbrev pub AddUpWithin : List PoolEvent → ℕ → Type 0
AddUpWithin events most = (n : ℕ) → AreOwnedBelow n events
    → over_accounts n (λ account. (exact_share account events).bal) ≤ most * den_of events

-- an offset, after the events before it
pub record IsAuditableOffset (before : List PoolEvent) (debt coll total rise : ℕ) : Type 0 where
  pub some : 1 ≤ debt
  pub within : debt ≤ total
  pub limit : total ≤ LIM
  pub total_is : AddUpTo before total
  pub rise_is : rise ≡ rise_of (words_along before).p (record {
    debt = debt;
    coll = coll;
    total = total;
  })

abbrev pub IsAuditableEvent : List PoolEvent → PoolEvent → Type 0
IsAuditableEvent before (event.Own owner put paid gain amount) = Unit {0}
IsAuditableEvent before (event.Offset debt coll total rise) =
    IsAuditableOffset before debt coll total rise

-- each of these events may come after those before it
abbrev pub AreAuditable : List PoolEvent → List PoolEvent → Type 0
AreAuditable before [] = Unit {0}
AreAuditable before (e ∷ es) = IsAuditableEvent before e × AddUpWithin (before ++ e ∷ []) LIM
    × AreAuditable (before ++ e ∷ []) es

pub record IsAuditable (events : List PoolEvent) : Type 0 where
  pub each : AreAuditable [] events
  -- the offsets' collateral is all that is ever gained
  pub gains : offsets_coll events ≤ LIM
  pub few : length events < 2 ^ 40

-- ---- its accounts

abbrev pub with_owner : Table ℕ → PoolEvent → Table ℕ
with_owner table (event.Own owner put_in paid gain amount) = put table owner 0
with_owner table (event.Offset debt coll total rise) = table

-- the accounts with an own operation, ascending
abbrev pub owners_of : List PoolEvent → List ℕ
owners_of events = keys_of (fold with_owner [] events)

abbrev pub accounts_of : List EngineRow → List ℕ
accounts_of engine = map (λ (e : EngineRow). e.account) engine

-- ---- its limits

abbrev pub is_offset : PoolEvent → Bool
is_offset (event.Own owner put paid gain amount) = false
is_offset (event.Offset debt coll total rise) = true

abbrev pub offsets_in : List PoolEvent → ℕ
offsets_in events = count_by is_offset events

-- the first limit that is passed, with what passes it: the offsets, and then the accounts
abbrev pub limit_passed : List PoolEvent → Option (ℕ × ℕ)
limit_passed events =
    if nat_lt OFFSETS_MOST (offsets_in events) then Some (offsets_in events, OFFSETS_MOST)
    else if nat_lt ACCOUNTS_MOST (length (owners_of events)) then Some (
      length (owners_of events),
      ACCOUNTS_MOST,
    )
    else None

-- ---- its rows

abbrev pub row_of : List PoolEvent → EngineRow → Row
row_of events engine =
    let account = engine.account in
    let e = enclosed account events in
    record {
      account = account;
      balance_lo = e.balance_lo;
      balance_hi = e.balance_hi;
      balance = engine.balance;
      balance_allow = balance_allowance account events;
      gain_lo = e.gain_lo;
      gain_hi = e.gain_hi;
      gain = engine.gain;
      gain_allow = gain_allowance account events;
    }

-- a row encloses the exact share, and carries the allowances
pub record EnclosesShare (events : List PoolEvent) (row : Row) : Type 0 where
  pub balance_lo : row.balance_lo * (exact_share row.account events).den
      ≤ (exact_share row.account events).bal
  pub balance_hi : (exact_share row.account events).bal
      ≤ row.balance_hi * (exact_share row.account events).den
  pub gain_lo : row.gain_lo * (exact_share row.account events).den
      ≤ (exact_share row.account events).gain
  pub gain_hi : (exact_share row.account events).gain
      ≤ row.gain_hi * (exact_share row.account events).den
  pub balance_allow : row.balance_allow ≡ balance_allowance row.account events
  pub gain_allow : row.gain_allow ≡ gain_allowance row.account events

-- what the protocol gives an account is not above the enclosure, and below it by no more than the
-- allowance
pub record IsWithinRow (row : Row) : Type 0 where
  pub balance_hi : row.balance ≤ row.balance_hi
  pub balance_lo : row.balance_lo ≤ row.balance + row.balance_allow
  pub gain_hi : row.gain ≤ row.gain_hi
  pub gain_lo : row.gain_lo ≤ row.gain + row.gain_allow
