-- The rule state: what the rules speak of, whatever the code keeps. What offsets and
-- redistributions have done is not a number here but their list.
use Rattle.std.specs.Prelude.{ℕ, Bool, not, ◌==◌, ◌&&◌, List, [], replicate, unwrap_or, if◌then◌else◌}
use Rattle.liq_types.specs.declared.amounts.TheConstants.{LIM}
use Rattle.liq_types.specs.declared.figures.Wallet.{Wallet}
use Rattle.liq_types.specs.declared.figures.Client.{Client}
use Rattle.liq_types.specs.declared.figures.Trove.{Trove}
use Rattle.liq_types.specs.declared.figures.Deposit.{Deposit}
use Rattle.liq_types.specs.Image.{Image, opening_image_with}
use Rattle.liq_types.specs.Tables.{Table, at, put, without, map_rows}

-- ---- marks

-- what was redistributed per unit of stake up to a moment, over ONE
pub record StakeSums : Type 0 where
  pub coll : ℕ
  pub debt : ℕ

-- the Stability Pool's product and sum at a moment, and the scale and the epoch in which they count
pub record PoolMark : Type 0 where
  pub p : ℕ
  pub sum : ℕ
  pub scale : ℕ
  pub epoch : ℕ

-- The moment of an entry's last own operation: after so many items of its list. An entry without
-- one since the start has what the starting image says.
pub data Mark (F : Type 0) : Type 0 where
  AtStart : (fields : F) → Mark F
  After : (items : ℕ) → Mark F

-- ---- entries and lists

-- a trove as of its owner's last operation
pub record TroveEntry : Type 0 where
  pub coll : ℕ
  pub debt : ℕ
  pub stake : ℕ
  pub mark : Mark StakeSums

-- a deposit as of its owner's last operation
pub record DepositEntry : Type 0 where
  pub amount : ℕ
  pub mark : Mark PoolMark

-- the Stability Pool took over debt for collateral; its total before
pub record PoolOffset : Type 0 where
  pub debt : ℕ
  pub coll : ℕ
  pub total : ℕ

-- collateral and debt went to the other troves, by their stakes, which add up to this
pub record Redistribution : Type 0 where
  pub coll : ℕ
  pub debt : ℕ
  pub stakes : ℕ

-- ---- the state

-- Collateral is in gwei, debt and LUSD in micro-LUSD. Tables ascend by their keys and have no empty
-- rows.
pub record State : Type 0 where
  -- the image from which the lists go on
  pub start : Image
  pub price : ℕ
  pub minute : ℕ
  pub base : ℕ
  pub fee_minute : ℕ
  pub generation : ℕ
  -- commands accepted since the opening or the last rotation
  pub records : ℕ
  -- the most collateral that may be inside, and the most LUSD
  pub limit : ℕ
  -- collateral inside: what was brought in less what was taken out
  pub brought : ℕ
  pub active_coll : ℕ
  pub active_debt : ℕ
  pub default_coll : ℕ
  pub default_debt : ℕ
  pub reserve : ℕ
  pub surplus : ℕ
  pub fee_coll : ℕ
  pub fee_lusd : ℕ
  pub snap_stakes : ℕ
  pub snap_coll : ℕ
  -- LUSD put into the Stability Pool since the start, paid back out of it, and collateral paid out
  -- of it as gains
  pub provided : ℕ
  pub withdrawn : ℕ
  pub gains_paid : ℕ
  pub offsets : List PoolOffset
  pub redistributions : List Redistribution
  pub wallets : Table Wallet
  pub troves : Table TroveEntry
  pub surplus_rows : Table ℕ
  pub deposits : Table DepositEntry
  pub clients : Table Client

-- ---- where a state begins

abbrev pub started_trove : Trove → TroveEntry
started_trove t =
    record {
      coll = t.coll;
      debt = t.debt;
      stake = t.stake;
      mark = AtStart (record { coll = t.mark_coll; debt = t.mark_debt });
    }

abbrev pub started_deposit : Deposit → DepositEntry
started_deposit d =
    record {
      amount = d.amount;
      mark = AtStart (record {
        p = d.p;
        sum = d.sum;
        scale = d.scale;
        epoch = d.epoch;
      });
    }

-- the state that begins with an image: nothing has happened since
abbrev pub started : Image → State
started i =
    record {
      start = i;
      price = i.price;
      minute = i.minute;
      base = i.base;
      fee_minute = i.fee_minute;
      generation = i.generation;
      records = 0;
      limit = i.limit;
      brought = i.brought;
      active_coll = i.active_coll;
      active_debt = i.active_debt;
      default_coll = i.default_coll;
      default_debt = i.default_debt;
      reserve = i.reserve;
      surplus = i.surplus;
      fee_coll = i.fee_coll;
      fee_lusd = i.fee_lusd;
      snap_stakes = i.snap_stakes;
      snap_coll = i.snap_coll;
      provided = 0;
      withdrawn = 0;
      gains_paid = 0;
      offsets = [];
      redistributions = [];
      wallets = i.wallets;
      troves = map_rows started_trove i.troves;
      surplus_rows = i.surplus_rows;
      deposits = map_rows started_deposit i.deposits;
      clients = i.clients;
    }

-- the state before any command, under a limit
abbrev pub opening_with : ℕ → State
opening_with limit = started (opening_image_with limit)

abbrev pub opening : State
opening = opening_with LIM

-- ---- rows of wallets, surplus and clients

-- a wallet of nothing, which leaves no row
abbrev pub no_wallet : Wallet
no_wallet = record { coll = 0; lusd = 0 }

abbrev pub is_used_wallet : Wallet → Bool
is_used_wallet w = not (w.coll == 0 && w.lusd == 0)

-- a client of which no command was accepted, which leaves no row
abbrev pub no_client : Client
no_client = record { last = 0; kept = record { kind = 0; values = replicate 6 0 } }

abbrev pub is_used_client : Client → Bool
is_used_client c = not (c.last == 0)

abbrev pub wallet_in : Table Wallet → ℕ → Wallet
wallet_in wallets account = unwrap_or (at wallets account) no_wallet

abbrev pub wallet_of : State → ℕ → Wallet
wallet_of s account = wallet_in s.wallets account

abbrev pub client_of : State → ℕ → Client
client_of s client = unwrap_or (at s.clients client) no_client

abbrev pub surplus_in : Table ℕ → ℕ → ℕ
surplus_in surplus account = unwrap_or (at surplus account) 0

abbrev pub surplus_of : State → ℕ → ℕ
surplus_of s account = surplus_in s.surplus_rows account

-- the wallets after one of them changed
abbrev pub with_wallet : Table Wallet → ℕ → Wallet → Table Wallet
with_wallet wallets account w =
    if is_used_wallet w then put wallets account w else without wallets account

-- the surplus of each owner after one of them changed
abbrev pub with_surplus : Table ℕ → ℕ → ℕ → Table ℕ
with_surplus table account coll =
    if coll == 0 then without table account else put table account coll
