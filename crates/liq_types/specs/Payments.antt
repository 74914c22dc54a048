-- What moves between wallets, the owners' surplus and the rest.
use Rattle.std.specs.Prelude.{ℕ, ◌+◌, ◌-◌}
use Rattle.liq_types.specs.declared.figures.Wallet.{Wallet}
use Rattle.liq_types.specs.State.{State, wallet_in, surplus_in, with_wallet, with_surplus}
use Rattle.liq_types.specs.Tables.{Table}

-- ---- over the tables

-- collateral and LUSD into a wallet
abbrev pub credited_in : Table Wallet → ℕ → ℕ → ℕ → Table Wallet
credited_in wallets account coll lusd =
    let had = wallet_in wallets account in
    with_wallet wallets account (record { coll = had.coll + coll; lusd = had.lusd + lusd })

-- collateral and LUSD out of a wallet
abbrev pub charged_in : Table Wallet → ℕ → ℕ → ℕ → Table Wallet
charged_in wallets account coll lusd =
    let had = wallet_in wallets account in
    with_wallet wallets account (record { coll = had.coll - coll; lusd = had.lusd - lusd })

-- collateral that an owner may claim
abbrev pub surplus_added_in : Table ℕ → ℕ → ℕ → Table ℕ
surplus_added_in surplus account coll =
    with_surplus surplus account (surplus_in surplus account + coll)

-- all that the owner may claim
abbrev pub surplus_taken_in : Table ℕ → ℕ → Table ℕ
surplus_taken_in surplus account = with_surplus surplus account 0

-- ---- in a state

abbrev pub credited : State → ℕ → ℕ → ℕ → State
credited s account coll lusd = record s { wallets = credited_in s.wallets account coll lusd }

abbrev pub charged : State → ℕ → ℕ → ℕ → State
charged s account coll lusd = record s { wallets = charged_in s.wallets account coll lusd }

abbrev pub surplus_added : State → ℕ → ℕ → State
surplus_added s account coll =
    record s {
      surplus = s.surplus + coll;
      surplus_rows = surplus_added_in s.surplus_rows account coll;
    }

abbrev pub surplus_taken : State → ℕ → State
surplus_taken s account =
    record s {
      surplus = s.surplus - surplus_in s.surplus_rows account;
      surplus_rows = surplus_taken_in s.surplus_rows account;
    }
