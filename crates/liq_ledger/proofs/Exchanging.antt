-- What is given and got in one step, as if one came after the other.
use Rattle.std.proofs.Common.{◌≡◌, ℕ, ◌+◌, ◌-◌, Bool, true, false, cond, sym, ap, ◌∙◌, Option, refl}
use Rattle.std.specs.Prelude.{unwrap_or}
use Rattle.liq_types.specs.declared.figures.Wallet.{Wallet}
use Rattle.liq_types.specs.Payments.{credited_in, charged_in}
use Rattle.liq_types.specs.State.{no_wallet, is_used_wallet, wallet_in, with_wallet}
use Rattle.liq_types.specs.Tables.{Table, put, without}
use Rattle.liq_types.specs.WellFormed.{Ascends}
use Rattle.liq_types.proofs.Lookups.{at-put_same, at-without_same}
use Rattle.liq_types.proofs.UsedRows.{written_twice}
use Rattle.liq_types.proofs.Tests.{unused}

-- the wallet that was written is there
here : (table : Table Wallet) (account : ℕ) (w : Wallet) → Ascends table
    → wallet_in (with_wallet table account w) account ≡ w
here table account w s = by (is_used_wallet w) refl where
  by : (b : Bool) → is_used_wallet w ≡ b → wallet_in (cond b (put table account w) (without table account)) account ≡ w
  by true e = ap (λ (o : Option Wallet). unwrap_or o no_wallet) (at-put_same table account w)
  by false e = ap (λ (o : Option Wallet). unwrap_or o no_wallet) (at-without_same table account s) ∙ sym (unused w e)

module _ (table : Table Wallet) (account coll lusd : ℕ) (s : Ascends table) where
  pub left : wallet_in (charged_in table account coll lusd) account ≡ record {
    coll = (wallet_in table account).coll
        - coll;
    lusd = (wallet_in table account).lusd - lusd;
  }
  left = here table account (record {
    coll = (wallet_in table account).coll - coll;
    lusd = (wallet_in table account).lusd - lusd;
  }) s

  pub exchanging : (got_coll got_lusd : ℕ)
      → with_wallet table account (record {
        coll = (wallet_in table account).coll - coll + got_coll;
        lusd = (wallet_in table account).lusd - lusd + got_lusd;
      }) ≡ credited_in (charged_in table account coll lusd)
      account got_coll got_lusd
  exchanging got_coll got_lusd =
      let between : Wallet = record {
        coll = (wallet_in table account).coll - coll;
        lusd = (wallet_in table account).lusd - lusd;
      } in
      let last : Wallet = record {
        coll = (wallet_in table account).coll - coll + got_coll;
        lusd = (wallet_in table account).lusd - lusd + got_lusd;
      } in
      sym (ap (λ (w : Wallet). with_wallet (charged_in table account coll lusd) account
      (record { coll = w.coll + got_coll; lusd = w.lusd + got_lusd })) left
      ∙ written_twice is_used_wallet table account between last s)
