-- What a row of an image stands for: an entry of its table.
use Rattle.std.specs.Prelude.{ℕ}
use Rattle.liq_types.specs.declared.figures.Wallet.{Wallet}
use Rattle.liq_types.specs.declared.figures.Client.{Client}
use Rattle.liq_types.specs.declared.figures.Trove.{Trove}
use Rattle.liq_types.specs.declared.figures.Deposit.{Deposit}
use Rattle.liq_types.specs.declared.image.WalletRow.{WalletRow}
use Rattle.liq_types.specs.declared.image.TroveRow.{TroveRow}
use Rattle.liq_types.specs.declared.image.SurplusRow.{SurplusRow}
use Rattle.liq_types.specs.declared.image.FinishedSum.{FinishedSum}
use Rattle.liq_types.specs.declared.image.DepositRow.{DepositRow}
use Rattle.liq_types.specs.declared.image.ClientRow.{ClientRow}
use Rattle.liq_types.specs.Tables.{EpochScale}

abbrev pub wallet_row : WalletRow → ℕ × Wallet
wallet_row r = (r.account, record { coll = r.coll; lusd = r.lusd })

abbrev pub trove_row : TroveRow → ℕ × Trove
trove_row r = (
  r.account,
  record {
    coll = r.coll;
    debt = r.debt;
    stake = r.stake;
    mark_coll = r.mark_coll;
    mark_debt = r.mark_debt;
  },
)

abbrev pub surplus_row : SurplusRow → ℕ × ℕ
surplus_row r = (r.account, r.coll)

abbrev pub finished_row : FinishedSum → EpochScale × ℕ
finished_row f = ((f.epoch, f.scale), f.sum)

abbrev pub deposit_row : DepositRow → ℕ × Deposit
deposit_row r = (
  r.account,
  record {
    amount = r.amount;
    p = r.p;
    sum = r.sum;
    scale = r.scale;
    epoch = r.epoch;
  },
)

abbrev pub client_row : ClientRow → ℕ × Client
client_row r = (
  r.client,
  record {
    last = r.last;
    kept = record {
      kind = r.kind;
      values = r.values;
    };
  },
)
