-- The parts of a state that a redemption changes, beside the wallets, and what it makes of them.
use Rattle.std.specs.Prelude.{ℕ, ◌+◌, ◌-◌, Option, Some, None, List, fold, if◌then◌else◌}
use Rattle.liq_types.specs.declared.amounts.TheConstants.{RESERVE}
use Rattle.liq_types.specs.declared.figures.Trove.{Trove}
use Rattle.liq_types.specs.declared.figures.Wallet.{Wallet}
use Rattle.liq_types.specs.Payments.{credited_in, charged_in, surplus_added_in}
use Rattle.liq_types.specs.Ranked.{Ranked, with_ranked, without_ranked}
use Rattle.liq_types.specs.State.{State}
use Rattle.liq_types.specs.Tables.{Table}
use Rattle.liq_tables.specs.WithRoom.{WithRoom}
use Rattle.liq_ledger.specs.declared.pools.Pools.{Pools}
use Rattle.liq_troves.specs.declared.sums.Sums.{Sums}
use Rattle.liq_troves.specs.Kept.{Kept}
use Rattle.liq_troves.specs.Rows.{entire_in, set_row, key_by}
use Rattle.liq_troves.specs.StakeSums.{sums_words, trove_rows}
use Rattle.liq_troves.specs.Standing.{Books, lift, place}
use Rattle.liq_order.specs.Listed.{Listed}
use Rattle.liq_redemption.specs.declared.cut.Cut.{Cut}
use Rattle.liq_redemption.specs.Redemption.{RedeemTerms}
use Rattle.liq_trove_moves.specs.Books.{books_with, pools_with, pools_of}

-- the sums and the troves, the pools, what owners may claim, and the ordered list
pub record Parts : Type 0 where
  pub sums : Sums
  pub troves : Table Trove
  pub pools : Pools
  pub surplus : Table ℕ
  pub order : List Ranked

-- these parts of a state, without the room that they have
abbrev pub parts_of : Pools → WithRoom ℕ → Kept → Listed → Parts
parts_of pools surplus troves order =
    record {
      sums = troves.sums;
      troves = troves.table.rows;
      pools = pools;
      surplus = surplus.rows;
      order = order.entries;
    }

-- ---- the books

abbrev pub books_in : Parts → Books
books_in p = books_with p.sums p.troves p.pools

abbrev pub with_books : Parts → Books → Parts
with_books p b = record p { sums = b.sums; troves = b.troves; pools = pools_with p.pools b }

-- ---- what a cut does

-- the parts of a state once a trove has left
abbrev pub lifted_parts : Parts → ℕ → Parts
lifted_parts p account = record (with_books p (lift (books_in p) account)) {
  order = without_ranked
      p.order account;
}

-- a trove stands with these amounts, at its key
abbrev pub placed_parts : Parts → ℕ → ℕ → ℕ → Parts
placed_parts p account coll debt =
    record (with_books p (place (books_in p) account coll debt)) {
      order = with_ranked p.order (key_by (set_row p.sums coll debt), account);
    }

-- a trove that has left is closed: its reserve is burned, and its owner may claim this collateral
abbrev pub closed_parts : Parts → ℕ → ℕ → Parts
closed_parts p account coll =
    record p {
      pools = record p.pools {
        reserve = p.pools.reserve - RESERVE;
        surplus = p.pools.surplus
            + coll;
      };
      surplus = surplus_added_in p.surplus account coll;
    }

-- the parts after a cut of a trove that had these entire amounts
abbrev pub cut_own : Parts → Cut → Option (ℕ × ℕ) → Parts
cut_own p cut None = p
cut_own p cut (Some own) =
    let left = lifted_parts p cut.account in
    if cut.full
    then closed_parts left cut.account (own.0 - cut.draw)
    else placed_parts left cut.account (own.0 - cut.draw) (own.1 - cut.lot)

abbrev pub cut_parts : Parts → Cut → Parts
cut_parts p cut = cut_own p cut (entire_in p.sums p.troves cut.account)

-- ---- what a redemption does

-- all cuts are made, and the fee is the fee pool's
abbrev pub redeemed_parts : Parts → RedeemTerms → Parts
redeemed_parts p terms =
    let cut = fold cut_parts p terms.cuts in
    record cut { pools = record cut.pools { fee_coll = cut.pools.fee_coll + terms.fee } }

-- the redeemer's LUSD is burned, and it gets what is drawn less the fee
abbrev pub redeemed_wallets : Table Wallet → ℕ → RedeemTerms → Table Wallet
redeemed_wallets wallets account terms =
    credited_in (charged_in wallets account 0 terms.redeemed) account (terms.drawn - terms.fee) 0

-- ---- in a state

-- the parts of a state, with some list
abbrev pub parts_with : State → List Ranked → Parts
parts_with s order =
    record {
      sums = sums_words s;
      troves = trove_rows s;
      pools = pools_of s;
      surplus = s.surplus_rows;
      order = order;
    }
