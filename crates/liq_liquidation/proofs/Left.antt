-- The parts of a state after a liquidation: what the call that makes it makes of each.
use Rattle.std.proofs.Common.{◌≡◌, ℕ, ◌+◌, ◌-◌, Bool, true, false, cond, length, refl, ap, ◌∙◌, Some, None, Option}
use Rattle.std.specs.Prelude.{◌==◌, Ok}
use Rattle.liq_types.specs.declared.figures.Trove.{Trove}
use Rattle.liq_types.specs.declared.amounts.TheConstants.{RESERVE}
use Rattle.liq_types.specs.Payments.{surplus_added, surplus_added_in, credited_in}
use Rattle.liq_types.specs.Product.{finished_sums}
use Rattle.liq_types.specs.State.{State, TroveEntry}
use Rattle.liq_types.specs.Tables.{Table, at, without}
use Rattle.liq_types.specs.WellFormed.{Ascends, AreFinished, IsPoolCovered, TrovesAreMarked}
use Rattle.liq_types.specs.Ranked.{without_ranked}
use Rattle.liq_troves.specs.Own.{lifted_entry, redistributed, snapped}
use Rattle.liq_troves.specs.Standing.{Books, books_of, lifted_row}
use Rattle.liq_troves.specs.StakeSums.{trove_rows, sums_words}
use Rattle.liq_types.specs.Totals.{market_of, pool_total}
use Rattle.liq_order.specs.Order.{trove_order, order_by}
use Rattle.liq_stability.specs.Own.{offset}
use Rattle.liq_stability.specs.Words.{pool_words, words_after, finished_by, finished_with}
use Rattle.liq_stability.proofs.Pool.{offset-words, offset-finishes}
use Rattle.liq_liquidation.specs.declared.one.Victim.{Victim}
use Rattle.liq_liquidation.specs.Applied.{AreLeft, words_left, finished_in}
use Rattle.liq_liquidation.specs.One.{one, one_in, struck_books, rewarded, liquidated}
use Rattle.liq_liquidation.proofs.States.{books_struck}
use Rattle.liq_order.proofs.Ranking.{left_order}

module _ (s : State) (v : Victim) (liquidator : ℕ) where
  abbrev left : Option TroveEntry → State
  left o = lifted_entry s v.account o

  abbrev pooled : Option TroveEntry → Bool → State
  pooled o b = cond b (left o) (offset (left o) v.one.offset_debt v.one.offset_coll)

  abbrev after : Option TroveEntry → Bool → State
  after o b = rewarded (surplus_added (snapped (redistributed (pooled o b) v.one.spread_coll v.one.spread_debt))
      v.account v.one.surplus) liquidator v.one.gas

  same_pool : (o : Option TroveEntry) → pool_words (left o) ≡ pool_words s
  same_pool None = refl
  same_pool (Some t) = refl

  words_by : (o : Option TroveEntry) (b : Bool) → AreFinished s.start → IsPoolCovered s
      → pool_words (after o b) ≡ cond b (pool_words s) (words_after (pool_words s) v.one.offset_debt v.one.offset_coll)
  words_by o true f c = same_pool o
  words_by None false f c = offset-words s f c v.one.offset_debt v.one.offset_coll
  words_by (Some t) false f c = offset-words (left (Some t)) f c v.one.offset_debt v.one.offset_coll

  sums_by : (o : Option TroveEntry) (b : Bool) → finished_sums (after o b).start (after o b).offsets
      ≡ finished_with (finished_sums s.start s.offsets)
      (cond b None (finished_by (pool_words s) v.one.offset_debt v.one.offset_coll))
  sums_by None true = refl
  sums_by (Some t) true = refl
  sums_by None false = offset-finishes s v.one.offset_debt v.one.offset_coll
  sums_by (Some t) false = offset-finishes (left (Some t)) v.one.offset_debt v.one.offset_coll

  -- the parts beside the troves and the pool, one by one
  beside_parts : (x : State) → x.wallets ≡ credited_in s.wallets liquidator v.one.gas RESERVE
      → x.reserve ≡ s.reserve - RESERVE → x.surplus ≡ s.surplus + v.one.surplus
      → x.surplus_rows ≡ surplus_added_in s.surplus_rows v.account v.one.surplus → x.fee_coll ≡ s.fee_coll
      → x.fee_lusd ≡ s.fee_lusd → x.deposits ≡ s.deposits → AreLeft s x liquidator v
  beside_parts x wallets reserve surplus surplus_rows fee_coll fee_lusd deposits = record {
    wallets = wallets;
    reserve = reserve;
    surplus = surplus;
    surplus_rows = surplus_rows;
    fee_coll = fee_coll;
    fee_lusd = fee_lusd;
    deposits = deposits;
  }

  beside_by : (o : Option TroveEntry) (b : Bool) → AreLeft s (after o b) liquidator v
  beside_by None true = beside_parts (after None true) refl refl refl refl refl refl refl
  beside_by None false = beside_parts (after None false) refl refl refl refl refl refl refl
  beside_by (Some t) true = beside_parts (after (Some t) true) refl refl refl refl refl refl refl
  beside_by (Some t) false = beside_parts (after (Some t) false) refl refl refl refl refl refl refl

  pub left_beside : AreLeft s (liquidated s liquidator v) liquidator v
  left_beside = beside_by (at s.troves v.account) (v.one.offset_debt == 0)

  pub left_books : TrovesAreMarked (length s.redistributions) s.troves → books_of (liquidated s liquidator v)
      ≡ struck_books (books_of s) v
  left_books h = books_struck s v h

  pub left_words : AreFinished s.start → IsPoolCovered s → pool_words (liquidated s liquidator v)
      ≡ words_left (pool_words s) v.one
  left_words f c = words_by (at s.troves v.account) (v.one.offset_debt == 0) f c

  pub left_sums : finished_sums (liquidated s liquidator v).start (liquidated s liquidator v).offsets
      ≡ finished_with (finished_sums s.start s.offsets) (finished_in (pool_words s) v.one)
  left_sums = sums_by (at s.troves v.account) (v.one.offset_debt == 0)

  rows_by : (o : Option Trove) → at (trove_rows s) v.account ≡ o
      → one_in (market_of s) (sums_words s) (pool_total s) v.account o ≡ Ok v.one → (struck_books (books_of s) v).troves
      ≡ without (trove_rows s) v.account
  rows_by None there h = cc
  rows_by (Some t) there h = ap (λ (o : Option Trove). (lifted_row (books_of s) v.account o).troves) there

  pub left_list : TrovesAreMarked (length s.redistributions) s.troves → Ascends (trove_rows s)
      → one s v.account ≡ Ok v.one → trove_order (liquidated s liquidator v) ≡ without_ranked (trove_order s) v.account
  left_list m a h =
      ap (λ (b : Books). order_by b.troves) (left_books m)
      ∙ ap (λ (t : Table Trove). order_by t) (rows_by (at (trove_rows s) v.account) refl h)
      ∙ left_order (trove_rows s) v.account a
