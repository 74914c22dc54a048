use Rattle.std.proofs.Common.{◌≡◌, ℕ, ◌+◌, ◌≤◌, length, [], ◌∷◌, ap, sym, subst, ◌∙◌, refl, arith}
use Rattle.std.specs.Prelude.{Ok}
use Rattle.std.specs.List.Sorted.{IsStrictlySortedBy}
use Rattle.liq_types.specs.declared.amounts.TheConstants.{LIM, RESERVE, MIN_NET}
use Rattle.liq_types.specs.declared.figures.Market.{Market}
use Rattle.liq_types.specs.declared.figures.Trove.{Trove}
use Rattle.liq_types.specs.Tables.{Table, at}
use Rattle.liq_types.specs.WellFormed.{Ascends}
use Rattle.liq_ledger.specs.declared.pools.Pools.{Pools}
use Rattle.liq_troves.specs.declared.sums.Sums.{Sums}
use Rattle.liq_troves.specs.Standing.{TroveStands, TrovesStand}
use Rattle.liq_stability.specs.declared.words.PoolWords.{PoolWords}
use Rattle.liq_trove_moves.specs.Books.{books_with}
use Rattle.liq_liquidation.specs.One.{one_by, one_in}
use Rattle.test_parts.specs.World.{fresh, fresh_sums, opened_pools}
use Rattle.test_parts.specs.declared.plans.world.TheConstants.{FIRST, SECOND}
use Rattle.test_parts.proofs.plans.liquidated.liquidate.Goals as goal

abbrev two_rows : Table Trove
two_rows = (1, fresh FIRST) ∷ (2, fresh SECOND) ∷ []

ascend : Ascends two_rows
unfolding IsStrictlySortedBy
ascend = ((refl, tt), (tt, tt))

stand : (own : ℕ × ℕ) → 1 ≤ own.0 → RESERVE + MIN_NET ≤ own.1 → TroveStands 0 0 (fresh own)
stand own some least = record {
  some = some;
  within = omega arith;
  debt = least;
  mark_coll = omega arith;
  mark_debt = omega arith;
}

stands : TrovesStand (books_with (fresh_sums 21100000000) two_rows opened_pools)
stands =
    record {
      ascend = ascend;
      each = (stand FIRST (omega arith) (omega arith), (stand SECOND (omega arith) (omega arith), tt));
      sum_coll = omega arith;
      sum_debt = omega arith;
      stakes = refl;
      active_coll = refl;
      active_debt = refl;
      snap = omega arith;
      snap_none = λ none. refl;
      due_coll = omega arith;
      due_debt = omega arith;
    }

pub apply_one-requires-clause-planned : goal.apply_one-requires-clause-planned
apply_one-requires-clause-planned g c =
    let m : Market = record {
      price = c.args.price;
      minute = 0;
      base = 0;
      fee_minute = 0;
      limit = LIM;
      total_coll = 21100000000;
      total_debt = 8440000000;
      troves = 2;
    } in
    let sums = c.args.world.now.troves.sums in
    let rows = c.args.world.now.troves.table.rows in
    let total = c.args.homes.now.stability.words.total in
    let told : one_by m sums (fresh FIRST) total ≡ Ok c.in-Ok.one =
    ap (λ (s : Sums). one_by m s (fresh FIRST) total) (sym c.sums.ensures.sums)
    ∙ ap (λ (w : PoolWords). one_by m c.sums.result.now (fresh FIRST) w.total) (sym c.words.ensures.words)
    ∙ ap (λ (m : Market). one_by m c.sums.result.now (fresh FIRST) c.words.result.now.total) (sym c.market-m.ensures)
    ∙ sym c.plan_one.ensures
    ∙ c.in-Ok.is in
    record {
      stands =
          subst (λ (p : Pools). TrovesStand (books_with sums rows p)) (sym c.requires.opened.pools_are)
          (subst (λ (t : Table Trove). TrovesStand (books_with sums t opened_pools)) (sym c.requires.fresh.rows_are)
          (subst (λ (s : Sums). TrovesStand (books_with s two_rows opened_pools)) (sym c.requires.fresh.sums_are)
          stands));
      market = m;
      price = c.requires.price_least;
      counted = sym (ap (λ (t : Table Trove). length t) c.requires.fresh.rows_are);
      planned = ap (λ (t : Table Trove). one_in m sums total 1 (at t 1)) c.requires.fresh.rows_are ∙ told;
    }
