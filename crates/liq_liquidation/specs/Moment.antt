-- Moments: what a liquidation reads of a state, and what it leaves of that for the next one.
use Rattle.std.specs.Prelude.{◌≡◌, ℕ, zero, suc, ◌+◌, ◌-◌, ◌≤◌, Option, Some, None, Result, Ok, Err, List, [], ◌∷◌, length, IsOk}
use Rattle.liq_types.specs.declared.amounts.TheConstants.{LIM}
use Rattle.liq_types.specs.declared.figures.Market.{Market}
use Rattle.liq_types.specs.declared.figures.Trove.{Trove}
use Rattle.liq_types.specs.declared.replies.Refusal.{Refusal}
use Rattle.liq_types.specs.declared.replies.Refusal.TheVariants.{LastTrove}
use Rattle.liq_types.specs.State.{State}
use Rattle.liq_types.specs.Tables.{Table, at, without}
use Rattle.liq_types.specs.Totals.{market_of, pool_total}
use Rattle.liq_types.specs.WellFormed.{TrovesAreMarked}
use Rattle.liq_troves.specs.declared.sums.Sums.{Sums}
use Rattle.liq_troves.specs.Rows.{stakes_in, sums_spread, sums_snapped}
use Rattle.liq_troves.specs.StakeSums.{sums_words, trove_rows}
use Rattle.liq_troves.specs.Standing.{Books, TrovesStand, added_up, books_of}
use Rattle.liq_order.specs.Order.{order_by, last_account}
use Rattle.liq_stability.specs.declared.words.PoolWords.{PoolWords}
use Rattle.liq_liquidation.specs.declared.figures.Figures.{Figures}
use Rattle.liq_liquidation.specs.declared.lowest.LowestFault.{LowestFault}
use Rattle.liq_liquidation.specs.declared.lowest.LowestFault.TheVariants.{No, NoMemory}
use Rattle.liq_liquidation.specs.declared.one.One.{One}
use Rattle.liq_liquidation.specs.declared.one.Victim.{Victim}
use Rattle.liq_liquidation.specs.Given.{IsMarket}
use Rattle.liq_liquidation.specs.One.{one_in}

-- the troves, and what stands beside them
pub record Moment : Type 0 where
  pub figures : Figures
  pub troves : Table Trove

abbrev pub moment_of : State → Moment
moment_of s =
    record {
      figures = record { market = market_of s; sums = sums_words s; pool_total = pool_total s };
      troves = trove_rows s;
    }

abbrev pub moment_by : Market → Sums → Table Trove → PoolWords → Moment
moment_by m sums troves words =
    record {
      figures = record { market = m; sums = sums; pool_total = words.total };
      troves = troves;
    }

-- ---- what is left after a liquidation

-- Others than the troves get the gas, what the pool takes over and the surplus. The stakes are
-- those of the troves that are left, which take over the rest; new stakes are made by them from
-- then on.
abbrev pub figures_after : Figures → ℕ → One → Figures
figures_after f stakes one =
    let coll = f.market.total_coll - (one.gas + one.offset_coll + one.surplus) in
    record {
      market = record f.market {
        total_coll = coll;
        total_debt = f.market.total_debt - one.offset_debt;
        troves = f.market.troves - 1;
      };
      sums = sums_snapped (sums_spread (record f.sums { stakes = stakes }) one.spread_coll
          one.spread_debt) coll;
      pool_total = f.pool_total - one.offset_debt;
    }

abbrev pub moment_after : Moment → Victim → Moment
moment_after now v =
    let others = without now.troves v.account in
    record { figures = figures_after now.figures (stakes_in others) v.one; troves = others }

-- ---- the lowest troves

abbrev pub with_account : ℕ → Result One Refusal → Result Victim Refusal
with_account account (Ok one) = Ok (record { account = account; one = one })
with_account account (Err refusal) = Err refusal

-- the account's trove as a victim, where it is an account's
abbrev pub victim_from : Figures → Table Trove → Option ℕ → Result Victim Refusal
victim_from f troves None = Err (LastTrove f.market.troves)
victim_from f troves (Some account) =
    with_account account (one_in f.market f.sums f.pool_total account (at troves account))

-- the last trove of the order, or why it may not be liquidated
abbrev pub next_at : Moment → Result Victim Refusal
next_at now = victim_from now.figures now.troves (last_account (order_by now.troves))

-- the lowest troves from a moment on: so many at most, up to the first that may not be liquidated
abbrev pub lowest_from : Moment → ℕ → List Victim
lowest_from now zero = []
lowest_from now (suc more) = elim (next_at now) [
  | Err refusal ↦ []
  | Ok v ↦ v ∷ lowest_from (moment_after now v) more
]

-- the victims in order, or why there is not even one
abbrev pub plan_from : Moment → ℕ → Result (List Victim) Refusal
plan_from now count = elim (next_at now) [
  | Err refusal ↦ Err refusal
  | Ok v ↦ Ok (lowest_from now count)
]

-- an answer that is no plan: this is refused, or there was no memory, where the first of them may
-- be liquidated
abbrev pub IsFaultOf : Result (List Victim) Refusal → LowestFault → Type 0
IsFaultOf plan (No refusal) = plan ≡ Err refusal
IsFaultOf plan NoMemory = IsOk plan

-- ---- moments of sound states

-- what is not recorded of the troves is pending
abbrev pub books_at : Moment → Books
books_at now =
    let coll = added_up (λ t. t.coll) now.troves in
    let debt = added_up (λ t. t.debt) now.troves in
    record {
      sums = now.figures.sums;
      troves = now.troves;
      active_coll = coll;
      active_debt = debt;
      default_coll = now.figures.market.total_coll - coll;
      default_debt = now.figures.market.total_debt - debt;
    }

pub record IsSoundMoment (now : Moment) : Type 0 where
  pub market : IsMarket now.figures.market
  pub counted : now.figures.market.troves ≡ length now.troves
  pub coll : added_up (λ t. t.coll) now.troves ≤ now.figures.market.total_coll
  pub debt : added_up (λ t. t.debt) now.troves ≤ now.figures.market.total_debt
  pub coll_limit : now.figures.market.total_coll ≤ LIM
  pub debt_limit : now.figures.market.total_debt ≤ LIM
  pub troves : TrovesStand (books_at now)

-- what holds of the troves of every sound state
pub record TrovesAreSound (s : State) : Type 0 where
  pub troves : TrovesStand (books_of s)
  pub marked : TrovesAreMarked (length s.redistributions) s.troves
