-- What the parts of every sound state are, as far as a redemption reads them.
use Rattle.std.specs.Prelude.{◌≡◌, ℕ, false, ◌+◌, ◌-◌, ◌≤◌, ◌<◌, Some, IsSome, IsTrue, Ok}
use Rattle.std.specs.List.{AllByRecursion}
use Rattle.liq_types.specs.declared.amounts.TheConstants.{ONE, LIM, PRICE_LEAST, PRICE_MOST, RESERVE, MIN_NET}
use Rattle.liq_types.specs.declared.figures.Market.{Market}
use Rattle.liq_types.specs.declared.figures.Trove.{Trove}
use Rattle.liq_types.specs.declared.figures.Wallet.{Wallet}
use Rattle.liq_types.specs.Ranked.{key_in}
use Rattle.liq_types.specs.State.{surplus_in}
use Rattle.liq_types.specs.Tables.{Table, at}
use Rattle.liq_tables.specs.WithRoom.{WithRoom, HasRoom}
use Rattle.liq_troves.specs.declared.sums.Sums.{Sums}
use Rattle.liq_troves.specs.Rows.{entire_by, entire_in}
use Rattle.liq_troves.specs.Standing.{TrovesStand}
use Rattle.liq_order.specs.Listed.{AreDistinct}
use Rattle.liq_redemption.specs.declared.cut.Cut.{Cut}
use Rattle.liq_redemption.specs.declared.planning.RedeemPlan.{RedeemPlan}
use Rattle.liq_redemption.specs.Parts.{Parts, books_in}
use Rattle.liq_redemption.specs.Redemption.{redeem_plan, visited_by}

-- ---- what is planned

-- of a market and the redeemer's wallet: LUSD in a wallet is a part of all debt
pub record IsMarket (m : Market) (wallet : Wallet) : Type 0 where
  pub price_least : PRICE_LEAST ≤ m.price
  pub price_most : m.price ≤ PRICE_MOST
  pub base : m.base ≤ ONE
  pub past_fee : m.fee_minute ≤ m.minute
  pub debt : m.total_debt ≤ LIM
  pub supply : wallet.lusd ≤ m.total_debt

-- no trove has more than may be inside
pub record IsEntireWithin (own : ℕ × ℕ) : Type 0 where
  pub coll : own.0 ≤ LIM
  pub debt : own.1 ≤ LIM

abbrev pub AreEntireWithin : Sums → Table Trove → Type 0
AreEntireWithin sums troves = AllByRecursion (λ (row : ℕ × Trove). IsEntireWithin
    (entire_by sums row.1)) troves

-- ---- what is carried out

-- Of the parts and of the redeemer's wallet: the troves are within the active and the default pool;
-- each is in the list, and stands there once; nobody may claim more than there is; what the
-- redeemer has and the pools together are within the limit.
pub record AreSoundParts (p : Parts) (wallet : Wallet) : Type 0 where
  pub troves : TrovesStand (books_in p)
  pub listed : (account : ℕ) → IsSome (at p.troves account) → IsSome (key_in p.order account)
  pub distinct : AreDistinct p.order
  pub claims : (account : ℕ) → surplus_in p.surplus account ≤ p.pools.surplus
  pub coll : wallet.coll + p.pools.active_coll + p.pools.default_coll + p.pools.surplus
      + p.pools.fee_coll ≤ LIM
  pub debt : p.pools.active_debt + p.pools.default_debt ≤ LIM

-- the plan is what planning answered in this state
pub record IsPlannedOn (p : Parts) (wallet : Wallet) (plan : RedeemPlan) : Type 0 where
  pub market : Market
  pub amount : ℕ
  pub bound : ℕ
  pub sound : IsMarket market wallet
  pub planned : redeem_plan market wallet (visited_by market.price p.sums p.troves p.order) amount
      bound ≡ Ok plan

-- ---- room

-- for what the owner of a closed trove may claim
abbrev pub HasRoomToClose : WithRoom ℕ → Cut → Type 0
HasRoomToClose surplus cut = IsTrue cut.full → HasRoom surplus cut.account

-- for all that a plan of the account's redemption writes
abbrev pub HasRoomFor : RedeemPlan → ℕ → WithRoom Wallet → WithRoom ℕ → Type 0
HasRoomFor plan account wallets surplus = HasRoom wallets account
    × AllByRecursion (HasRoomToClose surplus) plan.cuts

-- ---- a single cut

-- what a single cut asks of the parts at its moment
pub record CutFits (p : Parts) (cut : Cut) : Type 0 where
  pub own : ℕ × ℕ
  pub entire_is : entire_in p.sums p.troves cut.account ≡ Some own
  pub stands : TrovesStand (books_in p)
  pub coll : p.pools.active_coll + p.pools.default_coll ≤ LIM
  pub debt : p.pools.active_debt + p.pools.default_debt ≤ LIM
  pub draw : cut.draw < own.0
  pub listed : IsSome (key_in p.order cut.account)
  pub surplus : p.pools.surplus + (own.0 - cut.draw) ≤ LIM
  pub claim : surplus_in p.surplus cut.account + (own.0 - cut.draw) ≤ LIM
  -- a trove that stays keeps the least debt
  pub left : cut.full ≡ false → RESERVE + MIN_NET ≤ own.1 - cut.lot
