-- Sound states: what every state is that the rules reach, and what every step keeps.
use Rattle.std.specs.Prelude.{◌≡◌, ℕ, ◌+◌, ◌-◌, ◌*◌, ◌≤◌, ◌<◌, min, sum_by}
use Rattle.std.specs.Prelude.{List, [], ◌∷◌, Some, Ok}
use Rattle.std.specs.List.{AllByRecursion}
use Rattle.std.specs.Map.{values_of}
use Rattle.liq_types.specs.declared.amounts.TheConstants.{ONE, LIM, CAP_WORTH, OFFSET_MOST, P_OPENING, P_LEAST}
use Rattle.liq_types.specs.declared.amounts.TheConstants.{SUM_MOST, RESERVE, MIN_NET}
use Rattle.liq_types.specs.declared.figures.Wallet.{Wallet}
use Rattle.liq_types.specs.Product.{IsWithinRange, place_of, sumat}
use Rattle.liq_types.specs.Soundness.{IsSoundImage, places_most}
use Rattle.liq_types.specs.State.{State, Mark, AtStart, After, StakeSums, TroveEntry, DepositEntry, PoolOffset}
use Rattle.liq_types.specs.Tables.{EpochScale, Table}
use Rattle.liq_types.specs.Totals.{total_coll, total_debt, pool_total, pool_coll, stakes_of}
use Rattle.liq_types.specs.WellFormed.{IsWellFormed, TablesAscend}
use Rattle.liq_troves.specs.Standing.{HadStakes, TrovesStand, books_of}
use Rattle.liq_troves.specs.StakeSums.{sums_now, sums_at, pending_coll, pending_debt, entire, entire_of}
use Rattle.liq_stability.specs.Position.{words_of, mark_of, sums_from}
use Rattle.liq_borrow.specs.declared.change.Change.{Change}
use Rattle.liq_borrow.specs.declared.change.Plan.{Plan}
use Rattle.liq_liquidation.specs.declared.one.One.{One}
use Rattle.liq_liquidation.specs.declared.one.Victim.{Victim}
use Rattle.liq_liquidation.specs.One.{one, gas_of, one_total_coll, one_total_debt, struck}
use Rattle.liq_redemption.specs.declared.cut.Cut.{Cut}
use Rattle.liq_rule_step.specs.Image.{image}

-- It is well formed, its tables are in order, its image meets the rules beside its records, and
-- every redistribution went to some stake.
pub record IsSoundState (s : State) : Type 0 where
  pub formed : IsWellFormed s
  pub ordered : TablesAscend s
  pub sound : IsSoundImage (image s) s.records
  pub spread : HadStakes s.redistributions

-- ---- troves that were set since the start

abbrev pub IsSetSince : Mark StakeSums → Type 0
IsSetSince (AtStart fields) = ⊥
IsSetSince (After items) = Unit {0}

-- the owner of each trove has set it since the state began
abbrev pub AreSetSince : Table TroveEntry → Type 0
AreSetSince troves = AllByRecursion (λ (row : ℕ × TroveEntry). IsSetSince row.1.mark) troves

-- ---- bounds

-- no amount is more than so much, but for those of a snapshot
pub record AmountsWithin (most : ℕ) (s : State) : Type 0 where
  pub brought : s.brought ≤ most
  pub total_coll : total_coll s ≤ most
  pub total_debt : total_debt s ≤ most
  pub active_coll : s.active_coll ≤ most
  pub active_debt : s.active_debt ≤ most
  pub default_coll : s.default_coll ≤ most
  pub default_debt : s.default_debt ≤ most
  pub reserve : s.reserve ≤ most
  pub surplus : s.surplus ≤ most
  pub fee_coll : s.fee_coll ≤ most
  pub fee_lusd : s.fee_lusd ≤ most
  pub pool_total : pool_total s ≤ most
  pub pool_coll : pool_coll s ≤ most
  pub stakes : stakes_of s ≤ most
  pub wallets_coll : AllByRecursion (λ (w : Wallet). w.coll ≤ most) (values_of s.wallets)
  pub wallets_lusd : AllByRecursion (λ (w : Wallet). w.lusd ≤ most) (values_of s.wallets)
  pub troves_coll : AllByRecursion (λ (t : TroveEntry). t.coll ≤ most) (values_of s.troves)
  pub troves_debt : AllByRecursion (λ (t : TroveEntry). t.debt ≤ most) (values_of s.troves)
  pub troves_stake : AllByRecursion (λ (t : TroveEntry). t.stake ≤ most) (values_of s.troves)
  pub surplus_rows : AllByRecursion (λ coll. coll ≤ most) (values_of s.surplus_rows)
  pub deposits : AllByRecursion (λ (d : DepositEntry). d.amount ≤ most) (values_of s.deposits)

-- the words of a snapshot
pub record SnapshotWithin (most : ℕ) (s : State) : Type 0 where
  pub stakes : s.snap_stakes ≤ most
  pub coll : s.snap_coll ≤ most

-- product, sums and place of the Stability Pool, and the sums per stake
pub record WordsWithin (s : State) : Type 0 where
  pub product : IsWithinRange (words_of s)
  pub sum : sumat s.start s.offsets (place_of (words_of s))
      ≤ OFFSET_MOST * (P_OPENING - (words_of s).p)
  pub sums : (place : EpochScale) → sumat s.start s.offsets place ≤ OFFSET_MOST * P_OPENING
  pub scale : (words_of s).scale ≤ places_most s.generation s.records
  pub epoch : (words_of s).epoch ≤ places_most s.generation s.records
  pub sum_coll : (sums_now s).coll ≤ SUM_MOST
  pub sum_debt : (sums_now s).debt ≤ SUM_MOST

-- ---- what a trove and a deposit are beside the pools

-- nothing is taken from an amount that is less
pub record TroveIsCovered (s : State) (t : TroveEntry) : Type 0 where
  pub mark_coll : (sums_at s t.mark).coll ≤ (sums_now s).coll
  pub mark_debt : (sums_at s t.mark).debt ≤ (sums_now s).debt
  pub coll : t.coll ≤ s.active_coll
  pub debt : t.debt ≤ s.active_debt
  pub pending_coll : pending_coll s t ≤ s.default_coll
  pub pending_debt : pending_debt s t ≤ s.default_debt
  pub stake : t.stake ≤ stakes_of s
  pub some_coll : 1 ≤ (entire s t).0
  pub least_debt : RESERVE + MIN_NET ≤ (entire s t).1
  pub entire_coll : (entire s t).0 ≤ total_coll s
  pub entire_debt : (entire s t).1 ≤ total_debt s
  pub reserve : RESERVE ≤ s.reserve

pub record DepositIsCovered (s : State) (d : DepositEntry) : Type 0 where
  pub sum : (mark_of s d.mark).sum ≤ sums_from s (mark_of s d.mark) 0
  pub product : P_LEAST ≤ (mark_of s d.mark).p
  pub epoch : (mark_of s d.mark).epoch ≤ (words_of s).epoch
  pub scale : (mark_of s d.mark).epoch ≡ (words_of s).epoch → (mark_of s d.mark).scale
      ≤ (words_of s).scale

-- what left the Stability Pool comes together with what is in it to what came in
pub record PoolIsWhole (s : State) : Type 0 where
  pub lusd : pool_total s + s.withdrawn + sum_by (λ (o : PoolOffset). o.debt) s.offsets
      ≡ s.start.total + s.provided
  pub coll : pool_coll s + s.gains_paid ≡ s.start.pool_coll + sum_by (λ (o : PoolOffset). o.coll)
      s.offsets

-- ---- what an allowed call takes

-- of the troves that are struck one after the other each may be liquidated at its moment, and what
-- stands of the troves and of the product stands after each
abbrev pub StruckStand : State → List Victim → Type 0
StruckStand s [] = Unit {0}
StruckStand s (v ∷ vs) =
    (one s v.account ≡ Ok v.one) × TrovesStand (books_of (struck s v))
    × IsWithinRange (words_of (struck s v))
    × StruckStand (struck s v) vs

-- all that becomes of a trove with these entire amounts is in it, and the pool takes over no more
-- than it has
pub record OneIsCovered (s : State) (own : ℕ × ℕ) (one : One) : Type 0 where
  pub coll : one_total_coll one ≡ own.0
  pub debt : one_total_debt one ≡ own.1
  pub served : one.offset_debt ≤ pool_total s
  pub worth : one.offset_coll ≤ OFFSET_MOST * one.offset_debt

-- what is divided of a liquidated trove: the collateral of the offset times the product, and what
-- each unit of stake gets
pub record OneFits (s : State) (one : One) : Type 0 where
  pub offset : one.offset_coll * (words_of s).p ≤ P_OPENING * LIM
  pub spread_coll : one.spread_coll * ONE ≤ ONE * LIM
  pub spread_debt : one.spread_debt * ONE ≤ ONE * LIM

-- what is divided before it: the cap on the collateral of a trove with these entire amounts, and
-- the pool's share of it
pub record OwnFits (s : State) (own : ℕ × ℕ) : Type 0 where
  pub cap : own.1 * CAP_WORTH ≤ CAP_WORTH * LIM
  pub share : (own.0 - gas_of own.0) * min own.1 (pool_total s) ≤ LIM * LIM

-- the same of each of the troves that are struck one after the other, at its moment
abbrev pub StruckFit : State → List Victim → Type 0
StruckFit s [] = Unit {0}
StruckFit s (v ∷ vs) =
    (pool_total s ≤ LIM) × ((own : ℕ × ℕ) → entire_of s v.account ≡ Some own → OwnFits s own)
    × OneFits s v.one × StruckFit (struck s v) vs

-- a cut takes less collateral than the trove has, and no more debt than it has beside its reserve
pub record CutIsCovered (s : State) (cut : Cut) : Type 0 where
  pub own : ℕ × ℕ
  pub entire_is : entire_of s cut.account ≡ Some own
  pub draw : cut.draw < own.0
  pub lot : cut.lot + RESERVE ≤ own.1

-- a change takes no more than there is, and leaves some collateral and the least debt
pub record ChangeIsCovered (own : ℕ × ℕ) (change : Change) (plan : Plan) : Type 0 where
  pub coll_out : change.coll_out ≤ own.0
  pub repay : change.repay ≤ own.1
  pub coll : plan.coll + change.coll_out ≡ own.0 + change.coll_in
  pub debt : plan.debt + change.repay ≡ own.1 + change.borrow + plan.fee
  pub some : 1 ≤ plan.coll
  pub least : RESERVE + MIN_NET ≤ plan.debt
