-- The tables of a state stay in the order of their keys.
use Rattle.std.proofs.Common.{ℕ, ◌+◌, ◌-◌, Bool, true, false, cond, List, [], ◌∷◌, Some, None, Option}
use Rattle.std.specs.Prelude.{fold, ◌==◌}
use Rattle.liq_types.specs.declared.amounts.TheConstants.{RESERVE}
use Rattle.liq_types.specs.declared.replies.Done.{Done}
use Rattle.liq_types.specs.declared.requests.Call.{Call}
use Rattle.liq_types.specs.declared.requests.Call.TheVariants.{Price, Advance, Fund, Take, Send, Open, Adjust, Close, Provide, Withdraw, GainToTrove, Liquidate, LiquidateLowest, Redeem, Claim, Rotate}
use Rattle.liq_types.specs.declared.requests.Command.{Command}
use Rattle.liq_types.specs.declared.requests.Request.{Request}
use Rattle.liq_types.specs.declared.requests.Request.TheVariants.{Do, Ask}
use Rattle.liq_types.specs.Payments.{credited, charged, surplus_added, surplus_taken}
use Rattle.liq_types.specs.State.{State, TroveEntry, wallet_of}
use Rattle.liq_types.specs.Tables.{at}
use Rattle.liq_troves.specs.Own.{lifted_entry, lifted, placed, set_trove, redistributed, snapped}
use Rattle.liq_troves.specs.StakeSums.{entire_of}
use Rattle.liq_stability.specs.Own.{owned, offset}
use Rattle.liq_liquidation.specs.declared.one.Victim.{Victim}
use Rattle.liq_liquidation.specs.One.{one, offset_if_any, struck, liquidated}
use Rattle.liq_liquidation.specs.Lowest.{lowest, victim_by}
use Rattle.liq_redemption.specs.declared.cut.Cut.{Cut}
use Rattle.liq_redemption.specs.Redemption.{RedeemTerms, redeeming_terms, visited, cut_entire, cut_down, closed_by, redeemed_by}
use Rattle.liq_types.specs.Totals.{market_of, or_nothing}
use Rattle.liq_borrow.specs.declared.change.Plan.{Plan}
use Rattle.liq_borrow.specs.Borrowing.{adjusting_terms}
use Rattle.liq_rule_step.specs.Borrowing.{with_fee}
use Rattle.liq_rule_step.specs.Liquidation.{all_liquidated, listed}
use Rattle.liq_rule_step.specs.Rules.{effect}
use Rattle.liq_rule_step.specs.Step.{Ruling, Refused, Repeated, Allowed, noted, ruling, after_ruling, step, run}
use Rattle.liq_types.specs.WellFormed.{TablesAscend}
use Rattle.liq_types.proofs.Ascending.{wallet-ascends, surplus-ascends, put-ascends, without-ascends, none-ascends}

-- ---- changes

-- the tables of a state
pub record Ordered (s : State) : Type 0 where
  pub tables : TablesAscend s

pub paid-ascends : {s : State} (account coll lusd : ℕ) → Ordered s → Ordered (credited s account coll lusd)
paid-ascends {s} account coll lusd h =
    record {
      tables = (
        wallet-ascends s.wallets account (record {
          coll = (wallet_of s account).coll + coll;
          lusd = (wallet_of s account).lusd + lusd;
        }) h.tables.0,
        h.tables.1,
        h.tables.2,
        h.tables.3,
        h.tables.4,
      );
    }

pub charged-ascends : {s : State} (account coll lusd : ℕ) → Ordered s → Ordered (charged s account coll lusd)
charged-ascends {s} account coll lusd h =
    record {
      tables = (
        wallet-ascends s.wallets account (record {
          coll = (wallet_of s account).coll - coll;
          lusd = (wallet_of s account).lusd - lusd;
        }) h.tables.0,
        h.tables.1,
        h.tables.2,
        h.tables.3,
        h.tables.4,
      );
    }

added-ascends : {s : State} (account coll : ℕ) → Ordered s → Ordered (surplus_added s account coll)
added-ascends {s} account coll h =
    record {
      tables = (
        h.tables.0,
        h.tables.1,
        surplus-ascends s.surplus_rows account _ h.tables.2,
        h.tables.3,
        h.tables.4,
      );
    }

taken-ascends : {s : State} (account : ℕ) → Ordered s → Ordered (surplus_taken s account)
taken-ascends {s} account h =
    record {
      tables = (
        h.tables.0,
        h.tables.1,
        surplus-ascends s.surplus_rows account 0 h.tables.2,
        h.tables.3,
        h.tables.4,
      );
    }

lifted_entry-ascends : (s : State) (account : ℕ) (o : Option TroveEntry) → Ordered s
    → Ordered (lifted_entry s account o)
lifted_entry-ascends s account None h = h
lifted_entry-ascends s account (Some t) h = record {
  tables = (
    h.tables.0,
    without-ascends s.troves account h.tables.1,
    h.tables.2,
    h.tables.3,
    h.tables.4,
  );
}

lifted-ascends : {s : State} (account : ℕ) → Ordered s → Ordered (lifted s account)
lifted-ascends {s} account h = lifted_entry-ascends s account (at s.troves account) h

placed-ascends : {s : State} (account coll debt : ℕ) → Ordered s → Ordered (placed s account coll debt)
placed-ascends {s} account coll debt h = record {
  tables = (
    h.tables.0,
    put-ascends s.troves account _ h.tables.1,
    h.tables.2,
    h.tables.3,
    h.tables.4,
  );
}

set-ascends : {s : State} (account coll debt : ℕ) → Ordered s → Ordered (set_trove s account coll debt)
set-ascends account coll debt h = placed-ascends account coll debt (lifted-ascends account h)

owned-ascends : {s : State} (account put_in out : ℕ) → Ordered s → Ordered (owned s account put_in out)
owned-ascends {s} account put_in out h = record {
  tables = (
    h.tables.0,
    h.tables.1,
    h.tables.2,
    none-ascends _ s.deposits account _ h.tables.3,
    h.tables.4,
  );
}

if_any-ascends : (s : State) (debt coll : ℕ) → Ordered s → Ordered (offset_if_any s debt coll)
if_any-ascends s debt coll h = by (debt == 0) where
  by : (b : Bool) → Ordered (cond b s (offset s debt coll))
  by true = h
  by false = record { tables = h.tables }

pooled-ascends : (s : State) (v : Victim) → Ordered s
    → Ordered (offset_if_any (lifted s v.account) v.one.offset_debt v.one.offset_coll)
pooled-ascends s v h = if_any-ascends (lifted s v.account) v.one.offset_debt v.one.offset_coll
    (lifted-ascends v.account h)

pub liquidated-ascends : (s : State) (liquidator : ℕ) (v : Victim) → Ordered s → Ordered (liquidated s liquidator v)
liquidated-ascends s liquidator v h =
    let pooled = pooled-ascends s v h in
    let spread :
    Ordered (snapped (redistributed (offset_if_any (lifted s v.account) v.one.offset_debt v.one.offset_coll)
    v.one.spread_coll v.one.spread_debt)) = record { tables = pooled.tables } in
    let struck_h : Ordered (struck s v) = added-ascends v.account v.one.surplus spread in
    let without : Ordered (record (struck s v) { reserve = (struck s v).reserve - RESERVE }) =
    record { tables = struck_h.tables } in
    paid-ascends liquidator v.one.gas RESERVE without

all-ascend : (vs : List Victim) (liquidator : ℕ) (s : State) → Ordered s → Ordered (all_liquidated s liquidator vs)
all-ascend [] liquidator s h = h
all-ascend (v ∷ vs) liquidator s h = all-ascend vs liquidator (liquidated s liquidator v)
    (liquidated-ascends s liquidator v h)

burned : {s : State} → Ordered s → Ordered (record s { reserve = s.reserve - RESERVE })
burned h = record { tables = h.tables }

pub cut_entire-ascends : (s : State) (cut : Cut) (o : Option (ℕ × ℕ)) → Ordered s → Ordered (cut_entire s cut o)
cut_entire-ascends s cut None h = h
cut_entire-ascends s cut (Some own) h = by cut.full where
  by : (b : Bool)
      → Ordered (cond b (closed_by s cut own) (set_trove s cut.account (own.0 - cut.draw) (own.1 - cut.lot)))
  by true = added-ascends cut.account _ (burned (lifted-ascends cut.account h))
  by false = set-ascends cut.account _ _ h

cuts-ascend : (made : List Cut) (s : State) → Ordered s → Ordered (fold cut_down s made)
cuts-ascend [] s h = h
cuts-ascend (cut ∷ made) s h = cuts-ascend made (cut_down s cut) (cut_entire-ascends s cut (entire_of s cut.account) h)

with_fee-ascends : {s : State} (plan : Plan) → Ordered s → Ordered (with_fee s plan)
with_fee-ascends plan h = record { tables = h.tables }

redeem-ascends : (s : State) (account : ℕ) (terms : RedeemTerms) → Ordered s → Ordered (redeemed_by s account terms)
redeem-ascends s account terms h =
    let given = paid-ascends account (terms.drawn - terms.fee) 0 (charged-ascends account 0 terms.redeemed
    (cuts-ascend terms.cuts s h)) in
    record { tables = given.tables }

pub effect-ascends : (s : State) (call : Call) → Ordered s → Ordered (effect s call)
effect-ascends s (Price price) h = record { tables = h.tables }
effect-ascends s (Advance minutes) h = record { tables = h.tables }
effect-ascends s (Fund account coll) h = let paid_h : Ordered (credited s account coll 0) =
    paid-ascends account coll 0 h in record { tables = paid_h.tables }
effect-ascends s (Take account coll) h = let charged_h : Ordered (charged s account coll 0) =
    charged-ascends account coll 0 h in record { tables = charged_h.tables }
effect-ascends s (Send from to lusd) h = paid-ascends to 0 lusd (charged-ascends from 0 lusd h)
effect-ascends s (Open account coll borrow bound hint) h =
    let lent : Ordered (credited (charged s account coll 0) account 0 borrow) =
    paid-ascends account 0 borrow (charged-ascends account coll 0 h) in
    record { tables = (lent.tables.0, put-ascends s.troves account _ h.tables.1, h.tables.2, h.tables.3, h.tables.4) }
effect-ascends s (Adjust account coll_in coll_out borrow repay bound hint) h =
    set-ascends account _ _
    (paid-ascends account coll_out borrow
    (charged-ascends account coll_in repay
    (with_fee-ascends (adjusting_terms (market_of s) (or_nothing (entire_of s account)) (record {
      coll_in = coll_in;
      coll_out = coll_out;
      borrow = borrow;
      repay = repay;
    })) h)))
effect-ascends s (Close account) h =
    lifted-ascends account (burned (paid-ascends account _ 0 (charged-ascends account 0 _ h)))
effect-ascends s (Provide account lusd) h =
    paid-ascends account _ 0 (charged-ascends account 0 lusd (owned-ascends account lusd 0 h))
effect-ascends s (Withdraw account lusd) h = paid-ascends account _ _ (owned-ascends account 0 _ h)
effect-ascends s (GainToTrove account hint) h = set-ascends account _ _ (owned-ascends account 0 0 h)
effect-ascends s (Liquidate liquidator account) h =
    all-ascend (listed (victim_by account (one s account))) liquidator s h
effect-ascends s (LiquidateLowest liquidator count) h = all-ascend (lowest s count) liquidator s h
effect-ascends s (Redeem account lusd bound hint) h =
    redeem-ascends s account (redeeming_terms (market_of s) (visited s) lusd) h
effect-ascends s (Claim account) h = paid-ascends account _ 0 (taken-ascends account h)
effect-ascends s Rotate h = record { tables = h.tables }

pub noted-ascends : (s : State) (c : Command) (done : Done) → Ordered s → Ordered (noted s c done)
noted-ascends s c done h = record {
  tables = (
    h.tables.0,
    h.tables.1,
    h.tables.2,
    h.tables.3,
    put-ascends s.clients c.client _ h.tables.4,
  );
}

ruled-ascends : (s : State) (c : Command) (r : Ruling) → Ordered s → Ordered (after_ruling s c r).0
ruled-ascends s c (Refused refusal) h = h
ruled-ascends s c (Repeated kept) h = h
ruled-ascends s c Allowed h = noted-ascends (effect s c.call) c _ (effect-ascends s c.call h)

pub step-ascends : (s : State) (request : Request) → Ordered s → Ordered (step s request).0
step-ascends s (Do c) h = ruled-ascends s c (ruling s c) h
step-ascends s (Ask query) h = h

pub run-ascends : (requests : List Request) (s : State) → Ordered s → Ordered (run s requests).0
run-ascends [] s h = h
run-ascends (request ∷ requests) s h = run-ascends requests (step s request).0 (step-ascends s request h)
