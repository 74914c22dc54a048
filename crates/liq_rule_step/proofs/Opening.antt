-- What is conserved when a trove opens.
use Rattle.std.proofs.Common.{◌≡◌, ℕ, ◌+◌, ◌-◌, ◌≤◌, false, List, [], ◌∷◌, refl, ap, ◌∙◌, arith, None, Option, nat_lt}
use Rattle.std.specs.Prelude.{is_some, unwrap_or, sum_by}
use Rattle.std.specs.Map.{values_of}
use Rattle.std.proofs.lemmas.Bool.Decides.{nat_tests}
use Rattle.liq_types.specs.declared.amounts.TheConstants.{MIN_NET}
use Rattle.liq_types.specs.declared.replies.Refusal.TheVariants.{TroveExists, NetDebtLow, AmountLimit, ShortCollateral}
use Rattle.liq_types.specs.Payments.{charged}
use Rattle.liq_types.specs.Rules.{Rule, first_refusal, where_below, where_above, where_short}
use Rattle.liq_types.specs.State.{State, After, TroveEntry, wallet_of}
use Rattle.liq_types.specs.Tables.{Table, at, put}
use Rattle.liq_types.specs.Totals.{market_of}
use Rattle.liq_rate.specs.Bound.{fee_bound, fee_over}
use Rattle.liq_borrow.specs.Borrowing.{opening_terms, open_debt, open_rules, least_bound, least_ratio, ratio_low, system_ratio_low}
use Rattle.liq_rule_step.specs.Borrowing.{opened, with_fee}
use Rattle.liq_rule_step.specs.Identities.{IsConserved}
use Rattle.liq_types.specs.WellFormed.{Ascends, TablesAscend}
use Rattle.liq_rule_step.proofs.Alike.{placed_entry}
use Rattle.liq_rule_step.proofs.Allowed.{none_first}
use Rattle.liq_types.proofs.Ascending.{wallet-ascends}
use Rattle.liq_rule_step.proofs.Moving.{paid_coll, paid_lusd, charged_coll, charged_lusd}
use Rattle.liq_types.specs.declared.figures.Trove.{Trove}
use Rattle.liq_types.proofs.MapRows.{map-length, map-sum}
use Rattle.liq_troves.specs.StakeSums.{trove_row}
use Rattle.liq_types.proofs.UsedRows.{sum_by-put}
use Rattle.liq_types.proofs.Tests.{missing}
use Rattle.liq_types.proofs.Lookups.{length-put}

no_entry : TroveEntry
no_entry = record { coll = 0; debt = 0; stake = 0; mark = After 0 }

sum-put_absent : (f : TroveEntry → ℕ) → f no_entry ≡ 0 → (table : Table TroveEntry) (key : ℕ) (x : TroveEntry)
    → Ascends table → at table key ≡ None → sum_by f (values_of (put table key x)) ≡ sum_by f (values_of table) + f x
sum-put_absent f z table key x t n =
    let law = sum_by-put f table key x no_entry z t in
    let none : f (unwrap_or (at table key) no_entry) ≡ 0 =
    ap (λ (o : Option TroveEntry). f (unwrap_or o no_entry)) n ∙ z in
    omega (arith, law, none)

sixth : (a b c d e f : Rule) (more : List Rule) → first_refusal (a ∷ b ∷ c ∷ d ∷ e ∷ f ∷ more) ≡ None → (a.0 ≡ false)
    × (f.0 ≡ false)
sixth a b c d e f more h =
    let one = none_first a (b ∷ c ∷ d ∷ e ∷ f ∷ more) h in
    let two = none_first b (c ∷ d ∷ e ∷ f ∷ more) one.1 in
    let three = none_first c (d ∷ e ∷ f ∷ more) two.1 in
    let four = none_first d (e ∷ f ∷ more) three.1 in
    let five = none_first e (f ∷ more) four.1 in
    (one.0, (none_first f more five.1).0)

open_conserves : (s : State) (account coll borrow : ℕ) → at s.troves account ≡ None → coll ≤ (wallet_of s account).coll
    → TablesAscend s → IsConserved s → IsConserved (opened s account borrow (opening_terms (market_of s) coll borrow))
unfolding no_entry
open_conserves s account coll borrow none enough t h =
    let feed = with_fee s (opening_terms (market_of s) coll borrow) in
    let mid = charged feed account coll 0 in
    let ordered = wallet-ascends s.wallets account (record {
      coll = (wallet_of s account).coll - coll;
      lusd = (wallet_of s account).lusd - 0;
    }) t.0 in
    let debt = open_debt (market_of s) borrow in
    let entry = placed_entry s coll debt in
    let c1 = charged_coll feed account coll 0 t.0 enough in
    let l1 = charged_lusd feed account coll 0 t.0 (omega arith) in
    let c2 = paid_coll mid account 0 borrow ordered in
    let l2 = paid_lusd mid account 0 borrow ordered in
    let colls = sum-put_absent (λ (e : TroveEntry). e.coll) refl s.troves account entry t.1 none in
    let debts = sum-put_absent (λ (e : TroveEntry). e.debt) refl s.troves account entry t.1 none in
    let count = length-put s.troves account entry none in
    let table = put s.troves account entry in
    let rows = map-length (trove_row s) s.troves in
    let new_rows = map-length (trove_row s) table in
    let coll_was = map-sum (trove_row s) (λ (t : Trove). t.coll) s.troves in
    let coll_is = map-sum (trove_row s) (λ (t : Trove). t.coll) table in
    let debt_was = map-sum (trove_row s) (λ (t : Trove). t.debt) s.troves in
    let debt_is = map-sum (trove_row s) (λ (t : Trove). t.debt) table in
    record {
      coll = omega (arith, c1, c2, h.coll);
      lusd = omega (arith, l1, l2, h.lusd);
      reserve = omega (arith, count, rows, new_rows, h.reserve);
      active_coll = omega (arith, colls, coll_was, coll_is, h.active_coll);
      active_debt = omega (arith, debts, debt_was, debt_is, h.active_debt);
      surplus = h.surplus;
    }

opens : (s : State) (account coll borrow bound : ℕ)
    → first_refusal (open_rules (market_of s) (wallet_of s account) (is_some (at s.troves account)) account coll borrow
    bound) ≡ None → (at s.troves account ≡ None) × (coll ≤ (wallet_of s account).coll)
opens s account coll borrow bound r =
    let m = market_of s in
    let terms = opening_terms m coll borrow in
    let have = (wallet_of s account).coll in
    let found = sixth (is_some (at s.troves account), TroveExists account) (fee_bound bound (least_bound m))
    (fee_over terms.fee borrow bound) (where_below (borrow + terms.fee) MIN_NET NetDebtLow)
    (where_above (m.total_debt + terms.debt) m.limit AmountLimit) (where_short coll have ShortCollateral)
    (ratio_low m (least_ratio m) coll terms.debt ∷ system_ratio_low m (m.total_coll + coll) (m.total_debt + terms.debt)
    ∷ []) r in
    let enough : nat_lt have coll ≡ false = found.1 in
    (missing (at s.troves account) found.0, grind (arith, nat_tests, enough))

pub opening_conserves : (s : State) (account coll borrow bound : ℕ) → TablesAscend s
    → first_refusal (open_rules (market_of s) (wallet_of s account) (is_some (at s.troves account)) account coll borrow
    bound) ≡ None → IsConserved s → IsConserved (opened s account borrow (opening_terms (market_of s) coll borrow))
opening_conserves s account coll borrow bound t r h =
    let allowed = opens s account coll borrow bound r in
    open_conserves s account coll borrow allowed.0 allowed.1 t h
