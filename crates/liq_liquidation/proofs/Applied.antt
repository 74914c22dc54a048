-- What is known of a planned liquidation when it is made.
use Rattle.std.proofs.Common.{◌≡◌, ℕ, ◌+◌, ◌*◌, ◌≤◌, ◌<◌, true, false, cond, refl, ap, sym, ◌∙◌, subst, arith, nat_lt, Some, None, Option}
use Rattle.std.specs.Prelude.{◌==◌, Ok}
use Rattle.std.proofs.lemmas.Bool.Decides.{nat_tests}
use Rattle.liq_types.specs.declared.amounts.TheConstants.{SUM_MOST, OFFSET_MOST}
use Rattle.liq_types.specs.declared.figures.Market.{Market}
use Rattle.liq_types.specs.declared.figures.Trove.{Trove}
use Rattle.liq_types.specs.declared.replies.Refusal.TheVariants.{SumLimit}
use Rattle.liq_types.specs.Rules.{first_refusal}
use Rattle.liq_types.specs.Tables.{at, without}
use Rattle.liq_troves.specs.Rows.{spread_rules, stakes_in, sum_after}
use Rattle.liq_troves.specs.Standing.{Books, TrovesStand, lift, lifted_row}
use Rattle.liq_troves.proofs.Standing.{trove_within, lift_stands}
use Rattle.liq_liquidation.specs.declared.one.One.{One}
use Rattle.liq_liquidation.specs.declared.one.Victim.{Victim}
use Rattle.liq_liquidation.specs.Applied.{IsPlannedOn}
use Rattle.liq_liquidation.specs.One.{one_in, one_by}
use Rattle.liq_liquidation.proofs.Planned.{planned}
use Rattle.liq_liquidation.proofs.Struck.{Hold, stakes_left, others_stake}

-- ---- a victim that was planned

pub record IsDue (b left : Books) (total : ℕ) (made : One) : Type 0 where
  pub served : made.offset_debt ≤ total
  pub worth : made.offset_coll ≤ OFFSET_MOST * made.offset_debt
  pub stands : TrovesStand left
  pub some : 1 ≤ left.sums.stakes
  pub fits : first_refusal (spread_rules left.sums made.spread_coll made.spread_debt) ≡ None
  pub coll : left.active_coll + left.default_coll + made.spread_coll ≤ b.active_coll + b.default_coll
  pub debt : left.active_debt + left.default_debt + made.spread_debt ≤ b.active_debt + b.default_debt

within_limits : (a c : ℕ) → a ≤ SUM_MOST → c ≤ SUM_MOST
    → cond (nat_lt SUM_MOST a) (Some (SumLimit a)) (cond (nat_lt SUM_MOST c) (Some (SumLimit c)) None) ≡ None
within_limits a c h k =
    let first : nat_lt SUM_MOST a ≡ false = grind (arith, nat_tests, h) in
    let second : nat_lt SUM_MOST c ≡ false = grind (arith, nat_tests, k) in
    ap (λ t. cond t (Some (SumLimit a)) (cond (nat_lt SUM_MOST c) (Some (SumLimit c)) None)) first
    ∙ ap (λ t. cond t (Some (SumLimit c)) None) second

due_of : (b : Books) (total : ℕ) (v : Victim) (p : IsPlannedOn b total v) (t : Trove) → at b.troves v.account ≡ Some t
    → one_by p.market b.sums t total ≡ Ok v.one → IsDue b (lifted_row b v.account (Some t)) total v.one
due_of b total v p t there made =
    let m : Market = record p.market {
      total_coll = b.active_coll + b.default_coll;
      total_debt = b.active_debt
          + b.default_debt;
    } in
    let h : Hold m b = record { stands = p.stands; coll = refl; debt = refl } in
    let q = planned p.market b.sums t total v.one made in
    let w = trove_within b v.account t there p.stands in
    let stakes = stakes_left m b total v.account t there h in
    record {
      served = q.served;
      worth = q.worth p.price;
      stands = subst (λ (o : Option Trove). TrovesStand (lifted_row b v.account o)) there
          (lift_stands b v.account p.stands);
      some = others_stake m b total v.account t there h (omega (arith, q.several, p.counted));
      fits =
          within_limits (sum_after b.sums.coll v.one.spread_coll (stakes_in (without b.troves v.account)))
          (sum_after b.sums.debt v.one.spread_debt (stakes_in (without b.troves v.account)))
          (subst (λ n. sum_after b.sums.coll v.one.spread_coll n ≤ SUM_MOST) (sym stakes) q.coll_fits)
          (subst (λ n. sum_after b.sums.debt v.one.spread_debt n ≤ SUM_MOST) (sym stakes) q.debt_fits);
      coll = omega (arith, w.coll, w.pending_coll, q.coll);
      debt = omega (arith, w.debt, w.pending_debt, q.debt);
    }

-- beside the books that are left when its trove leaves
pub due : (b left : Books) (total : ℕ) (v : Victim) → IsPlannedOn b total v → left ≡ lift b v.account
    → IsDue b left total v.one
due b left total v p is = by (at b.troves v.account) refl p.planned where
  by : (o : Option Trove) → at b.troves v.account ≡ o → one_in p.market b.sums total v.account o ≡ Ok v.one
      → IsDue b left total v.one
  by None there made = cc
  by (Some t) there made =
      subst (λ (x : Books). IsDue b x total v.one) (sym (is ∙ ap (lifted_row b v.account) there))
      (due_of b total v p t there made)

-- ---- where the pool takes over something, and where nothing

pub taken : {X : Type 0} (debt : ℕ) (stays after : X) → 0 < debt → cond (debt == 0) stays after ≡ after
taken debt stays after some = let e : (debt == 0) ≡ false = grind (arith, nat_tests, some)
    in ap (λ b. cond b stays after) e

pub not_taken : {X : Type 0} (debt : ℕ) (stays after : X) → debt ≤ 0 → cond (debt == 0) stays after ≡ stays
not_taken debt stays after none = let e : (debt == 0) ≡ true = grind (arith, nat_tests, none)
    in ap (λ b. cond b stays after) e
