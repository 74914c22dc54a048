-- The lowest troves of a command whose count is in range are those of the plan.
use Rattle.std.proofs.Common.{◌≡◌, ℕ, ◌≤◌, false, cond, nat_lt, List, Some, None, Option, refl, ap, ◌∙◌, arith}
use Rattle.std.specs.Prelude.{◌==◌, MatchResult, Result, Ok, Err, IsOk}
use Rattle.std.proofs.lemmas.Bool.Decides.{nat_tests}
use Rattle.liq_types.specs.declared.amounts.TheConstants.{LOWEST_MOST}
use Rattle.liq_types.specs.declared.replies.Refusal.{Refusal}
use Rattle.liq_types.specs.declared.replies.Refusal.TheVariants.{AmountLimit, AmountZero}
use Rattle.liq_types.specs.Rules.{first_refusal, outcome}
use Rattle.liq_types.specs.State.{State}
use Rattle.liq_liquidation.specs.declared.lowest.LowestFault.{LowestFault}
use Rattle.liq_liquidation.specs.declared.lowest.LowestFault.TheVariants.{No, NoMemory}
use Rattle.liq_liquidation.specs.declared.one.Victim.{Victim}
use Rattle.liq_liquidation.specs.Lowest.{lowest, lowest_plan, lowest_rules}
use Rattle.liq_liquidation.specs.Moment.{IsFaultOf}
use Rattle.liq_core_lowest.specs.Lowest.{AreLowest, IsNoPlan, lowest_refusal}

-- what is tested of the count is passed
tests_left : (s : State) (count : ℕ) → 1 ≤ count → count ≤ LOWEST_MOST
    → lowest_refusal s count ≡ first_refusal (lowest_rules s)
tests_left s count some most =
    let not_none : (count == 0) ≡ false = grind (arith, nat_tests, some) in
    let few : nat_lt LOWEST_MOST count ≡ false = grind (arith, nat_tests, most) in
    ap (λ b. cond b (Some AmountZero) (cond (nat_lt LOWEST_MOST count) (Some (AmountLimit count LOWEST_MOST))
    (first_refusal (lowest_rules s)))) not_none
    ∙ ap (λ b. cond b (Some (AmountLimit count LOWEST_MOST)) (first_refusal (lowest_rules s))) few

module _ (s : State) (count : ℕ) where
  made : (vs : List Victim) (o : Option Refusal) → outcome o (lowest s count) ≡ Ok vs
      → (o ≡ None) × (lowest s count ≡ vs)
  made vs None e = (refl, cc)
  made vs (Some refusal) e = cc

  refused : (refusal : Refusal) (o : Option Refusal) → outcome o (lowest s count) ≡ Err refusal → o ≡ Some refusal
  refused refusal None e = cc
  refused refusal (Some other) e = cc

  passed : (o : Option Refusal) → IsOk (outcome o (lowest s count)) → o ≡ None
  passed None e = refl
  passed (Some refusal) e = cc

  module _ (some : 1 ≤ count) (most : count ≤ LOWEST_MOST) {V : Type 0} where
    pub asked : (r : Result V LowestFault) (items : V → List Victim)
        → MatchResult r (λ v. lowest_plan s count ≡ Ok (items v)) (IsFaultOf (lowest_plan s count))
        → MatchResult r (λ v. AreLowest s count (items v)) (IsNoPlan s count)
    asked (Ok v) items h =
        let both = made (items v) (first_refusal (lowest_rules s)) h in
        (tests_left s count some most ∙ both.0, both.1)
    asked (Err (No refusal)) items h = tests_left s count some most ∙ refused refusal (first_refusal (lowest_rules s)) h
    asked (Err NoMemory) items h = tests_left s count some most ∙ passed (first_refusal (lowest_rules s)) h
