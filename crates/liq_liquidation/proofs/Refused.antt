-- A liquidation's rules, tested in groups: what each group refuses or lets pass.
use Rattle.std.proofs.Common.{◌≡◌, ℕ, ◌-◌, ◌<◌, false, cond, ap, sym, ◌∙◌, List, [], ◌∷◌, ◌++◌, Some, arith}
use Rattle.std.specs.Prelude.{nat_le, Ok, Err}
use Rattle.std.proofs.lemmas.Bool.Decides.{nat_tests}
use Rattle.liq_types.specs.declared.figures.Market.{Market}
use Rattle.liq_types.specs.declared.figures.Trove.{Trove}
use Rattle.liq_types.specs.declared.replies.Refusal.{Refusal}
use Rattle.liq_types.specs.declared.replies.Refusal.TheVariants.{LastTrove}
use Rattle.liq_types.specs.Rules.{Rule, first_refusal, outcome}
use Rattle.liq_types.proofs.Refused.{refused, refused_before, passed}
use Rattle.liq_types.proofs.Tests.{made_by}
use Rattle.liq_troves.specs.declared.sums.Sums.{Sums}
use Rattle.liq_troves.specs.Rows.{entire_by, spread_rules, sum_after, sum_limit}
use Rattle.liq_liquidation.specs.declared.one.One.{One}
use Rattle.liq_liquidation.specs.One.{treatment, treated, treated_rules, treated_of, one_by, one_of, without_stake}

-- ---- a trove of several, which has these entire amounts

module _ (m : Market) (sums : Sums) (t : Trove) (total : ℕ) (own : ℕ × ℕ) (own_is : own ≡ entire_by sums t) (several : 1
    < m.troves) where
  abbrev whole : One
  whole = treated (treatment m own.0 own.1) m.price own.0 own.1 total

  abbrev others : Sums
  others = without_stake sums t

  abbrev spreading : One → List Rule
  spreading one = spread_rules others one.spread_coll one.spread_debt

  behind_last : one_by m sums t total ≡ outcome (first_refusal (treated_rules m own.0 own.1 total
      ++ spreading whole)) whole
  behind_last =
      let e : nat_le m.troves 1 ≡ false = grind (arith, nat_tests, several) in
      ap (λ (o : ℕ × ℕ). one_of m others o.0 o.1 total) (sym own_is)
      ∙ ap (λ b. outcome (cond b (Some (LastTrove m.troves)) (first_refusal (treated_rules m own.0 own.1 total
      ++ spreading whole))) whole) e

  pub treated_refuses : (e : Refusal) → treated_of m own.0 own.1 total ≡ Err e → one_by m sums t total ≡ Err e
  treated_refuses e h = behind_last ∙ refused_before (treated_rules m own.0 own.1 total) (spreading whole) whole
      whole e h

  module _ (one : One) (is : treated_of m own.0 own.1 total ≡ Ok one) where
    behind_treated : one_by m sums t total ≡ outcome (first_refusal (spreading one)) one
    behind_treated =
        let told = made_by (first_refusal (treated_rules m own.0 own.1 total)) whole one is in
        behind_last
        ∙ ap (λ o. outcome o whole) (passed (treated_rules m own.0 own.1 total) (spreading whole) told.0)
        ∙ ap (λ (x : One). outcome (first_refusal (spreading x)) x) told.1

    abbrev coll_after : ℕ
    coll_after = sum_after sums.coll one.spread_coll (sums.stakes - t.stake)

    abbrev debt_after : ℕ
    debt_after = sum_after sums.debt one.spread_debt (sums.stakes - t.stake)

    pub coll_refuses : (e : Refusal) → outcome (first_refusal (sum_limit coll_after ∷ [])) coll_after ≡ Err e
        → one_by m sums t total ≡ Err e
    coll_refuses e h = behind_treated ∙ refused_before (sum_limit coll_after ∷ []) (sum_limit debt_after
        ∷ []) coll_after one e h

    module _ (coll : ℕ) (fits : outcome (first_refusal (sum_limit coll_after ∷ [])) coll_after ≡ Ok coll) where
      behind_coll : one_by m sums t total ≡ outcome (first_refusal (sum_limit debt_after ∷ [])) one
      behind_coll =
          let none = made_by (first_refusal (sum_limit coll_after ∷ [])) coll_after coll fits in
          behind_treated ∙ ap (λ o. outcome o one) (passed (sum_limit coll_after ∷ []) (sum_limit debt_after
          ∷ []) none.0)

      pub debt_refuses : (e : Refusal) → outcome (first_refusal (sum_limit debt_after ∷ [])) debt_after ≡ Err e
          → one_by m sums t total ≡ Err e
      debt_refuses e h = behind_coll ∙ refused (first_refusal (sum_limit debt_after ∷ [])) debt_after one e h

      pub allowed : (debt : ℕ) → outcome (first_refusal (sum_limit debt_after ∷ [])) debt_after ≡ Ok debt
          → one_by m sums t total ≡ Ok one
      allowed debt h = behind_coll
          ∙ ap (λ o. outcome o one) (made_by (first_refusal (sum_limit debt_after ∷ [])) debt_after debt h).0
