-- A change's rules, tested in groups: what each group refuses or lets pass.
use Rattle.std.proofs.Common.{◌≡◌, ℕ, refl, ap, sym, ◌∙◌, subst, List, ◌++◌, Some}
use Rattle.std.specs.Prelude.{Ok, Err}
use Rattle.liq_types.specs.declared.figures.Market.{Market}
use Rattle.liq_types.specs.declared.figures.Wallet.{Wallet}
use Rattle.liq_types.specs.declared.replies.Refusal.{Refusal}
use Rattle.liq_types.specs.Rules.{Rule, first_refusal, outcome}
use Rattle.liq_types.proofs.Refused.{refused, refused_before, passed}
use Rattle.liq_types.proofs.Tests.{made_by}
use Rattle.liq_borrow.specs.declared.change.Change.{Change}
use Rattle.liq_borrow.specs.declared.change.Plan.{Plan}
use Rattle.liq_borrow.specs.Adjusting.{asked_rules, held_rules, left_with, ratio_rules}
use Rattle.liq_borrow.specs.Borrowing.{adjust_plan, fee_now, rate_borrowed}

-- ---- a change of a trove that had so much, for this fee

module _ (m : Market) (wallet : Wallet) (had : ℕ × ℕ) (account : ℕ) (change : Change) (bound fee : ℕ) (fee_is : fee
    ≡ fee_now m change.borrow) where
  abbrev behind_asking : List Rule
  behind_asking = held_rules m wallet had change fee ++ ratio_rules m change fee had (left_with had change fee)

  abbrev pub terms : ℕ × ℕ → Plan
  terms left = record { coll = left.0; debt = left.1; fee = fee; rate = rate_borrowed m change.borrow }

  grouped : adjust_plan m wallet (Some had) account change bound
      ≡ outcome (first_refusal (asked_rules m change fee bound ++ behind_asking)) (terms (left_with had change fee))
  grouped =
      subst
      (λ n. adjust_plan m wallet (Some had) account change bound ≡ outcome (first_refusal (asked_rules m change n bound
      ++ (held_rules m wallet had change n ++ ratio_rules m change n had (left_with had change n)))) (record {
        coll =
            (left_with had change n).0;
        debt = (left_with had change n).1;
        fee = n;
        rate = rate_borrowed m change.borrow;
      }))
      (sym fee_is) refl

  pub asked_refuses : (e : Refusal) → outcome {X = Unit {0}} (first_refusal (asked_rules m change fee bound)) tt ≡ Err e
      → adjust_plan m wallet (Some had) account change bound ≡ Err e
  asked_refuses e h = grouped ∙ refused_before (asked_rules m change fee bound) behind_asking tt
      (terms (left_with had change fee)) e h

  module _ (done : Unit {0}) (asked : outcome (first_refusal (asked_rules m change fee bound)) tt ≡ Ok done) where
    behind_asked : adjust_plan m wallet (Some had) account change bound ≡ outcome (first_refusal behind_asking)
        (terms (left_with had change fee))
    behind_asked =
        let none = made_by (first_refusal (asked_rules m change fee bound)) tt done asked in
        grouped ∙ ap (λ o. outcome o (terms (left_with had change fee))) (passed (asked_rules m change fee bound)
        behind_asking none.0)

    pub held_refuses : (e : Refusal) → outcome (first_refusal (held_rules m wallet had change fee))
        (left_with had change fee) ≡ Err e → adjust_plan m wallet (Some had) account change bound ≡ Err e
    held_refuses e h = behind_asked ∙ refused_before (held_rules m wallet had change fee) (ratio_rules m change fee had
        (left_with had change fee)) (left_with had change fee) (terms (left_with had change fee)) e h

    module _ (left : ℕ × ℕ) (held : outcome (first_refusal (held_rules m wallet had change fee))
        (left_with had change fee) ≡ Ok left) where
      behind_held : adjust_plan m wallet (Some had) account change bound
          ≡ outcome (first_refusal (ratio_rules m change fee had left)) (terms left)
      behind_held =
          let is = made_by (first_refusal (held_rules m wallet had change fee)) (left_with had change fee) left held in
          behind_asked
          ∙ ap (λ o. outcome o (terms (left_with had change fee))) (passed (held_rules m wallet had change fee)
          (ratio_rules m change fee had (left_with had change fee)) is.0)
          ∙ ap (λ (l : ℕ × ℕ). outcome (first_refusal (ratio_rules m change fee had l)) (terms l)) is.1

      pub ratios_refuse : (e : Refusal) → outcome {X = Unit {0}} (first_refusal (ratio_rules m change fee had left)) tt
          ≡ Err e → adjust_plan m wallet (Some had) account change bound ≡ Err e
      ratios_refuse e h = behind_held ∙ refused (first_refusal (ratio_rules m change fee had left)) _ (terms left) e h

      pub allowed : (end : Unit {0}) → outcome (first_refusal (ratio_rules m change fee had left)) tt ≡ Ok end
          → adjust_plan m wallet (Some had) account change bound ≡ Ok (terms left)
      allowed end h = behind_held
          ∙ ap (λ o. outcome o (terms left)) (made_by (first_refusal (ratio_rules m change fee had left)) tt end h).0
