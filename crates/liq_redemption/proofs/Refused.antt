-- A redemption's rules, tested in two groups: what each refuses or lets pass.
use Rattle.std.proofs.Common.{◌≡◌, ℕ, Bool, true, false, cond, refl, ap, sym, ◌∙◌, List, [], ◌∷◌, Some, Option, arith}
use Rattle.std.specs.Prelude.{◌==◌, nat_le, Ok, Err}
use Rattle.std.proofs.lemmas.Bool.Decides.{nat_tests}
use Rattle.liq_types.specs.declared.figures.Market.{Market}
use Rattle.liq_types.specs.declared.figures.Wallet.{Wallet}
use Rattle.liq_types.specs.declared.replies.Refusal.{Refusal}
use Rattle.liq_types.specs.declared.replies.Refusal.TheVariants.{NothingRedeemed, FeeEatsAll}
use Rattle.liq_types.specs.Rules.{Rule, first_refusal, outcome}
use Rattle.liq_types.proofs.Refused.{refused_before, passed}
use Rattle.liq_types.proofs.Tests.{made_by}
use Rattle.liq_rate.specs.Bound.{fee_over}
use Rattle.liq_redemption.specs.declared.cut.Cut.{Cut}
use Rattle.liq_redemption.specs.Redemption.{Visit, RedeemTerms, asking_rules, taking_rules, redeem_plan, redeeming_terms, terms_of, cuts, redeemed, first_net}

-- the net debt is told where nothing is redeemed
taking_alike : (terms : RedeemTerms) (net other amount bound : ℕ) → (terms.redeemed ≡ 0 → net ≡ other)
    → first_refusal (taking_rules terms net amount bound) ≡ first_refusal (taking_rules terms other amount bound)
taking_alike terms net other amount bound same =
    by (terms.redeemed == 0) refl (first_refusal ((nat_le terms.drawn terms.fee, FeeEatsAll terms.fee terms.drawn)
    ∷ fee_over terms.fee terms.drawn bound ∷ []))
  where
    by : (b : Bool) → (terms.redeemed == 0) ≡ b → (later : Option Refusal)
        → cond b (Some (NothingRedeemed amount net)) later ≡ cond b (Some (NothingRedeemed amount other)) later
    by true is later = let none : terms.redeemed ≡ 0 = grind (arith, nat_tests, is)
        in ap (λ n. Some (NothingRedeemed amount n)) (same none)
    by false is later = refl

-- ---- a redemption along these visits

module _ (m : Market) (wallet : Wallet) (visits : List Visit) (amount bound : ℕ) where
  abbrev taking : List Rule
  taking = taking_rules (redeeming_terms m visits amount) (first_net visits) amount bound

  pub asked_refuses : (e : Refusal) → outcome {X = Unit {0}} (first_refusal (asking_rules m wallet amount bound)) tt
      ≡ Err e → redeem_plan m wallet visits amount bound ≡ Err e
  asked_refuses e h = refused_before (asking_rules m wallet amount bound) taking tt
      (redeeming_terms m visits amount) e h

  -- where nothing asked is refused, and these cuts were made along the visits, of which the first had this net debt
  pub behind_asked : (done : Unit {0}) → outcome (first_refusal (asking_rules m wallet amount bound)) tt ≡ Ok done
      → (made : List Cut) → made ≡ cuts m.price m.troves amount visits → (net : ℕ) → (redeemed made ≡ 0
      → net ≡ first_net visits) → redeem_plan m wallet visits amount bound
      ≡ outcome (first_refusal (taking_rules (terms_of m made) net amount bound)) (terms_of m made)
  behind_asked done asked made made_is net net_is =
      let none = made_by (first_refusal (asking_rules m wallet amount bound)) tt done asked in
      ap (λ o. outcome o (redeeming_terms m visits amount)) (passed (asking_rules m wallet amount bound) taking none.0)
      ∙ ap (λ (l : List Cut). outcome (first_refusal (taking_rules (terms_of m l) (first_net visits) amount bound))
      (terms_of m l)) (sym made_is)
      ∙ ap (λ o. outcome o (terms_of m made)) (sym (taking_alike (terms_of m made) net (first_net visits) amount bound
      net_is))
