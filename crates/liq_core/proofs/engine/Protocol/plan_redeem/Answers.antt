use Rattle.std.proofs.Common.{◌≡◌, ℕ, List, [], ◌∷◌, Some, None, Option, refl, ap, sym, ◌∙◌, subst}
use Rattle.std.specs.Prelude.{map, Ok, Err}
use Rattle.std.specs.List.{AllByRecursion}
use Rattle.liq_types.specs.declared.figures.Market.{Market}
use Rattle.liq_types.specs.declared.figures.Wallet.{Wallet}
use Rattle.liq_types.specs.declared.replies.Refusal.{Refusal}
use Rattle.liq_types.specs.declared.requests.Call.TheVariants.{Redeem}
use Rattle.liq_types.specs.Rules.{first_refusal}
use Rattle.liq_types.specs.Soundness.{IsSoundImage}
use Rattle.liq_types.specs.State.{wallet_of}
use Rattle.liq_types.specs.Totals.{market_of}
use Rattle.liq_redemption.specs.declared.cut.Cut.{Cut}
use Rattle.liq_redemption.specs.Answers.{Answers}
use Rattle.liq_redemption.specs.Redemption.{RedeemTerms, Visit, asking_rules, first_net, redeem_plan, redeem_rules, redeeming_terms, taking_rules, visited}
use Rattle.liq_core.specs.declared.kinds.TheConstants.{REDEEM}
use Rattle.liq_core.specs.Core.{Core, state_of}
use Rattle.liq_rule_step.specs.Redemption.{cut_told}
use Rattle.liq_rule_sound.specs.SoundState.{CutIsCovered}
use Rattle.liq_rule_step.specs.Step.{rules}
use Rattle.liq_core.proofs.Cutting.{redeem_told}
use Rattle.liq_core.proofs.Reading.{allowed_so, refused_so}
use Rattle.liq_core.proofs.SoundCores.{core_finds}
use Rattle.liq_rule_step.proofs.Ruled.{some_first}
use Rattle.liq_rule_sound.proofs.SoundRedeem.{cuts_covered}
use Rattle.liq_core.proofs.engine.Protocol.plan_redeem.Goals as goal

pub cut_changes-requires : goal.cut_changes-requires
cut_changes-requires c =
    let core = c.args.self.now in
    let s = state_of core in
    let sound = subst (λ (view : Core). IsSoundImage view.image view.records) c.self.view_is c.self.invariant.image in
    let a = allowed_so (rules s (Redeem c.args.account c.args.lusd c.args.bound c.args.words))
    (redeeming_terms (market_of s) (visited s) c.args.lusd) c.in-Ok.taken c.in-Ok.ensures in
    let made = c.as_slice.ensures ∙ ap (λ (t : RedeemTerms). t.cuts) a.1 in
    subst (λ (cuts : List Cut). AllByRecursion (CutIsCovered s) cuts) (sym made) (cuts_covered s (core_finds core sound)
    c.args.lusd)

pub returns : goal.returns
returns c =
    let core = c.args.self.now in
    let s = state_of core in
    let sound = subst (λ (view : Core). IsSoundImage view.image view.records) c.self.view_is c.self.invariant.image in
    let a = allowed_so (rules s (Redeem c.args.account c.args.lusd c.args.bound c.args.words))
    (redeeming_terms (market_of s) (visited s) c.args.lusd) c.in-Ok.taken c.in-Ok.ensures in
    let made = c.as_slice.ensures ∙ ap (λ (t : RedeemTerms). t.cuts) a.1 in (
      a.0,
      record {
        done = ap (λ (t : RedeemTerms). record {
          kind = REDEEM;
          values = t.redeemed ∷ t.drawn ∷ t.fee ∷ t.rate.base ∷ 0 ∷ 0
              ∷ [];
        }) a.1;
        effect = (c.args.lusd, c.args.bound, refl, a.1);
        events = refl;
        changes =
            c.in-Ok-cut_changes.ensures ∙ ap (λ (cuts : List Cut). map (cut_told s) cuts) made
            ∙ redeem_told s (core_finds core sound) c.args.account c.args.lusd;
      },
    )

-- what is tested before any trove is visited is passed where a plan is made
asked : (m : Market) (wallet : Wallet) (visits : List Visit) (lusd bound : ℕ) (plan : RedeemTerms)
    → redeem_plan m wallet visits lusd bound ≡ Ok plan → first_refusal (asking_rules m wallet lusd bound) ≡ None
asked m wallet visits lusd bound plan made = by (first_refusal (asking_rules m wallet lusd bound)) refl where
  by : (o : Option Refusal) → first_refusal (asking_rules m wallet lusd bound) ≡ o → o ≡ None
  by None is = refl
  by (Some refusal) is =
      let refused = some_first (asking_rules m wallet lusd bound) (taking_rules (redeeming_terms m visits lusd)
      (first_net visits) lusd bound) refusal is in
      let passed = (allowed_so (redeem_rules m wallet visits lusd bound) (redeeming_terms m visits lusd) plan made).0 in
      cc

pub returns-in-Err : goal.returns-in-Err
returns-in-Err c =
    let s = state_of c.args.self.now in (
      refl,
      asked (market_of s) (wallet_of s c.args.account) (visited s) c.args.lusd c.args.bound c.in-Ok.taken
          c.in-Ok.ensures,
    )

pub returns-in-Err-No : goal.returns-in-Err-No
returns-in-Err-No c =
    let s = state_of c.args.self.now in
    let refused = subst (Answers (market_of s) (wallet_of s c.args.account) (visited s) c.args.lusd c.args.bound)
    (c.in-Err-No.is ∙ ap Err c.in-Err-No.field-0-is) c.redemption.ensures in
    refused_so (redeem_rules (market_of s) (wallet_of s c.args.account) (visited s) c.args.lusd c.args.bound)
    (redeeming_terms (market_of s) (visited s) c.args.lusd) c.in-Err-No.refusal refused
    ∙ ap Some (sym c.in-Err-No.refusal-is)

pub returns-in-Err-NoMemory : goal.returns-in-Err-NoMemory
returns-in-Err-NoMemory c =
    let s = state_of c.args.self.now in
    let passed = subst (Answers (market_of s) (wallet_of s c.args.account) (visited s) c.args.lusd c.args.bound)
    (c.in-Err-NoMemory.is ∙ ap Err c.in-Err-NoMemory.field-0-is) c.redemption.ensures in
    (refl, passed)
