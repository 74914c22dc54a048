-- How many steps the place of a trove takes whose command has no hint words of its own.
use Rattle.std.proofs.Common.{◌≡◌, ℕ, ◌+◌, ◌≤◌, List, Option, Some, None, ap, refl, subst, ◌∙◌, arith}
use Rattle.liq_types.specs.Ranked.{Ranked}
use Rattle.liq_types.specs.declared.hints.Hint.{Hint}
use Rattle.liq_types.specs.declared.hints.HintWords.{HintWords}
use Rattle.liq_types.specs.declared.requests.Call.{Call}
use Rattle.liq_types.specs.declared.requests.Call.TheVariants.{Open, Adjust, GainToTrove, Redeem}
use Rattle.liq_types.specs.declared.requests.Command.{Command}
use Rattle.liq_trove_moves.specs.Steps.{TakesFew}
use Rattle.liq_core.specs.Plan.{Plan}
use Rattle.liq_core.specs.Steps.{last_put, used_hint, words_of}
use Rattle.liq_rule_step.specs.Verbs.{no_hint, unhinted, unhinted_call}
use Rattle.liq_core_hinted.specs.Hints.{IsExact, hint_or}

by_exact : (list : List Ranked) (o : Option Ranked) (exact : Option Hint) (words : HintWords) (given : Hint)
    (old new : ℕ) → IsExact list o exact → TakesFew list (hint_or exact words given) o old new → new ≤ old + 4
by_exact list None exact words given old new tight took = omega (arith, took)
by_exact list (Some e) (Some hint) words given old new tight took = took tight
by_exact list (Some e) None words given old new tight took = absurd tight

no_words : (call : Call) → words_of (unhinted_call call) ≡ no_hint
no_words (Open account coll borrow bound hint) = refl
no_words (Adjust account coll_in coll_out borrow repay bound hint) = refl
no_words (GainToTrove account hint) = refl
no_words (Redeem account lusd bound hint) = refl
no_words _ = refl

-- whatever words are added, the guide's own hint is used
pub few_taken : (list made : List Ranked) (plan : Plan) (c : Command) (exact : Option Hint) (words : HintWords)
    (given : Hint) (old new : ℕ)
    → plan.command ≡ unhinted c → made ≡ list → IsExact list (last_put plan.changes) exact
    → TakesFew made (used_hint (words_of plan.command.call) (hint_or exact words given)) (last_put plan.changes) old new
    → new ≤ old + 4
few_taken list made plan c exact words given old new own is tight took =
    let e = last_put plan.changes in
    let none = ap (λ (k : Command). words_of k.call) own ∙ no_words c.call in
    by_exact list e exact words given old new tight
    (subst (λ (l : List Ranked). TakesFew l (hint_or exact words given) e old new) is
    (subst (λ (w : HintWords). TakesFew made (used_hint w (hint_or exact words given)) e old new) none took))
