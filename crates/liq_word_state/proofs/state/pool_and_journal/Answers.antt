use Rattle.std.proofs.Common.{◌≡◌, ◌++◌, ◌∷◌, [], ℕ, List, ap, ap₂, ◌∙◌, append_assoc}
use Rattle.std.specs.Prelude.{codes, decimal}
use Rattle.std.proofs.lemmas.Result.{IfOk-weaker}
use Rattle.liq_types.specs.declared.requests.Query.TheVariants.{Pools, System}
use Rattle.liq_types.specs.declared.requests.Request.TheVariants.{Ask}
use Rattle.liq_stability.specs.declared.words.PoolWords.{PoolWords}
use Rattle.liq_stability.specs.Words.{pool_words}
use Rattle.liq_rule_step.specs.Step.{step}
use Rattle.liq_text.specs.Replies.{reply_line}
use Rattle.liq_word_state.specs.State.{standing}
use Rattle.liq_word_state.proofs.state.pool_and_journal.Goals as goal

-- the lines, behind what stands in front of them
abbrev behind : List ℕ → PoolWords → ℕ → ℕ → List ℕ
behind front words generation records =
    front ++ codes "pool " ++ decimal words.p
    ++ codes " " ++ decimal words.scale
    ++ codes " " ++ decimal words.epoch
    ++ codes " " ++ decimal words.sum
    ++ codes "\njournal " ++ decimal generation
    ++ codes " " ++ decimal records
    ++ 10 ∷ []

abbrev lines_of : PoolWords → ℕ → ℕ → List ℕ
lines_of = behind []

lined : (words now : PoolWords) (generation g records r : ℕ) (line text : List ℕ) → line ≡ text
    → text ≡ lines_of words generation records → words ≡ now → generation ≡ g → records ≡ r → line ≡ lines_of now g r
lined words now generation g records r line text line_is text_is words_are generation_is records_are =
    line_is ∙ text_is ∙ ap (λ (w : PoolWords). lines_of w generation records) words_are
    ∙ ap₂ (lines_of now) generation_is records_are

laid : (front line : List ℕ) (words : PoolWords) (generation records : ℕ) → line ≡ lines_of words generation records
    → front ++ line ≡ behind front words generation records
laid front line words generation records is = ap (λ (t : List ℕ). front ++ t) is ∙ simp append_assoc

pub returns : goal.returns
unfolding standing
returns c =
    IfOk-weaker c.format.result _ _ (λ line text s stands.
    laid (reply_line (step s (Ask System)).1 ++ reply_line (step s (Ask Pools)).1) _ (pool_words s) s.generation
    s.records
    (lined _ _ _ _ _ _ _ _ text (simp append_assoc) (c.pool_words-words.ensures s stands)
    (c.generation-generation.ensures ∙ ap (λ i. i.generation) stands.image) (c.records-records.ensures
    ∙ stands.records)))
    c.format.ensures.ok
