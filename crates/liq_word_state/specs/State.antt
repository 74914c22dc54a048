-- What the word `state` tells.
use Rattle.std.specs.Prelude.{ℕ, List, [], ◌∷◌, ◌++◌, codes, decimal}
use Rattle.liq_types.specs.declared.requests.Query.TheVariants.{Pools, System}
use Rattle.liq_types.specs.declared.requests.Request.TheVariants.{Ask}
use Rattle.liq_types.specs.State.{State}
use Rattle.liq_stability.specs.Words.{pool_words}
use Rattle.liq_rule_step.specs.Step.{step}
use Rattle.liq_text.specs.Replies.{reply_line}

-- what is told of a state: the replies to `system` and `pools`, the words of the Stability Pool,
-- and the journal's generation with its commands so far
unfoldable pub standing : State → List ℕ
standing s = let words = pool_words s in
    reply_line (step s (Ask System)).1 ++ reply_line (step s (Ask Pools)).1
    ++ codes "pool " ++ decimal words.p ++ codes " " ++ decimal words.scale ++ codes " "
    ++ decimal words.epoch ++ codes " " ++ decimal words.sum ++ codes "\njournal "
    ++ decimal s.generation ++ codes " " ++ decimal s.records ++ 10 ∷ []
