-- The generated load, carried out, and the line that tells where it leads.
use Rattle.std.specs.Prelude.{ℕ, Bool, true, false, List, [], ◌∷◌, ◌++◌, length, count_by, codes, decimal}
use Rattle.liq_types.specs.declared.replies.Reply.{Reply}
use Rattle.liq_types.specs.declared.replies.Reply.TheVariants.{No}
use Rattle.liq_types.specs.declared.requests.Call.{Call}
use Rattle.liq_types.specs.declared.requests.Request.{Request}
use Rattle.liq_types.specs.declared.requests.Request.TheVariants.{Do}
use Rattle.liq_types.specs.State.{State, opening}
use Rattle.liq_types.specs.Totals.{total_debt}
use Rattle.liq_stability.specs.Words.{pool_words}
use Rattle.liq_audit.specs.Auditable.{offsets_in}
use Rattle.liq_rule_step.specs.Events.{events}
use Rattle.liq_rule_step.specs.Step.{step, run, accepted, next_number}

-- the calls as client 1's commands from a state on: each is its next one when its turn comes
unfoldable pub load : State → List Call → List Request
load s [] = []
load s (call ∷ calls) =
    let next = Do (record { client = 1; number = next_number s 1; call = call })
    in next ∷ load (step s next).0 calls

abbrev pub is_refusal : Reply → Bool
is_refusal (No refusal) = true
is_refusal _ = false

-- the line of requests from the opening: their counts, the Stability Pool's words, and the debt of
-- all troves
unfoldable pub summary : List Request → List ℕ
summary requests = let s = (run opening requests).0 in let words = pool_words s in
    codes "accepted " ++ decimal (length (accepted opening requests))
    ++ codes " refused " ++ decimal (count_by is_refusal (run opening requests).1)
    ++ codes " offsets " ++ decimal (offsets_in (events opening (accepted opening requests)))
    ++ codes " epochs " ++ decimal words.epoch ++ codes " scale " ++ decimal words.scale
    ++ codes " p " ++ decimal words.p ++ codes " total " ++ decimal words.total
    ++ codes " coll " ++ decimal words.coll ++ codes " supply " ++ decimal (total_debt s) ++ 10 ∷ []
