-- One more line, and where a run has come then.
use Rattle.std.proofs.Common.{◌≡◌, ℕ, List, [], ◌∷◌, ◌++◌, refl, ap, sym, ◌∙◌, append_assoc, append-nil}
use Rattle.std.specs.List.{AllZip}
use Rattle.liq_types.specs.declared.requests.Query.{Query}
use Rattle.liq_types.specs.declared.requests.Request.{Request}
use Rattle.liq_types.specs.declared.requests.Request.TheVariants.{Ask}
use Rattle.liq_types.specs.State.{State}
use Rattle.liq_rule_step.specs.Step.{accepted, step, run}
use Rattle.liq_rule_step.proofs.Runs.{run_accepted}
use Rattle.liq_word_exit.specs.Output.{lines}
use Rattle.liq_word_exit.specs.Requests.{IsRequest}
use Rattle.liq_text.specs.Replies.{reply_line}

pub after-more : (s : State) (rs : List Request) (r : Request) → (run s (rs ++ r ∷ [])).0 ≡ (step (run s rs).0 r).0
after-more s [] r = refl
after-more s (q ∷ rs) r = after-more (step s q).0 rs r

pub lines-more : (s : State) (rs : List Request) (r : Request)
    → lines s (rs ++ r ∷ []) ≡ lines s rs ++ reply_line (step (run s rs).0 r).1
lines-more s [] r = append-nil (reply_line (step s r).1)
lines-more s (q ∷ rs) r =
    ap (λ (t : List ℕ). reply_line (step s q).1 ++ t) (lines-more (step s q).0 rs r)
    ∙ sym (append_assoc (reply_line (step s q).1) (lines (step s q).0 rs)
    (reply_line (step (run (step s q).0 rs).0 r).1))

pub requests-more : (front : List (List ℕ)) (rs : List Request) (line : List ℕ) (r : Request)
    → AllZip IsRequest front rs → IsRequest line r → AllZip IsRequest (front ++ line ∷ []) (rs ++ r ∷ [])
requests-more [] [] line r h k = (k, tt)
requests-more [] (q ∷ rs) line r h k = absurd h
requests-more (l ∷ front) [] line r h k = absurd h
requests-more (l ∷ front) (q ∷ rs) line r h k = (h.0, requests-more front rs line r h.1 k)

-- a query more is no command that is accepted
pub asked-more : (s : State) (rs : List Request) (query : Query) → accepted s (rs ++ Ask query ∷ []) ≡ accepted s rs
asked-more s rs query = run_accepted s rs (Ask query ∷ []) ∙ append-nil (accepted s rs)
