-- The ways to answer many requests, each by one more.
use Rattle.std.proofs.Common.{◌≡◌, ℕ, suc, List, [], ◌∷◌, ◌++◌, length, refl, ap, ◌∙◌}
use Rattle.std.proofs.lemmas.List.{length-map, map-append}
use Rattle.liq_types.specs.declared.requests.Request.{Request}
use Rattle.liq_types.specs.State.{State}
use Rattle.liq_rule_step.specs.Step.{run, step}
use Rattle.liq_rule_step.proofs.Runs.{run_state, run_replies}
use Rattle.liq_market.specs.Touching.{touched_after}
use Rattle.liq_batch.specs.Batch.{asking, doing, previewing, touched_after_all}
use Rattle.liq_batch.specs.Numbering.{numbered, numbered_all, numbering}
use Rattle.liq_batch.proofs.Batching.{GoesOn}

run_count : (s : State) (rs : List Request) → length (run s rs).1 ≡ length rs
run_count s [] = refl
run_count s (r ∷ rs) = ap suc (run_count (step s r).0 rs)

-- whom the requests touch with one request more
pub touched_more : (s : State) (rs : List Request) (r : Request) (before : List ℕ)
    → touched_after_all s (rs ++ r ∷ []) before ≡ touched_after (run s rs).0 r (touched_after_all s rs before)
touched_more s [] r before = refl
touched_more s (q ∷ rs) r before = touched_more (step s q).0 rs r (touched_after s q before)

pub by_doing : GoesOn doing
by_doing = record {
  nothing = λ s. refl;
  untouched = λ s before. refl;
  state = λ s rs r. run_state s rs (r ∷ []);
  replies = λ s rs r. run_replies s rs (r ∷ []);
  touched = touched_more;
  count = run_count;
}

pub by_asking : GoesOn asking
by_asking = record {
  nothing = λ s. refl;
  untouched = λ s before. refl;
  state = λ s rs r. run_state s rs (r ∷ []);
  replies = λ s rs r. run_replies s rs (r ∷ []);
  touched = λ s rs r before. refl;
  count = run_count;
}

pub by_previewing : GoesOn previewing
by_previewing = record {
  nothing = λ s. refl;
  untouched = λ s before. refl;
  state = λ s rs r. refl;
  replies = λ s rs r. map-append (λ (request : Request). (step s request).1) rs (r ∷ []);
  touched = λ s rs r before. refl;
  count = λ s rs. length-map rs (λ (request : Request). (step s request).1);
}

-- the last of some gets its number in the state to which those before it lead
pub numbered_more : (s : State) (rs : List Request) (r : Request)
    → numbered_all s (rs ++ r ∷ []) ≡ numbered_all s rs ++ numbered (run s (numbered_all s rs)).0 r ∷ []
numbered_more s [] r = refl
numbered_more s (q ∷ rs) r =
    ap (λ (more : List Request). numbered s q ∷ more) (numbered_more (step s (numbered s q)).0 rs r)

numbered_count : (s : State) (rs : List Request) → length (numbered_all s rs) ≡ length rs
numbered_count s [] = refl
numbered_count s (r ∷ rs) = ap suc (numbered_count (step s (numbered s r)).0 rs)

pub by_numbering : GoesOn numbering
by_numbering = record {
  nothing = λ s. refl;
  untouched = λ s before. refl;
  state = λ s rs r.
      ap (λ (all : List Request). (run s all).0) (numbered_more s rs r)
      ∙ run_state s (numbered_all s rs) (numbered (run s (numbered_all s rs)).0 r ∷ []);
  replies = λ s rs r.
      ap (λ (all : List Request). (run s all).1) (numbered_more s rs r)
      ∙ run_replies s (numbered_all s rs) (numbered (run s (numbered_all s rs)).0 r ∷ []);
  touched = λ s rs r before.
      ap (λ (all : List Request). touched_after_all s all before) (numbered_more s rs r)
      ∙ touched_more s (numbered_all s rs) (numbered (run s (numbered_all s rs)).0 r) before;
  count = λ s rs. run_count s (numbered_all s rs) ∙ numbered_count s rs;
}
