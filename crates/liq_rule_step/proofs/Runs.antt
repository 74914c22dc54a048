-- Whole runs.
use Rattle.std.proofs.Common.{◌≡◌, ℕ, Bool, true, false, cond, List, [], ◌∷◌, ◌++◌, refl, ap, sym, ◌∙◌, subst, append_assoc}
use Rattle.std.specs.Prelude.{map}
use Rattle.liq_types.specs.declared.replies.Done.{Done}
use Rattle.liq_types.specs.declared.replies.Refusal.{Refusal}
use Rattle.liq_types.specs.declared.replies.Reply.{Reply}
use Rattle.liq_types.specs.declared.replies.Reply.TheVariants.{Said, No}
use Rattle.liq_types.specs.declared.requests.Call.{Call}
use Rattle.liq_types.specs.declared.requests.Call.TheVariants.{Open, Adjust, GainToTrove, Redeem}
use Rattle.liq_types.specs.declared.requests.Command.{Command}
use Rattle.liq_types.specs.declared.requests.Request.{Request}
use Rattle.liq_types.specs.declared.requests.Request.TheVariants.{Do, Ask}
use Rattle.liq_types.specs.State.{State}
use Rattle.liq_rule_step.specs.Step.{Ruling, Refused, Repeated, Allowed, ruling, after_ruling, step, run, accepted, newly_accepted, is_allowed}
use Rattle.liq_rule_step.specs.Verbs.{unhinted, unhinted_call}

-- ---- what changes nothing

ruled_refused : (s : State) (c : Command) (r : Ruling) (refusal : Refusal) → (after_ruling s c r).1 ≡ No refusal
    → (after_ruling s c r).0 ≡ s
ruled_refused s c (Refused why) refusal h = refl
ruled_refused s c (Repeated kept) refusal h = refl
ruled_refused s c Allowed refusal h = cc

pub refused_stays : (s : State) (request : Request) (refusal : Refusal) → (step s request).1 ≡ No refusal
    → (step s request).0 ≡ s
refused_stays s (Do c) refusal h = ruled_refused s c (ruling s c) refusal h
refused_stays s (Ask query) refusal h = refl

pub repeated_stays : (s : State) (c : Command) (kept : Done) → ruling s c ≡ Repeated kept
    → step s (Do c) ≡ (s, Said kept)
repeated_stays s c kept h = ap (after_ruling s c) h

-- ---- replays

-- the commands of a request that are accepted lead where it leads, and are accepted again
unaccepted : (s : State) (c : Command) (r : Ruling) → is_allowed r ≡ false → (after_ruling s c r).0 ≡ s
unaccepted s c (Refused why) h = refl
unaccepted s c (Repeated kept) h = refl
unaccepted s c Allowed h = cc

-- a list of commands that are all accepted, and where they lead
pub record Replays (s : State) (commands : List Command) (end : State) : Type 0 where
  pub state : (run s (map Do commands)).0 ≡ end
  pub again : accepted s (map Do commands) ≡ commands

replays_nothing : (s end : State) → s ≡ end → Replays s [] end
replays_nothing s end h = record { state = h; again = refl }

newly : (s : State) (c : Command) (rest : List Command) (end : State) (b : Bool) → is_allowed (ruling s c) ≡ b
    → Replays (step s (Do c)).0 rest end → Replays s (cond b (c ∷ []) [] ++ rest) end
newly s c rest end true is h =
    record {
      state = h.state;
      again = ap (λ b. cond b (c ∷ []) [] ++ accepted (step s (Do c)).0 (map Do rest)) is
          ∙ ap (λ (cs : List Command). c ∷ cs) h.again;
    }
newly s c rest end false is h = subst (λ now. Replays now rest end) (unaccepted s c (ruling s c) is) h

pub replays : (s : State) (requests : List Request) → Replays s (accepted s requests) (run s requests).0
replays s [] = replays_nothing s s refl
replays s (Do c ∷ requests) =
    newly s c (accepted (step s (Do c)).0 requests) (run s (Do c ∷ requests)).0 (is_allowed (ruling s c)) refl
    (replays (step s (Do c)).0 requests)
replays s (Ask query ∷ requests) = replays s requests

-- ---- runs in parts

pub run_state : (s : State) (first more : List Request) → (run s (first ++ more)).0 ≡ (run (run s first).0 more).0
run_state s [] more = refl
run_state s (request ∷ first) more = run_state (step s request).0 first more

pub run_replies : (s : State) (first more : List Request) → (run s (first ++ more)).1 ≡ (run s first).1
    ++ (run (run s first).0 more).1
run_replies s [] more = refl
run_replies s (request ∷ first) more = ap (λ (replies : List Reply). (step s request).1 ∷ replies)
    (run_replies (step s request).0 first more)

pub run_accepted : (s : State) (first more : List Request) → accepted s (first ++ more) ≡ accepted s first
    ++ accepted (run s first).0 more
run_accepted s [] more = refl
run_accepted s (request ∷ first) more =
    ap (λ (cs : List Command). newly_accepted s request ++ cs) (run_accepted (step s request).0 first more)
    ∙ sym (append_assoc (newly_accepted s request) (accepted (step s request).0 first)
    (accepted (run (step s request).0 first).0 more))

-- ---- hints

hint_of_call : (s : State) (client number : ℕ) (call : Call)
    → step s (Do (record { client = client; number = number; call = call }))
    ≡ step s (Do (record { client = client; number = number; call = unhinted_call call }))
hint_of_call s client number (Open account coll borrow bound hint) = refl
hint_of_call s client number (Adjust account coll_in coll_out borrow repay bound hint) = refl
hint_of_call s client number (GainToTrove account hint) = refl
hint_of_call s client number (Redeem account lusd bound hint) = refl
hint_of_call s client number _ = refl

pub hints_idle : (s : State) (c : Command) → step s (Do c) ≡ step s (Do (unhinted c))
hints_idle s c = hint_of_call s c.client c.number c.call
