-- The commands behind others, once more are accepted.
use Rattle.std.proofs.Common.{◌≡◌, ℕ, List, [], ◌∷◌, ◌++◌, map, Bool, false, if◌then◌else◌, refl, sym, ◌∙◌, ap, append_assoc}
use Rattle.std.specs.Prelude.{All}
use Rattle.std.proofs.lemmas.List.{append-nil}
use Rattle.std.proofs.lemmas.List.Elements.{All-head, All-tail}
use Rattle.std.proofs.lemmas.List.Sums.{fold-append}
use Rattle.liq_types.specs.declared.events.PoolEvent.{PoolEvent}
use Rattle.liq_types.specs.declared.requests.Call.{Call}
use Rattle.liq_types.specs.declared.requests.Call.TheVariants.{Rotate, Open, Adjust, GainToTrove, Redeem}
use Rattle.liq_types.specs.declared.requests.Command.{Command}
use Rattle.liq_types.specs.declared.requests.Request.{Request}
use Rattle.liq_types.specs.State.{State}
use Rattle.liq_types.specs.Verbs.{is_rotate}
use Rattle.liq_rule_step.specs.Events.{events}
use Rattle.liq_rule_step.specs.Rules.{call_events}
use Rattle.liq_rule_step.specs.Step.{accepted, after, run}
use Rattle.liq_rule_step.proofs.Runs.{run_accepted}
use Rattle.liq_wire.specs.Fields.{heard}
use Rattle.liq_disk_pair.specs.Commands.{held_after, kept_behind, read_back}
use Rattle.liq_disk_pair.specs.Pair.{commands_on}
use Rattle.liq_disk_pair.specs.Past.{held_at_end}
use Rattle.liq_disk_pair.proofs.Hints.{heard_after}
use Rattle.liq_disk_pair.proofs.KeptWith.{behind_rotation}

-- ---- no hint changes what is done to the Stability Pool

heard_events : (s : State) (call : Call) → call_events s (heard call) ≡ call_events s call
heard_events s (Open account coll borrow bound hint) = refl
heard_events s (Adjust account coll_in coll_out borrow repay bound hint) = refl
heard_events s (GainToTrove account hint) = refl
heard_events s (Redeem account lusd bound hint) = refl
heard_events s _ = refl

pub read_events : (s : State) (cs : List Command) → events s (map read_back cs) ≡ events s cs
read_events s [] = refl
read_events s (c ∷ cs) =
    ap (λ (es : List PoolEvent). es ++ events (after s (read_back c)) (map read_back cs)) (heard_events s c.call)
    ∙ ap (λ (t : State). call_events s c.call ++ events t (map read_back cs)) (heard_after s c)
    ∙ ap (λ (es : List PoolEvent). call_events s c.call ++ es) (read_events (after s c) cs)

-- ---- those that stand

pub behind_more : (held cs more : List Command) → kept_behind held (cs ++ more) ≡ kept_behind (kept_behind held cs) more
behind_more held cs more = fold-append held_after held cs more

pub behind_none : (held cs : List Command) → All (λ (c : Command). is_rotate c.call ≡ false) cs
    → kept_behind held cs ≡ held ++ map read_back cs
behind_none held [] none = sym (append-nil held)
behind_none held (c ∷ cs) none =
    let here = All-head (λ (d : Command). is_rotate d.call ≡ false) c cs none in
    let others = All-tail (λ (d : Command). is_rotate d.call ≡ false) c cs none in
    ap (λ (b : Bool). kept_behind (if b then [] else held ++ read_back c ∷ []) cs) here
    ∙ behind_none (held ++ read_back c ∷ []) cs others
    ∙ append_assoc held (read_back c ∷ []) (map read_back cs)

pub behind_rotated : (held before behind : List Command) (c : Command) → c.call ≡ Rotate
    → kept_behind held (before ++ c ∷ behind) ≡ kept_behind [] behind
behind_rotated held before behind c rotates =
    behind_more held before (c ∷ behind)
    ∙ ap (λ (cs : List Command). kept_behind cs behind) (behind_rotation (kept_behind held before) c rotates)

-- ---- behind a run

pub held_longer : (l r : List ℕ) (start : State) (requests more : List Request)
    → held_at_end l r start (requests ++ more)
    ≡ kept_behind (held_at_end l r start requests) (accepted (run start requests).0 more)
held_longer l r start requests more =
    ap (kept_behind (commands_on l r)) (run_accepted start requests more)
    ∙ behind_more (commands_on l r) (accepted start requests) (accepted (run start requests).0 more)
