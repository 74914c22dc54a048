-- Replays: one more command, and what a whole one is.
use Rattle.std.proofs.Common.{◌≡◌, ℕ, ◌+◌, ◌<◌, ◌≤◌, List, [], ◌∷◌, ◌++◌, length, get_or, take, drop, Ok, Err, inl, refl, ap, sym, subst, ◌∙◌, append_assoc, append-nil, drop-cons, add-one, arith}
use Rattle.std.specs.Prelude.{IsErrAnd, Result, false}
use Rattle.std.proofs.lemmas.List.{take_more, take_all}
use Rattle.std.proofs.lemmas.List.Elements.{All-take}
use Rattle.liq_types.specs.declared.events.PoolEvent.{PoolEvent}
use Rattle.liq_types.specs.declared.replies.Done.{Done}
use Rattle.liq_types.specs.declared.replies.Refusal.{Refusal}
use Rattle.liq_types.specs.declared.requests.Call.{Call}
use Rattle.liq_types.specs.declared.requests.Call.TheVariants.{Open, Adjust, GainToTrove, Redeem}
use Rattle.liq_types.specs.declared.requests.Command.{Command}
use Rattle.liq_types.specs.Codes.{code_of}
use Rattle.liq_types.specs.Image.{IsLimit}
use Rattle.liq_types.specs.State.{State, opening_with}
use Rattle.liq_rule_step.specs.Rules.{done_of}
use Rattle.liq_rule_step.specs.Step.{Allowed, Refused, Repeated, ruling, after}
use Rattle.liq_rule_step.specs.Verbs.{unhinted_call}
use Rattle.liq_core.specs.Core.{Core, StandsFor}
use Rattle.liq_journal.specs.declared.damage.Damage.{Damage}
use Rattle.liq_journal.specs.declared.damage.What.TheVariants as what
use Rattle.liq_types.specs.Verbs.{is_rotate}
use Rattle.liq_disk_pair.specs.Replay.{replay, replayed}
use Rattle.liq_disk_pair.proofs.Generations.{HaveNoRotation}
use Rattle.liq_disk_pair.proofs.Replaying.{first_accepted, replay_more, replay_none, replay_then}
use Rattle.liq_disk_replay.specs.declared.fault.ReplayFault.{ReplayFault}
use Rattle.liq_disk_replay.specs.declared.fault.ReplayFault.TheVariants.{Damaged, NoMemory}
use Rattle.liq_disk_replay.specs.Making.{IsUnmade, Replays}
use Rattle.liq_disk_replay.specs.Retold.{noted_of, noted, IsRetold, HasCome}
use Rattle.liq_disk_replay.proofs.Runs.{replay_few}

-- ---- a command that is not accepted

pub damage_repeated : (s : State) (c : Command) (index : ℕ) (kept : Done) → ruling s c ≡ Repeated kept
    → IsUnmade s c index (Damaged (record { index = index; what = what.Replay 0 }))
damage_repeated s c index kept is rest = ap (λ r. replayed index r rest) is

pub damage_refused : (s : State) (c : Command) (index : ℕ) (refusal : Refusal) (code : ℕ) → code ≡ code_of refusal
    → ruling s c ≡ Refused refusal → IsUnmade s c index (Damaged (record { index = index; what = what.Replay code }))
damage_refused s c index refusal code coded is rest =
    ap (λ r. replayed index r rest) is ∙ ap (λ n. Err (record { index = index; what = what.Replay n })) (sym coded)

-- no memory, which is handed on
pub handed_unmade : (s : State) (c : Command) (index : ℕ) (core : Core) (end : Result (Unit {0}) ReplayFault)
    → IsErrAnd end (λ e. e ≡ NoMemory) → ruling s c ≡ Allowed → StandsFor core s → Replays s c index core end
handed_unmade s c index core (Ok done) handed allowed stands = absurd handed
handed_unmade s c index core (Err why) handed allowed stands =
    (subst (λ (w : ReplayFault). IsUnmade s c index w) (sym handed) (inl allowed), stands)

-- a fault that is handed on
pub handed_fault : {T : Type 0} (end : Result T ReplayFault) (why : ReplayFault) (damage : Damage)
    → IsErrAnd end (λ e. e ≡ why) → end ≡ Err (Damaged damage) → why ≡ Damaged damage
handed_fault (Ok x) why damage handed is = absurd handed
handed_fault (Err e) why damage handed is = let same : e ≡ Damaged damage = cc is in sym handed ∙ same

-- the reply to a call without its hint
pub done_same : (s : State) (call : Call) → done_of s (unhinted_call call) ≡ done_of s call
done_same s (Open account coll borrow bound hint) = refl
done_same s (Adjust account coll_in coll_out borrow repay bound hint) = refl
done_same s (GainToTrove account hint) = refl
done_same s (Redeem account lusd bound hint) = refl
done_same s _ = refl

module _ {N : Type 0} (adds : ℕ → Done → List PoolEvent → List N) where
  -- ---- one command more

  pub noted_then : (index : ℕ) (s end : State) (cs : List Command) (c : Command) → replay index s cs ≡ Ok end
      → noted adds s (cs ++ c ∷ []) ≡ noted adds s cs ++ noted_of adds end c.call
  noted_then index s end [] c came =
      let same : Ok s ≡ Ok end = sym (replay_none index s) ∙ came in
      append-nil (noted_of adds s c.call) ∙ ap (λ (t : State). noted_of adds t c.call) (ok_is same)
    where
      ok_is : {x y : State} → (let r : Result State Damage = Ok x in r ≡ Ok y) → x ≡ y
      ok_is h = cc
  noted_then index s end (first ∷ cs) c came =
      let a = first_accepted index s end first cs came in
      ap (λ (ns : List N). noted_of adds s first.call ++ ns) (noted_then (index + 1) (after s first) end cs c a.rest)
      ∙ sym (append_assoc (noted_of adds s first.call) (noted adds (after s first) cs) (noted_of adds end c.call))

  -- so many of the commands are made
  pub record IsUnderWay (limit : ℕ) (commands : List Command) (i : ℕ) (core : Core) (notes : List N) : Type 0 where
    pub retold : IsRetold adds limit (take i commands) core notes
    pub left : replay 1 (opening_with limit) commands ≡ replay (i + 1) retold.state (drop i commands)

  pub begun : (limit : ℕ) (commands : List Command) (core : Core) (notes : List N) → StandsFor core (opening_with limit)
      → notes ≡ [] → IsUnderWay limit commands 0 core notes
  begun limit commands core notes stands fresh = record {
    retold = record {
      state = opening_with limit;
      replays = replay_none 1 (opening_with limit);
      stands = stands;
      notes_are = fresh;
    };
    left = refl;
  }

  module _ (limit : ℕ) (commands : List Command) (i : ℕ) (core : Core) (notes : List N)
      (h : IsUnderWay limit commands i core notes) (d : Command) where
    s : State
    s = h.retold.state

    here : Command
    here = get_or commands i d

    left_here : i < length commands → replay 1 (opening_with limit) commands ≡ replayed (i + 1) (ruling s here)
        (replay (i + 1 + 1) (after s here) (drop (i + 1) commands))
    unfolding s here
    left_here lt =
        h.left
        ∙ ap (λ (cs : List Command). replay (i + 1) h.retold.state cs) (rw (add-one, drop-cons commands i d lt) refl)
        ∙ replay_more (i + 1) h.retold.state (get_or commands i d) (drop (i + 1) commands)

    pub next_made : i < length commands → (core_now : Core) (now : List N)
        → Replays h.retold.state (get_or commands i d) (i + 1) core_now (Ok tt)
        → now ≡ notes ++ noted_of adds h.retold.state (get_or commands i d).call
        → IsUnderWay limit commands (i + 1) core_now now
    unfolding s here
    next_made lt core_now now k noted_now = record {
      retold = record {
        state = after h.retold.state (get_or commands i d);
        replays =
            ap (λ (cs : List Command). replay 1 (opening_with limit) cs) (take_more commands i d lt)
            ∙ replay_then 1 (opening_with limit) h.retold.state (take i commands) (get_or commands i d)
            h.retold.replays k.0;
        stands = k.1;
        notes_are =
            noted_now
            ∙ ap (λ (ns : List N). ns ++ noted_of adds h.retold.state (get_or commands i d).call) h.retold.notes_are
            ∙ sym (noted_then 1 (opening_with limit) h.retold.state (take i commands) (get_or commands i d)
            h.retold.replays)
            ∙ ap (λ (cs : List Command). noted adds (opening_with limit) cs) (sym (take_more commands i d lt));
      };
      left = left_here lt ∙ ap (λ r. replayed (i + 1) r (replay (i + 1 + 1) (after h.retold.state (get_or commands i d))
          (drop (i + 1) commands))) k.0;
    }

    pub next_stops : i < length commands → (damage : Damage) (why : ReplayFault)
        → IsUnmade h.retold.state (get_or commands i d) (i + 1) why → why ≡ Damaged damage
        → replay 1 (opening_with limit) commands ≡ Err damage
    unfolding s here
    next_stops lt damage why stop is =
        let here_stops = subst (λ (w : ReplayFault). IsUnmade h.retold.state (get_or commands i d) (i + 1) w) is stop in
        left_here lt ∙ here_stops (replay (i + 1 + 1) (after h.retold.state (get_or commands i d))
        (drop (i + 1) commands))

  module _ (limit : ℕ) (commands : List Command) (i : ℕ) (core : Core) (notes : List N)
      (h : IsUnderWay limit commands i core notes) where
    -- what an onlooker may rest on
    pub has_come : IsLimit limit → HaveNoRotation commands → HasCome adds core notes
    has_come known none = record {
      limit = limit;
      known = known;
      made = take i commands;
      few = let few = replay_few h.retold.state (take i commands) 1 (opening_with limit)
          (All-take (λ (c : Command). is_rotate c.call ≡ false) i commands none) (omega arith) h.retold.replays
          in omega (arith, few);
      retold = h.retold;
    }

    pub all_made : length commands ≤ i → IsRetold adds limit commands core notes
    all_made le = subst (λ (cs : List Command). IsRetold adds limit cs core notes) (take_all i commands le) h.retold
