-- Serving says the same of each state for which the store's protocol stands.
use Rattle.std.proofs.Common.{ℕ, inl, inr, ⊎_elim, List, [], ◌∷◌, Option, Some, None, ◌∙◌, ◌≡◌, sym, ap, subst, refl}
use Rattle.liq_types.specs.declared.requests.Command.{Command}
use Rattle.liq_types.specs.declared.requests.Request.{Request}
use Rattle.liq_types.specs.declared.requests.Request.TheVariants.{Do, Ask}
use Rattle.liq_types.specs.State.{State}
use Rattle.liq_outside.specs.At.{DiskAt}
use Rattle.liq_types.specs.declared.entries.Entry.{Entry}
use Rattle.liq_rule_step.specs.History.{IsLegal, requests_of}
use Rattle.liq_rule_step.specs.Memory.{IsAccepted}
use Rattle.liq_rule_step.proofs.AlikeReads.{Alike}
use Rattle.liq_rule_step.proofs.AlikeReplies.{accepted_alike, after_alike, replies_alike, ruling_alike, run_alike, step_alike}
use Rattle.liq_disk_pair.specs.Commands.{kept_behind}
use Rattle.liq_disk_pair.specs.Pair.{commands_on}
use Rattle.liq_disk_pair.specs.Past.{AtCommand, Fault, KeptAtEnd, LeavesPast, NoFault}
use Rattle.liq_disk_pair.proofs.Alike.{kept_alike, settled_alike}
use Rattle.liq_store.proofs.Past.{past_alike}
use Rattle.liq_sessions.specs.declared.script.Script.{Script}
use Rattle.liq_rule_step.specs.Step.{newly_accepted, step}
use Rattle.liq_store.specs.Keeping.{IsKeptAround}
use Rattle.liq_store.specs.Leaving.{RestAtEnd}
use Rattle.liq_book.specs.Moments.{AreKeptAlong, tried}
use Rattle.std.proofs.lemmas.List.{append-nil}
use Rattle.liq_book.specs.declared.items.Halt.{Halt}
use Rattle.liq_book.specs.Booked.{IsKeptByStep}
use Rattle.liq_book.specs.Past.{IsFaultOf, LeavesFrom, since_origin}
use Rattle.liq_word_serve.specs.Ends.{halt_of}
use Rattle.liq_word_serve.specs.declared.served.End.{End}
use Rattle.liq_word_serve.specs.declared.served.End.TheVariants as end
use Rattle.liq_word_serve.specs.declared.served.Served.{Served}
use Rattle.liq_word_serve.specs.Serves.{AreSettled, LeavesDisks, Serves}

legal_alike : {s t : State} → Alike s t → (entries : List Entry) → IsLegal s entries → IsLegal t entries
legal_alike alike entries legal = record {
  replies = legal.replies ∙ replies_alike (requests_of entries) alike;
  indices = legal.indices;
}

request_alike : {s t : State} → Alike s t → (request : Request) → IsAccepted s request → IsAccepted t request
request_alike alike (Do c) is = sym (ruling_alike alike c) ∙ is
request_alike alike (Ask query) is = is

around_alike : {s t : State} → Alike s t → (request : Request) (l r : List ℕ) → IsKeptByStep s request l r
    → IsKeptByStep t request l r
around_alike alike request l r kept = ⊎_elim (λ before. inl (kept_alike alike l r before))
    (λ after. inr (kept_alike (step_alike alike request) l r after)) kept

newly_alike : {s t : State} → Alike s t → (request : Request) → newly_accepted s request ≡ newly_accepted t request
newly_alike {s} {t} alike request =
    sym (append-nil (newly_accepted s request)) ∙ accepted_alike (request ∷ []) alike
    ∙ append-nil (newly_accepted t request)

kept_around_alike : {s t : State} → Alike s t → (held : List Command) (request : Request) (a b : List ℕ)
    → IsKeptAround s held request a b → IsKeptAround t held request a b
kept_around_alike alike held request a b (inl kept) =
    inl (record { kept = kept_alike alike a b kept.kept; commands = kept.commands })
kept_around_alike alike held request a b (inr kept) = inr (record {
  kept = kept_alike (step_alike alike request) a b kept.kept;
  commands = kept.commands ∙ ap (kept_behind held) (newly_alike alike request);
})

-- what is kept at the end of a run from the one state is so of a run from the other
with_from : {s t : State} → Alike s t → (l r : List ℕ) (requests : List Request) (a b : List ℕ)
    → KeptAtEnd l r s requests NoFault a b → KeptAtEnd l r t requests NoFault a b
with_from alike l r requests a b kept = record {
  kept = kept_alike (run_alike requests alike) a b kept.kept;
  commands = kept.commands ∙ ap (kept_behind (commands_on l r)) (accepted_alike requests alike);
}

halted_from : {s t : State} → Alike s t → (l r : List ℕ) (requests : List Request) (c : Command) (a b : List ℕ)
    → KeptAtEnd l r s requests (AtCommand c) a b → KeptAtEnd l r t requests (AtCommand c) a b
halted_from alike l r requests c a b (inl kept) = inl (with_from alike l r requests a b kept)
halted_from alike l r requests c a b (inr (allowed, kept)) = inr (
  sym (ruling_alike (run_alike requests alike) c) ∙ allowed,
  record {
    kept = kept_alike (after_alike (run_alike requests alike) c) a b kept.kept;
    commands = kept.commands
        ∙ ap (λ (cs : List Command). kept_behind (kept_behind (commands_on l r) cs) (c ∷ []))
        (accepted_alike requests alike);
  },
)

module _ {D : Type 0} (at : D → DiskAt) where
  settles_alike : {s t : State} → Alike s t → (left right : D) → AreSettled at s left right → AreSettled at t left right
  settles_alike alike left right settled = record {
    left_rests = settled.left_rests;
    right_rests = settled.right_rests;
    side = settled.side;
    settled = λ l r told_left told_right. settled_alike alike settled.side l r
        (settled.settled l r told_left told_right);
  }

  disks_alike : (scripts : List Script) (entries : List Entry) {s t : State} → Alike s t
      → (e : End) (left right : D)
      → LeavesDisks at scripts entries s e left right → LeavesDisks at scripts entries t e left right
  disks_alike scripts entries alike end.All left right disks = settles_alike alike left right disks
  disks_alike scripts entries alike end.NoMemory left right disks = settles_alike alike left right disks
  disks_alike scripts entries alike (end.DiskFault halt) left right disks = (
    disks.0,
    request_alike alike halt.request disks.1,
    λ l r told_left told_right.
        let around = disks.2 l r told_left told_right in (
          around_alike alike halt.request l r around.0,
          λ a b in_left in_right. around_alike alike halt.request a b
              (around.1 a b in_left in_right),
        ),
  )

  abbrev EndsBy : List ℕ → List ℕ → State → List Request → Fault → D → D → Type 0
  EndsBy l r s requests fault left right = (a b : List ℕ) → (at left).seen ≡ Some a → (at right).seen ≡ Some b
      → KeptAtEnd l r s requests fault a b

  abbrev LeavesBy : DiskAt → DiskAt → List ℕ → List ℕ → State → List Request → Option Halt → D → D → Type 0
  LeavesBy left_origin right_origin l r s requests halt left right =
      (fault : Fault) × IsFaultOf halt fault
      × LeavesPast at (since_origin left_origin right_origin) l r s requests fault left right
      × RestAtEnd at l r s requests fault left right
      × EndsBy l r s requests fault left right

  from_alike : {s t : State} → Alike s t → (left_origin right_origin : DiskAt) (requests : List Request)
      (halt : Option Halt) (left right : D)
      → LeavesFrom at left_origin right_origin s requests halt left right
      → LeavesFrom at left_origin right_origin t requests halt left right
  from_alike {s} {t} alike left_origin right_origin requests halt left right from l r told_left told_right =
      by halt (from l r told_left told_right) where
        leaves_at : (fault now : Fault) → fault ≡ now
            → LeavesPast at (since_origin left_origin right_origin) l r s requests fault left right
            → LeavesPast at (since_origin left_origin right_origin) l r t requests now left right
        leaves_at fault now is leaves =
            past_alike at (since_origin left_origin right_origin) l r s t requests now left right alike
            (subst (λ (f : Fault). LeavesPast at
            (since_origin left_origin right_origin) l r s requests f left right) is leaves)

        rests_at : (fault now : Fault) → fault ≡ now → RestAtEnd at l r s requests fault left right
            → RestAtEnd at l r s requests now left right
        rests_at fault now is rests = subst (λ (f : Fault). RestAtEnd at l r s requests f left right) is rests

        by : (h : Option Halt) → LeavesBy left_origin right_origin l r s requests h left right
            → LeavesBy left_origin right_origin l r t requests h left right
        by None from = (
          NoFault,
          refl,
          leaves_at from.0 NoFault from.1 from.2,
          rests_at from.0 NoFault from.1 from.3,
          λ a b told_a told_b. with_from alike l r requests a b
              (subst (λ (f : Fault). KeptAtEnd l r s requests f a b) from.1 (from.4 a b told_a told_b)),
        )
        by (Some halt) from =
            let c : Command = from.1.0 in (
              AtCommand c,
              (c, from.1.1, refl),
              leaves_at from.0 (AtCommand c) from.1.2 from.2,
              (λ a b in_left in_right. halted_from alike l r requests c a b
                  (rests_at from.0 (AtCommand c) from.1.2 from.3 a b in_left in_right)),
              λ a b told_a told_b. halted_from alike l r requests c a b
                  (subst (λ (f : Fault). KeptAtEnd l r s requests f a b) from.1.2 (from.4 a b told_a told_b)),
            )

  along_alike : (left right : D) (requests : List Request) (later : List (ℕ × ℕ)) (first : ℕ × ℕ)
      (held : List Command) (s t : State) → Alike s t → AreKeptAlong at left right s held requests first later
      → AreKeptAlong at left right t held requests first later
  along_alike left right [] [] first held s t alike is = is
  along_alike left right [] (next ∷ later) first held s t alike is = absurd is
  along_alike left right (request ∷ requests) [] first held s t alike is = absurd is
  along_alike left right (request ∷ requests) (next ∷ later) first held s t alike is = (
    record {
      left_time = is.0.left_time;
      right_time = is.0.right_time;
      leaves = λ a b at_a at_b. kept_around_alike alike held request a b (is.0.leaves a b at_a at_b);
    },
    along_alike left right requests later next (kept_behind held (newly_accepted t request)) (step s request).0
        (step t request).0 (step_alike alike request)
        (subst (λ (cs : List Command). AreKeptAlong at left right (step s request).0 (kept_behind held cs) requests next
        later) (newly_alike alike request) is.1),
  )

  pub serves_alike : {s t : State} → Alike s t → (left_origin right_origin : DiskAt) (scripts : List Script)
      (served : Served D)
      → Serves at s left_origin right_origin scripts served → Serves at t left_origin right_origin scripts served
  serves_alike {s} {t} alike left_origin right_origin scripts served it =
      let entries : List Entry = served.history in
      record {
        legal = legal_alike alike entries it.legal;
        fronts = it.fronts;
        whole = it.whole;
        memory = it.memory;
        sessions = it.sessions;
        disks = disks_alike scripts entries (run_alike (requests_of entries) alike) served.end served.left served.right
            it.disks;
        since = record {
          cause = it.since.cause;
          left_time = it.since.left_time;
          right_time = it.since.right_time;
          past = from_alike alike left_origin right_origin (requests_of entries) (halt_of served.end) served.left
              served.right it.since.past;
          between = λ l r told_left told_right.
              let was = it.since.between l r told_left told_right in (
                was.0,
                along_alike served.left served.right (tried (requests_of entries) (halt_of served.end)) was.0
                    (left_origin.moment, right_origin.moment) (commands_on l r) s t alike was.1,
              );
        };
      }
