-- How a replay goes on from record to record.
use Rattle.std.proofs.Common.{◌≡◌, ℕ, ◌+◌, ◌-◌, ◌<◌, ◌≤◌, List, [], ◌∷◌, length, drop, slice_get, slice_index_or, Some, Ok, Err, sym, ◌∙◌, ap, subst, arith}
use Rattle.std.proofs.lemmas.List.{drop_more, drop_all}
use Rattle.std.proofs.lemmas.Option.{slice_get-get_or}
use Rattle.liq_types.specs.declared.requests.Command.{Command}
use Rattle.liq_types.specs.State.{State}
use Rattle.liq_core.specs.Core.{Core, StandsFor}
use Rattle.liq_rule_step.specs.Step.{Allowed, ruling, after}
use Rattle.liq_journal.specs.Bodies.{IsJournalOf}
use Rattle.liq_journal.specs.Written.{Written}
use Rattle.liq_journal.specs.declared.damage.Damage.{Damage}
use Rattle.liq_disk_pair.specs.Replay.{replay}
use Rattle.liq_disk_records.specs.declared.answers.AcceptedFault.{AcceptedFault}
use Rattle.liq_disk_records.specs.declared.answers.AcceptedFault.TheVariants.{DiskFault, Damaged, NoMemory}
use Rattle.liq_disk_records.specs.Reading.{IsReadable}
use Rattle.liq_disk_replay.specs.Making.{IsDamageBy}
use Rattle.liq_disk_records.specs.Replays.{IsOutcome, Replays}
use Rattle.liq_disk_pair.proofs.Replaying.{replay_none, replay_allowed}

-- one command is the record's
pub same_record : (commands : List Command) (place : ℕ) (c d : Command) → slice_get commands place ≡ Some c
    → slice_get commands place ≡ Some d → c ≡ d
same_record commands place c d one other = let both : Some c ≡ Some d = sym one ∙ other in cc (both)

-- a record that is no more than unread damages nothing
pub unread : (s : State) (c : Command) (index : ℕ) (core : Core) (why : AcceptedFault) → IsReadable why
    → IsOutcome s c index core (Err why)
unread s c index core DiskFault readable = tt
unread s c index core (Damaged damage) readable = absurd readable
unread s c index core NoMemory readable = tt

-- after so many records the protocol stands for a state from which the rest is replayed
pub record Reached (s : State) (commands : List Command) (done : ℕ) (core : Core) : Type 0 where
  pub state : State
  pub stands : StandsFor core state
  pub rest : replay 1 s commands ≡ replay (done + 1) state (drop done commands)

-- the next record's command
pub next_recorded : (commands : List Command) (done : ℕ) → done < length commands → (c : Command)
    × (slice_get commands (done + 1 - 1) ≡ Some c) × (drop done commands ≡ c ∷ drop (done + 1) commands)
next_recorded [] done h = absurd (omega arith)
next_recorded (c ∷ cs) done h =
    let d = slice_index_or (c ∷ cs) done c in
    let at : done ≡ done + 1 - 1 = omega arith in (
      d,
      subst (λ (k : ℕ). slice_get (c ∷ cs) k ≡ Some d) at (slice_get-get_or (c ∷ cs) done c h),
      drop_more (c ∷ cs) done c h,
    )

damaged_rest : (index : ℕ) (s : State) (c : Command) (cs : List Command) (damage : Damage) → IsDamageBy s c index damage
    → replay index s (c ∷ cs) ≡ Err damage
unfolding replay
damaged_rest index s c cs damage h = h (replay (index + 1) (after s c) cs)

pub reached_more : (s : State) (commands : List Command) (done : ℕ) (core next : Core)
    (before : Reached s commands done core) (c : Command) → drop done commands ≡ c ∷ drop (done + 1) commands
    → ruling before.state c ≡ Allowed → StandsFor next (after before.state c) → Reached s commands (done + 1) next
reached_more s commands done core next before c rest allowed stands =
    record {
      state = after before.state c;
      stands = stands;
      rest = before.rest ∙ ap (replay (done + 1) before.state) rest
          ∙ replay_allowed (done + 1) before.state c (drop (done + 1) commands) allowed;
    }

pub reached_damage : (s : State) (commands : List Command) (done : ℕ) (core : Core)
    (before : Reached s commands done core) (c : Command) (damage : Damage)
    → drop done commands ≡ c ∷ drop (done + 1) commands → IsDamageBy before.state c (done + 1) damage
    → replay 1 s commands ≡ Err damage
reached_damage s commands done core before c damage rest h =
    before.rest ∙ ap (replay (done + 1) before.state) rest
    ∙ damaged_rest (done + 1) before.state c (drop (done + 1) commands) damage h

pub reached_all : (s : State) (commands : List Command) (done : ℕ) (core : Core) → length commands ≤ done
    → Reached s commands done core → (t : State) × (replay 1 s commands ≡ Ok t) × StandsFor core t
reached_all s commands done core all r = (
  r.state,
  r.rest ∙ ap (replay (done + 1) r.state) (drop_all done commands all) ∙ replay_none (done + 1) r.state,
  r.stands,
)

-- what the next record's outcome says of the whole replay
pub stops_there : (s : State) (commands : List Command) (done : ℕ) (core next : Core) (why : AcceptedFault)
    → done < length commands → (before : Reached s commands done core)
    → ((c : Command) → slice_get commands (done + 1 - 1) ≡ Some c → IsOutcome before.state c (done + 1) next (Err why))
    → Replays s commands next (Err why)
stops_there s commands done core next DiskFault h before outcome = tt
stops_there s commands done core next (Damaged damage) h before outcome =
    let n = next_recorded commands done h in
    reached_damage s commands done core before n.0 damage n.2 (outcome n.0 n.1)
stops_there s commands done core next NoMemory h before outcome = tt

pub goes_on : (s : State) (commands : List Command) (done : ℕ) (core next : Core) → done < length commands
    → (before : Reached s commands done core) → ((c : Command) → slice_get commands (done + 1 - 1) ≡ Some c
    → IsOutcome before.state c (done + 1) next (Ok tt)) → Reached s commands (done + 1) next
goes_on s commands done core next h before outcome =
    let n = next_recorded commands done h in
    reached_more s commands done core next before n.0 n.2 (outcome n.0 n.1).0 (outcome n.0 n.1).1

pub journal_still : (old_generation new_generation old_start new_start : ℕ) (held : List ℕ) (w : Written)
    → new_generation ≡ old_generation → new_start ≡ old_start → IsJournalOf old_generation old_start held w
    → IsJournalOf new_generation new_start held w
journal_still old_generation new_generation old_start new_start held w generation start h =
    subst (λ (n : ℕ). IsJournalOf n new_start held w) (sym generation)
    (subst (λ (n : ℕ). IsJournalOf old_generation n held w) (sym start) h)
